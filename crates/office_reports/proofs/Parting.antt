-- The parts of a key.
use Rattle.std.{specs.{List.{list_all, onto_first}, Str.IsUtf8}, proofs.{lemmas.Bool.{ne_eqb, cases_Bool, and_parts, leb-true}, lemmas.List.Elements.All-from_get_or}}
use Rattle.std.proofs.Common.{◌≡◌, ℕ, List, [], ◌∷◌, ◌++◌, Option, None, Some, option_map, append_assoc, refl, sym, ap, ◌∙◌, ◌≢◌, ◌<◌, ◌==◌, ◌&&◌, false, length, get_or, inl, inr, ◌≤◌, true, nat_le, arith, ◌^◌}
use Rattle.std.proofs.{lemmas.List.Splits.{slice_split_none, slice_split_at, slice_split-cons_yes, slice_split-cons_no}, lemmas.List.Sums.AllPass-from_list_all}
use Rattle.std.proofs.{lemmas.Str.IsUtf8-from_ascii, lemmas.Str.Ascii.IsAscii-from_reads, Math.Nat.pow-le-pow_right}
use Rattle.office_reports.specs.{Escapes.{decoded_part, with_first_byte}, Keys.{key_parts, one_part, two_parts, three_parts}}
use Rattle.edi_syntax.specs.Characters.{is_printable}
use Rattle.edi_messages.specs.Texts.{is_name}

-- ==== Decoding: Bytes that are decoded, and those that are left.

-- bytes, and what is decoded after them
abbrev pub behind : List ℕ → Option (List ℕ) → Option (List ℕ)
behind front left = option_map (λ more. front ++ more) left

one_before : (front : List ℕ) (byte : ℕ) (left : Option (List ℕ)) → behind front (with_first_byte left byte) ≡ behind (front ++ byte ∷ []) left
one_before front byte None = refl
one_before front byte (Some more) = ap Some (sym (append_assoc front (byte ∷ []) more))

pub one_more : (text front rest rest' : List ℕ) (byte : ℕ) → decoded_part text ≡ behind front (decoded_part rest) → decoded_part rest ≡ with_first_byte (decoded_part rest') byte →
    decoded_part text ≡ behind (front ++ byte ∷ []) (decoded_part rest')
one_more text front rest rest' byte before is = before ∙ ap (behind front) is ∙ one_before front byte (decoded_part rest')

-- ==== Parting: The parts of a key.

-- no byte is a slash
abbrev pub HasNoSlash : List ℕ → Type 0
HasNoSlash text = (i : ℕ) → i < length text → get_or text i 0 ≢ 47

pub one_part_of : (key : List ℕ) → HasNoSlash key → key_parts key ≡ key ∷ []
one_part_of key none = slice_split_none (λ b. b == 47) key (All-from_get_or (λ b. (b == 47) ≡ false) key 0 (λ i within. ne_eqb (get_or key i 0) 47 (none i within)))

pub parts_of : (key first others : List ℕ) → key ≡ first ++ 47 ∷ others → HasNoSlash first → key_parts key ≡ first ∷ key_parts others
parts_of key first others is none =
    ap key_parts is ∙ slice_split_at (λ b. b == 47) first 47 others (All-from_get_or (λ b. (b == 47) ≡ false) first 0 (λ i within. ne_eqb (get_or first i 0) 47 (none i within))) refl

-- a text has a part
onto_some : (x : ℕ) (ps : List (List ℕ)) → onto_first x ps ≡ [] → ⊥
onto_some x [] is = cc
onto_some x (p ∷ ps) is = cc

some_part : (key : List ℕ) → key_parts key ≡ [] → ⊥
some_part [] is = cc
some_part (x ∷ key) is = elim (cases_Bool (x == 47)) [
  | inl slash ↦ let e = sym (slice_split-cons_yes (λ b. b == 47) x key slash) ∙ is in cc
  | inr other ↦ onto_some x (key_parts key) (sym (slice_split-cons_no (λ b. b == 47) x key other) ∙ is)
]

not_one_of : (first : List ℕ) (ps : List (List ℕ)) → (ps ≡ [] → ⊥) → one_part (first ∷ ps) ≡ None
not_one_of first [] some = absurd (some refl)
not_one_of first (p ∷ ps) some = refl

pub not_one : (key first others : List ℕ) → key ≡ first ++ 47 ∷ others → HasNoSlash first → None ≡ one_part (key_parts key)
not_one key first others is none = sym (ap one_part (parts_of key first others is none) ∙ not_one_of first (key_parts others) (some_part others))

two_is : (first : List ℕ) (ps : List (List ℕ)) → two_parts (first ∷ ps) ≡ option_map (λ second. (first, second)) (one_part ps)
two_is first [] = refl
two_is first (a ∷ []) = refl
two_is first (a ∷ b ∷ ps) = refl

pub two_parts_of : (key first others : List ℕ) → key ≡ first ++ 47 ∷ others → HasNoSlash first →
    two_parts (key_parts key) ≡ option_map (λ second. (first, second)) (one_part (key_parts others))
two_parts_of key first others is none = ap two_parts (parts_of key first others is none) ∙ two_is first (key_parts others)

three_is : (first : List ℕ) (ps : List (List ℕ)) → three_parts (first ∷ ps) ≡ option_map (λ p. (first, p.0, p.1)) (two_parts ps)
three_is first [] = refl
three_is first (a ∷ []) = refl
three_is first (a ∷ b ∷ []) = refl
three_is first (a ∷ b ∷ c ∷ ps) = refl

pub three_parts_of : (key first others : List ℕ) → key ≡ first ++ 47 ∷ others → HasNoSlash first →
    three_parts (key_parts key) ≡ option_map (λ p. (first, p.0, p.1)) (two_parts (key_parts others))
three_parts_of key first others is none = ap three_parts (parts_of key first others is none) ∙ three_is first (key_parts others)

-- ==== Naming: A name is text.

below : (b : ℕ) → is_printable b ≡ true → b < 128
below b is = let top : b ≤ 126 = leb-true b 126 (and_parts (nat_le 32 b) (nat_le b 126) is).1 in omega arith

pub name_text : (text : List ℕ) → is_name text ≡ true → IsUtf8 text
name_text text named =
    let all = AllPass-from_list_all is_printable text (and_parts (nat_le 1 (length text) && nat_le (length text) 35) (list_all is_printable text) named).1 in
    IsUtf8-from_ascii text (IsAscii-from_reads text (length text) (omega arith) (λ k within. below _ (all k 0 within)))

-- ==== Room: One digit more, while there is room for one.

-- below nineteen digits another one fits
pub has_room : (number len : ℕ) → number < 10 ^ len → len < 19 → number < 1000000000000000000
has_room number len small few =
    let few' : len ≤ 18 = omega arith in
    let top : 10 ^ len ≤ 10 ^ 18 = pow-le-pow_right {n = 10} (omega arith) few' in omega arith
