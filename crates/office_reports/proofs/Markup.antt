-- Texts that bring no markup: digits, and fields.
use Rattle.std.{specs.{List.{range_with_len, list_all}, Prelude.decimal, Fmt.{digit_glyph, digits_onto, digits}}, proofs.lemmas.List.append-nil}
use Rattle.std.proofs.Common.{◌≡◌, ℕ, zero, suc, ◌+◌, List, ◌++◌, flat_map, sym, ap, ◌∙◌, append_assoc, arith, ◌/◌, ◌%◌, ◌==◌, nat_lt, Bool, true, false, not, ◌&&◌, [], ◌∷◌, codes, refl, subst, inl, inr}
use Rattle.std.proofs.{lemmas.Bool.{and_parts, and_from, cases_Bool, eqb-true, ne_eqb, lt-ltb}, lemmas.List.Folds.list_all-append}
use Rattle.office_reports.specs.Fields.{character_text, field_text}
use Rattle.office_reports.specs.Markup.{Place, Between, Tag, SingleQuoted, DoubleQuoted, place_after, place_after_all, tags, is_plain, Refers, amp, lt, gt, quot, apos, numbered, Shows, nothing, plain, reference}

-- ==== Counting: Texts that grow by parts.

-- one part more
pub onto : (front before part text now : List ℕ) → text ≡ front ++ before → now ≡ text ++ part → now ≡ front ++ (before ++ part)
onto front before part text now e is = is ∙ ap (λ t. t ++ part) e ∙ append_assoc front before part

-- counted parts
module _ (f : ℕ → List ℕ) where
  -- one part more
  from : (a n m : ℕ) → a + n ≡ m → flat_map f (range_with_len a (suc n)) ≡ flat_map f (range_with_len a n) ++ f m
  from a zero m e = append-nil (f a) ∙ ap f (omega arith)
  from a (suc n) m e = ap (λ rest. f a ++ rest) (from (a + 1) n m (omega arith)) ∙ sym (append_assoc (f a) (flat_map f (range_with_len (a + 1) n)) (f m))

  pub next : (n : ℕ) (before text now : List ℕ) → text ≡ before ++ flat_map f (range_with_len 0 n) → now ≡ text ++ f n → now ≡ before ++ flat_map f (range_with_len 0 (n + 1))
  next n before text now e is =
      let more : n + 1 ≡ suc n = omega arith in
      is ∙ ap (λ t. t ++ f n) e ∙ append_assoc before (flat_map f (range_with_len 0 n)) (f n)
      ∙ ap (λ t. before ++ t) (sym (ap (λ k. flat_map f (range_with_len 0 k)) more ∙ from 0 n n (omega arith)))

-- ==== Markup: Texts that bring no markup: digits, and fields.

-- none of < > ' "
abbrev pub is_quiet : ℕ → Bool
is_quiet c = not (c == 60) && (not (c == 62) && (not (c == 39) && not (c == 34)))

unnot : (b : Bool) → not b ≡ true → b ≡ false
unnot false h = refl
unnot true h = sym h

record Tests (c : ℕ) : Type 0 where
  less : (c == 60) ≡ false
  greater : (c == 62) ≡ false
  apostrophe : (c == 39) ≡ false
  quote : (c == 34) ≡ false

tested : (c : ℕ) → is_quiet c ≡ true → Tests c
tested c quiet =
    let a = and_parts (not (c == 60)) (not (c == 62) && (not (c == 39) && not (c == 34))) quiet in
    let b = and_parts (not (c == 62)) (not (c == 39) && not (c == 34)) a.1 in
    let d = and_parts (not (c == 39)) (not (c == 34)) b.1 in
    record { less = unnot (c == 60) a.0; greater = unnot (c == 62) b.0; apostrophe = unnot (c == 39) d.0; quote = unnot (c == 34) d.1 }

by_tests : (c : ℕ) → Tests c → is_quiet c ≡ true
by_tests c t = rw (t.less, t.greater, t.apostrophe, t.quote) refl

quiet_byte : (place : Place) (c : ℕ) → is_quiet c ≡ true → place_after place c ≡ place
quiet_byte Between c quiet = let t = tested c quiet in rw t.less refl
quiet_byte Tag c quiet = let t = tested c quiet in rw (t.greater, t.apostrophe, t.quote) refl
quiet_byte SingleQuoted c quiet = let t = tested c quiet in rw t.apostrophe refl
quiet_byte DoubleQuoted c quiet = let t = tested c quiet in rw t.quote refl

-- after a quiet text the place is the same
pub quiet_stays : (place : Place) (text : List ℕ) → list_all is_quiet text ≡ true → place_after_all place text ≡ place
quiet_stays place [] all = refl
quiet_stays place (c ∷ text) all =
    let parts = and_parts (is_quiet c) (list_all is_quiet text) all in
    ap (λ next. place_after_all next text) (quiet_byte place c parts.0) ∙ quiet_stays place text parts.1

-- it has no tag
pub quiet_has_none : (text : List ℕ) → list_all is_quiet text ≡ true → tags Between text ≡ []
quiet_has_none [] all = refl
quiet_has_none (c ∷ text) all =
    let parts = and_parts (is_quiet c) (list_all is_quiet text) all in
    let t = tested c parts.0 in
    rw t.less (quiet_has_none text parts.1)

-- ---- digits

glyph_is_quiet : (n : ℕ) → is_quiet (digit_glyph false (n % 10)) ≡ true
glyph_is_quiet n =
    let below : nat_lt (n % 10) 10 ≡ true = lt-ltb (n % 10) 10 (omega arith) in
    rw below (by_tests (48 + n % 10) (record {
      less = ne_eqb (48 + n % 10) 60 (λ e. omega arith);
      greater = ne_eqb (48 + n % 10) 62 (λ e. omega arith);
      apostrophe = ne_eqb (48 + n % 10) 39 (λ e. omega arith);
      quote = ne_eqb (48 + n % 10) 34 (λ e. omega arith);
    }))

onto_is_quiet : (k n : ℕ) (behind : List ℕ) → list_all is_quiet behind ≡ true → list_all is_quiet (digits_onto k 10 false n behind) ≡ true
onto_is_quiet zero n behind all = all
onto_is_quiet (suc k) n behind all =
    let more : list_all is_quiet (digit_glyph false (n % 10) ∷ behind) ≡ true = and_from (is_quiet (digit_glyph false (n % 10))) (list_all is_quiet behind) (glyph_is_quiet n) all in
    elim (cases_Bool (n / 10 == 0)) [
      | inl last ↦ rw last more
      | inr others ↦ rw others (onto_is_quiet k (n / 10) (digit_glyph false (n % 10) ∷ behind) more)
    ]

pub decimal_is_quiet : (n : ℕ) → list_all is_quiet (decimal n) ≡ true
unfolding digits
decimal_is_quiet n = onto_is_quiet 64 n [] refl

-- ---- fields

pub both_quiet : (a b : List ℕ) → list_all is_quiet a ≡ true → list_all is_quiet b ≡ true → list_all is_quiet (a ++ b) ≡ true
both_quiet a b here there = list_all-append is_quiet a b ∙ and_from (list_all is_quiet a) (list_all is_quiet b) here there

numbered_is_quiet : (c : ℕ) → list_all is_quiet (codes "&#" ++ decimal c ++ codes ";") ≡ true
numbered_is_quiet c = both_quiet (codes "&#") (decimal c ++ codes ";") refl (both_quiet (decimal c) (codes ";") (decimal_is_quiet c) refl)

-- which of the forms a character has
data Form (c : ℕ) : Type 0 where
  bare : is_plain c ≡ true → is_quiet c ≡ true → character_text c ≡ c ∷ [] → Form c
  named : (name : List ℕ) → Refers name c → list_all is_quiet name ≡ true → character_text c ≡ name → Form c

named_at : (name : List ℕ) (d c : ℕ) → c ≡ d → Refers name d → list_all is_quiet name ≡ true → character_text d ≡ name → Form c
named_at name d c e r q is = named name (subst (λ (n : ℕ). Refers name n) (sym e) r) q (ap character_text e ∙ is)

form_of : (c : ℕ) → Form c
form_of c =
    elim (cases_Bool (c == 38)) [
      | inl e ↦ named_at (codes "&amp;") 38 c (eqb-true c 38 e) amp refl refl
      | inr a ↦ elim (cases_Bool (c == 60)) [
        | inl e ↦ named_at (codes "&lt;") 60 c (eqb-true c 60 e) lt refl refl
        | inr l ↦ elim (cases_Bool (c == 62)) [
          | inl e ↦ named_at (codes "&gt;") 62 c (eqb-true c 62 e) gt refl refl
          | inr g ↦ elim (cases_Bool (c == 34)) [
            | inl e ↦ named_at (codes "&quot;") 34 c (eqb-true c 34 e) quot refl refl
            | inr q ↦ elim (cases_Bool (c == 39)) [
              | inl e ↦ named_at (codes "&apos;") 39 c (eqb-true c 39 e) apos refl refl
              | inr p ↦ elim (cases_Bool (nat_lt c 128)) [
                | inl low ↦ bare (rw (low, a, l, g, q, p) refl) (rw (l, g, p, q) refl) (rw (a, l, g, q, p, low) refl)
                | inr high ↦ named (codes "&#" ++ decimal c ++ codes ";") (numbered c) (numbered_is_quiet c) (rw (a, l, g, q, p, high) refl)
              ]
            ]
          ]
        ]
      ]
    ]

character_is_quiet : (c : ℕ) → list_all is_quiet (character_text c) ≡ true
character_is_quiet c = elim (form_of c) [
  | bare is_plain quiet is ↦ ap (list_all is_quiet) is ∙ and_from (is_quiet c) true quiet refl
  | named name refers quiet is ↦ ap (list_all is_quiet) is ∙ quiet
]

pub field_is_quiet : (bytes : List ℕ) → list_all is_quiet (field_text bytes) ≡ true
field_is_quiet [] = refl
field_is_quiet (c ∷ bytes) = both_quiet (character_text c) (field_text bytes) (character_is_quiet c) (field_is_quiet bytes)

pub field_is_shown : (bytes : List ℕ) → Shows (field_text bytes) bytes
field_is_shown [] = nothing
field_is_shown (c ∷ bytes) = elim (form_of c) [
  | bare is_plain quiet is ↦ subst (λ (text : List ℕ). Shows (text ++ field_text bytes) (c ∷ bytes)) (sym is) (plain c (field_text bytes) bytes is_plain (field_is_shown bytes))
  | named name refers quiet is ↦ subst (λ (text : List ℕ). Shows (text ++ field_text bytes) (c ∷ bytes)) (sym is) (reference name c (field_text bytes) bytes refers (field_is_shown bytes))
]
