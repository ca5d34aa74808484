-- A text of lines has one reading.
use Rattle.std.specs.{Prelude.{◌&&◌, ◌==◌, nat_le, slice_index, Result, Ok, Err, if◌then◌else◌}, Char.{is_ascii_uppercase, is_ascii_digit}, Int.IsInRange}
use Rattle.std.{specs.{List.{list_all, All, AllByRecursion}, Str.{IsAscii, IsUtf8, IsCharBoundary}}, proofs.lemmas.Bool.{and_parts, eqb-true, or_cases}}
use Rattle.std.proofs.Common.{◌≡◌, ◌≢◌, ℕ, ◌+◌, ◌-◌, ◌<◌, List, [], ◌∷◌, ◌++◌, length, take, drop, get_or, Bool, true, sym, ap, ◌∙◌, append_assoc, arith, subst, IsTrue, inl, inr, refl, length-append, false}
use Rattle.std.proofs.lemmas.List.{get_or-take, get_or-drop, length-drop, length-take-le, take_more, append-nil, take-append-drop}
use Rattle.std.proofs.lemmas.List.Elements.{All-nil, All-cons, All-get_or, All-from_get_or, All-head, All-tail, All-append, All-weaker, All-push, All-from_recursion, recursion_from_All}
use Rattle.std.proofs.{lemmas.Bool.Decides.{nat_tests, leb_tells}, lemmas.Str.Ascii.IsAscii-from_reads, lemmas.Str.{IsUtf8-from_ascii, IsCharBoundary-at_seam}}
use Rattle.std.proofs.lemmas.List.Concat.{flat_map-append}
use Rattle.edi_syntax.specs.Characters.{is_printable}
use Rattle.edi_messages.specs.{Texts.is_name, Purposes.CallContent}
use Rattle.terminal_core.specs.{Forms.IsFormedPort, declared.lines.Side.Side, declared.lines.Side.TheVariants.{Load, Discharge}}
use Rattle.terminal_core.specs.declared.lines.LineState.TheVariants.{Done}
use Rattle.office_rows.specs.{Rows.ListingContent, Opening.listing_row}
use Rattle.office_closing.specs.Texts.{lines_text, IsOfList, IsLineOf, IsTextOf}
use Rattle.box6346.specs.{ContainerNumber.number_of, NumberText.{has_form, is_checked, is_number}, declared.box_number.BoxNumber.BoxNumber}
use Rattle.box6346.specs.{declared.box_number.NumberFault.NumberFault, declared.box_number.NumberFault.TheVariants.{Form, CheckDigit}}
use Rattle.box6346.specs.NumberText as number

-- ==== PlainLemmas: The characters of a line: each from space to tilde.

-- a character from space to tilde
abbrev pub IsPlain : ℕ → Type 0
IsPlain c = IsInRange 32 126 c

capital_plain : (c : ℕ) → is_ascii_uppercase c ≡ true → IsPlain c
capital_plain c e = (grind (arith, nat_tests), grind (arith, nat_tests))

digit_plain : (c : ℕ) → is_ascii_digit c ≡ true → IsPlain c
digit_plain c e = (grind (arith, nat_tests), grind (arith, nat_tests))

category_plain : (c : ℕ) → number.is_category c ≡ true → IsPlain c
category_plain c e = (grind (arith, nat_tests), grind (arith, nat_tests))

printable_plain : (c : ℕ) → is_printable c ≡ true → IsPlain c
printable_plain c e = (grind (arith, nat_tests), grind (arith, nat_tests))

all_plain : (p : ℕ → Bool) → ((c : ℕ) → p c ≡ true → IsPlain c) → (bs : List ℕ) → list_all p bs ≡ true → All IsPlain bs
all_plain p plain [] e = All-nil IsPlain
all_plain p plain (b ∷ bs) e = let parts = and_parts (p b) (list_all p bs) e in All-cons IsPlain b bs (plain b parts.0) (all_plain p plain bs parts.1)

none_plain : (bs : List ℕ) → length bs ≡ 0 → All IsPlain bs
none_plain [] e = All-nil IsPlain
none_plain (b ∷ bs) e = absurd (omega arith)

pub printed : (bs : List ℕ) → list_all is_printable bs ≡ true → All IsPlain bs
printed bs e = all_plain is_printable printable_plain bs e

-- what a part of a text has at a place, the text has
module _ (t : List ℕ) where
  in_first : (n k : ℕ) → k < n → k < length (take n t) → All IsPlain (take n t) → IsPlain (get_or t k 0)
  in_first n k below within plain = subst IsPlain (get_or-take n t k 0 below) (All-get_or IsPlain (take n t) k 0 within plain)

  in_middle : (n m k : ℕ) → k < m → k < length (take m (drop n t)) → All IsPlain (take m (drop n t)) → IsPlain (get_or t (n + k) 0)
  in_middle n m k below within plain =
      subst IsPlain (get_or-take m (drop n t) k 0 below ∙ get_or-drop n t k 0) (All-get_or IsPlain (take m (drop n t)) k 0 within plain)

  -- owner code, equipment category and serial number
  named_plain : length t ≡ 10 → number.names_container t ≡ true → (k : ℕ) → k < 10 → IsPlain (get_or t k 0)
  named_plain long names k below =
      let parts = and_parts (list_all is_ascii_uppercase (take 3 t) && number.is_category (slice_index t 3)) (list_all is_ascii_digit (take 6 (drop 4 t))) names in
      let owner = and_parts (list_all is_ascii_uppercase (take 3 t)) (number.is_category (slice_index t 3)) parts.0 in
      let front : length (take 3 t) ≡ 3 = length-take-le 3 t (omega arith) in
      let digits : length (take 6 (drop 4 t)) ≡ 6 = length-take-le 6 (drop 4 t) (omega (arith, length-drop 4 t)) in
      elim (leb_tells 3 k) [
        | inr a ↦ in_first 3 k a.1 (omega arith) (all_plain is_ascii_uppercase capital_plain (take 3 t) owner.0)
        | inl a ↦ elim (leb_tells 4 k) [
          | inr b ↦ (let is : 3 ≡ k = omega arith in subst (λ n. IsPlain (get_or t n 0)) is (category_plain (slice_index t 3) owner.1))
          | inl b ↦ (let is : 4 + (k - 4) ≡ k = omega arith in subst (λ n. IsPlain (get_or t n 0)) is (in_middle 4 6 (k - 4) (omega arith) (omega arith) (all_plain is_ascii_digit digit_plain (take 6 (drop 4 t)) parts.1)))
        ]
      ]

-- a container's number: eleven characters, each of them plain
pub record IsPlainNumber (t : List ℕ) : Type 0 where
  pub long : length t ≡ 11
  pub plain : All IsPlain t

formed_plain : (t : List ℕ) → number.has_form t ≡ true → IsPlainNumber t
formed_plain t form =
    let parts = and_parts (length t == 11 && number.names_container (take 10 t)) (is_ascii_digit (slice_index t 10)) form in
    let names = and_parts (length t == 11) (number.names_container (take 10 t)) parts.0 in
    let long : length t ≡ 11 = eqb-true (length t) 11 names.0 in
    let front : length (take 10 t) ≡ 10 = length-take-le 10 t (omega arith) in
    record {
      long = long;
      plain = All-from_get_or IsPlain t 0 (λ k below. elim (leb_tells 10 k) [
        | inr low ↦ subst IsPlain (get_or-take 10 t k 0 low.1) (named_plain (take 10 t) front names.1 k low.1)
        | inl high ↦ (let is : 10 ≡ k = omega arith in subst (λ n. IsPlain (get_or t n 0)) is (digit_plain (slice_index t 10) parts.1))
      ]);
    }

pub number_plain : (t : List ℕ) → IsTrue (number.is_number t) → IsPlainNumber t
unfolding number.is_number
number_plain t is = formed_plain t (and_parts (number.has_form t) (number.is_checked t) is).0

-- ---- what is plain is ASCII, and has no line feed

pub plain_ascii : (bs : List ℕ) → All IsPlain bs → IsAscii bs
plain_ascii bs plain = IsAscii-from_reads bs (length bs) (omega arith) (λ k below. let at = All-get_or IsPlain bs k 0 below plain in omega arith)

pub plain_text : (bs : List ℕ) → All IsPlain bs → IsUtf8 bs
plain_text bs plain = IsUtf8-from_ascii bs (plain_ascii bs plain)

-- ---- the ports of lines

pub port_plain : (side : Side) (port : List ℕ) → IsFormedPort side port → All IsPlain port
port_plain Load port formed = elim (or_cases (length port == 0) (is_name port) formed) [
  | inl none ↦ none_plain port (eqb-true (length port) 0 none)
  | inr name ↦ printed port (and_parts (nat_le 1 (length port) && nat_le (length port) 35) (list_all is_printable port) name).1
]
port_plain Discharge port formed = subst (All IsPlain) (sym formed) (All-nil IsPlain)

-- ---- characters that are appended in turn

pub character_more : (front text now items : List ℕ) (i : ℕ) → i < length items → text ≡ front ++ take i items →
    now ≡ text ++ get_or items i 0 ∷ [] → now ≡ front ++ take (i + 1) items
character_more front text now items i below before is =
    is ∙ ap (λ t. t ++ get_or items i 0 ∷ []) before ∙ append_assoc front (take i items) (get_or items i 0 ∷ [])
    ∙ ap (λ t. front ++ t) (sym (take_more items i 0 below))

-- ==== TextLemmas: A text of lines has one reading.

-- ---- lists that are split at the first line feed

-- no line feed
abbrev pub IsInside : ℕ → Type 0
IsInside c = c ≢ 10

pub plain_inside : (bs : List ℕ) → All IsPlain bs → All IsInside bs
plain_inside bs plain = All-weaker IsPlain IsInside (λ c at is. omega arith) bs plain

pub split_same : (xs us ys vs : List ℕ) → All IsInside xs → All IsInside us → xs ++ 10 ∷ ys ≡ us ++ 10 ∷ vs → (xs ≡ us) × (ys ≡ vs)
split_same [] [] ys vs p q is = (refl, cc)
split_same [] (u ∷ us) ys vs p q is = let e : u ≡ 10 = cc in absurd (All-head IsInside u us q e)
split_same (x ∷ xs) [] ys vs p q is = let e : x ≡ 10 = cc in absurd (All-head IsInside x xs p e)
split_same (x ∷ xs) (u ∷ us) ys vs p q is =
    let e : x ≡ u = cc in
    let rest : xs ++ 10 ∷ ys ≡ us ++ 10 ∷ vs = cc in
    let same = split_same xs us ys vs (All-tail IsInside x xs p) (All-tail IsInside u us q) rest in
    let front : xs ≡ us = same.0 in
    (cc, same.1)

-- a text with a line feed has it inside
pub feed_inside : (xs ys : List ℕ) → All IsInside (xs ++ 10 ∷ ys) → ⊥
feed_inside [] ys inside = All-head IsInside 10 ys inside refl
feed_inside (x ∷ xs) ys inside = feed_inside xs ys (All-tail IsInside x (xs ++ 10 ∷ ys) inside)

-- lists of one length before others
pub parts_same : (xs us ys vs : List ℕ) → length xs ≡ length us → xs ++ ys ≡ us ++ vs → (xs ≡ us) × (ys ≡ vs)
parts_same [] [] ys vs long is = (refl, is)
parts_same [] (u ∷ us) ys vs long is = absurd (omega arith)
parts_same (x ∷ xs) [] ys vs long is = absurd (omega arith)
parts_same (x ∷ xs) (u ∷ us) ys vs long is =
    let e : x ≡ u = cc in
    let rest : xs ++ ys ≡ us ++ vs = cc in
    let same = parts_same xs us ys vs (omega arith) rest in
    let front : xs ≡ us = same.0 in
    (cc, same.1)

-- ---- lines

module _ (call : CallContent) (side : Side) where
  abbrev IsOwn : ListingContent → Type 0
  IsOwn line = IsOfList call side line

  -- a line's text, without its line feed
  pub line_plain : (line : ListingContent) → IsOfList call side line → All IsPlain (line.container ++ line.port)
  line_plain line own =
      All-append IsPlain line.container line.port (number_plain line.container own.container_formed).plain
      (port_plain side line.port own.port_formed)

  pub line_inside : (line : ListingContent) → IsOfList call side line → All IsInside (line.container ++ line.port)
  line_inside line own = plain_inside (line.container ++ line.port) (line_plain line own)

  pub lines_same : (a b : ListingContent) → IsOfList call side a → IsOfList call side b →
      a.container ++ a.port ≡ b.container ++ b.port → a ≡ b
  lines_same a b one other is =
      let long : length a.container ≡ length b.container =
      (number_plain a.container one.container_formed).long ∙ sym (number_plain b.container other.container_formed).long in
      let same = parts_same a.container b.container a.port b.port long is in
      ap (λ call. listing_row call a.side a.container a.port a.state) (one.of_call ∙ sym other.of_call)
      ∙ ap (λ side. listing_row b.call side a.container a.port a.state) (one.of_side ∙ sym other.of_side)
      ∙ ap (λ container. listing_row b.call b.side container a.port a.state) same.0
      ∙ ap (λ port. listing_row b.call b.side b.container port a.state) same.1
      ∙ ap (λ state. listing_row b.call b.side b.container b.port state) (one.is_done ∙ sym other.is_done)

  -- the text of lines, the first one's line feed in its place
  pub first_line : (line : ListingContent) (lines : List ListingContent) →
      lines_text (line ∷ lines) ≡ (line.container ++ line.port) ++ 10 ∷ lines_text lines
  first_line line lines = append_assoc (line.container ++ line.port) (10 ∷ []) (lines_text lines)

  -- lines have a text
  pub some_text : (line : ListingContent) (lines : List ListingContent) → lines_text (line ∷ lines) ≡ [] → ⊥
  some_text line lines is =
      let e = ap length (sym (first_line line lines) ∙ is) in
      absurd (omega (arith, e, length-append (line.container ++ line.port) (10 ∷ lines_text lines)))

  pub texts_same : (a b : List ListingContent) → AllByRecursion IsOwn a → AllByRecursion IsOwn b →
      lines_text a ≡ lines_text b → a ≡ b
  texts_same [] [] one other is = refl
  texts_same [] (b ∷ bs) one other is = absurd (some_text b bs (sym is))
  texts_same (a ∷ as_) [] one other is = absurd (some_text a as_ is)
  texts_same (a ∷ as_) (b ∷ bs) one other is =
      let same = split_same (a.container ++ a.port) (b.container ++ b.port) (lines_text as_) (lines_text bs)
      (line_inside a one.0) (line_inside b other.0) (sym (first_line a as_) ∙ is ∙ first_line b bs) in
      let head : a ≡ b = lines_same a b one.0 other.0 same.0 in
      let tail : as_ ≡ bs = texts_same as_ bs one.1 other.1 same.1 in
      cc

  pub one_list : (text : List ℕ) (a b : List ListingContent) → IsTextOf call side text a → IsTextOf call side text b → a ≡ b
  one_list text a b one other = texts_same a b one.1 other.1 (sym one.0 ∙ other.0)

-- ---- reading line by line

-- some lines have that text
pub record HasLines (call : CallContent) (side : Side) (text : List ℕ) : Type 0 where
  pub lines : List ListingContent
  pub theirs : IsTextOf call side text lines

-- the text is read up to the rest, and gave these lines
pub record IsReadUpTo (call : CallContent) (side : Side) (text : List ℕ) (lines : List ListingContent) (rest : List ℕ) :
    Type 0 where
  pub read : text ≡ lines_text lines ++ rest
  pub own : AllByRecursion (IsOfList call side) lines
  pub left : HasLines call side text → HasLines call side rest

module _ (call : CallContent) (side : Side) where
  -- what a text that begins with a line has after it
  after_first : (piece after : List ℕ) (lines : List ListingContent) → All IsInside piece →
      IsTextOf call side (piece ++ 10 ∷ after) lines →
      (first : ListingContent) × IsLineOf call side piece first × HasLines call side after
  after_first piece after [] inside theirs = absurd (feed_inside piece after (subst (All IsInside) (sym theirs.0) (All-nil IsInside)))
  after_first piece after (line ∷ lines) inside theirs =
      let same = split_same piece (line.container ++ line.port) after (lines_text lines) inside
      (line_inside call side line theirs.1.0) (theirs.0 ∙ first_line call side line lines) in
      (line, (same.0, theirs.1.0), record { lines = lines; theirs = (same.1, theirs.1.1) })

  -- a line more
  pub read_more : (text : List ℕ) (lines : List ListingContent) (rest piece after : List ℕ) (line : ListingContent) →
      IsReadUpTo call side text lines rest → rest ≡ piece ++ 10 ∷ after → IsLineOf call side piece line →
      IsReadUpTo call side text (lines ++ line ∷ []) after
  read_more text lines rest piece after line before is own =
      let inside : All IsInside piece = subst (All IsInside) (sym own.0) (line_inside call side line own.1) in
      record {
        read = before.read ∙ ap (λ r. lines_text lines ++ r) (is ∙ ap (λ p. p ++ 10 ∷ after) own.0)
            ∙ simp (flat_map-append, append_assoc, append-nil);
        own = recursion_from_All (IsOfList call side) (lines ++ line ∷ [])
            (All-push (IsOfList call side) lines line (All-from_recursion (IsOfList call side) lines before.own) own.1);
        left = λ h.
            let there = before.left h in
            (after_first piece after there.lines inside (sym is ∙ there.theirs.0, there.theirs.1)).2;
      }

  -- a line that is none
  pub refused_line : (rest piece after : List ℕ) → rest ≡ piece ++ 10 ∷ after →
      ((i : ℕ) → i < length piece → get_or piece i 0 ≢ 10) → ((line : ListingContent) → ¬ IsLineOf call side piece line) →
      HasLines call side rest → ⊥
  refused_line rest piece after is inside none there =
      let first = after_first piece after there.lines (All-from_get_or IsInside piece 0 inside) (sym is ∙ there.theirs.0, there.theirs.1) in
      none first.0 first.1

  -- a rest that has no line feed
  refused_lines : (rest : List ℕ) (lines : List ListingContent) → All IsInside rest → length rest ≢ 0 →
      IsTextOf call side rest lines → ⊥
  refused_lines rest [] inside some theirs = some (ap length theirs.0)
  refused_lines rest (line ∷ lines) inside some theirs =
      feed_inside (line.container ++ line.port) (lines_text lines)
      (subst (All IsInside) (theirs.0 ∙ first_line call side line lines) inside)

  pub refused_rest : (rest : List ℕ) → ((i : ℕ) → i < length rest → get_or rest i 0 ≢ 10) → length rest ≢ 0 →
      HasLines call side rest → ⊥
  refused_rest rest inside some there = refused_lines rest there.lines (All-from_get_or IsInside rest 0 inside) some there.theirs

-- ==== ReadingLemmas: What a line without its line feed is read as.

-- ---- the number

-- what was read is the text, a container's number
pub record IsNumberOf (text : List ℕ) (container : BoxNumber) : Type 0 where
  pub same : container ≡ text
  pub formed : IsTrue (is_number container)

number_cases : (text : List ℕ) (a b : Bool) (container : BoxNumber) →
    (if a then (if b then Ok text else Err CheckDigit) else Err Form) ≡ Ok container →
    (container ≡ text) × ((a && b) ≡ true)
number_cases text true true container is = (cc, refl)
number_cases text true false container is = cc
number_cases text false b container is = cc

pub number_read : (text : List ℕ) (container : BoxNumber) → number_of text ≡ Ok container → IsNumberOf text container
unfolding number_of is_number
number_read text container is =
    let cases = number_cases text (has_form text) (is_checked text) container is in
    record { same = cases.0; formed = subst (λ t. IsTrue (has_form t && is_checked t)) (sym cases.0) cases.1 }

number_found : (text : List ℕ) (a b : Bool) → (a && b) ≡ true →
    (let read : Result BoxNumber NumberFault = (if a then (if b then Ok text else Err CheckDigit) else Err Form) in read ≡ Ok text)
number_found text true true e = refl
number_found text true false e = cc
number_found text false b e = cc

pub number_reads : (text : List ℕ) → IsTrue (is_number text) → number_of text ≡ Ok text
unfolding number_of is_number
number_reads text is = number_found text (has_form text) (is_checked text) is

-- ---- the line

module _ (call : CallContent) (side : Side) (text : List ℕ) (line : ListingContent) (is : IsLineOf call side text line) where
  -- it can be cut after the number
  pub cut_there : IsCharBoundary text 11
  cut_there =
      let long : length line.container ≡ 11 = (number_plain line.container is.1.container_formed).long in
      subst (IsCharBoundary text) long
      (IsCharBoundary-at_seam text line.container line.port is.0 (plain_text line.port (port_plain side line.port is.1.port_formed)))

  -- the parts are the number and the port
  pub cut_parts : (number port : List ℕ) → text ≡ number ++ port → length number ≡ 11 →
      (number ≡ line.container) × (port ≡ line.port)
  cut_parts number port parts long =
      parts_same number line.container port line.port
      (long ∙ sym (number_plain line.container is.1.container_formed).long) (sym parts ∙ is.0)

pub cut_text : (text number port : List ℕ) → number ≡ take 11 text → port ≡ drop 11 text → text ≡ number ++ port
cut_text text number port front back =
    sym (take-append-drop 11 text) ∙ ap (λ t. t ++ drop 11 text) (sym front) ∙ ap (λ t. number ++ t) (sym back)

-- the line of a number and a port
pub line_read : (call : CallContent) (side : Side) (text number port : List ℕ) (container : BoxNumber) → text ≡ number ++ port →
    IsNumberOf number container → IsFormedPort side port → IsLineOf call side text (listing_row call side container port Done)
line_read call side text number port container parts is formed = (
  parts ∙ ap (λ t. t ++ port) (sym is.same),
  record { of_call = refl; of_side = refl; is_done = refl; container_formed = is.formed; port_formed = formed },
)
