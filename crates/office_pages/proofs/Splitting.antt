-- The pieces of a text between bytes of one kind: its lines, and the words of a line.
use Rattle.std.specs.List.{join_by, onto_first, flat_map, slice_split}
use Rattle.std.proofs.lemmas.Bool.{ne_eqb, cases_Bool}
use Rattle.std.proofs.Common.{◌≡◌, ◌≢◌, ℕ, ◌<◌, ◌==◌, false, List, [], ◌∷◌, ◌++◌, length, get_or, inl, inr, refl, sym, ap, ◌∙◌, append_assoc, eq-eqb, true, ◌&&◌, Err, if◌then◌else◌}
use Rattle.std.proofs.{lemmas.List.append-nil, lemmas.List.Elements.All-from_get_or}
use Rattle.std.proofs.lemmas.List.Splits.{slice_split_none, slice_split_at, slice_split-cons_yes, slice_split-cons_no}
use Rattle.box6346.specs.ContainerNumber.{number_of}
use Rattle.box6346.specs.NumberText.{has_form}
use Rattle.box6346.specs.declared.box_number.NumberFault.TheVariants as fault

module _ (c : ℕ) where
  abbrev pub pieces : List ℕ → List (List ℕ)
  pieces text = slice_split (λ b. b == c) text

  -- no byte is that one
  abbrev pub HasNone : List ℕ → Type 0
  HasNone text = (i : ℕ) → i < length text → get_or text i 0 ≢ c

  pub one_piece : (text : List ℕ) → HasNone text → pieces text ≡ text ∷ []
  one_piece text none = slice_split_none (λ b. b == c) text (All-from_get_or (λ b. (b == c) ≡ false) text 0 (λ i within. ne_eqb (get_or text i 0) c (none i within)))

  pub first_piece : (text first others : List ℕ) → text ≡ first ++ c ∷ others → HasNone first → pieces text ≡ first ∷ pieces others
  first_piece text first others is none =
      ap pieces is ∙ slice_split_at (λ b. b == c) first c others (All-from_get_or (λ b. (b == c) ≡ false) first 0 (λ i within. ne_eqb (get_or first i 0) c (none i within))) (eq-eqb c c refl)

  -- a text has a piece
  onto_some : (x : ℕ) (ps : List (List ℕ)) → onto_first x ps ≡ [] → ⊥
  onto_some x [] is = cc
  onto_some x (p ∷ ps) is = cc

  pub some_piece : (text : List ℕ) → pieces text ≡ [] → ⊥
  some_piece [] is = cc
  some_piece (x ∷ text) is = elim (cases_Bool (x == c)) [
    | inl ends ↦ let e = sym (slice_split-cons_yes (λ b. b == c) x text ends) ∙ is in cc
    | inr other ↦ onto_some x (pieces text) (sym (slice_split-cons_no (λ b. b == c) x text other) ∙ is)
  ]

-- one piece more at the front
joined_more : (f : List ℕ → List ℕ) (between a : List ℕ) (ps : List (List ℕ)) → (ps ≡ [] → ⊥) →
    join_by f between (a ∷ ps) ≡ f a ++ (between ++ join_by f between ps)
joined_more f between a [] some = absurd (some refl)
joined_more f between a (p ∷ ps) some = ap (λ t. f a ++ t) (append_assoc between (f p) (flat_map (λ y. between ++ f y) ps))

-- ---- pieces that are shown, with something between them

module _ (c : ℕ) (f : List ℕ → List ℕ) (between : List ℕ) where
  abbrev by_pieces : List ℕ → List ℕ
  by_pieces text = join_by f between (pieces c text)

  by_one_piece : (text : List ℕ) → HasNone c text → by_pieces text ≡ f text
  by_one_piece text none = ap (λ ps. join_by f between ps) (one_piece c text none) ∙ append-nil (f text)

  by_more_pieces : (text first others : List ℕ) → text ≡ first ++ c ∷ others → HasNone c first →
      by_pieces text ≡ f first ++ (between ++ by_pieces others)
  by_more_pieces text first others is none =
      ap (λ ps. join_by f between ps) (first_piece c text first others is none)
      ∙ joined_more f between first (pieces c others) (some_piece c others)

  -- a piece is shown
  pub pieces_more : (text first others front page piece now : List ℕ) → text ≡ first ++ c ∷ others → HasNone c first →
      page ++ by_pieces text ≡ front → piece ≡ page ++ f first → now ≡ piece ++ between →
      now ++ by_pieces others ≡ front
  pieces_more text first others front page piece now is none before shown ends =
      ap (λ t. t ++ by_pieces others) (ends ∙ ap (λ t. t ++ between) shown)
      ∙ append_assoc (page ++ f first) between (by_pieces others)
      ∙ append_assoc page (f first) (between ++ by_pieces others)
      ∙ ap (λ t. page ++ t) (sym (by_more_pieces text first others is none)) ∙ before

  -- the last piece is shown
  pub pieces_end : (text front page now : List ℕ) → HasNone c text → page ++ by_pieces text ≡ front →
      now ≡ page ++ f text → now ≡ front
  pieces_end text front page now none before shown = shown ∙ ap (λ t. page ++ t) (sym (by_one_piece text none)) ∙ before

-- ==== Typing: Numbers with another check digit.

-- a text with another check digit has the form of a number
pub form_of : (text : List ℕ) → number_of text ≡ Err fault.CheckDigit → has_form text ≡ true
unfolding number_of
form_of text is = elim (cases_Bool (has_form text)) [
  | inl form ↦ form
  | inr none ↦ absurd (let e = rw none at is in cc)
]
