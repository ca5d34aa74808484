-- Rows in the order of their places.
use Rattle.std.{specs.{Prelude.drop, Ordering.match_ordering, declared.cmp.Ordering.TheVariants.Less}, proofs.lemmas.Bool.lt-ltb}
use Rattle.std.proofs.Common.{◌≡◌, ℕ, suc, ◌+◌, ◌<◌, pos, ◌+ℤ◌, List, [], ◌∷◌, ◌++◌, length, cond, fold, refl, sym, ap, ◌∙◌, arith, int_cmp}
use Rattle.sqlite_value.{specs.{declared.value.Value.TheVariants.{Null, Int}, Order.{Row, value_cmp}}, proofs.OrderLemmas.value_cmp-Int}
use Rattle.sqlite_trees.specs.Tree.{rowid, put_row}
use Rattle.sqlite_rules.specs.{declared.error.Rowids.TheVariants.Chosen, Edit.{id_in, next_rowid, is_chosen, at_least, with_rowid}}
use Rattle.office_rows.specs.Places.{ArePlaced, AddsLast}

pub less : (m n : ℕ) → m < n → value_cmp (Int (pos m)) (Int (pos n)) ≡ Less
less m n l = let below : int_cmp (pos m) (pos n) ≡ Less = rw (lt-ltb m n l) refl in value_cmp-Int (pos m) (pos n) ∙ below

next_from : (from : ℕ) (rows : List Row) → ArePlaced from rows → fold (λ _ r. id_in (rowid r) +ℤ pos 1) (pos from) rows ≡ pos (from + length rows)
next_from from [] placed = let e : from ≡ from + 0 = omega arith in ap pos e
next_from from (row ∷ rows) placed =
    let e : from + 1 + length rows ≡ from + suc (length rows) = omega arith in
    ap (λ v. fold (λ _ r. id_in (rowid r) +ℤ pos 1) (id_in v +ℤ pos 1) rows) placed.0 ∙ next_from (from + 1) rows placed.1 ∙ ap pos e

put_last : (from : ℕ) (rows : List Row) (new : Row) → ArePlaced from rows → rowid new ≡ Int (pos (from + length rows)) → put_row new rows ≡ rows ++ new ∷ []
put_last from [] new placed is = refl
put_last from (row ∷ rows) new placed is =
    let low : from < from + suc (length rows) = omega arith in
    let e : from + suc (length rows) ≡ from + 1 + length rows = omega arith in
    let rest : put_row new rows ≡ rows ++ new ∷ [] = put_last (from + 1) rows new placed.1 (is ∙ ap (λ n. Int (pos n)) e) in
    let below : value_cmp (rowid row) (rowid new) ≡ Less = (λ i. value_cmp (placed.0 i) (is i)) ∙ less from (from + suc (length rows)) low in
    ap (λ o. match_ordering o (row ∷ put_row new rows) (new ∷ rows) (new ∷ row ∷ rows)) below ∙ ap (λ l. row ∷ l) rest

placed_last : (from : ℕ) (rows : List Row) (new : Row) → ArePlaced from rows → rowid new ≡ Int (pos (from + length rows)) → ArePlaced from (rows ++ new ∷ [])
placed_last from [] new placed is = let e : from + 0 ≡ from = omega arith in (is ∙ ap (λ n. Int (pos n)) e, tt)
placed_last from (row ∷ rows) new placed is =
    let e : from + suc (length rows) ≡ from + 1 + length rows = omega arith in
    (placed.0, placed_last (from + 1) rows new placed.1 (is ∙ ap (λ n. Int (pos n)) e))

chosen : (rows : List Row) (source : Row) → rowid source ≡ Null → with_rowid Chosen rows source ≡ Int (next_rowid rows) ∷ drop 1 source
chosen rows source is = ap (λ v. cond (is_chosen Chosen v) (Int (at_least Chosen (next_rowid rows)) ∷ drop 1 source) source) is

pub insert_adds_last : (rows : List Row) (source : Row) → ArePlaced 1 rows → rowid source ≡ Null → AddsLast rows source
insert_adds_last rows source placed is =
    let n : 1 + length rows ≡ length rows + 1 = omega arith in
    let row : with_rowid Chosen rows source ≡ Int (pos (length rows + 1)) ∷ drop 1 source =
    chosen rows source is ∙ ap (λ z. Int z ∷ drop 1 source) (next_from 1 rows placed ∙ ap pos n) in
    let last : put_row (Int (pos (length rows + 1)) ∷ drop 1 source) rows ≡ rows ++ (Int (pos (length rows + 1)) ∷ drop 1 source) ∷ [] =
    put_last 1 rows (Int (pos (length rows + 1)) ∷ drop 1 source) placed (ap (λ m. Int (pos m)) (sym n)) in
    let whole : put_row (with_rowid Chosen rows source) rows ≡ rows ++ (Int (pos (length rows + 1)) ∷ drop 1 source) ∷ [] = ap (λ r. put_row r rows) row ∙ last in
    record {
      last = whole;
      placed = rw whole (placed_last 1 rows (Int (pos (length rows + 1)) ∷ drop 1 source) placed (ap (λ m. Int (pos m)) (sym n)));
    }
