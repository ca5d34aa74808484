-- What is printed of texts whose rows stand under the rowids 1, 2, 3 and so on.
use Rattle.std.specs.{Prelude.{◌||◌, drop, filter}, Cmp.nat_cmp_is, Io.KnownBytes.Appends, List.list_any, Ordering.{is_ge, is_gt, nat_cmp}}
use Rattle.std.proofs.Common.{◌≡◌, inl, inr, ℕ, zero, suc, ◌+◌, ◌<◌, ◌≤◌, List, [], ◌∷◌, length, map, Bool, true, false, Option, None, Ordering, Less, Equal, Greater, refl, sym, ap, subst, ◌∙◌, arith}
use Rattle.std.proofs.{lemmas.Bool.{cases_order, ne_eqb}, lemmas.List.{drop-map, length-map}}
use Rattle.sqlite.specs.{Order.{Row, column, value_cmp}, Tree.{Trees, rowid}, declared.types.Value.TheVariants.Blob}
use Rattle.office_rows.specs.{Tables.interchange_table, Values.number_value, Places.ArePlaced}
use Rattle.office_history.proofs.Runs.{number_order}
use Rattle.office_loading.specs.{Pages.lines_of, Texts.{AreTextsAfter, has_reached, is_after, is_from}}
use Rattle.office_desk.{specs.Rebuilding.KeepsTexts, proofs.{PageLemmas.handed_out, KeptLemmas.same_blobs}}
use Rattle.office_commands.specs.{Printing.{PrintsKept, PrintsOf, PrintsTexts}, Reporting.office_database}

module _ (from : ℕ) where
  -- how a row's number stands to that one
  compared : (row : Row) (low : ℕ) (o : Ordering) → rowid row ≡ number_value low → nat_cmp low from ≡ o → value_cmp (rowid row) (number_value from) ≡ o
  compared row low o is at = ap (λ v. value_cmp v (number_value from)) is ∙ number_order low from ∙ at

  at_or_below : (row : Row) (low : ℕ) → rowid row ≡ number_value low → low ≤ from → is_after from row ≡ false
  at_or_below row low is below = elim (cases_order low from) [
    | inl same ↦ ap is_gt (compared row low Equal is (sym (nat_cmp_is low from Equal same)))
    | inr o ↦ elim o [
      | inl under ↦ ap is_gt (compared row low Less is (sym (nat_cmp_is low from Less under)))
      | inr over ↦ absurd (omega (arith, over, below))
    ]
  ]

  all_after : (low : ℕ) (rows : List Row) → from < low → ArePlaced low rows → filter (is_after from) rows ≡ rows
  all_after low [] above placed = refl
  all_after low (row ∷ rows) above placed =
      let here : is_after from row ≡ true = ap is_gt (compared row low Greater placed.0 (sym (nat_cmp_is low from Greater above))) in
      let step : filter (is_after from) (row ∷ rows) ≡ row ∷ filter (is_after from) rows = rw here refl in
      step ∙ ap (λ l. row ∷ l) (all_after (low + 1) rows (omega (arith, above)) placed.1)

  -- the rows after that number are those after the first of them
  rows_after : (count low : ℕ) (rows : List Row) → low + count ≡ from + 1 → ArePlaced low rows → filter (is_after from) rows ≡ drop count rows
  rows_after zero low rows same placed = all_after low rows (omega (arith, same)) placed
  rows_after (suc count) low [] same placed = refl
  rows_after (suc count) low (row ∷ rows) same placed =
      let here = at_or_below row low placed.0 (omega (arith, same)) in
      let step : filter (is_after from) (row ∷ rows) ≡ filter (is_after from) rows = rw here refl in
      step ∙ rows_after count (low + 1) rows (omega (arith, same)) placed.1

  -- no row has a number that is beyond their count
  none_from : (low : ℕ) (rows : List Row) → low + length rows ≤ from → ArePlaced low rows → list_any (is_from from) rows ≡ false
  none_from low [] above placed = refl
  none_from low (row ∷ rows) above placed =
      let here : is_from from row ≡ false = ap is_ge (compared row low Less placed.0 (sym (nat_cmp_is low from Less (omega (arith, above))))) in
      let step : list_any (is_from from) (row ∷ rows) ≡ list_any (is_from from) rows = rw here refl in
      step ∙ none_from (low + 1) rows (omega (arith, above)) placed.1

  not_reached : (rows : List Row) → ArePlaced 1 rows → length rows < from → has_reached from rows ≡ false
  not_reached rows placed low =
      (λ i. ne_eqb from 0 (λ none. absurd (omega (arith, none, low))) i || none_from 1 rows (omega (arith, low)) placed i)

  module _ (db : Trees) (texts : List (List ℕ)) (keeps : KeepsTexts texts (office_database db)) where
    abbrev stored : List Row
    stored = db interchange_table.tree

    many : length stored ≡ length texts
    many = sym (length-map stored (λ row. column row 3)) ∙ ap length keeps.bodies ∙ length-map texts Blob

    reached : has_reached from stored ≡ true → from ≤ length texts
    reached is = elim (cases_order from (length texts)) [
      | inl same ↦ omega (arith, same)
      | inr o ↦ elim o [
        | inl under ↦ omega (arith, under)
        | inr over ↦ absurd (let none = not_reached stored keeps.placed (omega (arith, many, over)) in cc)
      ]
    ]

    -- the texts after that number are those after the first of them
    texts_after : (found : List (List ℕ)) → AreTextsAfter from stored found → found ≡ drop from texts
    texts_after found are = same_blobs found (drop from texts) (
        are
        ∙ ap (map (λ row. column row 3)) (rows_after from 1 stored (omega arith) keeps.placed)
        ∙ sym (drop-map (λ (row : Row). column row 3) from stored)
        ∙ ap (drop from) keeps.bodies
        ∙ drop-map Blob from texts)

    kept_of : (old new : Option (List ℕ)) (failed flushed : Bool) (status : ℕ) → PrintsTexts from stored old new failed flushed status → PrintsKept from texts old new failed flushed status
    kept_of old new failed flushed status (inl (done, high, written, well)) =
        inl (done, reached high, subst (λ (found : List (List ℕ)). Appends old new (lines_of found)) (texts_after written.texts written.after) written.appended, well)
    kept_of old new failed flushed status (inr (inl (one, fewer, none, well))) =
        inr (inl (one, handed_out texts (office_database db) from None keeps fewer, none, well))
    kept_of old new failed flushed status (inr (inr (three, fails))) = inr (inr (three, fails))

pub prints_of : (from : ℕ) (old new : Option (List ℕ)) (failed flushed : Bool) (db : Trees) (status : ℕ) → PrintsTexts from (db interchange_table.tree) old new failed flushed status → PrintsOf from db old new failed flushed status
prints_of from old new failed flushed db status printed = record {
  rows = printed;
  in_order = λ texts keeps. kept_of from db texts keeps old new failed flushed status printed;
}
