-- What each statement that writes interchanges makes of their order.
use Rattle.std.{specs.List.AllByRecursion, proofs.{lemmas.Bool.cases_Bool, lemmas.List.map-append, lemmas.List.Sorted.IsPermutation-map}}
use Rattle.std.proofs.Common.{◌≡◌, inl, inr, ℕ, ◌+◌, ◌<◌, pos, List, [], ◌∷◌, ◌++◌, length, map, filter, drop, Bool, true, false, ◌&&◌, cond, Ok, refl, sym, ap, ap₂, subst, ◌∙◌, arith, Less, IsPermutation, IsTrue}
use Rattle.sqlite.specs.{declared.types.Value.TheVariants.{Null, Int, Text, Blob}, Order.{Row, column}, Table.Table, Tree.Trees, Listing.understood}
use Rattle.sqlite.{specs.{Source.TheVariants.Values, Command.TheVariants.{Insert, Update}, State.{State, Executes}}, proofs.Callers.{statement_of, runs_as}}
use Rattle.sqlite_value.specs.Order.{value_cmp}
use Rattle.sqlite_schema.specs.declared.schema.Keys.TheVariants.{Enforced}
use Rattle.sqlite_trees.{specs.{Tree.{IsTable, rowid}, View.{is_int, IsShaped}}, proofs.ListLemmas.map-map}
use Rattle.sqlite_rules.specs.{Cast.{cast, cast_row}, Calls.ids_of, declared.error.Rowids.TheVariants.{Chosen, Given}}
use Rattle.sqlite_rules.specs.Edit.{edit_of, Applies, without_all, put_all, id_in}
use Rattle.office_rows.specs.{Tables.{interchange_table, office_schema}, Rows.{Interchange, Rows}, Values.{number_value, interchange_values}, Places.ArePlaced}
use Rattle.office_rows.{specs.{Effects.{is_pair, with_waiting, with_reply}, Stored.{columns_of, HasRows}}, proofs.Placed.{less, insert_adds_last}}
use Rattle.office_rows.specs.InPlace.{AreInPlace, InterchangesAreInPlace, AddsInPlace, says, is_row_of, replied, RepliesInPlace, OthersKeepPlaces}
use Rattle.office_rows.proofs.{Creating.{updated, put_all_shaped, without_all_shaped}, Ordered.rows_have_one_order, Listed.and_true}
use Rattle.office_rows.proofs.WriteLemmas.{cast_null, cast_int, equal_numbers, passes, inserts, updates, rows_of, given_numbered}
use Rattle.sqlite.specs.Kind.TheVariants as kind
use Rattle.sqlite_trees.specs.declared.store.Shape.TheVariants as shape
use Rattle.office_rows.proofs.Writing as texts

-- ---- an INSERT

module _ {A : Type 0} (table : Table) (values : A → Row) (records : List A) (old new : Trees) where
  abbrev stored : List Row
  stored = old table.tree

  inserted : (source : Row) (a : A) → AreInPlace table values records stored → rowid (cast_row table source) ≡ Null
      → ((n : ℕ) → columns_of table (Int (pos n) ∷ drop 1 (cast_row table source)) ≡ values a)
      → Applies office_schema Enforced old (edit_of old table [] Chosen 0 (source ∷ [])) new
      → AreInPlace table values (records ++ a ∷ []) (new table.tree)
  inserted source a held null shown it =
      let row = cast_row table source in
      let adds = insert_adds_last stored row held.placed null in
      let last = Int (pos (length stored + 1)) ∷ drop 1 row in
      let rows : new table.tree ≡ stored ++ last ∷ [] = it.rows ∙ adds.last in
      record {
        placed = subst (ArePlaced 1) (sym it.rows) adds.placed;
        same = map-append values records (a ∷ [])
            ∙ (λ i. held.same i ++ sym (shown (length stored + 1)) i ∷ [])
            ∙ sym (map-append (columns_of table) stored (last ∷ []))
            ∙ ap (map (columns_of table)) (sym rows);
      }

-- ---- an UPDATE

-- rows whose rowids count on rise
all_later : (from low : ℕ) (first : Row) (rows : List Row) → rowid first ≡ Int (pos low) → low < from → ArePlaced from rows → AllByRecursion (λ row. value_cmp (rowid first) (rowid row) ≡ Less) rows
all_later from low first [] is below placed = tt
all_later from low first (row ∷ rows) is below placed =
    ((λ i. value_cmp (is i) (placed.0 i)) ∙ less low from below, all_later (from + 1) low first rows is (omega arith) placed.1)

placed_rise : (from : ℕ) (rows : List Row) → ArePlaced from rows → IsTable rows
placed_rise from [] placed = tt
placed_rise from (row ∷ rows) placed = (all_later (from + 1) from row rows placed.0 (omega arith) placed.1, placed_rise (from + 1) rows placed.1)

placed_ints : (from : ℕ) (rows : List Row) → ArePlaced from rows → AllByRecursion (λ r. IsTrue (is_int (rowid r))) rows
placed_ints from [] placed = tt
placed_ints from (row ∷ rows) placed = (ap is_int placed.0, placed_ints (from + 1) rows placed.1)

placed_mapped : (change : Row → Row) → ((row : Row) (n : ℕ) → rowid row ≡ Int (pos n) → rowid (change row) ≡ Int (pos n)) → (from : ℕ) (rows : List Row) → ArePlaced from rows → ArePlaced from (map change rows)
placed_mapped change keeps from [] placed = tt
placed_mapped change keeps from (row ∷ rows) placed = (keeps row from placed.0, placed_mapped change keeps (from + 1) rows placed.1)

-- `shown` gives the rowid and the new row, `test` and `change` say it of the columns' values, `chosen` and `changed` of the records
module _ {A : Type 0} (table : Table) (values : A → Row) (records : List A) (old new : Trees) (held : AreInPlace table values records (old table.tree))
    (p : Row → Bool) (shown : Row → Row) (test : Row → Bool) (change : Row → Row) (chosen : A → Bool) (changed : A → A) where
  abbrev before : List Row
  before = old table.tree

  abbrev up : Row → Row
  up r = cast_row table (drop 1 (shown r))

  -- what stands in place of a row
  abbrev replaced : Row → Row
  replaced r = cond (p r) (up r) r

  shaped : IsShaped shape.Table before
  shaped = (placed_rise 1 before held.placed, placed_ints 1 before held.placed)

  -- the tree has these rows, in some order, and rising
  in_some_order : ((r : Row) → id_in (rowid (shown r)) ≡ id_in (rowid r)) → (found : List Row) → IsPermutation (map shown (filter p before)) found
      → Applies office_schema Enforced old (edit_of old table (ids_of found) Given 1 found) new
      → IsPermutation (map replaced before) (new table.tree) × IsTable (new table.tree)
  in_some_order ids found finds it =
      let gone = ids_of found in
      let same_ids : IsPermutation (map (λ r. id_in (rowid r)) (filter p before)) gone =
      subst (λ l. IsPermutation l gone) (map-map _ _ (filter p before) ∙ (λ i. map (λ r. ids r i) (filter p before))) (IsPermutation-map (λ r. id_in (rowid r)) _ _ finds) in
      let news = map (λ s. cast_row table (drop 1 s)) found in
      let same_news : IsPermutation (map up (filter p before)) news = subst (λ l. IsPermutation l news) (map-map _ _ (filter p before)) (IsPermutation-map (λ s. cast_row table (drop 1 s)) _ _ finds) in
      let numbers = given_numbered (without_all before gone) news in
      let rows : new table.tree ≡ put_all (without_all before gone) news = rw numbers at it.rows in
      let rises = put_all_shaped news (without_all before gone) (rw numbers at it.keyed) (without_all_shaped gone before shaped) in (
        subst (IsPermutation (map replaced before)) (sym rows) (updated p before shaped up gone news same_ids same_news (rw numbers at it.fresh)),
        subst IsTable (sym rows) rises.0,
      )

  in_records : ((a : A) → test (values a) ≡ chosen a) → ((a : A) → change (values a) ≡ values (changed a))
      → (xs : List A) → map values (map (λ a. cond (chosen a) (changed a) a) xs) ≡ map (λ c. cond (test c) (change c) c) (map values xs)
  in_records choosing changing [] = refl
  in_records choosing changing (x ∷ xs) = elim (cases_Bool (chosen x)) [
    | inl here ↦ rw (choosing x, here, changing x, in_records choosing changing xs) refl
    | inr other ↦ rw (choosing x, other, in_records choosing changing xs) refl
  ]

  in_columns : ((r : Row) → p r ≡ test (columns_of table r)) → ((r : Row) → columns_of table (up r) ≡ change (columns_of table r))
      → (rows : List Row) → map (λ c. cond (test c) (change c) c) (map (columns_of table) rows) ≡ map (columns_of table) (map replaced rows)
  in_columns passing writing [] = refl
  in_columns passing writing (r ∷ rows) = elim (cases_Bool (test (columns_of table r))) [
    | inl here ↦ rw (passing r, here, writing r, in_columns passing writing rows) refl
    | inr other ↦ rw (passing r, other, in_columns passing writing rows) refl
  ]

  replaced_keeps : ((r : Row) (n : ℕ) → rowid r ≡ Int (pos n) → rowid (up r) ≡ Int (pos n)) → (r : Row) (n : ℕ) → rowid r ≡ Int (pos n) → rowid (replaced r) ≡ Int (pos n)
  replaced_keeps keeps r n is = on (p r)
    where
      on : (b : Bool) → rowid (cond b (up r) r) ≡ Int (pos n)
      on true = keeps r n is
      on false = is

  updated_in_place : ((r : Row) → id_in (rowid (shown r)) ≡ id_in (rowid r))
      → ((r : Row) (n : ℕ) → rowid r ≡ Int (pos n) → rowid (up r) ≡ Int (pos n))
      → ((r : Row) → p r ≡ test (columns_of table r))
      → ((r : Row) → columns_of table (up r) ≡ change (columns_of table r))
      → ((a : A) → test (values a) ≡ chosen a) → ((a : A) → change (values a) ≡ values (changed a))
      → (found : List Row) → IsPermutation (map shown (filter p before)) found
      → Applies office_schema Enforced old (edit_of old table (ids_of found) Given 1 found) new
      → AreInPlace table values (map (λ a. cond (chosen a) (changed a) a) records) (new table.tree)
  updated_in_place ids keeps passing writing choosing changing found finds it =
      let placed = placed_mapped replaced (replaced_keeps keeps) 1 before held.placed in
      let some = in_some_order ids found finds it in
      let rows : new table.tree ≡ map replaced before =
      rows_have_one_order (map replaced before) (new table.tree) (placed_rise 1 (map replaced before) placed) some.1 some.0 in
      record {
        placed = subst (ArePlaced 1) (sym rows) placed;
        same = in_records choosing changing records
            ∙ ap (map (λ c. cond (test c) (change c) c)) held.same
            ∙ in_columns passing writing before
            ∙ ap (map (columns_of table)) (sym rows);
      }

-- ---- interchanges

pub adds_in_place : AddsInPlace
adds_in_place old new interchanges i held it =
    inserted interchange_table interchange_values interchanges old new (Null ∷ interchange_values i) i held cast_null (λ n. simp cast_int) it

-- what is said of the columns, whatever tests and terms find and write the rows
replies_by : (old new : Trees) (rows : Rows) (partner number_of : ℕ) (reply : List ℕ) (p : Row → Bool) → ((r : Row) → p r ≡ is_row_of partner number_of r) → InterchangesAreInPlace rows.interchanges old
    → (found : List Row) → IsPermutation (map (replied reply) (filter p (old interchange_table.tree))) found
    → Applies office_schema Enforced old (edit_of old interchange_table (ids_of found) Given 1 found) new
    → InterchangesAreInPlace (with_reply partner number_of reply rows).interchanges new
replies_by old new rows partner number_of reply p finding held found finds applies =
    updated_in_place interchange_table interchange_values rows.interchanges old new held p (replied reply)
    (λ c. says c 0 partner && says c 1 number_of) (λ c. cast kind.Integer (column c 0) ∷ cast kind.Integer (column c 1) ∷ column c 2 ∷ Text reply ∷ [])
    (is_pair partner number_of) (λ i. record i { reply = reply })
    (λ r. refl) (λ r n is. ap (cast kind.Integer) is ∙ cast_int (pos n)) finding (λ r. refl)
    (λ a. ap₂ ◌&&◌ (equal_numbers a.partner partner) (equal_numbers a.number number_of)) (λ a. simp cast_int) found finds applies

pub replies_in_place : RepliesInPlace
replies_in_place old new rows partner number_of reply held it =
    replies_by old new rows partner number_of reply (is_row_of partner number_of) (λ r. refl) held it.found it.finds it.applies

pub others_keep_places : OthersKeepPlaces
others_keep_places old new edit applies other = applies.tables.1.0 (λ e. other (sym e))

-- ---- the statements, for the calls that execute them

pub keeps_in_place : (old new : State) (rows : Rows) (count partner number_of : ℕ) (body : List ℕ) → HasRows rows old.now → InterchangesAreInPlace rows.interchanges old.now.trees
    → Executes texts.insert_interchange (number_value partner ∷ number_value number_of ∷ Blob body ∷ []) old new (Ok count)
    → InterchangesAreInPlace (with_waiting partner number_of body rows).interchanges new.now.trees
keeps_in_place old new rows count partner number_of body has held h =
    let a : Interchange = record { partner = partner; number = number_of; body = body; reply = [] } in
    let params = number_value partner ∷ number_value number_of ∷ Blob body ∷ [] in
    let text = statement_of texts.insert_interchange (understood office_schema texts.insert_interchange) in
    let w = runs_as texts.insert_interchange params old new office_schema has.schema (Insert 1 (Values texts.insert_interchange_terms 5)) texts.insert_interchange_is texts.insert_interchange_plain count h in
    let it = inserts old new has.schema 1 interchange_table refl refl params text count texts.insert_interchange_terms 5 w in
    adds_in_place old.now.trees new.now.trees rows.interchanges a held it.edits.applies

pub copies_in_place : (old new : State) (rows : Rows) (count : ℕ) (a : Interchange) → HasRows rows old.now → InterchangesAreInPlace rows.interchanges old.now.trees
    → Executes texts.insert_whole (interchange_values a) old new (Ok count)
    → InterchangesAreInPlace (rows.interchanges ++ a ∷ []) new.now.trees
copies_in_place old new rows count a has held h =
    let params = interchange_values a in
    let text = statement_of texts.insert_whole (understood office_schema texts.insert_whole) in
    let w = runs_as texts.insert_whole params old new office_schema has.schema (Insert 1 (Values texts.insert_whole_terms 5)) texts.insert_whole_is texts.insert_whole_plain count h in
    let it = inserts old new has.schema 1 interchange_table refl refl params text count texts.insert_whole_terms 5 w in
    adds_in_place old.now.trees new.now.trees rows.interchanges a held it.edits.applies

pub update_replies_in_place : (old new : State) (rows : Rows) (count partner number_of : ℕ) (reply : List ℕ) → HasRows rows old.now → InterchangesAreInPlace rows.interchanges old.now.trees
    → Executes texts.update_reply (number_value partner ∷ number_value number_of ∷ Text reply ∷ []) old new (Ok count)
    → InterchangesAreInPlace (with_reply partner number_of reply rows).interchanges new.now.trees
update_replies_in_place old new rows count partner number_of reply has held h =
    let params = number_value partner ∷ number_value number_of ∷ Text reply ∷ [] in
    let text = statement_of texts.update_reply (understood office_schema texts.update_reply) in
    let w = runs_as texts.update_reply params old new office_schema has.schema (Update 1 (record { lets = []; body = rows_of 2 texts.update_reply_tests texts.update_reply_shown })) texts.update_reply_is texts.update_reply_plain count h in
    let it = updates old new has.schema 1 interchange_table refl refl params text count texts.update_reply_tests texts.update_reply_shown (λ trees. refl) w in
    replies_by old.now.trees new.now.trees rows partner number_of reply (passes params texts.update_reply_tests) (λ r. ap (λ b. says r 1 partner && b) (and_true (says r 2 number_of))) held it.answer it.answers it.edits.applies
