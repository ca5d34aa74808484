-- An interchange that is inserted is the only one of its partner and number.
use Rattle.std.{specs.List.list_any, proofs.{lemmas.Bool.or_parts, lemmas.List.map-append, lemmas.List.Sorted.list_any-IsPermutation}}
use Rattle.std.proofs.Common.{◌≡◌, ℕ, ◌&&◌, ◌||◌, List, [], ◌∷◌, ◌++◌, Bool, true, false, if◌then◌else◌, Result, Ok, Err, OnOk, map, inl, inr, refl, sym, ap, ap₂, eq-eqb, ◌∙◌, ◌≢◌, Some, slice_get, subst, arith}
use Rattle.sqlite.specs.{declared.types.Value.TheVariants.Null, Collation.TheVariants.Binary, Order.{Row, column}, Listing.understood, State.{State, Executes}}
use Rattle.sqlite.specs.{Source.TheVariants.Values, Command.TheVariants.{Insert, Update, Delete}, Term.Term, Table.Table, Tree.Trees, Program.overlay}
use Rattle.sqlite.proofs.Callers.{statement_of, runs_as, IsPlain, command_of}
use Rattle.sqlite_value.specs.Keys.{first_key}
use Rattle.sqlite_schema.specs.{declared.schema.Index.Index, Rules.equal}
use Rattle.sqlite_catalog.specs.Listing.{automatic}
use Rattle.sqlite_rules.specs.{Cast.cast_row, declared.error.Rowids.TheVariants.Chosen, Edit.{with_rowid, Edit}}
use Rattle.sqlite_tied.proofs.RuleLemmas.{and_true}
use Rattle.office_rows.specs.Tables.{interchange_table, office_schema, partner_table, visit_table, place_table, listing_table, setting_table, block_table}
use Rattle.office_rows.specs.{Rows.{Interchange, Rows}, Values.{number_value, interchange_values}, Steps.Steps, Stored.{HasRows, columns_of}, Effects.is_pair}
use Rattle.office_rows.specs.{Opening.{with_interchanges, interchange_row as interchange_of}, InPlace.{AreInPlace, InterchangesAreInPlace}}
use Rattle.office_rows.proofs.{WriteLemmas.{cast_null, cast_int, equal_numbers, inserts, Edits, rows_of, updates, deletes}, InPlace.others_keep_places}
use Rattle.office_tables.{specs.{Kept.with_kept_reply, Order.KeepsOrder}, proofs.KeyLemmas.new_key}
use Rattle.office_rows.proofs.Writing as texts

any_map : {X Y : Type 0} (p : Y → Bool) (f : X → Y) (xs : List X) → list_any p (map f xs) ≡ list_any (λ x. p (f x)) xs
any_map p f [] = refl
any_map p f (x ∷ xs) = ap (λ b. p (f x) || b) (any_map p f xs)

-- the index of the pairs
abbrev pairs : Index
pairs = automatic interchange_table 0 (1 ∷ 2 ∷ []) 3

-- the columns have the numbers of this partner's interchange
abbrev shows : ℕ → ℕ → Row → Bool
shows p n c = equal Binary (column c 0) (number_value p) && (equal Binary (column c 1) (number_value n) && true)

module _ (old new : State) (rows : Rows) (count : ℕ) (has : HasRows rows old.now) where
  pub new_pair : (a : Interchange) → Executes texts.insert_whole (interchange_values a) old new (Ok count) → list_any (is_pair a.partner a.number) rows.interchanges ≡ false
  unfolding first_key
  new_pair a h =
      let params = interchange_values a in
      let source : Row = Null ∷ interchange_values a in
      let text = statement_of texts.insert_whole (understood office_schema texts.insert_whole) in
      let w = runs_as texts.insert_whole params old new office_schema has.schema (Insert 1 (Values texts.insert_whole_terms 5)) texts.insert_whole_is texts.insert_whole_plain count h in
      let it = inserts old new has.schema 1 interchange_table refl refl params text count texts.insert_whole_terms 5 w in
      let held = has.rows_are.interchanges in
      let stored = old.now.trees 2 in
      let row : Row = with_rowid Chosen stored (cast_row interchange_table source) in
      let shown : columns_of interchange_table row ≡ interchange_values a = simp (cast_null, cast_int) in
      let none = new_key office_schema interchange_table pairs old.now.trees new.now.trees source (inr (inl refl)) (inr (inl refl)) refl held.shaped it.edits.applies in
      let stays : list_any (λ r. equal Binary (column r 1) (column row 1) && (equal Binary (column r 2) (column row 2) && true)) stored ≡ false = none in
      let first : column row 1 ≡ number_value a.partner = ap (λ c. column c 0) shown in
      let second : column row 2 ≡ number_value a.number = ap (λ c. column c 1) shown in
      let in_columns : list_any (λ r. shows a.partner a.number (columns_of interchange_table r)) stored ≡ false = rw (first, second) at stays in
      let in_values : list_any (shows a.partner a.number) (map interchange_values rows.interchanges) ≡ false =
      list_any-IsPermutation (shows a.partner a.number) _ _ held.same ∙ any_map (shows a.partner a.number) (columns_of interchange_table) stored ∙ in_columns in
      (λ i. list_any (λ (x : Interchange). pair_is a x i) rows.interchanges) ∙ sym (any_map (shows a.partner a.number) interchange_values rows.interchanges) ∙ in_values
    where
      pair_is : (a x : Interchange) → is_pair a.partner a.number x ≡ shows a.partner a.number (interchange_values x)
      pair_is a x = sym (ap₂ ◌&&◌ (equal_numbers x.partner a.partner) (and_true _ ∙ equal_numbers x.number a.number))

-- where no interchange is of the pair, a reply to the pair changes none
unchanged : (p n : ℕ) (reply : List ℕ) (xs : List Interchange) → list_any (is_pair p n) xs ≡ false → map (λ (i : Interchange). if is_pair p n i then record i { reply = reply } else i) xs ≡ xs
unchanged p n reply [] none = refl
unchanged p n reply (x ∷ xs) none =
    let parts = or_parts _ _ none in
    ap₂ ◌∷◌ (ap (λ b. if b then record x { reply = reply } else x) parts.0) (unchanged p n reply xs parts.1)

-- so keeping it and then giving it its reply adds one row, which has the reply
pub kept_with_reply : (p n : ℕ) (body reply : List ℕ) (rows : Rows) → list_any (is_pair p n) rows.interchanges ≡ false → with_interchanges (interchange_of p n body reply ∷ []) rows ≡ with_kept_reply p n body reply rows
kept_with_reply p n body reply rows none =
    let waiting = interchange_of p n body [] in
    let same : is_pair p n waiting ≡ true = ap₂ ◌&&◌ (eq-eqb p p refl) (eq-eqb n n refl) in
    let f : Interchange → Interchange = λ i. if is_pair p n i then record i { reply = reply } else i in
    let last : f waiting ≡ interchange_of p n body reply = ap (λ b. if b then record waiting { reply = reply } else waiting) same in
    let all : rows.interchanges ++ interchange_of p n body reply ∷ [] ≡ map f (rows.interchanges ++ waiting ∷ []) =
    sym (map-append f rows.interchanges (waiting ∷ []) ∙ ap₂ ◌++◌ (unchanged p n reply rows.interchanges none) (ap (λ i. i ∷ []) last)) in
    ap (λ l. record rows { interchanges = l }) all

pub steps_kept : {X E : Type 0} (p n : ℕ) (body reply : List ℕ) (old new : State) (result : Result X E) → OnOk result (Steps (with_interchanges (interchange_of p n body reply ∷ [])) old new)
    → OnOk result ((rows : Rows) → HasRows rows old.now → list_any (is_pair p n) rows.interchanges ≡ false) → OnOk result (Steps (with_kept_reply p n body reply) old new)
steps_kept p n body reply old new (Ok x) steps none = record {
  rows = λ rows has. rw (← kept_with_reply p n body reply rows (none rows has)) (steps.rows rows has);
  inside = steps.inside;
  committed = steps.committed;
  is_open = steps.is_open;
}
steps_kept p n body reply old new (Err e) steps none = steps

pub order_kept : {X E : Type 0} (p n : ℕ) (body reply : List ℕ) (old new : State) (result : Result X E) → OnOk result (KeepsOrder (with_interchanges (interchange_of p n body reply ∷ [])) old new)
    → OnOk result ((rows : Rows) → HasRows rows old.now → list_any (is_pair p n) rows.interchanges ≡ false) → OnOk result (KeepsOrder (with_kept_reply p n body reply) old new)
order_kept p n body reply old new (Ok x) keeps none = λ rows held. rw (← kept_with_reply p n body reply rows (none rows held.has)) (keeps rows held)
order_kept p n body reply old new (Err e) keeps none = keeps

-- ==== OrderLemmas: Statements that write to another table leave the interchanges as they stand.

module _ (old new : State) (rows : Rows) (count : ℕ) (has : HasRows rows old.now) (held : InterchangesAreInPlace rows.interchanges old.now.trees) (params : Row) where
  abbrev pub Stay : Type 0
  Stay = InterchangesAreInPlace rows.interchanges new.now.trees

  stay : (table : Table) (edit : Edit) → Edits table edit old.now new.now → edit.table.tree ≢ interchange_table.tree → Stay
  stay table edit edits other =
      subst (AreInPlace interchange_table interchange_values rows.interchanges) (sym (others_keep_places old.now.trees new.now.trees edit edits.applies other)) held

  module _ (at : ℕ) (table : Table) (listed : slice_get office_schema.tables at ≡ Some table) (uncounted : table.is_counted ≡ false) (other : table.tree ≢ interchange_table.tree) (sql : List ℕ) (plain : IsPlain (understood office_schema sql)) where
    inserted : (terms : List Term) (width : ℕ) → command_of (understood office_schema sql) ≡ Insert at (Values terms width) → Executes sql params old new (Ok count) → Stay
    inserted terms width is h =
        let text = statement_of sql (understood office_schema sql) in
        let w = runs_as sql params old new office_schema has.schema (Insert at (Values terms width)) is plain count h in
        let it = inserts old new has.schema at table listed uncounted params text count terms width w in
        stay table _ it.edits other

    module _ (seen : (trees : Trees) → overlay trees [] table.tree ≡ trees table.tree) (tests shown : List Term) where
      updated : command_of (understood office_schema sql) ≡ Update at (record { lets = []; body = rows_of table.tree tests shown }) → Executes sql params old new (Ok count) → Stay
      updated is h =
          let text = statement_of sql (understood office_schema sql) in
          let w = runs_as sql params old new office_schema has.schema (Update at (record { lets = []; body = rows_of table.tree tests shown })) is plain count h in
          let it = updates old new has.schema at table listed uncounted params text count tests shown seen w in
          stay table _ it.edits other

      deleted : command_of (understood office_schema sql) ≡ Delete at (record { lets = []; body = rows_of table.tree tests shown }) → Executes sql params old new (Ok count) → Stay
      deleted is h =
          let text = statement_of sql (understood office_schema sql) in
          let w = runs_as sql params old new office_schema has.schema (Delete at (record { lets = []; body = rows_of table.tree tests shown })) is plain count h in
          let it = deletes old new has.schema at table listed uncounted params text count tests shown seen w in
          stay table _ it.edits other

  pub insert_partner_stays : Executes texts.insert_partner params old new (Ok count) → Stay
  insert_partner_stays = inserted 0 partner_table refl refl (λ e. omega (arith, e)) texts.insert_partner texts.insert_partner_plain texts.insert_partner_terms 5 texts.insert_partner_is

  pub insert_visit_stays : Executes texts.insert_visit params old new (Ok count) → Stay
  insert_visit_stays = inserted 2 visit_table refl refl (λ e. omega (arith, e)) texts.insert_visit texts.insert_visit_plain texts.insert_visit_terms 16 texts.insert_visit_is

  pub insert_place_stays : Executes texts.insert_place params old new (Ok count) → Stay
  insert_place_stays = inserted 3 place_table refl refl (λ e. omega (arith, e)) texts.insert_place texts.insert_place_plain texts.insert_place_terms 4 texts.insert_place_is

  pub insert_listed_stays : Executes texts.insert_listed params old new (Ok count) → Stay
  insert_listed_stays = inserted 4 listing_table refl refl (λ e. omega (arith, e)) texts.insert_listed texts.insert_listed_plain texts.insert_listed_terms 7 texts.insert_listed_is

  pub insert_setting_stays : Executes texts.insert_setting params old new (Ok count) → Stay
  insert_setting_stays = inserted 5 setting_table refl refl (λ e. omega (arith, e)) texts.insert_setting texts.insert_setting_plain texts.insert_setting_terms 3 texts.insert_setting_is

  pub insert_block_stays : Executes texts.insert_block params old new (Ok count) → Stay
  insert_block_stays = inserted 6 block_table refl refl (λ e. omega (arith, e)) texts.insert_block texts.insert_block_plain texts.insert_block_terms 5 texts.insert_block_is

  pub update_next_stays : Executes texts.update_next params old new (Ok count) → Stay
  update_next_stays = updated 0 partner_table refl refl (λ e. omega (arith, e)) texts.update_next texts.update_next_plain (λ trees. refl) texts.update_next_tests texts.update_next_shown texts.update_next_is

  pub update_exit_stays : Executes texts.update_exit params old new (Ok count) → Stay
  update_exit_stays = updated 2 visit_table refl refl (λ e. omega (arith, e)) texts.update_exit texts.update_exit_plain (λ trees. refl) texts.update_exit_tests texts.update_exit_shown texts.update_exit_is

  pub update_slot_stays : Executes texts.update_slot params old new (Ok count) → Stay
  update_slot_stays = updated 3 place_table refl refl (λ e. omega (arith, e)) texts.update_slot texts.update_slot_plain (λ trees. refl) texts.update_slot_tests texts.update_slot_shown texts.update_slot_is

  pub update_done_stays : Executes texts.update_done params old new (Ok count) → Stay
  update_done_stays = updated 4 listing_table refl refl (λ e. omega (arith, e)) texts.update_done texts.update_done_plain (λ trees. refl) texts.update_done_tests texts.update_done_shown texts.update_done_is

  pub delete_place_stays : Executes texts.delete_place params old new (Ok count) → Stay
  delete_place_stays = deleted 3 place_table refl refl (λ e. omega (arith, e)) texts.delete_place texts.delete_place_plain (λ trees. refl) texts.delete_place_tests texts.delete_place_shown texts.delete_place_is

  pub delete_line_stays : Executes texts.delete_line params old new (Ok count) → Stay
  delete_line_stays = deleted 4 listing_table refl refl (λ e. omega (arith, e)) texts.delete_line texts.delete_line_plain (λ trees. refl) texts.delete_line_tests texts.delete_line_shown texts.delete_line_is
