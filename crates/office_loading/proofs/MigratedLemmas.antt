-- The rows that were copied are those of the old store, brought to the newest version, and its interchanges stand as there.
use Rattle.std.{specs.List.Sorted.IsPermutation, proofs.Common.{◌≡◌, ℕ, List, [], ◌∷◌, map, refl, sym, ap, subst, ◌∙◌, take}}
use Rattle.std.proofs.lemmas.List.Sorted.{IsPermutation-trans, IsPermutation-map}
use Rattle.sqlite.specs.{Order.Row, Table.Table, Tree.Trees, Effect.Database, State.{State, HasCleanDisk}}
use Rattle.sqlite_trees.proofs.ListLemmas.{map-map}
use Rattle.terminal_core.specs.State.{TerminalState}
use Rattle.office_admission.specs.Setups.{SetupContent}
use Rattle.office_rows.specs.Tables.{partner_table, interchange_table, visit_table, place_table, listing_table, setting_table, block_table, office_tables, no_schema, office_schema}
use Rattle.office_rows.specs.{Rows.{Interchange, Rows}, Stored.{Holds, AreRows, HasRows, HasEmpty, columns_of}, Steps.Turns, Shown.{columns_at, ShowsTable}}
use Rattle.office_rows.specs.Values.{partner_values, interchange_values, visit_values, place_values, line_values, setting_values, block_values}
use Rattle.office_rows.specs.{Opened.{OpenedRows, Shows}, Bare.{HasBareRows, with_weights}, Migrated.{migrated_rows, migrated_settings, migrated_opened}}
use Rattle.office_rows.{specs.Office.IsOffice, proofs.Creating.stores}
use Rattle.office_tables.specs.{declared.table_fault.TableFault.TableFault, declared.table_fault.TableFault.TheVariants.{Store, Damaged, Version, Memory}}
use Rattle.office_tables.specs.{Faults.IsOfStore, Order.HasRowsInOrder}
use Rattle.office_loading.specs.{Older.FailsToLoadOlder, Copies.{AreStanding, copied_rows, MakesCopy}, Migration.{IsCopy, IsMigration, StandAlike}}
use Rattle.office_loading.proofs.OlderOffice.{renamed_columns, renamed_all}

module _ {A : Type 0} (table : Table) (values : A → Row) where
  -- records that show the same values are held alike
  held_as : (xs ys : List A) (stored : List Row) → IsPermutation (map values xs) (map values ys) → Holds table values ys stored → Holds table values xs stored
  held_as xs ys stored same held = record { shaped = held.shaped; same = IsPermutation-trans _ _ _ same held.same }

  -- what a query of all columns shows are the records that the tree holds
  shown_as : (shown key : List ℕ) → ((x : A) → columns_at shown (values x) ≡ values x) → (db : Database) (xs ys : List A) → Holds table values xs (db.trees table.tree) → ShowsTable table shown key db (map values ys) → IsPermutation (map values xs) (map values ys)
  shown_as shown key whole db xs ys held it =
      let by = IsPermutation-map (columns_at shown) _ _ (IsPermutation-trans _ _ _ held.same it.same) in
      let mine : map (columns_at shown) (map values xs) ≡ map values xs = map-map (columns_at shown) values xs ∙ (λ i. map (λ x. whole x i) xs) in
      subst (λ l. IsPermutation l (map values ys)) mine (subst (IsPermutation (map (columns_at shown) (map values xs))) (sym it.is) by)

  shown_held : (shown key : List ℕ) → ((x : A) → columns_at shown (values x) ≡ values x) → (db : Database) (xs ys : List A) → Holds table values xs (db.trees table.tree) → ShowsTable table shown key db (map values ys) → (stored : List Row) → Holds table values ys stored → Holds table values xs stored
  shown_held shown key whole db xs ys held it stored new = held_as xs ys stored (shown_as shown key whole db xs ys held it) new

module _ (db : Database) (rows : OpenedRows) (content : SetupContent) (state : TerminalState) (office : IsOffice (migrated_opened rows) content state) (shown : Shows (with_weights db) rows)
    (copied : List Interchange) (standing : AreStanding (db.trees 2) copied) (own : Rows) (has : HasBareRows own db) where
  -- in the order of their rowids
  in_order : map interchange_values copied ≡ map (columns_of interchange_table) (db.trees 2)
  in_order = standing has.rows_are.interchanges.shaped

  rows_copied : (trees : Trees) → AreRows (copied_rows (migrated_opened rows) copied) trees → AreRows (migrated_rows own) trees
  rows_copied trees new =
      let seen = with_weights db in
      let old = has.rows_are in
      let named = shown_as setting_table setting_values (0 ∷ 1 ∷ []) (0 ∷ []) (λ x. refl) seen own.settings rows.settings old.settings shown.settings in
      let settings : IsPermutation (map setting_values (migrated_settings own.settings)) (map setting_values (migrated_settings rows.settings)) =
      subst (λ l. IsPermutation l (map setting_values (migrated_settings rows.settings))) (sym (renamed_all own.settings))
      (subst (IsPermutation (map renamed_columns (map setting_values own.settings))) (sym (renamed_all rows.settings)) (IsPermutation-map renamed_columns _ _ named)) in
      let interchanges : IsPermutation (map interchange_values own.interchanges) (map interchange_values copied) = subst (IsPermutation (map interchange_values own.interchanges)) (sym in_order) old.interchanges.same in
      record {
        partners = shown_held partner_table partner_values (0 ∷ 1 ∷ 2 ∷ 3 ∷ []) (0 ∷ []) (λ x. refl) seen own.partners rows.partners old.partners shown.partners (trees 0) new.partners;
        interchanges = held_as interchange_table interchange_values own.interchanges copied (trees 2) interchanges new.interchanges;
        visits = shown_held visit_table visit_values (0 ∷ 1 ∷ 2 ∷ 3 ∷ 4 ∷ 5 ∷ 6 ∷ 7 ∷ 8 ∷ 9 ∷ 10 ∷ 11 ∷ 12 ∷ 13 ∷ 14 ∷ []) (0 ∷ []) (λ x. refl) seen own.visits rows.visits old.visits shown.visits (trees 4) new.visits;
        places = shown_held place_table place_values (0 ∷ 1 ∷ 2 ∷ []) (0 ∷ []) (λ x. refl) seen own.places rows.places old.places shown.places (trees 5) new.places;
        lines = shown_held listing_table line_values (0 ∷ 1 ∷ 2 ∷ 3 ∷ 4 ∷ 5 ∷ []) (0 ∷ 1 ∷ 2 ∷ 3 ∷ []) (λ x. refl) seen own.lines rows.lines old.lines shown.lines (trees 9) new.lines;
        settings = held_as setting_table setting_values (migrated_settings own.settings) (migrated_settings rows.settings) (trees 11) settings new.settings;
        blocks = shown_held block_table block_values (0 ∷ 1 ∷ 2 ∷ 3 ∷ []) (0 ∷ []) (λ x. refl) seen own.blocks rows.blocks old.blocks shown.blocks (trees 13) new.blocks;
      }

  pub has_migrated : (new : Database) → HasRowsInOrder (copied_rows (migrated_opened rows) copied) new → HasRows (migrated_rows own) new
  has_migrated new h = record { schema = h.has.schema; lists = h.has.lists; rows_are = rows_copied new.trees h.has.rows_are }

  pub stand_alike : (new : Database) → HasRowsInOrder (copied_rows (migrated_opened rows) copied) new → StandAlike (db.trees 2) (new.trees 2)
  stand_alike new h = record { placed = h.in_place.placed; same = sym h.in_place.same ∙ in_order }

-- ---- the transaction

pub made_rows : (tables : OpenedRows) (copied : List Interchange) (old begun last : State) → begun.now ≡ old.committed → Turns (HasEmpty (take 0 office_tables)) (HasRowsInOrder (copied_rows tables copied)) begun last → old.committed.schema ≡ no_schema → HasRowsInOrder (copied_rows tables copied) last.now
made_rows tables copied old begun last same turns none = turns.now (record { schema = ap (λ (d : Database). d.schema) same ∙ none; empty = tt })

-- rows in order, as the trees store them
stored_in_order : (rows : Rows) (db : Database) → HasRowsInOrder rows db → HasRowsInOrder rows (record { schema = office_schema; trees = db.trees })
stored_in_order rows db h = record { has = stores rows db h.has; in_place = h.in_place }

pub copied_whole : (from read : State) (tables : OpenedRows) (old begun last : State) (db : Trees) → HasCleanDisk read → MakesCopy from read tables begun last → begun.now ≡ old.committed → db ≡ last.now.trees → IsCopy from.now tables old.committed db
copied_whole from read tables old begun last db clean copy same is none bare =
    (copy.copied, copy.are clean bare, rw is (stored_in_order (copied_rows tables copy.copied) last.now (made_rows tables copy.copied old begun last same copy.turns none)))

pub migrated_whole : (from before : Database) (rows : OpenedRows) (content : SetupContent) (state : TerminalState) → IsOffice (migrated_opened rows) content state → Shows (with_weights from) rows → (db : Trees) → IsCopy from (migrated_opened rows) before db → IsMigration from before db
migrated_whole from before rows content state office shown db copy none own has =
    let c = copy none has.schema in
    let new : Database = record { schema = office_schema; trees = db } in
    let made = has_migrated from rows content state office shown c.0 c.1 own has new c.2 in
    (made, stand_alike from rows content state office shown c.0 c.1 own has new c.2)

-- ---- faults

-- a fault of the store says nothing of rows
pub of_store_fails : (db : Database) (fault : TableFault) → IsOfStore fault → FailsToLoadOlder db fault
of_store_fails db (Store error) h = h
of_store_fails db Memory h = h
of_store_fails db Damaged h = absurd h
of_store_fails db Version h = absurd h
