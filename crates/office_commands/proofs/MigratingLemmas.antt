-- A migration between two stores in files.
use Rattle.std.proofs.Common.{◌≡◌, ◌⊎◌, inl, inr, ℕ, List, Result, Ok, Err, OnOk, sym, ap, subst, ◌∙◌, arith}
use Rattle.sqlite_disk.specs.declared.Disk.{Ghosts as DiskGhosts}
use Rattle.sqlite_catalog.specs.Listing.{Lists}
use Rattle.sqlite_trees.specs.Objects.{catalog_tree}
use Rattle.sqlite.specs.{Effect.Database, Files.{HoldsDatabase, file_state, over_files}, Held.Held, Recovery.Image, Schema.Schema, State.{State, HasCleanDisk}}
use Rattle.sqlite.specs.{Tree.Trees, declared.FileStore.FileStore}
use Rattle.terminal_core.specs.declared.change.Version.{Version}
use Rattle.office_replies.specs.Events.{Event}
use Rattle.office_admission.specs.Setups.{SetupContent}
use Rattle.office_rows.{specs.{Bare.HasBareRows, Layouts.bare_schema, Rows.Rows, Migrated.migrated_rows, Stored.{HasRows, StoresRows}}, proofs.Creating.stores}
use Rattle.office_rows.specs.Tables.{interchange_table, no_schema}
use Rattle.office_tables.{specs.declared.table_fault.TableFault.TableFault, proofs.MadeLemmas.clean_first}
use Rattle.office_loading.specs.{History.{HoldsAfter, IsOlderAfter, StoresAfter}, Migration.{IsSettled, StandAlike}}
use Rattle.office_desk.{specs.Crashes.IsAfter, proofs.HoldLemmas.committed_leaves}
use Rattle.office_commands.specs.Migrating.{CommitsOver, GoesOnFrom, HoldsBare, HoldsOlder, IsJudged, IsMigratedOver, MigratesBetween, TakesOver}
use Rattle.office_commands.specs.{Opening.{HoldsNoTables, ShowsHeld}, Reporting.office_database}

-- what follows of two facts of a result
ok_both : {X E : Type 0} {P Q R : Type 0} (r : Result X E) → (P → Q → R) → OnOk r P → OnOk r Q → OnOk r R
ok_both (Ok x) f p q = f p q
ok_both (Err e) f p q = p

module _ {D : Type 0} {g : DiskGhosts D} (image : Image) (conn : Held (FileStore D g)) (is : IsJudged image conn) (clean : HasCleanDisk (file_state conn)) where
  -- what the files hold is what the connection sees
  sees : (db : Trees) (schema : Schema) → ∥ HoldsDatabase image db ∥₁ → Lists (db catalog_tree) schema → (file_state conn).now ≡ record { schema = schema; trees = db }
  sees db schema held lists =
      (is.looked.reads.unchanged clean).0.now_is ∙ is.looked.settled clean ∙ is.shows (clean_first is.looked.reads clean) db schema held lists

  sees_bare : (rows : Rows) → HoldsBare image rows → HasBareRows rows (file_state conn).now
  sees_bare rows held = subst (λ (db : Database). HasBareRows rows db) (sym (sees held.db bare_schema held.held held.has.lists)) held.has

  -- and so are its trees
  sees_trees : (rows : Rows) (held : HoldsBare image rows) → (file_state conn).now.trees ≡ held.db
  sees_trees rows held = ap (λ (d : Database). d.trees) (sees held.db bare_schema held.held held.has.lists)

  sees_older : (version : Version) (content : SetupContent) (es : List Event) → HoldsOlder image version content es → IsOlderAfter version content es (file_state conn).now
  sees_older version content es held =
      subst (λ (db : Database). IsOlderAfter version content es db) (sym (sees held.db bare_schema held.held held.after.has.lists)) held.after

-- a store that was made, and is settled
goes_on_from : (content : SetupContent) (es : List Event) (s : State) → IsSettled s → HoldsAfter content es s.committed → GoesOnFrom content es s
goes_on_from content es s stays holds =
    (holds, committed_leaves content es s holds.rows stays.alone holds.has holds.after)

-- the rows of a store that was made, and is settled
commits_over : (rows : Rows) (older : Trees) (s : State) → IsSettled s → HasRows (migrated_rows rows) s.committed → StandAlike (older interchange_table.tree) (s.committed.trees interchange_table.tree) → CommitsOver rows older s
commits_over rows older s stays has order = record {
  committed = record { has = has; in_order = order };
  alone = λ db left.
      let same : s.committed.trees ≡ db = sym (stays.alone db left) in
      record {
        has = subst (λ (trees : Trees). StoresRows (migrated_rows rows) trees) same (stores (migrated_rows rows) s.committed has);
        in_order = subst (λ (trees : Trees). StandAlike (older interchange_table.tree) (trees interchange_table.tree)) same order;
      };
}

-- the rows that a crash leaves
whole_by : (rows : Rows) (older seen : Trees) (Before : Type 0) (db : Trees) → seen ≡ older → Before ⊎ (StoresRows (migrated_rows rows) db × StandAlike (seen interchange_table.tree) (db interchange_table.tree)) → Before ⊎ TakesOver rows older (office_database db)
whole_by rows older seen Before db same (inl before) = inl before
whole_by rows older seen Before db same (inr made) =
    inr (record { has = made.0; in_order = subst (λ (trees : Trees). StandAlike (trees interchange_table.tree) (db interchange_table.tree)) same made.1 })

-- what a crash leaves
left_by : (content : SetupContent) (es : List Event) (Before : Type 0) (db : Trees) → Before ⊎ StoresAfter content es db → Before ⊎ IsAfter content es db
left_by content es Before db (inl before) = inl before
left_by content es Before db (inr made) = inr (record { rows = made.rows; are = made.has; after = made.after })

either_on : {Before Made Whole : Type 0} → Before ⊎ Made → (Made → Whole) → Before ⊎ Whole
either_on (inl before) on = inl before
either_on (inr made) on = inr (on made)

-- what is said of two connections, of the files behind them
pub migrated_over : {D E : Type 0} {g : DiskGhosts D} {h : DiskGhosts E} (old_image new_image : Image) (judged : Held (FileStore D g)) (found : Held (FileStore E h)) (outcome : Result ℕ TableFault) (older : Held (FileStore D g)) (newer : Held (FileStore E h))
    → IsJudged old_image judged → (HasCleanDisk (file_state found) → ShowsHeld new_image found) → (HasCleanDisk (file_state found) → HoldsNoTables new_image → (file_state found).committed.schema ≡ no_schema)
    → MigratesBetween over_files over_files judged found outcome older newer → IsMigratedOver old_image new_image outcome older newer
migrated_over old_image new_image judged found outcome older newer is shows empty does =
    let was = λ (clean : HasCleanDisk (file_state older)). (clean_first does.reads clean) in
    let found_clean : HasCleanDisk (file_state older) → HasCleanDisk (file_state newer) → HasCleanDisk (file_state found) = λ clean new_clean. omega (arith, (does.crash clean).clean, new_clean) in
    record {
      judged = judged;
      is_judged = is;
      reads = does.reads;
      found = found;
      shows = shows;
      undone = does.undone;
      refused = λ clean version content es held. does.no_damage clean version content es (sees_older old_image judged is (was clean) version content es held);
      rows = λ clean new_clean none rows held.
          let has = sees_bare old_image judged is (was clean) rows held in
          let made = does.ok new_clean clean has.schema in
          let seen = sees_trees old_image judged is (was clean) rows held in
          let new = empty (found_clean clean new_clean) none in
          ok_both outcome (λ made _.
          commits_over rows held.db (file_state newer) made.stays (made.rows new rows has)
          (subst (λ (trees : Trees). StandAlike (trees interchange_table.tree) ((file_state newer).committed.trees interchange_table.tree)) seen (made.in_order new rows has)))
          made made;
      whole = λ clean new_clean none rows held db left.
          let has = sees_bare old_image judged is (was clean) rows held in
          let seen = sees_trees old_image judged is (was clean) rows held in
          whole_by rows held.db (file_state judged).now.trees _ db seen
          (either_on ((does.crash clean).crash new_clean db left) (λ made. made (empty (found_clean clean new_clean) none) rows has));
      goes_on = λ clean new_clean none version content es held.
          let it = sees_older old_image judged is (was clean) version content es held in
          ok_both outcome (λ made holds. goes_on_from content _ (file_state newer) made.stays holds) (does.ok new_clean clean it.has.schema)
          (does.goes_on new_clean clean (empty (found_clean clean new_clean) none) version content es it);
      crash = λ clean new_clean none version content es held db left.
          let it = sees_older old_image judged is (was clean) version content es held in
          left_by content _ _ db ((does.stops clean (empty (found_clean clean new_clean) none) version content es it).crash new_clean db left);
    }
