-- What is printed of texts, and the rows that stay, by what the files held.
use Rattle.std.proofs.{Common.{◌≡◌, inl, inr, ℕ, List, Result, Ok, Err, IfOk, IfErr, IsTrue, sym, subst, ◌∙◌}, lemmas.Result.IfOk-weaker}
use Rattle.sqlite.specs.{Effect.Database, Held.{Held, state}, Order.Row, Recovery.Image, State.{State, HasCleanDisk}, Tree.Trees}
use Rattle.office_rows.specs.{Rows.Rows, Stored.HasRows, Tables.interchange_table}
use Rattle.office_tables.{specs.{Faults.IsOfStore, Reading.Reads, declared.table_fault.TableFault.TableFault}, proofs.MadeLemmas.clean_first}
use Rattle.sqlite_trees.specs.declared.store.Store.{Ghosts}
use Rattle.office_replies.specs.Events.{Event}
use Rattle.office_admission.specs.Setups.{SetupContent}
use Rattle.office_desk.specs.{Desks.{IsSound, OpensAt}, declared.desk.Desk.Desk}
use Rattle.office_commands.specs.{Beside.OpensOn, Opening.{BeginsAt, HoldsTables}, Printing.{HoldsRows, IsSoundStore, PrintsAlone}, Reporting.office_database}

-- what holds of the rows that a store has committed
abbrev pub ByRows : State → (List Row → Type 0) → Type 0
ByRows s Holds = (rows : Rows) → HasRows rows s.committed → Holds (s.committed.trees interchange_table.tree)

-- No change was under way, so what holds of the rows that are shown holds of those that are committed.
module _ (old new : State) (settled : IsTrue old.is_open → old.now ≡ old.committed) where
  pub committed_ok : (Holds : List Row → ℕ → Type 0) (outcome : Result ℕ TableFault) → Reads old new outcome → HasCleanDisk new
      → IfOk outcome (λ status. (rows : Rows) → HasRows rows old.now → Holds (old.now.trees interchange_table.tree) status)
      → IfOk outcome (λ status. ByRows old (λ stored. Holds stored status))
  committed_ok Holds (Ok status) reads clean told = λ rows has.
      let same = settled (reads.unchanged clean).0.was_open in
      subst (λ (db : Database). Holds (db.trees interchange_table.tree) status) same (told rows (subst (HasRows rows) (sym same) has))
  committed_ok Holds (Err fault) reads clean told = tt

  pub committed_err : (Holds : TableFault → Type 0) (outcome : Result ℕ TableFault) → Reads old new outcome → HasCleanDisk new → IsTrue new.is_open
      → IfErr outcome (λ fault. (rows : Rows) → HasRows rows old.now → Holds fault)
      → IfErr outcome (λ fault. (rows : Rows) → HasRows rows old.committed → Holds fault)
  committed_err Holds (Ok status) reads clean is_open told = tt
  committed_err Holds (Err fault) reads clean is_open told = λ rows has.
      let same = settled ((reads.keeps clean).was_open is_open) in
      told rows (subst (HasRows rows) (sym same) has)

module _ {S : Type 0} (g : Ghosts S) (image : Image) (opened : Desk S g) (conn : Held S) (opens : OpensOn g image opened) where
  -- what is committed is what the files held
  shows : IsSound g opened → (db : Trees) → HoldsTables image db → (state g opened.conn).committed ≡ office_database db
  shows sound db held = let over = opens.office sound db held in over.office.unchanged.0.committed_is ∙ over.shows

  tables_of : (rows : Rows) (held : HoldsRows image rows) → HoldsTables image held.db
  tables_of rows held = record { held = held.held; lists = held.has.lists }

  -- what holds of the rows that are committed holds of those in the files
  of_files : IsSound g opened → (rows : Rows) (held : HoldsRows image rows) (Holds : List Row → Type 0) → ByRows (state g opened.conn) Holds → Holds (held.db interchange_table.tree)
  of_files sound rows held Holds told =
      let same = shows sound held.db (tables_of rows held) in
      subst (λ (db : Database). Holds (db.trees interchange_table.tree)) same (told rows (subst (HasRows rows) (sym same) held.has))

  -- ---- by how it came out

  printed_by : (prints : List Row → ℕ → Type 0) (outcome : Result ℕ TableFault) → Reads (state g opened.conn) (state g conn) outcome
      → (HasCleanDisk (state g conn) → IfOk outcome (λ status. ByRows (state g opened.conn) (λ stored. prints stored status)))
      → HasCleanDisk (state g conn) → (rows : Rows) (held : HoldsRows image rows) → IfOk outcome (prints (held.db interchange_table.tree))
  printed_by prints (Ok status) reads told clean rows held =
      of_files (clean_first reads clean, (reads.unchanged clean).0.was_open) rows held (λ stored. prints stored status) (told clean)
  printed_by prints (Err fault) reads told clean rows held = tt

  -- a store that is sound in the end was so when it was opened
  was_sound : (outcome : Result ℕ TableFault) → Reads (state g opened.conn) (state g conn) outcome → IsSoundStore g conn → IsSound g opened
  was_sound outcome reads sound = (clean_first reads sound.0, (reads.keeps sound.0).was_open sound.1)

  fault_by : (outcome : Result ℕ TableFault) → Reads (state g opened.conn) (state g conn) outcome
      → (IsSoundStore g conn → IfErr outcome (λ fault. ByRows (state g opened.conn) (λ stored. IsOfStore fault)))
      → IsSoundStore g conn → (rows : Rows) → HoldsRows image rows → IfErr outcome IsOfStore
  fault_by (Ok status) reads told sound rows held = tt
  fault_by (Err fault) reads told sound rows held =
      of_files (was_sound (Err fault) reads sound) rows held (λ stored. IsOfStore fault) (told sound)

  pub printed_alone : (by_rows : List Row → ℕ → Type 0) (prints : Trees → ℕ → Type 0) → ((db : Trees) (status : ℕ) → by_rows (db interchange_table.tree) status → prints db status) → (outcome : Result ℕ TableFault) → Reads (state g opened.conn) (state g conn) outcome
      → (HasCleanDisk (state g conn) → IfOk outcome (λ status. ByRows (state g opened.conn) (λ stored. by_rows stored status)))
      → (IsSoundStore g conn → IfErr outcome (λ fault. ByRows (state g opened.conn) (λ stored. IsOfStore fault)))
      → (IsSound g opened → (content : SetupContent) (es : List Event) → BeginsAt image content es → OpensAt g content es opened) → PrintsAlone g image prints opened outcome conn
  printed_alone by_rows prints also outcome reads told faults begins_at = record {
    reads = reads;
    printed = λ clean rows held. IfOk-weaker outcome _ _ (also held.db) (printed_by by_rows outcome reads told clean rows held);
    fault = fault_by outcome reads faults;
    stays = λ sound db held. (reads.keeps sound.0).committed sound.1 ∙ shows (was_sound outcome reads sound) db held;
    leaves = λ sound content es begins.
        let at = begins_at (was_sound outcome reads sound) content es begins in
        record {
          opening = at.opening;
          says = at.opening_says;
          holds = λ db left. at.leaves db (elim (reads.survives.crash sound.0 db left) [
            | inl before ↦ before
            | inr none ↦ absurd none
          ]);
        };
  }
