-- What loading does to a store that is only looked at.
use Rattle.std.specs.Prelude.{◌≡◌, Result, IfErr, IfOk, IsTrue}
use Rattle.sqlite.specs.{Held.{Held, state}, State.HasCleanDisk}
use Rattle.sqlite_trees.specs.declared.store.Store.{Ghosts}
use Rattle.office_admission.specs.{Given.IsGiven, Setups.setup_content, declared.setup.Setup.Setup}
use Rattle.office_desk.specs.{Offices.FailsToOpen, declared.beside.Beside.Beside}
use Rattle.office_loading.specs.{Closed.ClosedContent, Tables.LoadsOwn}
use Rattle.office_rows.specs.{Rows.Rows, Shown.AreNexts, Stored.HasRows, Tables.office_schema}
use Rattle.office_tables.specs.{Reading.Reads, declared.table_fault.TableFault.TableFault}

-- By what is committed, if the tables are those of an office: beyond what is closed it is its set-up, its terminal and its
-- partners' next numbers, or the fault is the one that they deserve. Nothing is written.
pub record Loads {S : Type 0} (g : Ghosts S) (closed : ClosedContent) (old new : Held S)
    (result : Result (Setup × Beside) TableFault) : Type 0 where
  pub loaded : HasCleanDisk (state g new) → (state g old).committed.schema ≡ office_schema → IfOk result (λ p.
      LoadsOwn closed (state g old).committed (setup_content p.0) p.1.terminal)
  pub nexts : HasCleanDisk (state g new) → IfOk result (λ p. (rows : Rows) → HasRows rows (state g old).committed →
      AreNexts rows p.1.nexts.items)
  pub given : IfOk result (λ p. IsGiven (setup_content p.0))
  pub refused : HasCleanDisk (state g new) → IsTrue (state g new).is_open → (state g old).committed.schema ≡ office_schema →
      IfErr result (FailsToOpen closed (state g old).committed)
  pub reads : Reads (state g old) (state g new) result
