-- A desk over the rows of an office, whether or not events led to them.
use Rattle.std.specs.Prelude.{◌≡◌, ◌⊎◌, Err, Option, Some}
use Rattle.sqlite.specs.{Effect.Database, Held.{Held, state}, State.{State, HasCleanDisk, IsUnchanged}}
use Rattle.sqlite_trees.specs.declared.store.Store.{Ghosts}
use Rattle.terminal_core.specs.State.{TerminalState}
use Rattle.office_loading.specs.{Closed.{ClosedContent, closed_content}, Tables.{FailsToLoadOwn, LoadsOwn}}
use Rattle.office_rows.specs.{Rows.Rows, Stored.HasRows, Tables.office_schema}
use Rattle.office_admission.specs.Setups.{SetupContent, setup_content}
use Rattle.office_tables.specs.{Faults.IsOfStore, Reading.Reads, declared.table_fault.TableFault.TableFault}
use Rattle.office_desk.specs.{Beside.IsOrNone, declared.beside.Beside.Beside, declared.desk.Desk.Desk}

-- the database has these rows, which show the office of a store of which that is closed, with that set-up and that
-- terminal; what stands beside them is this terminal and the rows' numbers, or there is none
pub record HoldsOffice (closed : ClosedContent) (content : SetupContent) (rows : Rows) (terminal : TerminalState)
    (db : Database) (there : Option Beside) : Type 0 where
  pub has : HasRows rows db
  pub loads : LoadsOwn closed db content terminal
  pub beside : IsOrNone rows terminal there

-- the desk is over these rows, which are its office's, with that terminal
abbrev pub DeskHolds : {S : Type 0} (g : Ghosts S) → Desk S g → Rows → TerminalState → Type 0
DeskHolds g desk rows terminal =
    HoldsOffice (closed_content desk.closed) (setup_content desk.setup) rows terminal (state g desk.conn).committed
    desk.beside

-- a desk that was opened on a store: its set-up and what stands beside it are those that the store's tables show, so it
-- holds whatever rows they have; and opening changed nothing
pub record OpensOffice {S : Type 0} (g : Ghosts S) (found : State) (desk : Desk S g) : Type 0 where
  pub there : Beside
  pub beside : desk.beside ≡ Some there
  pub loads : LoadsOwn (closed_content desk.closed) found.committed (setup_content desk.setup) there.terminal
  pub holds : (rows : Rows) → HasRows rows found.committed → DeskHolds g desk rows there.terminal
  pub unchanged : IsUnchanged found (state g desk.conn)

-- why no desk is opened: the fault is the one that the tables deserve, if they show no office; if they show one, the
-- store failed, or memory was refused
abbrev pub FailsToOpen : ClosedContent → Database → TableFault → Type 0
FailsToOpen closed db fault =
    FailsToLoadOwn closed db fault
    ⊎ ((content : SetupContent) × (terminal : TerminalState) × LoadsOwn closed db content terminal × IsOfStore fault)

-- no desk is opened: the connection was only read until it was given up, as it was last; and the fault is the one that
-- the tables deserve
pub record RefusesToOpen {S : Type 0} (g : Ghosts S) (closed : ClosedContent) (found : State) (fault : TableFault)
    : Type 0 where
  pub last : Held S
  pub reads : Reads {T = Unit {0}} found (state g last) (Err fault)
  pub deserved : HasCleanDisk (state g last) → found.now.schema ≡ office_schema →
      FailsToOpen closed found.now fault
