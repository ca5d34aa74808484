-- Interchanges that stand in the order of arrival: what a call makes of them, and what a crash leaves.
use Rattle.std.specs.Prelude.{◌⊎◌, ℕ, List, [], ◌∷◌, ◌++◌, Result, Ok, Err, OnErr, OnOk, Option, IsTrue}
use Rattle.sqlite.specs.{Effect.Database, Held.state, State.{State, HasCleanDisk}, Tree.Trees}
use Rattle.sqlite_trees.specs.declared.store.Store.{Ghosts}
use Rattle.partner_core.specs.Deliveries.{Delivery}
use Rattle.office_replies.specs.{Adding.with_added, Delivering.with_answered, Events.{Event, delivered, added}, declared.accounts.AccountAnswer.AccountAnswer}
use Rattle.office_replies.specs.declared.deliver.Response.{Response}
use Rattle.office_rows.specs.{Rows.Rows, Tables.office_schema}
use Rattle.office_admission.specs.{Setups.SetupContent, declared.setup.Setup.Setup, Taking.{MachineState, machine_of}}
use Rattle.office_tables.specs.{Order.HasRowsInOrder, declared.table_fault.TableFault.TableFault}
use Rattle.office_history.specs.Cascade.{TakenContent, AreTakenFrom, texts_with, with_run}
use Rattle.office_parts.specs.InOrder.{AreAfterInOrder}
use Rattle.office_desk.specs.{Desks.{IsSound, StandsFor}, Taking.HasNumbered, Telling.{Comes, Holds}, declared.beside.Beside.Beside, declared.desk.Desk.Desk}
use Rattle.office_replies.specs.declared.accounts.AccountAnswer.TheVariants as account
use Rattle.office_replies.specs.declared.deliver.Response.TheVariants as response

-- the database has the rows after those events, the interchanges in the order of arrival, under the rowids 1, 2, 3 and so
-- on
pub record IsInOrder (content : SetupContent) (es : List Event) (db : Database) : Type 0 where
  pub rows : Rows
  pub has : HasRowsInOrder rows db
  pub after : AreAfterInOrder content es rows

-- an office's database with these trees
abbrev pub stored : Trees → Database
stored trees = record { schema = office_schema; trees = trees }

-- the trees are those of such a database
abbrev pub IsStoredInOrder : SetupContent → List Event → Trees → Type 0
IsStoredInOrder content es db = IsInOrder content es (stored db)

-- a crash leaves only such rows
abbrev pub LeavesInOrder : SetupContent → List Event → State → Type 0
LeavesInOrder content es s = (db : Trees) → s.may_leave db → IsStoredInOrder content es db

-- a crash leaves those, or those after one event more
abbrev pub LeavesEitherInOrder : SetupContent → List Event → Event → State → Type 0
LeavesEitherInOrder content es event s =
    (db : Trees) → s.may_leave db → IsStoredInOrder content es db ⊎ IsStoredInOrder content (es ++ event ∷ []) db

-- ---- a call to a desk

-- for that opening set-up, after those events, it is this desk, and its interchanges stand in the order of arrival
pub record StandsInOrder {S : Type 0} (g : Ghosts S) (content : SetupContent) (es : List Event) (desk : Desk S g)
    : Type 0 where
  pub stands : StandsFor g content es desk
  pub in_order : IsInOrder content es (state g desk.conn).committed

-- after an answer the rows with this delivery are in order; after NotNow those, or the old ones
abbrev pub LeavesBehindInOrder : SetupContent → List Event → List ℕ → Response → State → Type 0
LeavesBehindInOrder content es sent response.NotNow s = LeavesEitherInOrder content es (delivered sent) s
LeavesBehindInOrder content es sent given s = LeavesInOrder content (es ++ delivered sent ∷ []) s

-- after an account that is added the rows with it are in order; after NotNow those, or the old ones; else the old ones
abbrev pub LeavesAddedInOrder : SetupContent → List Event → List ℕ → List ℕ → AccountAnswer → State → Type 0
LeavesAddedInOrder content es code kind (account.Added id body) s = LeavesInOrder content (es ++ added code kind ∷ []) s
LeavesAddedInOrder content es code kind account.NotNow s = LeavesEitherInOrder content es (added code kind) s
LeavesAddedInOrder content es code kind answer s = LeavesInOrder content es s

-- A text was delivered. If the interchanges stood in the order of arrival, they do with this delivery; as before, if it is
-- answered NotNow. A crash leaves none out of order.
pub record DeliversInOrder {S : Type 0} (g : Ghosts S) (old : Desk S g) (sent : List ℕ) (response : Response)
    (new : Desk S g) : Type 0 where
  pub rows : IsSound g new → (content : SetupContent) (es : List Event) → StandsInOrder g content es old →
      IsInOrder content (with_answered es sent response) (state g new.conn).committed
  pub crash : IsSound g old → HasCleanDisk (state g new.conn) → (content : SetupContent) (es : List Event) →
      StandsInOrder g content es old → LeavesBehindInOrder content es sent response (state g new.conn)

-- The same of an account that was asked for: it moves no interchange.
pub record AddsInOrder {S : Type 0} (g : Ghosts S) (old : Desk S g) (code kind : List ℕ) (answer : AccountAnswer)
    (new : Desk S g) : Type 0 where
  pub rows : IsSound g new → (content : SetupContent) (es : List Event) → StandsInOrder g content es old →
      IsInOrder content (with_added es code kind answer) (state g new.conn).committed
  pub crash : IsSound g old → HasCleanDisk (state g new.conn) → (content : SetupContent) (es : List Event) →
      StandsInOrder g content es old → LeavesAddedInOrder content es code kind answer (state g new.conn)

-- ---- taking in

-- the text was taken, and those that became next by it: a database holds the rows after them, in order
pub record IsRunInOrder (rows : Rows) (d : Delivery) (old : MachineState) (db : Database) : Type 0 where
  pub taken : List TakenContent
  pub new : MachineState
  pub are_taken : AreTakenFrom d.partner (texts_with rows d.partner d.number d.text) d.number old taken new
  pub has : HasRowsInOrder (with_run d.partner d.number d.text taken rows) db

-- From rows in order: the rows after the run are committed in order. Where it failed a crash leaves what it left before,
-- or these.
pub record RunsInOrder (d : Delivery) (setup : Setup) (there : Beside) (old : State)
    (result : Result (Response × Beside) TableFault) (new : State) : Type 0 where
  pub ok : OnOk result ((rows : Rows) → HasNumbered rows d.partner old → HasRowsInOrder rows old.committed →
      IsRunInOrder rows d (machine_of setup there.terminal) new.committed)
  pub crash : OnErr result ((rows : Rows) → HasNumbered rows d.partner old → HasRowsInOrder rows old.committed →
      (db : Trees) → new.may_leave db →
      old.may_leave db ⊎ IsRunInOrder rows d (machine_of setup there.terminal) (stored db))

-- the events after a delivery: one that failed is none
abbrev pub with_taken : List Event → (sent : List ℕ) → Result Response TableFault → List Event
with_taken es sent (Ok response) = es ++ delivered sent ∷ []
with_taken es sent (Err fault) = es

-- a crash leaves the rows after what is answered, in order; after a call that failed, these or those before
abbrev pub LeavesTakenInOrder : SetupContent → List Event → (sent : List ℕ) → Result Response TableFault → State → Type 0
LeavesTakenInOrder content es sent (Ok response) s = LeavesInOrder content (es ++ delivered sent ∷ []) s
LeavesTakenInOrder content es sent (Err fault) s = LeavesEitherInOrder content es (delivered sent) s

-- A delivery comes after those events, whose rows are held in order. So are those after it; or those before, if the call
-- failed. A crash leaves none out of order.
pub record TakesInOrder (now : SetupContent) (d : Delivery) (old : State) (before : Option Beside)
    (result : Result Response TableFault) (new : State) : Type 0 where
  pub rows : HasCleanDisk new → IsTrue new.is_open → (content : SetupContent) (es : List Event) (sent : List ℕ) →
      Holds content es now old.committed before → IsInOrder content es old.committed → Comes content es sent d →
      IsInOrder content (with_taken es sent result) new.committed
  pub crash : HasCleanDisk new → IsTrue old.is_open → (content : SetupContent) (es : List Event) (sent : List ℕ) →
      Holds content es now old.committed before → IsInOrder content es old.committed → LeavesInOrder content es old →
      Comes content es sent d → LeavesTakenInOrder content es sent result new
