-- What taking a delivery in does to the tables, and to what stands beside them.
use Rattle.std.specs.Prelude.{◌≡◌, ◌⊎◌, ℕ, ◌≤◌, List, [], ◌∷◌, ◌++◌, Option, None, Result, Ok, Err, IfErr, IfOk, IsTrue, OnErr}
use Rattle.sqlite.specs.{Effect.Database, State.{State, HasCleanDisk}, Tree.Trees}
use Rattle.edi_syntax.specs.Numbers.{last_number}
use Rattle.partner_core.specs.Deliveries.{Delivery}
use Rattle.office_replies.specs.{Events.{Event, delivered}, declared.deliver.Response.Response}
use Rattle.office_loading.specs.Closed.{ClosedContent}
use Rattle.office_rows.specs.{Rows.Rows, Stored.HasRows}
use Rattle.office_admission.specs.{Setups.SetupContent, declared.setup.Setup.Setup, Outcomes.IsAdmitted, Taking.machine_of}
use Rattle.office_tables.specs.{Faults.IsOfStoreOr, declared.table_fault.TableFault.TableFault, DeliveryReading.HasUnfitBehind, Taking.IsNumbered}
use Rattle.office_desk.specs.{Crashes.{Leaves, LeavesEither}, Finding.KeepsBeside, Kept.{AnswersOrStays, Office}, Leaving.{LeavesRows, LeavesTakenOver}}
use Rattle.office_desk.specs.{Offices.HoldsOffice, Telling.{Answers, Comes, Holds, IsRunDone, TakesNext}, declared.beside.Beside.Beside}
use Rattle.office_desk.specs.declared.taking.Delivery.{Delivery as Delivered}

-- ---- what comes

-- the set-up admits it, under a number that there is
pub record IsDelivered (setup : Setup) (d : Delivered) : Type 0 where
  pub from_one : 1 ≤ d.number
  pub number : d.number ≤ last_number
  pub admitted : IsAdmitted setup d.text.now d.admitted

-- no change is under way, and the rows that this stands beside keep nothing under its number
pub record IsNew (closed : ClosedContent) (d : Delivery) (there : Beside) (s : State) : Type 0 where
  pub settled : s.now ≡ s.committed
  pub free : KeepsBeside closed d.partner d.number s.committed there None

-- no change is under way, these are the rows, and they have only numbers of interchanges
pub record HasNumbered (rows : Rows) (partner : ℕ) (s : State) : Type 0 where
  pub settled : s.now ≡ s.committed
  pub has : HasRows rows s.now
  pub numbered : IsNumbered partner rows

-- ---- the next one

-- It is taken with those that become next by it, and their rows are committed; or nothing is. A crash leaves what it left
-- before, or the rows after this run. It fails only by the store or the memory, or by a reply after it that is no text.
pub record TakesRun (d : Delivery) (code : List ℕ) (setup : Setup) (there : Beside) (old : State)
    (result : Result (Response × Beside) TableFault) (new : State) : Type 0 where
  pub ok : IfOk result (λ taken. (rows : Rows) → HasNumbered rows d.partner old →
      TakesNext rows d code setup there taken.0 taken.1 new)
  pub err : IsTrue new.is_open → OnErr result (new.committed ≡ old.committed)
  pub crash : OnErr result ((rows : Rows) → HasNumbered rows d.partner old → (db : Trees) → new.may_leave db →
      old.may_leave db ⊎ IsRunDone rows d (machine_of setup there.terminal) db)
  pub fault : IfErr result (λ fault. (rows : Rows) → HasRows rows old.now →
      IsOfStoreOr (HasUnfitBehind d.partner d.number rows) fault)

-- ---- any one

-- if it comes after those events it is answered at its place; or the call failed, and what was held is held
abbrev pub AnswersOrHolds : SetupContent → List Event → Delivery → List ℕ → Result Response TableFault →
    (now : SetupContent) → Database → (there : Option Beside) → Type 0
AnswersOrHolds content es d code (Ok response) now db there =
    (sent : List ℕ) → Comes content es sent d → Answers content es sent d code response now db there
AnswersOrHolds content es d code (Err fault) now db there = Holds content es now db there

-- a crash leaves the rows after what is answered; after a call that failed, these or those before
abbrev pub LeavesTaken : SetupContent → List Event → (sent : List ℕ) → Result Response TableFault → State → Type 0
LeavesTaken content es sent (Ok response) s = Leaves content (es ++ delivered sent ∷ []) s
LeavesTaken content es sent (Err fault) s = LeavesEither content es sent s

-- The partner with a code gets an answer to its delivery, from a desk of that set-up, or the call fails. From whatever
-- events: its answer, and what is held; what a crash leaves. Over any office's rows: by what is kept, and what a crash leaves.
pub record TakesDelivery (closed : ClosedContent) (now : SetupContent) (d : Delivery) (code : List ℕ) (old : State)
    (before : Option Beside) (result : Result Response TableFault) (new : State) (after : Option Beside) : Type 0 where
  pub events : HasCleanDisk new → IsTrue new.is_open → (content : SetupContent) (es : List Event) →
      Holds content es now old.committed before → AnswersOrHolds content es d code result now new.committed after
  pub crash : HasCleanDisk new → IsTrue old.is_open → (content : SetupContent) (es : List Event) (sent : List ℕ) →
      Holds content es now old.committed before → Leaves content es old → Comes content es sent d →
      LeavesTaken content es sent result new
  pub office : HasCleanDisk new → IsTrue new.is_open → (office : Office) →
      HoldsOffice closed now office.rows office.terminal old.committed before →
      AnswersOrStays closed now d code office result new.committed after
  pub office_crash : HasCleanDisk new → IsTrue old.is_open → (office : Office) →
      HoldsOffice closed now office.rows office.terminal old.committed before → LeavesRows office.rows old →
      LeavesTakenOver now d office result new
