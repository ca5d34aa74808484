-- What a crash leaves of an office, whether or not events led to its rows.
use Rattle.std.specs.Prelude.{◌⊎◌, ℕ, List, Result, Ok, Err}
use Rattle.sqlite.specs.{State.State, Tree.Trees}
use Rattle.partner_core.specs.{Answers.AnswerModel, Deliveries.{Delivery, delivery}}
use Rattle.office_replies.specs.{declared.deliver.Fault.Fault, declared.deliver.Response.Response}
use Rattle.office_rows.specs.{Rows.Rows, Stored.StoresRows}
use Rattle.office_admission.specs.Setups.{SetupContent}
use Rattle.office_tables.specs.{Answers.IsNextOf, declared.table_fault.TableFault.TableFault}
use Rattle.office_desk.specs.Kept.{Office, TakesIn, standing_in}
use Rattle.office_replies.specs.declared.deliver.Response.TheVariants as response

-- a crash leaves only these rows
abbrev pub LeavesRows : Rows → State → Type 0
LeavesRows rows s = (db : Trees) → s.may_leave db → StoresRows rows db

-- a store holds the rows that taking the delivery in makes of the office
pub record IsTakenInto (content : SetupContent) (d : Delivery) (old : Office) (db : Trees) : Type 0 where
  pub next : ℕ
  pub is_next : IsNextOf d.partner old.rows next
  pub told : AnswerModel
  pub new : Office
  pub takes : TakesIn (standing_in old d next) content d next told old new
  pub are : StoresRows new.rows db

-- a crash leaves only these
abbrev pub LeavesIt : SetupContent → Delivery → Office → State → Type 0
LeavesIt content d old s = (db : Trees) → s.may_leave db → IsTakenInto content d old db

-- a crash leaves these, or the rows before it
abbrev pub LeavesItOrNot : SetupContent → Delivery → Office → State → Type 0
LeavesItOrNot content d old s = (db : Trees) → s.may_leave db → StoresRows old.rows db ⊎ IsTakenInto content d old db

-- a crash leaves the rows after what is taken in; after a call that failed these, or those before
abbrev pub LeavesTakenOver : SetupContent → Delivery → Office → Result Response TableFault → State → Type 0
LeavesTakenOver content d old (Ok response) s = LeavesIt content d old s
LeavesTakenOver content d old (Err fault) s = LeavesItOrNot content d old s

-- a refused text changes no rows; one that is admitted is there, and perhaps not where it is answered NotNow
abbrev pub LeavesOver : SetupContent → Result (ℕ × ℕ) Fault → List ℕ → Office → Response → State → Type 0
LeavesOver content (Err fault) text old given s = LeavesRows old.rows s
LeavesOver content (Ok place) text old response.NotNow s = LeavesItOrNot content (delivery place.0 place.1 text) old s
LeavesOver content (Ok place) text old given s = LeavesIt content (delivery place.0 place.1 text) old s
