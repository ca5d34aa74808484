-- What a report leaves: it only looks.
use Rattle.std.specs.Prelude.{◌≡◌, ◌⊎◌, ℕ, List, [], Option, Some}
use Rattle.sqlite.specs.{Held.state, Recovery.Image}
use Rattle.sqlite_trees.specs.declared.store.Store.{Ghosts}
use Rattle.office_replies.specs.Events.{Event}
use Rattle.office_reports.specs.{Keys.{query_content, query_of}, declared.query.Query.Query, declared.query.ReportKind.ReportKind, declared.query.View.View}
use Rattle.office_tables.specs.{Faults.IsOfStore, declared.table_fault.TableFault.TableFault}
use Rattle.office_admission.specs.Setups.{SetupContent}
use Rattle.office_desk.specs.{Calls.OnlyLooks, Desks.IsSound, declared.desk.Desk.Desk}
use Rattle.office_parts.specs.Archives.{Archive}
use Rattle.office_archives.specs.{Causes.{IsDeserved, IsDeservedHere}, Together.{OnlyLooksTogether, TellsBeside}}
use Rattle.office_commands.specs.{Beside.IsAlone, Delivering.LeavesAlike, Opening.BeginsAt, Reporting.{TellsHeld, TellsKey}}

-- It only looked at a desk of which nothing was put away. If the desk is sound in the end, then from whatever events the files
-- held the rows, a crash leaves these.
pub record LooksAlone {S : Type 0} (g : Ghosts S) (image : Image) (opened desk : Desk S g) : Type 0 where
  pub looked : OnlyLooks g opened desk
  pub leaves : IsSound g desk → (content : SetupContent) (es : List Event) → BeginsAt image content es →
      LeavesAlike content es [] [] (state g desk.conn)

-- A store that was opened on those files and its archives were only looked at.
pub record LooksOver {S A : Type 0} (g : Ghosts S) (are : List Archive → A → Type 0) (image : Image)
    (opened office : Desk S g × A) : Type 0 where
  pub looks : OnlyLooksTogether g are opened.0 opened.1 office.0 office.1
  pub alone : IsAlone are image opened → LooksAlone g image opened.0 office.0

-- A report was asked for under a key. From whatever events after which store and archives stood together, what was found is
-- what is reported after them; and if nothing was put away, what the files' rows tell.
pub record IsReportedOver {S A : Type 0} (g : Ghosts S) (is_sound : A → Type 0) (are : List Archive → A → Type 0)
    (image : Image) (opened office : Desk S g × A) (kind : ReportKind) (view : View) (key : List ℕ)
    (found : Option (List ℕ)) : Type 0 where
  pub tells : IsSound g office.0 → is_sound office.1 → TellsKey (TellsBeside g are opened.0 opened.1) kind view key found
  pub alone : IsAlone are image opened → IsSound g office.0 → TellsHeld image kind view key found

-- A report under a key can't be reported. The store failed, or memory was refused; or that is deserved of the query that the key
-- asks for, if the store's own rows report it; and of any, if there are no archives.
abbrev pub FailsUnder : {S A : Type 0} (g : Ghosts S) (are : List Archive → A → Type 0) → Desk S g × A → ReportKind → View →
    (key : List ℕ) → TableFault → Type 0
FailsUnder g are opened kind view key fault =
    IsOfStore fault
    ⊎ ((query : Query) × (query_of kind view key ≡ Some (query_content query)) × IsDeservedHere g opened.0 query.about fault
    × (are [] opened.1 → IsDeserved g opened.0 query.about fault))
