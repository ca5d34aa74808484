-- Lists that are away: what is found of one, and what its lines report.
use Rattle.std.specs.Prelude.{◌≡◌, Bool, false, true, List, Option, None, Some, option_map}
use Rattle.sqlite_trees.specs.declared.store.Store.{Ghosts}
use Rattle.edi_messages.specs.{Owned.call_content, Purposes.CallContent}
use Rattle.terminal_core.specs.{State.TerminalState, declared.lines.Side.Side}
use Rattle.office_replies.specs.Events.{Event}
use Rattle.office_rows.specs.{ByKey.{AreListedOnce, lines_by}, Rows.ListingContent}
use Rattle.office_admission.specs.Setups.{SetupContent}
use Rattle.office_reports.specs.{declared.query.About.About, Work.work_by, Lists.{IsOfLines, list_by}}
use Rattle.office_report_data.specs.Told.{ReportContent}
use Rattle.office_desk.specs.declared.desk.Desk.{Desk}
use Rattle.office_parts.specs.{Archives.Archive, Away.lines_away, OwnLists.ListName}
use Rattle.office_archives.specs.Standing.{StandsBeside}
use Rattle.office_reports.specs.declared.query.About.TheVariants as about
use Rattle.office_report_data.specs.Told as value

-- it is asked for the list of that call
abbrev pub AsksList : About → CallContent → Side → Type 0
AsksList (about.List asked on) call side = (call_content asked ≡ call) × (on ≡ side)
AsksList other call side = ⊥

-- the lines of the list as they were put away, if it is away, and else none
abbrev pub AreLinesIfAway : List Archive → (away : ListName → Bool) → ListName → Option (List ListingContent) → Type 0
AreLinesIfAway archives away list None = away list ≡ false
AreLinesIfAway archives away list (Some lines) = (away list ≡ true) × (lines_away archives list ≡ Some lines)

-- so they are from whatever events after which the desk stands beside the archives
abbrev pub FindsIfAway : {S A : Type 0} (g : Ghosts S) (are : List Archive → A → Type 0) → Desk S g → A → ListName →
    Option (List ListingContent) → Type 0
FindsIfAway g are desk archives name found =
    (list : List Archive) (content : SetupContent) (es : List Event) → are list archives →
    (stands : StandsBeside g list content es desk) → AreLinesIfAway list stands.away name found

-- ---- what lines report

-- what a terminal tells of the list that is asked for, or of what is left of it
abbrev pub TellsList : TerminalState → About → Option ReportContent → Type 0
TellsList state (about.List call side) told =
    IsOfLines state (call_content call) side (λ lines. option_map value.list (list_by (call_content call) side lines)) told
TellsList state (about.Work call side) told =
    IsOfLines state (call_content call) side (λ lines. option_map value.work (work_by state (call_content call) side lines))
    told
TellsList state other told = ⊥

-- a terminal that has these lines, each once, tells so
pub record TellsByLines (lines : List ListingContent) (asked : About) (told : Option ReportContent) : Type 0 where
  pub state : TerminalState
  pub once : AreListedOnce lines
  pub lines_are : state.lines ≡ lines_by lines
  pub tells : TellsList state asked told
