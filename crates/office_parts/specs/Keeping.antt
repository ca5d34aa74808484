-- The lines of the lists that are away are done.
use Rattle.std.specs.Prelude.{◌≡◌, Bool, true, List, Some}
use Rattle.terminal_core.specs.{declared.lines.LineState.TheVariants.Done, State.{LineContent, LineKey, Lines}}
use Rattle.office_history.specs.After.{machine_after}
use Rattle.office_parts.specs.{Archives.Archive, Parts.{Archived, ArePartsAfter}, Away.AreAway, OwnLists.{ListName, list_of}}
use Rattle.office_replies.specs.Events.{Event}
use Rattle.office_rows.specs.Rows.{Rows}
use Rattle.office_admission.specs.Setups.{SetupContent}
use Rattle.std.specs.FinMap as finite_map

-- of these lines, each of a list that is away is done
abbrev pub AreDoneIfAway : (away : ListName → Bool) → Lines → Type 0
AreDoneIfAway away lines =
    (key : LineKey) (line : LineContent) → finite_map.get lines key ≡ Some line → away (list_of key) ≡ true
    → line.state ≡ Done

-- of all lines that there are after the events
abbrev pub AwayLinesAreDone : Type 0
AwayLinesAreDone =
    (content : SetupContent) (es : List Event) (archives : List Archive) (away : ListName → Bool)
    (archived : Archived) (own whole : Rows) → ArePartsAfter content es archived own whole →
    AreAway archives away content es own
    → AreDoneIfAway away (machine_after content es).terminal.lines
