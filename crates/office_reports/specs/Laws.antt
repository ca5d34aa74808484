-- What the definitions of the reports mean together.
use Rattle.std.specs.Prelude.{◌≡◌, ℕ, List, Option}
use Rattle.box6346.specs.{SlotName.{IsNamed, slot_text}, declared.slot.Slot.Slot}
use Rattle.edi_messages.specs.Purposes.{CallContent}
use Rattle.terminal_core.specs.{declared.lines.Side.Side, State.TerminalState}
use Rattle.office_reports.specs.{Names.slot_name, Yard.IsYardReport, Lists.IsListReport}

-- two reports on one yard are one text
abbrev pub YardReportsAreOne : Type 0
YardReportsAreOne = (state : TerminalState) (one other : List ℕ) → IsYardReport state one → IsYardReport state other →
    one ≡ other

-- two reports on one list are one answer
abbrev pub ListReportsAreOne : Type 0
ListReportsAreOne = (state : TerminalState) (call : CallContent) (side : Side) (one other : Option (List ℕ)) →
    IsListReport state call side one → IsListReport state call side other → one ≡ other

abbrev pub NamesAreWritten : Type 0
NamesAreWritten = (slot : Slot) → IsNamed slot → slot_name slot ≡ slot_text slot
