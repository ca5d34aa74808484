-- The rows of the terminal's lists, and what an order does to them.
use Rattle.std.specs.Prelude.{ℕ, Bool, List, Option, string_bytes}
use Rattle.box6346.specs.{declared.box_number.BoxNumber.BoxNumber, declared.size_type.SizeType.SizeType, declared.slot.Slot.Slot}
use Rattle.edi_messages.specs.{Purposes.CallContent, Owned.call_content}
use Rattle.terminal_core.specs.{declared.visits.Arrival.Arrival, declared.visits.Departure.Departure, declared.lines.Side.Side, declared.visits.Visit.Visit}
use Rattle.terminal_core.specs.declared.change.Change.{Change}
use Rattle.terminal_core.specs.declared.change.Change.TheVariants as change

-- a container's stay at the terminal
pub record VisitContent : Type 0 where
  pub number : ℕ
  pub container : BoxNumber
  pub size_type : SizeType
  pub is_laden : Bool
  pub booking : List ℕ
  pub arrival : Arrival
  pub departure : Option Departure
  pub kilos : ℕ

abbrev pub visit_content : Visit → VisitContent
visit_content visit = record {
  number = visit.number;
  container = visit.container;
  size_type = visit.size_type;
  is_laden = visit.is_laden;
  booking = string_bytes visit.booking;
  arrival = visit.arrival;
  departure = visit.departure;
  kilos = visit.kilos;
}

-- one row added, altered or removed
pub data ChangeContent : Type 0 where
  visit_opened : VisitContent → ChangeContent
  visit_closed : ℕ → Departure → ChangeContent
  placed_at : BoxNumber → ℕ → Slot → ChangeContent
  moved_to : BoxNumber → Slot → ChangeContent
  removed_from : BoxNumber → ChangeContent
  listed_on : CallContent → Side → BoxNumber → List ℕ → ChangeContent
  line_done : CallContent → Side → BoxNumber → ChangeContent
  unlisted : CallContent → Side → BoxNumber → ChangeContent

abbrev pub change_content : Change → ChangeContent
change_content (change.VisitOpened visit) = visit_opened (visit_content visit)
change_content (change.VisitClosed visit departure) = visit_closed visit departure
change_content (change.Placed container visit slot) = placed_at container visit slot
change_content (change.Moved container slot) = moved_to container slot
change_content (change.Removed container) = removed_from container
change_content (change.Listed call side container port) =
    listed_on (call_content call) side container (string_bytes port)
change_content (change.LineDone call side container) = line_done (call_content call) side container
change_content (change.Unlisted call side container) = unlisted (call_content call) side container
