-- Where a container is (our own).
use Rattle.std.specs.{Prelude.{ℕ, Bool, List, [], ◌∷◌, ◌++◌, codes, decimal, map, Option, None, Some}, List.flat_map, Option.option_map}
use Rattle.box6346.specs.{declared.box_number.BoxNumber.BoxNumber, declared.size_type.SizeType.SizeType, declared.slot.Slot.Slot}
use Rattle.yard_core.specs.{Decisions.blocker_on, YardMap.placement_of}
use Rattle.terminal_core.specs.{Listings.line_entry, Rows.VisitContent, State.{LineContent, LineKey, TerminalState, last_visit, open_visit}}
use Rattle.office_admission.specs.Setups.{SetupContent}
use Rattle.office_reports.specs.{declared.containers.ContainerReport.ContainerReport, declared.containers.Stay.Stay, Names.{load_name, slot_name, phrase, line}}
use Rattle.office_reports.specs.{Passages.{PassageContent, arrival_by, departure_by, passage_content, passage_words, stay_line}, Yard.slot_in}
use Rattle.office_reports.specs.OpenLines.{open_line, open_lines}

-- ---- what the report tells

-- how a container is in the yard: its slot, its booking and gross weight (nothing and 0 if none was given), what stands on
-- it, and the open lines that name it
pub record StayContent : Type 0 where
  pub slot : Slot
  pub booking : List ℕ
  pub kilos : ℕ
  pub blocker : Option BoxNumber
  pub lists : List (LineKey × LineContent)

-- a container by its visit: by which passage it came, if it is in the yard, or left last
pub record ContainerContent : Type 0 where
  pub container : BoxNumber
  pub size_type : SizeType
  pub is_laden : Bool
  pub visit : ℕ
  pub passage : Option PassageContent
  pub stay : Option StayContent

-- the container that stands on one
abbrev pub blocker_in : TerminalState → BoxNumber → Option BoxNumber
blocker_in state container = blocker_on state.yard.boxes (placement_of state.yard.boxes container)

abbrev pub by_visit : VisitContent → BoxNumber → Option PassageContent → Option StayContent → ContainerContent
by_visit visit container passage stay = record {
  container = container;
  size_type = visit.size_type;
  is_laden = visit.is_laden;
  visit = visit.number;
  passage = passage;
  stay = stay;
}

abbrev pub stay_by : VisitContent → Slot → Option BoxNumber → List (LineKey × LineContent) → StayContent
stay_by visit slot blocker lists =
    record { slot = slot; booking = visit.booking; kilos = visit.kilos; blocker = blocker; lists = lists }

-- a container that is in the yard
abbrev pub here_by : SetupContent → TerminalState → BoxNumber → VisitContent → Slot → ContainerContent
here_by setup state container visit slot =
    by_visit visit container (Some (arrival_by setup visit))
    (Some (stay_by visit slot (blocker_in state container) (open_lines state.lines container)))

-- one that has left, by its last visit, if it ever came
abbrev pub gone_by : SetupContent → BoxNumber → Option VisitContent → Option ContainerContent
gone_by setup container None = None
gone_by setup container (Some visit) = Some (by_visit visit container (departure_by setup visit.departure) None)

abbrev pub found_by : SetupContent → TerminalState → BoxNumber → Option VisitContent → Option Slot → Option ContainerContent
found_by setup state container (Some visit) (Some slot) = Some (here_by setup state container visit slot)
found_by setup state container (Some visit) None = gone_by setup container (last_visit state container)
found_by setup state container None slot = gone_by setup container (last_visit state container)

-- where it stands by its open visit, and each open line that names it; if it has none, how it left; nothing if it never came
abbrev pub container_of : SetupContent → TerminalState → BoxNumber → Option ContainerContent
container_of setup state container =
    found_by setup state container (open_visit state container) (slot_in state container)

-- ---- its text

-- CONTAINER BOX
abbrev pub container_head : BoxNumber → List ℕ
container_head container = line (codes "CONTAINER" ∷ container ∷ [])

-- SIZE FULL VISIT N GATE PARTNER NUMBER MOMENT
abbrev pub visit_words : ContainerContent → PassageContent → List (List ℕ)
visit_words report passage =
    report.size_type ∷ load_name report.is_laden ∷ codes "VISIT" ∷ decimal report.visit
    ∷ phrase (passage_words passage) ∷ []

-- FREE, or UNDER the container that stands on it
abbrev pub above_words : Option BoxNumber → List (List ℕ)
above_words None = codes "FREE" ∷ []
above_words (Some blocker) = codes "UNDER" ∷ blocker ∷ []

-- IN SLOT, and by which visit it came, its booking and its gross weight, and what stands on it
abbrev pub standing_line : ContainerContent → PassageContent → StayContent → List ℕ
standing_line report passage stay =
    stay_line (phrase (codes "IN" ∷ slot_name stay.slot ∷ visit_words report passage)) stay.booking stay.kilos
    (phrase (above_words stay.blocker))

-- OUT, and by what visit it left
abbrev pub gone_line : ContainerContent → PassageContent → List ℕ
gone_line report passage = line (codes "OUT" ∷ visit_words report passage)

abbrev pub lines_by : ContainerContent → Option PassageContent → Option StayContent → List ℕ
lines_by report None stay = container_head report.container
lines_by report (Some passage) None = container_head report.container ++ gone_line report passage
lines_by report (Some passage) (Some stay) =
    container_head report.container ++ standing_line report passage stay ++ flat_map open_line stay.lists

abbrev pub container_text : ContainerContent → List ℕ
container_text report = lines_by report report.passage report.stay

-- the line of a container that stands in a slot, by its visit
abbrev pub here_line : SetupContent → VisitContent → Slot → Option BoxNumber → List ℕ
here_line setup visit slot blocker =
    standing_line (by_visit visit visit.container None None) (arrival_by setup visit) (stay_by visit slot blocker [])

-- how it left last
abbrev pub gone_report : SetupContent → BoxNumber → Option VisitContent → Option (List ℕ)
gone_report setup container last = option_map container_text (gone_by setup container last)

abbrev pub report_by : SetupContent → TerminalState → BoxNumber → Option VisitContent → Option Slot → Option (List ℕ)
report_by setup state container visit slot = option_map container_text (found_by setup state container visit slot)

-- the report on a container, if it ever came
abbrev pub container_report : SetupContent → TerminalState → BoxNumber → Option (List ℕ)
container_report setup state container = option_map container_text (container_of setup state container)

-- ---- as the code has it

abbrev pub stay_content : Stay → StayContent
stay_content stay = record {
  slot = stay.slot;
  booking = stay.booking.now;
  kilos = stay.kilos;
  blocker = stay.blocker;
  lists = map (λ line. line_entry line.now) stay.lists.items;
}

abbrev pub container_content : ContainerReport → ContainerContent
container_content report = record {
  container = report.container;
  size_type = report.size_type;
  is_laden = report.is_laden;
  visit = report.visit;
  passage = option_map passage_content report.passage;
  stay = option_map stay_content report.stay;
}
