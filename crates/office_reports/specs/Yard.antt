-- The report on the yard (our own).
use Rattle.std.specs.{Prelude.{◌≡◌, ℕ, List, [], ◌∷◌, ◌++◌, length, codes, decimal, Option, None, Some}, Option.option_map, List.flat_map, Map.values_of}
use Rattle.box6346.specs.{SlotName.slot_text, declared.box_number.BoxNumber.BoxNumber, declared.slot.Slot.Slot}
use Rattle.yard_core.specs.YardMap.{placement_of}
use Rattle.terminal_core.specs.{declared.visits.Departure.Departure, Rows.VisitContent, State.{TerminalState, open_visit}}
use Rattle.office_reports.specs.{declared.yard.Standing.Standing, Listed.AreListed, Names.{load_name, slot_name, line}}

-- what is shown of a container, by its visit and where it stands
abbrev pub shown_standing : VisitContent → Slot → Standing
shown_standing visit slot = record {
  slot = slot;
  container = visit.container;
  size_type = visit.size_type;
  is_laden = visit.is_laden;
}

-- where a container stands, if it is in the yard
abbrev pub slot_in : TerminalState → BoxNumber → Option Slot
slot_in state container = option_map (λ s. s.slot) (placement_of state.yard.boxes container)

-- the container stands in the slot of that text, and this is what its open visit shows
pub record StandsAt (state : TerminalState) (text : List ℕ) (standing : Standing) : Type 0 where
  pub visit : VisitContent
  pub is_open : open_visit state standing.container ≡ Some visit
  pub is_shown : standing ≡ shown_standing visit standing.slot
  pub stands : slot_in state standing.container ≡ Some standing.slot
  pub named : text ≡ slot_text standing.slot

-- SLOT BOX SIZE FULL, or EMPTY
abbrev pub standing_line : Standing → List ℕ
standing_line standing =
    line (slot_name standing.slot ∷ standing.container ∷ standing.size_type ∷ load_name standing.is_laden ∷ [])

abbrev pub yard_text : List (List ℕ × Standing) → List ℕ
yard_text yard = line (codes "YARD" ∷ []) ++ flat_map standing_line (values_of yard)
    ++ line (decimal (length yard) ∷ codes "CONTAINERS" ∷ [])

-- the text shows the containers in the yard, by the texts of their slots
pub record IsYardReport (state : TerminalState) (text : List ℕ) : Type 0 where
  pub yard : List (List ℕ × Standing)
  pub listed : AreListed (StandsAt state) yard
  pub is : text ≡ yard_text yard

-- ---- a visit

abbrev pub standing_if_here : TerminalState → VisitContent → Option Departure → Option Standing
standing_if_here state visit (Some departure) = None
standing_if_here state visit None = option_map (shown_standing visit) (slot_in state visit.container)

-- where the container of a visit stands, unless it left
abbrev pub standing_of : TerminalState → VisitContent → Option Standing
standing_of state visit = standing_if_here state visit visit.departure
