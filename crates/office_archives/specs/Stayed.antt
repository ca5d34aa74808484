-- What a store's own rows tell of containers, of which visits were put away.
use Rattle.std.specs.Prelude.{◌≡◌, ℕ, ◌<◌, Bool, true, false, ◌&&◌, ◌||◌, List, [], ◌∷◌, Contains, filter, is_some, Option, None, Some, option_map, if◌then◌else◌}
use Rattle.box6346.specs.declared.box_number.BoxNumber.{BoxNumber}
use Rattle.terminal_core.specs.{Rows.VisitContent, State.{TerminalState, is_visit_of, last_number, last_visit, open_visit}}
use Rattle.office_admission.specs.Setups.{SetupContent}
use Rattle.office_reports.specs.{Visits.visits_by, Yard.slot_in, Containers.{ContainerContent, container_of}, OpenLines.open_lines}
use Rattle.office_report_data.specs.Told.{ReportContent}
use Rattle.office_parts.specs.{Archives.{Archive, IsInArchive}, OwnTerminal.own_visits}
use Rattle.office_report_data.specs.Told as value

-- ---- all visits of a container

abbrev pub visits_of : BoxNumber → List VisitContent → List VisitContent
visits_of container visits = filter (is_visit_of container) visits

-- the report on these, if there are any
abbrev pub report_with : SetupContent → BoxNumber → List VisitContent → Option ReportContent
report_with now container visits = option_map value.visits (visits_by now container visits)

-- Of the container's visits, all of which the whole tells, the store tells those that stay, as they are and in the same
-- order; each other is in one of the archives.
pub record TellsWhatStays (now : SetupContent) (archives : List Archive) (stays : ℕ → Bool) (state : TerminalState)
    (container : BoxNumber) (told : Option ReportContent) : Type 0 where
  pub is : told ≡ report_with now container (own_visits stays (visits_of container state.visits))
  pub others : (visit : VisitContent) → Contains (visits_of container state.visits) visit →
      stays visit.number ≡ false → IsInArchive archives visit

-- ---- where a container is

-- of each container's visits the older go first: where one stays, so does each later one
abbrev pub GoOldestFirst : (stays : ℕ → Bool) → List VisitContent → Type 0
GoOldestFirst stays [] = Unit {0}
GoOldestFirst stays (visit ∷ later) =
    (stays visit.number ≡ true →
    (other : VisitContent) → Contains later other → is_visit_of visit.container other ≡ true → stays other.number ≡ true)
    × GoOldestFirst stays later

-- of the store's own visits those are put away that are over in a copy, which has them as they are, but not the newest
pub record PutsAwayOver (own copy : List VisitContent) (stays : ℕ → Bool) : Type 0 where
  pub each : (visit : VisitContent) → Contains own visit → Contains copy visit → is_some visit.departure ≡ true →
      visit.number < last_number own → stays visit.number ≡ false
  pub only : (visit : VisitContent) → Contains own visit → stays visit.number ≡ false →
      Contains copy visit × (visit.number < last_number own)

abbrev pub stays_if_any : (stays : ℕ → Bool) → Option VisitContent → Bool
stays_if_any stays None = true
stays_if_any stays (Some visit) = stays visit.number

abbrev pub stands_in : TerminalState → BoxNumber → Bool
stands_in state container = is_some (open_visit state container) && is_some (slot_in state container)

-- with the open lines that name it, and those of its visits that stay
abbrev pub container_with : SetupContent → (stays : ℕ → Bool) → TerminalState → BoxNumber → ContainerContent → ReportContent
container_with now stays state container report =
    value.container report (open_lines state.lines container)
    (visits_by now container (own_visits stays (visits_of container state.visits)))

-- the report of the whole, if the container stands in the yard or its last visit stays
abbrev pub container_if_there : SetupContent → (stays : ℕ → Bool) → TerminalState → BoxNumber → Option ReportContent
container_if_there now stays state container =
    if stands_in state container || stays_if_any stays (last_visit state container)
    then option_map (container_with now stays state container) (container_of now state container)
    else None
