-- What an interchange did to visits: those that it opened, and those that it closed.
use Rattle.std.specs.Prelude.{ℕ, ◌≤◌, List, map, filter, Option, None, Some, if◌then◌else◌}
use Rattle.terminal_core.specs.{declared.visits.Departure.Departure, declared.change.Source.Source, Rows.VisitContent}
use Rattle.office_reports.specs.Tickets.{is_source, is_told_by}

-- ---- the visits of one interchange

-- the departure, if it is by that interchange's word
abbrev pub departure_by : Source → Option Departure → Option Departure
departure_by source None = None
departure_by source (Some departure) = if is_source departure.source source then Some departure else None

-- the visit as that interchange knows it: without a departure by another's word
abbrev pub visit_by : Source → VisitContent → VisitContent
visit_by source visit = record visit { departure = departure_by source visit.departure }

-- each visit that it opened or closed, as it knows it
abbrev pub visits_by : Source → List VisitContent → List VisitContent
visits_by source visits = map (visit_by source) (filter (is_told_by source) visits)

-- ---- the interchanges of one visit

-- it is one of its partner's, up to that number
abbrev pub IsWithin : (last : ℕ → ℕ) → Source → Type 0
IsWithin last source = (1 ≤ source.number) × (source.number ≤ last source.partner)

abbrev pub HasLeftWithin : (last : ℕ → ℕ) → Option Departure → Type 0
HasLeftWithin last None = Unit {0}
HasLeftWithin last (Some departure) = IsWithin last departure.source

-- the interchange that opened the visit is one of those, and so is the one that closed it, if it is over
pub record IsVisitWithin (last : ℕ → ℕ) (visit : VisitContent) : Type 0 where
  pub opened : IsWithin last visit.arrival.source
  pub closed : HasLeftWithin last visit.departure
