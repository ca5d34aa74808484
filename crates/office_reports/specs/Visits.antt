-- The report on a container's visits (our own).
use Rattle.std.specs.{Prelude.{ℕ, List, [], ◌∷◌, ◌++◌, filter, map, if◌then◌else◌, codes, decimal, ◌-ℤ◌, Option, None, Some}, Fmt.signed_decimal}
use Rattle.std.specs.List.{flat_map, list_any}
use Rattle.box6346.specs.declared.box_number.BoxNumber.{BoxNumber}
use Rattle.edi_syntax.specs.Moments.{CivilMoment, day_number}
use Rattle.terminal_core.specs.{declared.visits.Departure.Departure, Rows.{VisitContent, visit_content}, State.{TerminalState, is_visit_of}}
use Rattle.office_admission.specs.Setups.{SetupContent, setup_content}
use Rattle.office_reports.specs.{declared.visits.VisitsReport.VisitsReport, Names.{load_name, slot_name, phrase, line}}
use Rattle.office_reports.specs.Passages.{arrival_by, passage_by, passage_words, stay_line}

-- ---- what the report tells

-- the visits of a container, by their numbers, and the set-up that names the partners
pub record VisitsContent : Type 0 where
  pub setup : SetupContent
  pub container : BoxNumber
  pub visits : List VisitContent

abbrev pub visits_by : SetupContent → BoxNumber → List VisitContent → Option VisitsContent
visits_by setup container [] = None
visits_by setup container (visit ∷ visits) =
    Some (record { setup = setup; container = container; visits = visit ∷ visits })

-- nothing of a container that has no visit
abbrev pub visits_of : SetupContent → TerminalState → BoxNumber → Option VisitsContent
visits_of setup state container = visits_by setup container (filter (is_visit_of container) state.visits)

-- ---- its text

-- N SIZE FULL IN GATE PARTNER NUMBER MOMENT SLOT
abbrev pub arrival_words : SetupContent → VisitContent → List (List ℕ)
arrival_words setup visit =
    decimal visit.number ∷ visit.size_type ∷ load_name visit.is_laden ∷ codes "IN"
    ∷ phrase (passage_words (arrival_by setup visit)) ∷ slot_name visit.arrival.slot ∷ []

-- OUT GATE PARTNER NUMBER MOMENT DAYS d, with the days from the date of entry to that of exit; a dash while it is here
abbrev pub departure_words : SetupContent → (entry : CivilMoment) → Option Departure → List (List ℕ)
departure_words setup entry None = codes "OUT" ∷ codes "-" ∷ []
departure_words setup entry (Some departure) =
    codes "OUT" ∷ phrase (passage_words (passage_by setup departure.way departure.source departure.moment))
    ∷ codes "DAYS" ∷ signed_decimal (day_number departure.moment -ℤ day_number entry) ∷ []

abbrev pub visit_line : SetupContent → VisitContent → List ℕ
visit_line setup visit =
    stay_line (phrase (arrival_words setup visit)) visit.booking visit.kilos
    (phrase (departure_words setup visit.arrival.moment visit.departure))

abbrev pub rows_text : VisitsContent → List ℕ
rows_text report =
    line (codes "VISITS" ∷ report.container ∷ []) ++ flat_map (visit_line report.setup) report.visits

-- that of these of the visits that are the container's
abbrev pub visits_text : SetupContent → BoxNumber → List VisitContent → List ℕ
visits_text setup container visits =
    rows_text (record { setup = setup; container = container; visits = filter (is_visit_of container) visits })

-- the container's visits by their numbers, if it has any
abbrev pub visit_report : SetupContent → TerminalState → BoxNumber → Option (List ℕ)
visit_report setup state container =
    if list_any (is_visit_of container) state.visits then Some (visits_text setup container state.visits) else None

-- ---- as the code has it

abbrev pub visits_content : VisitsReport → VisitsContent
visits_content report = record {
  setup = setup_content report.setup.now;
  container = report.container;
  visits = map (λ visit. visit_content visit.now) report.visits.items;
}
