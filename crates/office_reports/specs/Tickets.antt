-- The ticket of an interchange (our own).
use Rattle.std.specs.Prelude.{ℕ, Bool, true, false, List, [], ◌∷◌, ◌++◌, filter, map, if◌then◌else◌, ◌==◌, ◌&&◌, ◌||◌, codes, decimal, is_some, Option, None, Some}
use Rattle.std.specs.{List.{flat_map, list_any}, Option.option_map}
use Rattle.edi_syntax.specs.Moments.{CivilMoment, moment_text}
use Rattle.terminal_core.specs.{declared.visits.Departure.Departure, declared.change.Source.Source, Rows.{VisitContent, visit_content}}
use Rattle.office_reports.specs.{declared.tickets.TicketReport.TicketReport, Names.{load_name, slot_name, line}}

abbrev pub is_source : Source → Source → Bool
is_source a b = a.partner == b.partner && a.number == b.number

-- the interchange opened the visit
abbrev pub is_opened_by : Source → VisitContent → Bool
is_opened_by source visit = is_source visit.arrival.source source

-- when the container left by the interchange's word, if it did
abbrev pub exit_moment_by : Source → Option Departure → Option CivilMoment
exit_moment_by source None = None
exit_moment_by source (Some departure) = if is_source departure.source source then Some departure.moment else None

-- IN BOX SIZE FULL SLOT MOMENT
abbrev pub entry_line : VisitContent → List ℕ
entry_line visit = line
    (codes "IN" ∷ visit.container ∷ visit.size_type ∷ load_name visit.is_laden ∷ slot_name visit.arrival.slot
    ∷ moment_text visit.arrival.moment ∷ [])

-- OUT BOX SIZE FULL MOMENT
abbrev pub exit_line : VisitContent → Option CivilMoment → List ℕ
exit_line visit None = []
exit_line visit (Some moment) =
    line (codes "OUT" ∷ visit.container ∷ visit.size_type ∷ load_name visit.is_laden ∷ moment_text moment ∷ [])

-- each visit that the interchange opened, by number
abbrev pub entry_lines : Source → List VisitContent → List ℕ
entry_lines source visits = flat_map entry_line (filter (is_opened_by source) visits)

-- and each that it closed
abbrev pub exit_lines : Source → List VisitContent → List ℕ
exit_lines source visits = flat_map (λ visit. exit_line visit (exit_moment_by source visit.departure)) visits

abbrev pub is_told_by : Source → VisitContent → Bool
is_told_by source visit = is_opened_by source visit || is_some (exit_moment_by source visit.departure)

abbrev pub ticket_lines : Source → List VisitContent → List ℕ
ticket_lines source visits =
    if list_any (is_told_by source) visits then entry_lines source visits
    ++ exit_lines source visits else line (codes "NOTHING" ∷ [])

-- what a partner's interchange did, the partner being called by a code
abbrev pub ticket_text : List ℕ → Source → List VisitContent → List ℕ
ticket_text code source visits = line (codes "TICKET" ∷ code ∷ decimal source.number ∷ []) ++ ticket_lines source visits

-- ---- what the report tells

-- the visits that a partner's interchange opened, and those that it closed, by their numbers
pub record TicketContent : Type 0 where
  pub code : List ℕ
  pub number : ℕ
  pub opened : List VisitContent
  pub closed : List VisitContent

abbrev pub is_closed_by : Source → VisitContent → Bool
is_closed_by source visit = is_some (exit_moment_by source visit.departure)

abbrev pub ticket_of : List ℕ → Source → List VisitContent → TicketContent
ticket_of code source visits = record {
  code = code;
  number = source.number;
  opened = filter (is_opened_by source) visits;
  closed = filter (is_closed_by source) visits;
}

-- ---- its text

abbrev pub closed_line : VisitContent → List ℕ
closed_line visit = exit_line visit (option_map (λ departure. departure.moment) visit.departure)

abbrev pub is_nothing : (opened closed : List VisitContent) → Bool
is_nothing [] [] = true
is_nothing opened closed = false

abbrev pub told_lines : (opened closed : List VisitContent) → List ℕ
told_lines opened closed =
    if is_nothing opened closed then line (codes "NOTHING" ∷ [])
    else flat_map entry_line opened ++ flat_map closed_line closed

abbrev pub told_text : TicketContent → List ℕ
told_text ticket =
    line (codes "TICKET" ∷ ticket.code ∷ decimal ticket.number ∷ []) ++ told_lines ticket.opened ticket.closed

-- ---- as the code has it

abbrev pub ticket_content : TicketReport → TicketContent
ticket_content report = record {
  code = report.code.now;
  number = report.number;
  opened = map (λ visit. visit_content visit.now) report.opened.items;
  closed = map (λ visit. visit_content visit.now) report.closed.items;
}
