-- The ticket of an interchange as JSON.
use Rattle.std.specs.Prelude.{ℕ, List, ◌++◌, codes, decimal, Option}
use Rattle.json.specs.Print.{quoted}
use Rattle.serde_json.specs.Data.{Data, string, number, unsigned, object, member, no_members}
use Rattle.edi_syntax.specs.Moments.{moment_text}
use Rattle.terminal_core.specs.{declared.visits.Departure.Departure, Rows.VisitContent}
use Rattle.office_reports.specs.{Names.slot_name, Tickets.TicketContent}
use Rattle.office_report_data.specs.{Rows.rows_data, Words.{load_word, or_null}}

-- a visit that the interchange opened: what came, when, and where it was put
abbrev pub opened_data : VisitContent → Data
opened_data visit =
    object (member (codes "container") (string visit.container) (member (codes "load") (string (load_word visit.is_laden))
    (member (codes "moment") (string (moment_text visit.arrival.moment)) (member (codes "size_type") (string visit.size_type)
    (member (codes "slot") (string (slot_name visit.arrival.slot)) no_members)))))

abbrev pub exit_data : Option Departure → Data
exit_data departure = or_null (λ exit. string (moment_text exit.moment)) departure

-- one that it closed: what left, and when
abbrev pub closed_data : VisitContent → Data
closed_data visit =
    object (member (codes "container") (string visit.container) (member (codes "load") (string (load_word visit.is_laden))
    (member (codes "moment") (exit_data visit.departure) (member (codes "size_type") (string visit.size_type) no_members))))

abbrev pub ticket_data : TicketContent → Data
ticket_data ticket =
    object (member (codes "closed") (rows_data closed_data ticket.closed) (member (codes "number") (number (unsigned ticket.number))
    (member (codes "opened") (rows_data opened_data ticket.opened) (member (codes "partner") (string ticket.code) no_members))))

-- ---- what stands around its rows

unfoldable pub closed_front : List ℕ
closed_front = codes "{\"closed\":["

unfoldable pub opened_front : (reference : ℕ) → List ℕ
opened_front reference = codes ",\"number\":" ++ decimal reference ++ codes ",\"opened\":["

unfoldable pub ticket_back : (partner : List ℕ) → List ℕ
ticket_back partner = codes ",\"partner\":" ++ quoted partner ++ codes "}"
