-- The page of what an interchange did.
use Rattle.std.specs.{Prelude.{ℕ, false, List, [], ◌∷◌, ◌++◌, codes, length, Option, None, Some}, List.flat_map}
use Rattle.edi_syntax.specs.Moments.{CivilMoment}
use Rattle.terminal_core.specs.{declared.visits.Departure.Departure, Rows.VisitContent}
use Rattle.office_reports.specs.Tickets.{TicketContent}
use Rattle.office_pages.specs.{Fixed.foot, Frame.page_top, Marks.load_mark, Tables.{section_head, table_of}}
use Rattle.office_pages.specs.Pieces.{Container, Digits, Markup, MomentText, Part, SizeText, SlotText, Text, pieces_text}

-- PARTNER NUMBER, with links to the reply, its CONTRL and the partner
abbrev pub ticket_title : List ℕ → ℕ → List ℕ
ticket_title code number = pieces_text
    (Markup (codes "<h1><small>Ticket of</small> ") ∷ Text code ∷ Markup (codes " ") ∷ Digits number
    ∷ Markup (codes "</h1>\n<p class='beside'>\n<a href='/pages/replies/") ∷ Part code ∷ Markup (codes "/") ∷ Digits number
    ∷ Markup (codes "'>Reply</a>\n<a href='/pages/contrls/") ∷ Part code ∷ Markup (codes "/") ∷ Digits number
    ∷ Markup (codes "'>CONTRL</a>\n<a href='/pages/partners/") ∷ Part code ∷ Markup (codes "'>Partner</a>\n</p>\n") ∷ [])

abbrev pub ticket_top : List ℕ → ℕ → List ℕ
ticket_top code number =
    page_top [] false (Markup (codes "Ticket of ") ∷ Text code ∷ Markup (codes " ") ∷ Digits number ∷ [])
    ++ ticket_title code number

-- BOX SIZE, full or empty
abbrev pub visit_cells : VisitContent → List ℕ
visit_cells visit = pieces_text
    (Markup (codes "<tr><td>") ∷ Container visit.container ∷ Markup (codes "</td><td class='m'>") ∷ SizeText visit.size_type
    ∷ Markup (codes "</td><td>") ∷ Markup (load_mark visit.is_laden) ∷ Markup (codes "</td><td") ∷ [])

-- a visit that it opened, where the container was put, and when
abbrev pub opened_row : VisitContent → List ℕ
opened_row visit =
    visit_cells visit ++ pieces_text
    (Markup (codes " class='m'>") ∷ SlotText visit.arrival.slot ∷ Markup (codes "</td><td class='r'>")
    ∷ MomentText visit.arrival.moment ∷ Markup (codes "</td></tr>\n") ∷ [])

abbrev pub moment_cell : CivilMoment → List ℕ
moment_cell moment =
    pieces_text (Markup (codes " class='r'>") ∷ MomentText moment ∷ Markup (codes "</td></tr>\n") ∷ [])

abbrev pub closed_row_by : VisitContent → Option Departure → List ℕ
closed_row_by visit None = []
closed_row_by visit (Some departure) = visit_cells visit ++ moment_cell departure.moment

-- one that it closed, and when
abbrev pub closed_row : VisitContent → List ℕ
closed_row visit = closed_row_by visit visit.departure

unfoldable pub opened_columns : List ℕ
opened_columns = codes "<th>Container</th><th>Size-type</th><th>Load</th><th>Slot</th><th>Moment</th>"

unfoldable pub closed_columns : List ℕ
closed_columns = codes "<th>Container</th><th>Size-type</th><th>Load</th><th>Moment</th>"

abbrev pub opened_table : ℕ → List VisitContent → List ℕ
opened_table count visits =
    section_head (codes "Came in") count []
    ++ table_of count opened_columns (flat_map opened_row visits) (codes "It brought nothing in.")

abbrev pub closed_table : ℕ → List VisitContent → List ℕ
closed_table count visits =
    section_head (codes "Went out") count []
    ++ table_of count closed_columns (flat_map closed_row visits) (codes "It took nothing out.")

abbrev pub ticket_page : TicketContent → List ℕ
ticket_page ticket =
    ticket_top ticket.code ticket.number ++ opened_table (length ticket.opened) ticket.opened
    ++ closed_table (length ticket.closed) ticket.closed ++ foot
