-- The page of a container's visits, which stand on the container's own page too.
use Rattle.std.specs.{Prelude.{ℕ, false, List, [], ◌∷◌, ◌++◌, ◌-ℤ◌, length, codes, Option, None, Some}, List.flat_map}
use Rattle.box6346.specs.declared.box_number.BoxNumber.{BoxNumber}
use Rattle.edi_syntax.specs.Moments.{CivilMoment, day_number}
use Rattle.terminal_core.specs.{declared.visits.Departure.Departure, Rows.VisitContent}
use Rattle.office_admission.specs.Setups.{SetupContent}
use Rattle.office_reports.specs.{Passages.{PassageContent, arrival_by, passage_by}, Visits.VisitsContent}
use Rattle.office_pages.specs.{Fixed.foot, Frame.page_top, Marks.{load_mark, way_word}}
use Rattle.office_pages.specs.Pieces.{Count, Days, Kilos, Markup, MomentText, Number, Reply, SizeText, SlotText, Text, pieces_text}

-- gate or ship, by which interchange, and below it when
abbrev pub passage_cell : PassageContent → List ℕ
passage_cell passage = pieces_text
    (Markup (way_word passage.way) ∷ Markup (codes ", ") ∷ Reply passage.partner passage.number
    ∷ Markup (codes "<br><span class='note'>") ∷ MomentText passage.moment ∷ Markup (codes "</span></td>") ∷ [])

-- by which it left, and the days from the date of entry to that of exit
abbrev pub left_cells : SetupContent → (entry : CivilMoment) → Departure → List ℕ
left_cells setup entry departure =
    pieces_text (Markup (codes "<td>") ∷ [])
    ++ passage_cell (passage_by setup departure.way departure.source departure.moment)
    ++ pieces_text (Markup (codes "<td class='n'>") ∷ Days (day_number departure.moment -ℤ day_number entry)
    ∷ Markup (codes "</td></tr>\n") ∷ [])

-- the same, and a word while it is here
abbrev pub exit_cells : SetupContent → (entry : CivilMoment) → Option Departure → List ℕ
exit_cells setup entry None =
    pieces_text (Markup (codes "<td><b class='s off'>still here</b></td><td class='n'></td></tr>\n") ∷ [])
exit_cells setup entry (Some departure) = left_cells setup entry departure

-- what came, where it was put, its booking and its gross weight
abbrev pub stay_cells : VisitContent → List ℕ
stay_cells visit = pieces_text
    (Markup (codes "<td class='o'><span class='m'>") ∷ SizeText visit.size_type ∷ Markup (codes "</span> ")
    ∷ Markup (load_mark visit.is_laden) ∷ Markup (codes "</td><td class='m o'>") ∷ SlotText visit.arrival.slot
    ∷ Markup (codes "</td><td class='o'>") ∷ Text visit.booking ∷ Markup (codes "</td><td class='n o'>") ∷ Kilos visit.kilos
    ∷ Markup (codes "</td>") ∷ [])

abbrev pub visit_row : SetupContent → VisitContent → List ℕ
visit_row setup visit =
    pieces_text (Markup (codes "<tr><td class='n'>") ∷ Count visit.number ∷ Markup (codes "</td><td>") ∷ [])
    ++ passage_cell (arrival_by setup visit) ++ stay_cells visit ++ exit_cells setup visit.arrival.moment visit.departure

unfoldable pub visits_head : List ℕ
visits_head =
    codes "</small></h2>\n<table>\n<thead><tr><th class='n'>Visit</th><th>In</th><th class='o'>Container</th>"
    ++ codes "<th class='o'>Slot of entry</th><th class='o'>Booking</th><th class='n o'>Gross</th><th>Out</th>"
    ++ codes "<th class='n'>Days</th></tr></thead>\n<tbody>\n"

-- how many there are
abbrev pub visits_front : ℕ → List ℕ
visits_front count =
    pieces_text (Markup (codes "<section>\n<h2>Visits <small>") ∷ Count count ∷ Markup visits_head ∷ [])

abbrev pub visits_section : VisitsContent → List ℕ
visits_section report =
    visits_front (length report.visits) ++ flat_map (visit_row report.setup) report.visits
    ++ pieces_text (Markup (codes "</tbody>\n</table>\n</section>\n") ∷ [])

-- the container's number, with a link to where it is
abbrev pub visits_title : BoxNumber → List ℕ
visits_title container = pieces_text
    (Markup (codes "<h1><small>Visits of</small> ") ∷ Number container
    ∷ Markup (codes "</h1>\n<p class='beside'><a href='/pages/containers/") ∷ Number container
    ∷ Markup (codes "'>Where it is</a></p>\n") ∷ [])

abbrev pub visits_page : VisitsContent → List ℕ
visits_page report =
    page_top [] false (Markup (codes "Visits of ") ∷ Number report.container ∷ []) ++ visits_title report.container
    ++ visits_section report ++ foot
