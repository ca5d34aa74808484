-- The page of a vessel's list.
use Rattle.std.specs.{Prelude.{ℕ, true, List, [], ◌∷◌, ◌++◌, codes, count_by, length}, List.flat_map}
use Rattle.terminal_core.specs.{declared.lines.LineState.LineState, declared.lines.LineState.TheVariants.{Pending, Done}, declared.lines.Side.Side}
use Rattle.terminal_core.specs.State.{LineContent}
use Rattle.office_reports.specs.Lists.{ListContent, is_done_line}
use Rattle.office_pages.specs.{Fixed.foot, Frame.page_top, Marks.{side_name, side_word}, Pieces.{Container, Markup, Part, Text, pieces_text}, Work.done_view}
use Rattle.office_pages.specs.Tables.{section_head, table_of}

-- ---- the head

abbrev pub list_title : (vessel voyage : List ℕ) → Side → List ℕ
list_title vessel voyage side = pieces_text
    (Markup (codes "<h1><small>") ∷ Markup (side_name side) ∷ Markup (codes " list of</small> ") ∷ Text vessel ∷ Markup (codes " ")
    ∷ Text voyage ∷ Markup (codes "</h1>\n<p class='beside'><a href='/pages/work/") ∷ Part vessel ∷ Markup (codes "/")
    ∷ Part voyage ∷ Markup (codes "/") ∷ Markup (side_word side) ∷ Markup (codes "'>What is left to do</a></p>\n") ∷ [])

abbrev pub list_top : (vessel voyage : List ℕ) → Side → List ℕ
list_top vessel voyage side =
    page_top (codes "/pages/calls") true
    (Markup (side_name side) ∷ Markup (codes " list of ") ∷ Text vessel ∷ Markup (codes " ") ∷ Text voyage ∷ [])
    ++ list_title vessel voyage side

-- ---- lines

abbrev pub state_mark : LineState → List ℕ
state_mark Done = codes "<b class='s ok'>done</b>"
state_mark Pending = codes "<b class='s wait'>open</b>"

-- BOX PORT, open or done
abbrev pub list_row : List ℕ × LineContent → List ℕ
list_row entry = pieces_text
    (Markup (codes "<tr><td>") ∷ Container entry.0 ∷ Markup (codes "</td><td class='m'>") ∷ Text entry.1.port
    ∷ Markup (codes "</td><td>") ∷ Markup (state_mark entry.1.state) ∷ Markup (codes "</td></tr>\n") ∷ [])

unfoldable pub list_columns : List ℕ
list_columns = codes "<th>Container</th><th>Port</th><th>State</th>"

abbrev pub list_section : List (List ℕ × LineContent) → List ℕ
list_section lines =
    section_head (codes "Lines") (length lines) []
    ++ table_of (length lines) list_columns (flat_map list_row lines) (codes "The list has no line.")

abbrev pub list_body : List (List ℕ × LineContent) → List ℕ
list_body lines = done_view (count_by is_done_line lines) (length lines) ++ list_section lines

abbrev pub list_page : ListContent → List ℕ
list_page report = list_top report.call.vessel report.call.voyage report.side ++ list_body report.lines ++ foot
