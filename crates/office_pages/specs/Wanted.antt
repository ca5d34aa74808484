-- The open lines that name a container, and the page of one that never came.
use Rattle.std.specs.{Prelude.{ℕ, ◌==◌, false, List, [], ◌∷◌, ◌++◌, length, codes, if◌then◌else◌}, List.flat_map}
use Rattle.box6346.specs.declared.box_number.BoxNumber.{BoxNumber}
use Rattle.terminal_core.specs.{declared.lines.Side.Side, State.{LineContent, LineKey}}
use Rattle.office_pages.specs.{Fixed.foot, Frame.page_top, Marks.{side_name, side_of, side_word}, Pieces.{Markup, Number, Part, Text, pieces_text}}
use Rattle.office_pages.specs.Tables.{table_of}

-- ---- which lists want it

-- an open line, with a link to what is left to do of its list
abbrev pub wanted_line : (vessel voyage : List ℕ) → Side → (port : List ℕ) → List ℕ
wanted_line vessel voyage side port = pieces_text
    (Markup (codes "<tr><td><a href='/pages/work/") ∷ Part vessel ∷ Markup (codes "/") ∷ Part voyage ∷ Markup (codes "/")
    ∷ Markup (side_word side) ∷ Markup (codes "'>") ∷ Markup (side_name side) ∷ Markup (codes "</a></td><td>") ∷ Text vessel
    ∷ Markup (codes " ") ∷ Text voyage ∷ Markup (codes "</td><td class='m'>") ∷ Text port ∷ Markup (codes "</td></tr>\n") ∷ [])

abbrev pub wanted_row : LineKey × LineContent → List ℕ
wanted_row ((vessel ∷ voyage ∷ side ∷ container ∷ []), line) = wanted_line vessel voyage (side_of side) line.port
wanted_row (other, line) = []

abbrev pub wanted_table : List (LineKey × LineContent) → List ℕ
wanted_table lists =
    table_of (length lists) (codes "<th>List</th><th>Call</th><th>Port</th>") (flat_map wanted_row lists)
    (codes "No list has an open line for it.")

abbrev pub wanted_section : List (LineKey × LineContent) → List ℕ
wanted_section lists =
    pieces_text (Markup (codes "<section>\n<h2>Wanted by</h2>\n") ∷ []) ++ wanted_table lists

-- ---- one that never came

-- whether it is expected
abbrev pub absent_mark : List (LineKey × LineContent) → List ℕ
absent_mark lists =
    if length lists == 0 then codes "<b class='s off'>never came</b>" else codes "<b class='s wait'>not here yet</b>"

abbrev pub absent_place : BoxNumber → (mark : List ℕ) → List ℕ
absent_place container mark = pieces_text
    (Markup (codes "<h1><small>Container</small> ") ∷ Number container
    ∷ Markup (codes "</h1>\n<section>\n<div class='place'>") ∷ Markup mark ∷ Markup (codes "</div>\n</section>\n") ∷ [])

abbrev pub expected_page : BoxNumber → List (LineKey × LineContent) → List ℕ
expected_page container lists =
    page_top [] false (Markup (codes "Container ") ∷ Number container ∷ []) ++ absent_place container (absent_mark lists)
    ++ wanted_section lists ++ foot
