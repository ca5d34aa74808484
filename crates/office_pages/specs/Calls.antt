-- The page of the vessels' calls: how far the list of each is.
use Rattle.std.specs.{Prelude.{ℕ, ◌+◌, ◌==◌, true, List, [], ◌∷◌, ◌++◌, codes, length, sum_by, if◌then◌else◌}, List.flat_map}
use Rattle.terminal_core.specs.{declared.lines.Side.Side, State.LineKey}
use Rattle.office_reports.specs.declared.calls.ListCount.{ListCount}
use Rattle.office_pages.specs.{Fixed.foot, Frame.page_top, Marks.{bar, done_kind, side_name, side_of, side_word}, Tables.table_of}
use Rattle.office_pages.specs.Pieces.{Count, Markup, Part, Text, pieces_text}

-- ---- rows

-- VESSEL VOYAGE SIDE, with a link to what is left to do
abbrev pub call_cells : (vessel voyage : List ℕ) → Side → List ℕ
call_cells vessel voyage side = pieces_text
    (Markup (codes "<tr><th>") ∷ Text vessel ∷ Markup (codes " ") ∷ Text voyage
    ∷ Markup (codes "</th><td><a href='/pages/work/") ∷ Part vessel ∷ Markup (codes "/") ∷ Part voyage ∷ Markup (codes "/")
    ∷ Markup (side_word side) ∷ Markup (codes "'>") ∷ Markup (side_name side) ∷ Markup (codes "</a></td>") ∷ [])

-- how many of the lines are done, in figures and as a bar
abbrev pub far_cell : (done whole : ℕ) → List ℕ
far_cell done whole =
    pieces_text (Markup (codes "<td class='how'><span>") ∷ Count done ∷ Markup (codes " of ") ∷ Count whole
    ∷ Markup (codes "</span>") ∷ [])
    ++ pieces_text (bar (done_kind done whole) done whole)

unfoldable pub none_open : List ℕ
none_open = pieces_text (Markup (codes "</td><td class='n'><b class='s ok'>done</b></td>") ∷ [])

unfoldable pub some_open : ℕ → List ℕ
some_open open_lines = pieces_text (Markup (codes "</td><td class='n'>") ∷ Count open_lines ∷ Markup (codes "</td>") ∷ [])

-- how many are open
abbrev pub open_cell : ℕ → List ℕ
open_cell open_lines = if open_lines == 0 then none_open else some_open open_lines

-- a link to the whole list
abbrev pub list_cell : (vessel voyage : List ℕ) → Side → List ℕ
list_cell vessel voyage side = pieces_text
    (Markup (codes "<td><a href='/pages/lists/") ∷ Part vessel ∷ Markup (codes "/") ∷ Part voyage ∷ Markup (codes "/")
    ∷ Markup (side_word side) ∷ Markup (codes "'>List</a></td></tr>\n") ∷ [])

abbrev pub call_line : (vessel voyage : List ℕ) → Side → ListCount → List ℕ
call_line vessel voyage side count =
    call_cells vessel voyage side ++ far_cell count.done (count.pending + count.done) ++ open_cell count.pending
    ++ list_cell vessel voyage side

abbrev pub call_row : LineKey × ListCount → List ℕ
call_row ((vessel ∷ voyage ∷ side ∷ []), count) = call_line vessel voyage (side_of side) count
call_row (other, count) = []

-- ---- the table

abbrev pub open_sum : List (LineKey × ListCount) → ℕ
open_sum lists = sum_by (λ list. list.1.pending) lists

abbrev pub done_sum : List (LineKey × ListCount) → ℕ
done_sum lists = sum_by (λ list. list.1.done) lists

-- how many lists there are, and how many of their lines are open and done
abbrev pub calls_head : (lists pending done : ℕ) → List ℕ
calls_head lists pending done = pieces_text
    (Markup (codes "<h1>Calls</h1>\n<section>\n<h2>") ∷ Count lists ∷ Markup (codes " lists <small>") ∷ Count pending
    ∷ Markup (codes " lines open, ") ∷ Count done ∷ Markup (codes " done</small></h2>\n") ∷ [])

unfoldable pub call_columns : List ℕ
call_columns = codes "<th>Call</th><th>Work</th><th>Done</th><th class='n'>Open</th><th></th>"

abbrev pub calls_section : List (LineKey × ListCount) → List ℕ
calls_section lists =
    calls_head (length lists) (open_sum lists) (done_sum lists)
    ++ table_of (length lists) call_columns (flat_map call_row lists) (codes "No list has a line.")

abbrev pub calls_page : List (LineKey × ListCount) → List ℕ
calls_page lists = page_top (codes "/pages/calls") true (Markup (codes "Calls") ∷ []) ++ calls_section lists ++ foot
