-- The page of what is left to do of a vessel's list: what is free first.
use Rattle.std.specs.{Prelude.{ℕ, Bool, true, List, [], ◌∷◌, ◌++◌, codes, count_by, if◌then◌else◌, Option, None, Some}, List.{flat_map, list_any}}
use Rattle.std.specs.{Ordering.{eq_by_cmp, nat_cmp}, Cmp.Lexicographic.slice_cmp}
use Rattle.box6346.specs.declared.box_number.BoxNumber.{BoxNumber}
use Rattle.terminal_core.specs.{declared.lines.Side.Side, declared.lines.Side.TheVariants.{Load, Discharge}}
use Rattle.office_reports.specs.{declared.yard.Standing.Standing, Work.{JobContent, WorkContent, in_order, is_absent, is_covered, is_free, is_here}}
use Rattle.office_pages.specs.{Fixed.foot, Frame.page_top, Marks.{bar, done_kind, side_name, side_word}, Tables.{section_head, table_of}}
use Rattle.office_pages.specs.Pieces.{Container, Count, Markup, Part, SizeText, SlotText, Text, pieces_text}

-- ---- the head

abbrev pub work_title : (vessel voyage : List ℕ) → Side → List ℕ
work_title vessel voyage side = pieces_text
    (Markup (codes "<h1><small>") ∷ Markup (side_name side) ∷ Markup (codes " work of</small> ") ∷ Text vessel ∷ Markup (codes " ")
    ∷ Text voyage ∷ Markup (codes "</h1>\n<p class='beside'><a href='/pages/lists/") ∷ Part vessel ∷ Markup (codes "/")
    ∷ Part voyage ∷ Markup (codes "/") ∷ Markup (side_word side) ∷ Markup (codes "'>The whole list</a></p>\n") ∷ [])

abbrev pub work_top : (vessel voyage : List ℕ) → Side → List ℕ
work_top vessel voyage side =
    page_top (codes "/pages/calls") true
    (Markup (side_name side) ∷ Markup (codes " work of ") ∷ Text vessel ∷ Markup (codes " ") ∷ Text voyage ∷ [])
    ++ work_title vessel voyage side

-- how many of the list's lines are done
abbrev pub done_view : (done whole : ℕ) → List ℕ
done_view done whole =
    pieces_text (Markup (codes "<p class='far'>") ∷ []) ++ pieces_text (bar (done_kind done whole) done whole)
    ++ pieces_text (Markup (codes " <b>") ∷ Count done ∷ Markup (codes " of ") ∷ Count whole ∷ Markup (codes " done</b></p>\n") ∷ [])

-- ---- rows

-- SLOT BOX SIZE PORT
abbrev pub standing_row : JobContent → Standing → List ℕ
standing_row job standing = pieces_text
    (Markup (codes "<tr><td class='m'>") ∷ SlotText standing.slot ∷ Markup (codes "</td><td>") ∷ Container job.container
    ∷ Markup (codes "</td><td class='m'>") ∷ SizeText standing.size_type ∷ Markup (codes "</td><td class='m'>") ∷ Text job.port
    ∷ Markup (codes "</td></tr>\n") ∷ [])

-- that of a load that is free
abbrev pub free_row_by : JobContent → Option Standing → Option BoxNumber → List ℕ
free_row_by job (Some standing) None = standing_row job standing
free_row_by job (Some standing) (Some blocker) = []
free_row_by job None blocker = []

abbrev pub free_row : JobContent → List ℕ
free_row job = free_row_by job job.standing job.blocker

-- whether what stands on a load is wanted too, or has to be put elsewhere
abbrev pub blocker_note : (is_wanted : Bool) → List ℕ
blocker_note is_wanted = if is_wanted then codes "on this list too" else codes "stays: it must move first"

-- the container is one of the jobs'
abbrev pub is_wanted : List JobContent → BoxNumber → Bool
is_wanted jobs container = list_any (λ job. eq_by_cmp (slice_cmp nat_cmp) job.container container) jobs

abbrev pub blocked_row : JobContent → Standing → BoxNumber → (note : List ℕ) → List ℕ
blocked_row job standing blocker note = pieces_text
    (Markup (codes "<tr><td class='m'>") ∷ SlotText standing.slot ∷ Markup (codes "</td><td>") ∷ Container job.container
    ∷ Markup (codes "</td><td class='m o'>") ∷ SizeText standing.size_type ∷ Markup (codes "</td><td class='m o'>") ∷ Text job.port
    ∷ Markup (codes "</td><td>") ∷ Container blocker ∷ Markup (codes "<br><span class='note'>") ∷ Markup note
    ∷ Markup (codes "</span></td></tr>\n") ∷ [])

abbrev pub covered_row_by : (BoxNumber → Bool) → JobContent → Option Standing → Option BoxNumber → List ℕ
covered_row_by wanted job (Some standing) (Some blocker) =
    blocked_row job standing blocker (blocker_note (wanted blocker))
covered_row_by wanted job (Some standing) None = []
covered_row_by wanted job None blocker = []

-- that of a load on which another container stands
abbrev pub covered_row : (BoxNumber → Bool) → JobContent → List ℕ
covered_row wanted job = covered_row_by wanted job job.standing job.blocker

-- BOX PORT
abbrev pub absent_row_by : JobContent → Option Standing → List ℕ
absent_row_by job None = pieces_text
    (Markup (codes "<tr><td>") ∷ Container job.container ∷ Markup (codes "</td><td class='m'>") ∷ Text job.port
    ∷ Markup (codes "</td></tr>\n") ∷ [])
absent_row_by job (Some standing) = []

-- that of one that is not in the yard
abbrev pub absent_row : JobContent → List ℕ
absent_row job = absent_row_by job job.standing

abbrev pub here_row_by : JobContent → Option Standing → List ℕ
here_row_by job None = []
here_row_by job (Some standing) = standing_row job standing

-- that of one that is in the yard
abbrev pub here_row : JobContent → List ℕ
here_row job = here_row_by job job.standing

-- ---- tables

unfoldable pub standing_columns : List ℕ
standing_columns = codes "<th>Slot</th><th>Container</th><th>Size-type</th><th>Port</th>"

unfoldable pub covered_columns : List ℕ
covered_columns =
    codes "<th>Slot</th><th>Container</th><th class='o'>Size-type</th><th class='o'>Port</th><th>What stands on it</th>"

unfoldable pub absent_columns : List ℕ
absent_columns = codes "<th>Container</th><th>Port</th>"

-- ---- what is left to do

-- loads that can be taken at once
abbrev pub free_section : List JobContent → List JobContent → List ℕ
free_section jobs rows =
    section_head (codes "<b class='s ok'>free now</b>") (count_by is_free jobs) (codes ", by slot")
    ++ table_of (count_by is_free jobs) standing_columns (flat_map free_row rows) (codes "Nothing is free.")

abbrev pub covered_section : List JobContent → List JobContent → List ℕ
covered_section jobs rows =
    section_head (codes "<b class='s wait'>under another</b>") (count_by is_covered jobs)
    (codes ", by slot, from the top down")
    ++ table_of (count_by is_covered jobs) covered_columns (flat_map (covered_row (is_wanted jobs)) rows) (codes "Nothing is under another.")

abbrev pub absent_section : List JobContent → List JobContent → List ℕ
absent_section jobs rows =
    section_head (codes "<b class='s bad'>not in the yard</b>") (count_by is_absent jobs) []
    ++ table_of (count_by is_absent jobs) absent_columns (flat_map absent_row rows) (codes "All are in the yard.")

-- what is still to come off the ship
abbrev pub expected_section : List JobContent → List JobContent → List ℕ
expected_section jobs rows =
    section_head (codes "<b class='s ok'>to discharge</b>") (count_by is_absent jobs) []
    ++ table_of (count_by is_absent jobs) absent_columns (flat_map absent_row rows) (codes "Nothing is to be discharged.")

-- what can't be discharged, since a container of that number is here
abbrev pub here_section : List JobContent → List JobContent → List ℕ
here_section jobs rows =
    section_head (codes "<b class='s bad'>in the yard already</b>") (count_by is_here jobs) []
    ++ table_of (count_by is_here jobs) standing_columns (flat_map here_row rows) (codes "None is in the yard already.")

abbrev pub sections : Side → List JobContent → List JobContent → List ℕ
sections Load jobs rows = free_section jobs rows ++ covered_section jobs rows ++ absent_section jobs rows
sections Discharge jobs rows = expected_section jobs rows ++ here_section jobs rows

abbrev pub work_body : WorkContent → List ℕ
work_body work = done_view work.done work.whole ++ sections work.side work.jobs (in_order work.side work.jobs)

abbrev pub work_page : WorkContent → List ℕ
work_page work = work_top work.call.vessel work.call.voyage work.side ++ work_body work ++ foot
