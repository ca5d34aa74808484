-- The page of what a text finds: containers in the yard, a partner, and the lists of calls.
use Rattle.std.specs.Prelude.{ℕ, ◌&&◌, ◌||◌, Bool, false, List, [], ◌∷◌, ◌++◌, codes, count_by, is_none, nat_eq, nat_le, nat_lt, length, if◌then◌else◌, Option, None, Some}
use Rattle.std.specs.{Char.is_ascii_digit, List.{ends_with, flat_map, list_all}, Str.bytes_eq}
use Rattle.box6346.specs.{declared.box_number.BoxNumber.BoxNumber, declared.size_type.SizeType.SizeType}
use Rattle.terminal_core.specs.{Rows.VisitContent, State.LineKey}
use Rattle.office_reports.specs.declared.calls.ListCount.{ListCount}
use Rattle.office_pages.specs.{Calls.{call_columns, call_row}, Fixed.foot, Frame.typed_top, Marks.load_mark, Tables.{section_head, table_of}}
use Rattle.office_pages.specs.Pieces.{Container, Markup, Part, SizeText, Text, pieces_text}

-- ---- containers in the yard

-- three digits or more, with which the number ends
abbrev pub is_ending : List ℕ → List ℕ → Bool
is_ending typed number = nat_le 3 (length typed) && list_all is_ascii_digit typed && ends_with nat_eq number typed

abbrev pub is_booked : List ℕ → List ℕ → Bool
is_booked typed booking = nat_lt 0 (length typed) && bytes_eq booking typed

-- the text is the end of the container's number, or its booking, and it is in the yard
abbrev pub is_found : List ℕ → VisitContent → Bool
is_found typed visit = is_none visit.departure && (is_ending typed visit.container || is_booked typed visit.booking)

abbrev pub found_line : BoxNumber → SizeType → (is_laden : Bool) → (booking : List ℕ) → List ℕ
found_line container size_type is_laden booking = pieces_text
    (Markup (codes "<tr><td>") ∷ Container container ∷ Markup (codes "</td><td class='m'>") ∷ SizeText size_type
    ∷ Markup (codes "</td><td>") ∷ Markup (load_mark is_laden) ∷ Markup (codes "</td><td>") ∷ Text booking
    ∷ Markup (codes "</td></tr>\n") ∷ [])

abbrev pub found_row : List ℕ → VisitContent → List ℕ
found_row typed visit =
    if is_found typed visit then found_line visit.container visit.size_type visit.is_laden visit.booking else []

abbrev pub found_columns : List ℕ
found_columns = codes "<th>Container</th><th>Size-type</th><th>Load</th><th>Booking</th>"

abbrev pub found_section : List ℕ → List VisitContent → List ℕ
found_section typed visits =
    section_head (codes "Containers in the yard") (count_by (is_found typed) visits) []
    ++ table_of (count_by (is_found typed) visits) found_columns (flat_map (found_row typed) visits)
    (codes "None has a number that ends so, or that booking.")

-- ---- a partner

abbrev pub partner_line : List ℕ → List ℕ
partner_line code = pieces_text
    (Markup (codes "<section>\n<h2>Partner</h2>\n<p><a href='/pages/partners/") ∷ Part code ∷ Markup (codes "'>") ∷ Text code
    ∷ Markup (codes "</a></p>\n</section>\n") ∷ [])

abbrev pub found_partner : Option (List ℕ) → List ℕ
found_partner None = []
found_partner (Some code) = partner_line code

-- ---- lists of calls

-- the text is the call's vessel, or its voyage
abbrev pub is_found_call : (typed vessel voyage : List ℕ) → Bool
is_found_call typed vessel voyage = bytes_eq vessel typed || bytes_eq voyage typed

abbrev pub is_found_list : List ℕ → LineKey × ListCount → Bool
is_found_list typed ((vessel ∷ voyage ∷ side ∷ []), count) = is_found_call typed vessel voyage
is_found_list typed (other, count) = false

abbrev pub found_list : List ℕ → LineKey × ListCount → List ℕ
found_list typed list = if is_found_list typed list then call_row list else []

abbrev pub found_lists : List ℕ → List (LineKey × ListCount) → List ℕ
found_lists typed lists =
    section_head (codes "Lists of calls") (count_by (is_found_list typed) lists) []
    ++ table_of (count_by (is_found_list typed) lists) call_columns (flat_map (found_list typed) lists)
    (codes "None is of a vessel or a voyage of that name.")

-- ---- the page

abbrev pub found_top : List ℕ → List ℕ
found_top typed =
    typed_top typed (Markup (codes "Find ") ∷ Text typed ∷ [])
    ++ pieces_text (Markup (codes "<h1><small>Find</small> ") ∷ Text typed ∷ Markup (codes "</h1>\n") ∷ [])

-- what was typed, the visits of the terminal, the partner of that code, if there is one, and the lists of the calls
abbrev pub found_page : (typed : List ℕ) → List VisitContent → (partner : Option (List ℕ)) → List (LineKey × ListCount) →
    List ℕ
found_page typed visits partner lists =
    found_top typed ++ found_section typed visits ++ found_partner partner ++ found_lists typed lists ++ foot
