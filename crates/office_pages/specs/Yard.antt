-- The page of the containers in the yard: of all blocks, or of one.
use Rattle.std.specs.Prelude.{ℕ, ◌+◌, ◌==◌, Bool, false, List, [], ◌∷◌, ◌++◌, codes, count_by, filter, length, not, if◌then◌else◌, Option, None, Some}
use Rattle.std.specs.{List.{flat_map, range_with_len}, Map.values_of}
use Rattle.office_reports.specs.{Blocks.is_in, declared.yard.Standing.Standing}
use Rattle.office_pages.specs.{Fixed.foot, Frame.page_top, Marks.load_mark, Tables.{no_rows, table_head}}
use Rattle.office_pages.specs.Pieces.{Container, Count, Letter, LetterPart, Markup, PieceContent, SizeText, SlotText, pieces_text}

-- those that the page shows
abbrev pub shown : Option ℕ → List Standing → List Standing
shown None yard = yard
shown (Some letter) yard = filter (is_in letter) yard

unfoldable pub block_name : ℕ → List PieceContent
block_name letter = Markup (codes "Yard, block ") ∷ Letter letter ∷ []

abbrev pub yard_title : Option ℕ → List PieceContent
yard_title None = Markup (codes "Yard") ∷ []
yard_title (Some letter) = block_name letter

abbrev pub yard_heading : Option ℕ → List ℕ
yard_heading block =
    pieces_text (Markup (codes "<h1>") ∷ []) ++ pieces_text (yard_title block)
    ++ pieces_text (Markup (codes "</h1>\n<p class='only'>\n") ∷ [])

-- ---- links to the blocks

abbrev pub is_shown : Option ℕ → ℕ → Bool
is_shown None letter = false
is_shown (Some block) letter = block == letter

-- the link to what the page shows is marked
abbrev pub chosen : Bool → List ℕ
chosen is = if is then codes " aria-current='true'>" else codes ">"

abbrev pub all_link : Option ℕ → ℕ → List ℕ
all_link None count =
    pieces_text (Markup (codes "<a href='/pages/yard' aria-current='true'>All ") ∷ Count count ∷ Markup (codes "</a>\n") ∷ [])
all_link (Some letter) count =
    pieces_text (Markup (codes "<a href='/pages/yard'>All ") ∷ Count count ∷ Markup (codes "</a>\n") ∷ [])

-- how many are in the block; nothing of a block that has none
abbrev pub block_link : Option ℕ → (letter count : ℕ) → List ℕ
block_link block letter count =
    if count == 0 then []
    else pieces_text
    (Markup (codes "<a href='/pages/yard/") ∷ LetterPart letter ∷ Markup (codes "'") ∷ Markup (chosen (is_shown block letter))
    ∷ Letter letter ∷ Markup (codes " ") ∷ Count count ∷ Markup (codes "</a>\n") ∷ [])

-- of the blocks A to Z
abbrev pub block_links : Option ℕ → List Standing → List ℕ
block_links block yard =
    flat_map (λ n. block_link block (65 + n) (count_by (is_in (65 + n)) yard)) (range_with_len 0 26)

-- ---- the table

-- SLOT BOX SIZE, full or empty
abbrev pub standing_row : Standing → List ℕ
standing_row standing = pieces_text
    (Markup (codes "<tr><td class='m'>") ∷ SlotText standing.slot ∷ Markup (codes "</td><td>") ∷ Container standing.container
    ∷ Markup (codes "</td><td class='m'>") ∷ SizeText standing.size_type ∷ Markup (codes "</td><td>")
    ∷ Markup (load_mark standing.is_laden) ∷ Markup (codes "</td></tr>\n") ∷ [])

abbrev pub is_full : Standing → Bool
is_full standing = standing.is_laden

abbrev pub is_empty : Standing → Bool
is_empty standing = not standing.is_laden

-- how many, and how many of them are full and empty
abbrev pub yard_sums : (whole full empty : ℕ) → List ℕ
yard_sums whole full empty = pieces_text
    (Markup (codes "</tbody>\n<tfoot><tr><th colspan='2'>") ∷ Count whole ∷ Markup (codes " containers</th><td colspan='2'>")
    ∷ Count full ∷ Markup (codes " full, ") ∷ Count empty ∷ Markup (codes " empty</td></tr></tfoot>\n</table>\n</section>\n")
    ∷ [])

unfoldable pub yard_columns : List ℕ
yard_columns = codes "<th>Slot</th><th>Container</th><th>Size-type</th><th>Load</th>"

abbrev pub yard_table : List Standing → List ℕ
yard_table [] = no_rows (codes "No container is here.")
yard_table (standing ∷ standings) =
    table_head yard_columns ++ flat_map standing_row (standing ∷ standings)
    ++ yard_sums (length (standing ∷ standings)) (count_by is_full (standing ∷ standings))
    (count_by is_empty (standing ∷ standings))

abbrev pub yard_section : Option ℕ → List Standing → List ℕ
yard_section block yard =
    pieces_text (Markup (codes "</p>\n<section>\n") ∷ []) ++ yard_table (shown block yard)

abbrev pub yard_body : Option ℕ → List Standing → List ℕ
yard_body block yard =
    yard_heading block ++ all_link block (length yard) ++ block_links block yard ++ yard_section block yard

-- of the containers by the texts of their slots, those of a block, or all
abbrev pub yard_page : List (List ℕ × Standing) → Option ℕ → List ℕ
yard_page yard block =
    page_top (codes "/pages/yard") false (yard_title block) ++ yard_body block (values_of yard) ++ foot
