-- The page of the blocks of the yard: how full each is.
use Rattle.std.specs.{Prelude.{ℕ, ◌*◌, false, List, [], ◌∷◌, ◌++◌, codes, length, nat_le, if◌then◌else◌}, List.flat_map}
use Rattle.office_reports.specs.{Blocks.{BlocksContent, cell_count, used_cells}, declared.blocks.BlockRow.BlockRow, declared.blocks.BlockUse.BlockUse}
use Rattle.office_pages.specs.{Fixed.foot, Frame.page_top, Marks.bar, Pieces.{Count, Letter, LetterPart, Markup, pieces_text}}
use Rattle.office_pages.specs.Tables.{section_head, table_head}

-- nine tenths of the cells are used, or more
abbrev pub fullness : (used cells : ℕ) → List ℕ
fullness used cells = if nat_le (cells * 9) (used * 10) then codes "tight" else codes "part"

-- how many of the cells are used, in figures and as a bar
abbrev pub used_cell : (used cells : ℕ) → List ℕ
used_cell used cells =
    pieces_text (Markup (codes "<td class='how'><span>") ∷ Count used ∷ Markup (codes " of ") ∷ Count cells
    ∷ Markup (codes "</span>") ∷ [])
    ++ pieces_text (bar (fullness used cells) used cells)

-- how many twenties and forties there are, how many of both are buried, and the highest tier in use
abbrev pub use_cells : BlockUse → List ℕ
use_cells used = pieces_text
    (Markup (codes "</td><td class='n o'>") ∷ Count used.twenties ∷ Markup (codes "</td><td class='n o'>") ∷ Count used.forties
    ∷ Markup (codes "</td><td class='n'>") ∷ Count used.under ∷ Markup (codes "</td><td class='n o'>") ∷ Count used.highest
    ∷ Markup (codes "</td></tr>\n") ∷ [])

-- the block, with a link to its part of the yard
abbrev pub block_cell : ℕ → List ℕ
block_cell letter = pieces_text
    (Markup (codes "<tr><th><a href='/pages/yard/") ∷ LetterPart letter ∷ Markup (codes "'>") ∷ Letter letter
    ∷ Markup (codes "</a></th>") ∷ [])

abbrev pub block_row : BlockRow → List ℕ
block_row row =
    block_cell row.block.letter ++ used_cell (used_cells row.used) (cell_count row.block) ++ use_cells row.used

-- all blocks
abbrev pub sum_row : (cells : ℕ) → BlockUse → List ℕ
sum_row cells used =
    pieces_text (Markup (codes "</tbody>\n<tfoot><tr><th>All</th>") ∷ []) ++ used_cell (used_cells used) cells ++ use_cells used
    ++ pieces_text (Markup (codes "</tfoot>\n</table>\n</section>\n") ∷ [])

unfoldable pub block_columns : List ℕ
block_columns =
    codes "<th>Block</th><th>Cells used</th><th class='n o'>Twenties</th><th class='n o'>Forties</th><th class='n'>Buried</th>"
    ++ codes "<th class='n o'>Highest tier</th>"

abbrev pub blocks_section : BlocksContent → List ℕ
blocks_section report =
    section_head (codes "Blocks") (length report.rows) [] ++ table_head block_columns ++ flat_map block_row report.rows
    ++ sum_row report.cells report.used

abbrev pub blocks_page : BlocksContent → List ℕ
blocks_page report =
    page_top (codes "/pages/blocks") false (Markup (codes "Blocks") ∷ [])
    ++ pieces_text (Markup (codes "<h1>Blocks</h1>\n") ∷ []) ++ blocks_section report ++ foot
