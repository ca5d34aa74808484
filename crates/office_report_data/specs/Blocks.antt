-- The report on the blocks of the yard as JSON and as CSV.
use Rattle.std.specs.Prelude.{ℕ, List, [], ◌∷◌, codes, decimal, encode_utf8_all}
use Rattle.serde_json.specs.Data.{Data, Members, string, number, unsigned, object, member, no_members, put}
use Rattle.yard_core.specs.declared.plan.Block.{Block}
use Rattle.office_reports.specs.{Blocks.{BlocksContent, cell_count, used_cells}, declared.blocks.{BlockRow.BlockRow, BlockUse.BlockUse}}
use Rattle.office_report_data.specs.{Rows.rows_object, Tables.table_text}

-- the letter of a block as text
abbrev pub letter_text : ℕ → List ℕ
letter_text letter = encode_utf8_all (letter ∷ [])

unfoldable pub block_data : BlockRow → Data
block_data row =
    object (member (codes "bays") (number (unsigned row.block.bays)) (member (codes "block") (string (letter_text row.block.letter))
    (member (codes "cells") (number (unsigned (cell_count row.block)))
    (member (codes "forties") (number (unsigned row.used.forties)) (member (codes "highest") (number (unsigned row.used.highest))
    (member (codes "rows") (number (unsigned row.block.rows)) (member (codes "tiers") (number (unsigned row.block.tiers))
    (member (codes "twenties") (number (unsigned row.used.twenties)) (member (codes "under") (number (unsigned row.used.under))
    (member (codes "used") (number (unsigned (used_cells row.used))) no_members))))))))))

abbrev pub blocks_data : BlocksContent → Data
blocks_data report = rows_object block_data report.rows

-- ---- as CSV

unfoldable pub blocks_header : List (List ℕ)
blocks_header =
    codes "block" ∷ codes "bays" ∷ codes "rows" ∷ codes "tiers" ∷ codes "cells" ∷ codes "used" ∷ codes "twenties"
    ∷ codes "forties" ∷ codes "under" ∷ codes "highest" ∷ []

abbrev pub block_fields : BlockRow → List (List ℕ)
block_fields row =
    letter_text row.block.letter ∷ decimal row.block.bays ∷ decimal row.block.rows ∷ decimal row.block.tiers
    ∷ decimal (cell_count row.block) ∷ decimal (used_cells row.used) ∷ decimal row.used.twenties
    ∷ decimal row.used.forties ∷ decimal row.used.under ∷ decimal row.used.highest ∷ []

abbrev pub blocks_table : BlocksContent → List ℕ
blocks_table report = table_text blocks_header block_fields report.rows

-- ---- as the code has it

-- an object's members, with these among them: the letter of a block, and its size
unfoldable pub with_size : Block → Members → Members
with_size block members =
    put (codes "tiers") (number (unsigned block.tiers)) (put (codes "rows") (number (unsigned block.rows))
    (put (codes "cells") (number (unsigned (cell_count block))) (put (codes "bays") (number (unsigned block.bays))
    (put (codes "block") (string (letter_text block.letter)) members))))

-- with these among them: how it is used
unfoldable pub with_use : BlockUse → Members → Members
with_use used members =
    put (codes "used") (number (unsigned (used_cells used))) (put (codes "under") (number (unsigned used.under))
    (put (codes "twenties") (number (unsigned used.twenties)) (put (codes "highest") (number (unsigned used.highest))
    (put (codes "forties") (number (unsigned used.forties)) members))))
