-- The report on the blocks of a yard (our own).
use Rattle.std.specs.Prelude.{◌≡◌, ℕ, ◌+◌, ◌*◌, ◌%◌, ◌==◌, Bool, List, [], ◌∷◌, ◌++◌, length, filter, map, count_by, sum_by, max, codes, decimal, encode_utf8_all, is_some}
use Rattle.std.specs.{List.flat_map, Map.values_of}
use Rattle.yard_core.specs.declared.plan.Block.{Block}
use Rattle.terminal_core.specs.State.{TerminalState}
use Rattle.office_reports.specs.{declared.blocks.BlockRow.BlockRow, declared.blocks.BlockUse.BlockUse, declared.blocks.BlocksReport.BlocksReport, Yard.StandsAt}
use Rattle.office_reports.specs.{declared.yard.Standing.Standing, Listed.AreListed, Names.{line, phrase}, Containers.blocker_in}

abbrev pub is_in : ℕ → Standing → Bool
is_in letter standing = standing.slot.block == letter

-- a twenty stands in an odd bay, a forty in an even one
abbrev pub is_twenty : Standing → Bool
is_twenty standing = standing.slot.bay % 2 == 1

abbrev pub is_forty : Standing → Bool
is_forty standing = standing.slot.bay % 2 == 0

-- another container stands on it
abbrev pub is_under : TerminalState → Standing → Bool
is_under state standing = is_some (blocker_in state standing.container)

-- the highest tier in which one stands
abbrev pub highest_tier : List Standing → ℕ
highest_tier [] = 0
highest_tier (standing ∷ standings) = max standing.slot.tier (highest_tier standings)

-- how the cells with these containers in them are used
abbrev pub use_of : TerminalState → List Standing → BlockUse
use_of state standings = record {
  twenties = count_by is_twenty standings;
  forties = count_by is_forty standings;
  under = count_by (is_under state) standings;
  highest = highest_tier standings;
}

-- a block, and how it is used by these of a yard that are in it
abbrev pub row_of : TerminalState → List Standing → Block → BlockRow
row_of state yard block = record { block = block; used = use_of state (filter (is_in block.letter) yard) }

-- how many twenties a block holds
unfoldable pub cell_count : Block → ℕ
cell_count block = block.bays * block.rows * block.tiers

-- the blocks of the plan, how many twenties they hold, and how they are used
pub record BlocksContent : Type 0 where
  pub rows : List BlockRow
  pub cells : ℕ
  pub used : BlockUse

abbrev pub blocks_of : TerminalState → List Standing → BlocksContent
blocks_of state yard = record {
  rows = map (row_of state yard) state.yard.plan;
  cells = sum_by cell_count state.yard.plan;
  used = use_of state yard;
}

-- the report tells of each block of the plan, by the containers in the yard
pub record AreBlocks (state : TerminalState) (report : BlocksContent) : Type 0 where
  pub yard : List (List ℕ × Standing)
  pub listed : AreListed (StandsAt state) yard
  pub is : report ≡ blocks_of state (values_of yard)

-- ---- its text

-- a forty uses two cells
abbrev pub used_cells : BlockUse → ℕ
used_cells used = used.twenties + 2 * used.forties

-- USED u TWENTIES x FORTIES y UNDER z HIGHEST h
abbrev pub use_words : BlockUse → List (List ℕ)
use_words used =
    codes "USED" ∷ decimal (used_cells used) ∷ codes "TWENTIES" ∷ decimal used.twenties
    ∷ codes "FORTIES" ∷ decimal used.forties ∷ codes "UNDER" ∷ decimal used.under
    ∷ codes "HIGHEST" ∷ decimal used.highest ∷ []

-- BLOCK BAYS b ROWS r TIERS t CELLS c
abbrev pub size_words : Block → List (List ℕ)
size_words block =
    encode_utf8_all (block.letter ∷ []) ∷ codes "BAYS" ∷ decimal block.bays ∷ codes "ROWS" ∷ decimal block.rows
    ∷ codes "TIERS" ∷ decimal block.tiers ∷ codes "CELLS" ∷ decimal (cell_count block) ∷ []

-- the same, and how it is used
abbrev pub block_line : BlockRow → List ℕ
block_line row = line (phrase (size_words row.block) ∷ phrase (use_words row.used) ∷ [])

-- n BLOCKS CELLS c, and how they are used
abbrev pub blocks_end : BlocksContent → List ℕ
blocks_end report =
    line (decimal (length report.rows) ∷ codes "BLOCKS" ∷ codes "CELLS" ∷ decimal report.cells
    ∷ phrase (use_words report.used) ∷ [])

abbrev pub blocks_text : BlocksContent → List ℕ
blocks_text report = line (codes "BLOCKS" ∷ []) ++ flat_map block_line report.rows ++ blocks_end report

-- the text tells of each block of the plan, by the containers in the yard
pub record IsBlocksReport (state : TerminalState) (text : List ℕ) : Type 0 where
  pub yard : List (List ℕ × Standing)
  pub listed : AreListed (StandsAt state) yard
  pub is : text ≡ blocks_text (blocks_of state (values_of yard))

-- ---- as the code has it

abbrev pub blocks_content : BlocksReport → BlocksContent
blocks_content report = record { rows = report.rows.items; cells = report.cells; used = report.used }
