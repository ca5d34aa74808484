-- The least heights of the blocks' columns: what the code relies on, and no caller has to read.
use Rattle.std.specs.Prelude.{◌≡◌, ℕ, ◌+◌, ◌*◌, ◌<◌, ◌≤◌, List, Some, All, length, slice_get}
use Rattle.yard_core.specs.{declared.plan.Block.Block, declared.columns.LeastHeight.LeastHeight, Plan.IsSized, YardMap.Box, Columns.column_at}

-- no column of the block's bays and rows is below the height; its columns begin at the first
abbrev pub AreAtLeast : List (List Box) → ℕ → Block → ℕ → Type 0
AreAtLeast columns first block height =
    (bay row : ℕ) → bay < block.bays → row < block.rows → height ≤ length (column_at columns (first + 12 * bay + row))

-- each block has 480 columns and a least height of them
pub record AreLeastHeights (columns : List (List Box)) (heights : List LeastHeight) : Type 0 where
  pub long : length columns ≡ 480 * length heights
  pub sized : All (λ (h : LeastHeight). IsSized h.block) heights
  pub least : (position : ℕ) (h : LeastHeight) → slice_get heights position ≡ Some h →
      AreAtLeast columns (480 * position) h.block h.height

-- that of a block with no boxes
abbrev pub ground_height : Block → LeastHeight
ground_height block = record { block = block; height = 0 }
