-- A table whose rowids are 1, 2, 3 and so on, in the order in which its rows were inserted.
use Rattle.std.specs.{Prelude.{◌≡◌, ℕ, ◌+◌, pos, List, [], ◌∷◌, ◌++◌, length, drop}, List.Sorted.IsPermutation}
use Rattle.sqlite_value.specs.{declared.value.Value.TheVariants.{Null, Int}, Order.Row}
use Rattle.sqlite_trees.specs.Tree.{IsTable, rowid, put_row}
use Rattle.sqlite_rules.specs.{declared.error.Rowids.TheVariants.Chosen, Edit.with_rowid}

-- the rowids count on from that number
abbrev pub ArePlaced : ℕ → List Row → Type 0
ArePlaced from [] = Unit {0}
ArePlaced from (row ∷ rows) = (rowid row ≡ Int (pos from)) × ArePlaced (from + 1) rows

-- what an INSERT without a rowid makes of the rows: the new one is the last, under the next number
pub record AddsLast (rows : List Row) (source : Row) : Type 0 where
  pub last : put_row (with_rowid Chosen rows source) rows ≡ rows ++ (Int (pos (length rows + 1)) ∷ drop 1 source) ∷ []
  pub placed : ArePlaced 1 (put_row (with_rowid Chosen rows source) rows)

abbrev pub InsertAddsLast : Type 0
InsertAddsLast = (rows : List Row) (source : Row) → ArePlaced 1 rows → rowid source ≡ Null → AddsLast rows source

-- Rows stand in one order: two lists of the same rows, whose rowids rise, are equal. So what an UPDATE leaves under the
-- same rowids stands where it stood.
abbrev pub RowsHaveOneOrder : Type 0
RowsHaveOneOrder = (rows other : List Row) → IsTable rows → IsTable other → IsPermutation rows other → other ≡ rows
