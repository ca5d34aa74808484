-- The kept texts in the order in which they came: that of the numbers of their rows.
use Rattle.std.specs.{Prelude.{◌≡◌, ◌==◌, ◌||◌, ℕ, Bool, List, map, filter}, List.list_any, Ordering.{is_gt, is_ge}}
use Rattle.sqlite.specs.{declared.types.Value.TheVariants.Blob, Order.{Row, column, value_cmp}, Tree.rowid}
use Rattle.office_rows.specs.Values.{number_value}

-- the row's number is above that one
abbrev pub is_after : ℕ → Row → Bool
is_after from row = is_gt (value_cmp (rowid row) (number_value from))

-- the row's number is that one, or above it
abbrev pub is_from : ℕ → Row → Bool
is_from from row = is_ge (value_cmp (rowid row) (number_value from))

-- the texts of the rows after that number; each row's number is above those of the rows before it
abbrev pub AreTextsAfter : ℕ → List Row → List (List ℕ) → Type 0
AreTextsAfter from stored texts = map Blob texts ≡ map (λ row. column row 3) (filter (is_after from) stored)

-- there are at least so many texts: the number of some row is that one or above, or it is 0
abbrev pub has_reached : ℕ → List Row → Bool
has_reached from stored = (from == 0) || list_any (is_from from) stored

-- a row of a query shows a text
abbrev pub IsText : Row → Type 0
IsText row = (text : List ℕ) × (column row 0 ≡ Blob text)
