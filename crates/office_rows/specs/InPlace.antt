-- How a table has its records in the order in which they were inserted.
use Rattle.std.specs.{Prelude.{◌≡◌, ◌≢◌, ℕ, Bool, ◌&&◌, List, [], ◌∷◌, ◌++◌, map, filter}, List.Sorted.IsPermutation}
use Rattle.sqlite.specs.{Collation.TheVariants.Binary, declared.types.Value.TheVariants.{Null, Text}, Ops.{binary, is_true}, Order.{Row, column}, Table.Table}
use Rattle.sqlite.specs.Tree.{Trees}
use Rattle.sqlite_sql.specs.{declared.ops.BinaryOp.TheVariants.Compare, declared.ops.CompareOp.TheVariants.Eq}
use Rattle.sqlite_schema.specs.declared.schema.Keys.TheVariants.{Enforced}
use Rattle.sqlite_rules.specs.{Calls.ids_of, declared.error.Rowids.TheVariants.{Chosen, Given}, Edit.{Edit, edit_of, Applies}}
use Rattle.office_rows.specs.{Tables.{interchange_table, office_schema}, Rows.{Interchange, Rows}, Values.{number_value, interchange_values}, Stored.columns_of}
use Rattle.office_rows.specs.{Effects.with_reply, Places.ArePlaced}

-- the tree has these records, in this order, under the rowids 1, 2, 3 and so on
pub record AreInPlace {A : Type 0} (table : Table) (values : A → Row) (records : List A) (stored : List Row)
    : Type 0 where
  pub placed : ArePlaced 1 stored
  pub same : map values records ≡ map (columns_of table) stored

-- the interchanges of these rows stand so in the trees
abbrev pub InterchangesAreInPlace : List Interchange → Trees → Type 0
InterchangesAreInPlace interchanges trees =
    AreInPlace interchange_table interchange_values interchanges (trees interchange_table.tree)

-- ---- one is inserted

-- an INSERT puts in the interchange, and leaves its rowid to the table
abbrev pub Adds : Interchange → Trees → Trees → Type 0
Adds i old new =
    Applies office_schema Enforced old (edit_of old interchange_table [] Chosen 0 ((Null ∷ interchange_values i) ∷ [])) new

-- it is the last, under the next rowid
abbrev pub AddsInPlace : Type 0
AddsInPlace =
    (old new : Trees) (interchanges : List Interchange) (i : Interchange) →
    InterchangesAreInPlace interchanges old → Adds i old new
    → InterchangesAreInPlace (interchanges ++ i ∷ []) new

-- ---- one gets its reply

-- the column has this number
abbrev pub says : Row → ℕ → ℕ → Bool
says row at n = is_true (binary (Compare Eq Binary) (column row at) (number_value n))

-- the row is that of the partner's number
abbrev pub is_row_of : ℕ → ℕ → Row → Bool
is_row_of partner number_of row = says row 1 partner && says row 2 number_of

-- the rowid, and the row with the reply
abbrev pub replied : List ℕ → Row → Row
replied reply row = column row 0 ∷ column row 0 ∷ column row 1 ∷ column row 2 ∷ column row 3 ∷ Text reply ∷ []

-- an UPDATE takes the rows of the partner's number out, and puts them in under the same rowids with the reply
pub record Replies (partner number_of : ℕ) (reply : List ℕ) (old new : Trees) : Type 0 where
  pub found : List Row
  pub finds : IsPermutation (map (replied reply) (filter (is_row_of partner number_of) (old interchange_table.tree))) found
  pub applies : Applies office_schema Enforced old (edit_of old interchange_table (ids_of found) Given 1 found) new

-- each interchange stands where it stood
abbrev pub RepliesInPlace : Type 0
RepliesInPlace =
    (old new : Trees) (rows : Rows) (partner number_of : ℕ) (reply : List ℕ) →
    InterchangesAreInPlace rows.interchanges old → Replies partner number_of reply old new
    → InterchangesAreInPlace (with_reply partner number_of reply rows).interchanges new

-- ---- another table is written

abbrev pub OthersKeepPlaces : Type 0
OthersKeepPlaces =
    (old new : Trees) (edit : Edit) → Applies office_schema Enforced old edit new
    → edit.table.tree ≢ interchange_table.tree
    → new interchange_table.tree ≡ old interchange_table.tree
