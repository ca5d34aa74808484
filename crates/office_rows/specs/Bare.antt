-- How a database of version 1 or 2, whose visits have no weight, holds the rows.
use Rattle.std.specs.{Prelude.{◌≡◌, ◌==◌, [], ◌∷◌, ◌++◌, map, if◌then◌else◌}, List.range_with_len}
use Rattle.sqlite.specs.{Order.{Row, column}, Tree.Trees, Effect.Database}
use Rattle.sqlite_trees.specs.Objects.{catalog_tree}
use Rattle.sqlite_catalog.specs.Listing.{Lists}
use Rattle.office_rows.specs.{Layouts.{Layout, bare, weighed, bare_schema}, Rows.Rows, Values.number_value, Stored.AreRows}

-- ---- rows without weights

-- a visit's row as it would be stored with a weight: of 0 kilograms
abbrev pub weighed_row : Row → Row
weighed_row row = map (λ at. column row at) (range_with_len 0 15) ++ number_value 0 ∷ []

-- the trees as they would be with a weight of 0 for each visit
abbrev pub weighed_trees : Trees → Trees
weighed_trees trees tree = if tree == 4 then map weighed_row (trees 4) else trees tree

-- the tables without weights and nothing else, as its trees list them too, with these rows, whose weights are 0
pub record HasBareRows (rows : Rows) (db : Database) : Type 0 where
  pub schema : db.schema ≡ bare_schema
  pub lists : Lists (db.trees catalog_tree) bare_schema
  pub rows_are : AreRows rows (weighed_trees db.trees)

-- ---- as tables with weights

-- the database as it would be with a weight of 0 for each visit
abbrev pub with_weights : Database → Database
with_weights db = record db { trees = weighed_trees db.trees }

-- the database as it is where visits have weights, and else as it would be with them
abbrev pub weighed_in : Layout → Database → Database
weighed_in bare db = with_weights db
weighed_in weighed db = db
