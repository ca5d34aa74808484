-- How a database holds the rows.
use Rattle.std.specs.{Prelude.{◌≡◌, List, [], length, map}, List.{range_with_len, AllByRecursion}, List.Sorted.IsPermutation}
use Rattle.sqlite.specs.{Order.{Row, column}, Table.Table, Tree.Trees, Effect.Database}
use Rattle.sqlite_schema.specs.Names.{place_of}
use Rattle.sqlite_trees.specs.{Objects.catalog_tree, View.IsShaped}
use Rattle.sqlite_catalog.specs.Listing.{Lists}
use Rattle.office_rows.specs.Tables.{partner_table, interchange_table, visit_table, place_table, listing_table, setting_table, block_table, schema_of, office_schema}
use Rattle.office_rows.specs.{Rows.Rows, Values.{partner_values, interchange_values, visit_values, place_values, line_values, setting_values, block_values}}
use Rattle.sqlite_trees.specs.declared.store.Shape.TheVariants as shape

-- the values of a stored row's columns, as SQL shows them
abbrev pub columns_of : Table → Row → Row
columns_of table row = map (λ at. column row (place_of table at)) (range_with_len 0 (length table.columns))

-- the tree has these records, in any order, each under a rowid of its own
pub record Holds {A : Type 0} (table : Table) (values : A → Row) (records : List A) (stored : List Row) : Type 0 where
  pub shaped : IsShaped shape.Table stored
  pub same : IsPermutation (map values records) (map (columns_of table) stored)

pub record AreRows (rows : Rows) (trees : Trees) : Type 0 where
  pub partners : Holds partner_table partner_values rows.partners (trees 0)
  pub interchanges : Holds interchange_table interchange_values rows.interchanges (trees 2)
  pub visits : Holds visit_table visit_values rows.visits (trees 4)
  pub places : Holds place_table place_values rows.places (trees 5)
  pub lines : Holds listing_table line_values rows.lines (trees 9)
  pub settings : Holds setting_table setting_values rows.settings (trees 11)
  pub blocks : Holds block_table block_values rows.blocks (trees 13)

-- the tables and nothing else, as its trees list them too, with these rows
pub record HasRows (rows : Rows) (db : Database) : Type 0 where
  pub schema : db.schema ≡ office_schema
  pub lists : Lists (db.trees catalog_tree) office_schema
  pub rows_are : AreRows rows db.trees

-- the trees are those of a database that has these rows
abbrev pub StoresRows : Rows → Trees → Type 0
StoresRows rows trees = HasRows rows (record { schema = office_schema; trees = trees })

-- these tables and nothing else, each empty
pub record HasEmpty (tables : List Table) (db : Database) : Type 0 where
  pub schema : db.schema ≡ schema_of tables
  pub empty : AllByRecursion (λ (t : Table). db.trees t.tree ≡ []) tables
