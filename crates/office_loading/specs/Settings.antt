-- What a database has for a table of settings, whatever other tables it has.
use Rattle.std.specs.Prelude.{◌≡◌, ◌⊎◌, ℕ, List, ◌++◌, Some, None, slice_get, codes}
use Rattle.sqlite.specs.{Schema.Schema, Table.Table}
use Rattle.sqlite_schema.specs.{declared.schema.Column.Column, Names.{table_named, view_named, column_named}}
use Rattle.office_rows.specs.Tables.{setting_table}

-- neither a table nor a view has the name
pub record LacksTable (schema : Schema) : Type 0 where
  pub no_table : table_named schema (codes "setting") ≡ None
  pub no_view : view_named schema (codes "setting") ≡ None

-- the table of the name has no column name, or no column value
pub record LacksColumn (schema : Schema) : Type 0 where
  pub at : ℕ
  pub named : table_named schema (codes "setting") ≡ Some at
  pub table : Table
  pub there : slice_get schema.tables at ≡ Some table
  pub lacks : (column_named table (codes "name") ≡ None) ⊎ (column_named table (codes "value") ≡ None)

-- there is nothing to read settings from
abbrev pub HasNoSettings : Schema → Type 0
HasNoSettings schema = LacksTable schema ⊎ LacksColumn schema

-- a table of the name has the columns name and value of the office's first; its rows are in this tree
pub record HasSettings (schema : Schema) (tree : ℕ) : Type 0 where
  pub at : ℕ
  pub named : table_named schema (codes "setting") ≡ Some at
  pub table : Table
  pub there : slice_get schema.tables at ≡ Some table
  pub more : List Column
  pub columns : table.columns ≡ setting_table.columns ++ more
  pub no_rowid : table.key ≡ None
  pub tree_is : table.tree ≡ tree

-- the office's table of settings, if its rows are in this tree
abbrev pub setting_in : ℕ → Table
setting_in tree = record setting_table { tree = tree }
