-- The tables of a register as SQL declares them.
use Rattle.std.specs.Prelude.{ℕ, Bool, true, false, [], ◌∷◌, Some, None, codes, List}
use Rattle.sqlite_value.specs.Keys.{plain}
use Rattle.sqlite.specs.{Table.Table, Schema.Schema, Kind.TheVariants.{Blob, Integer, Text}}
use Rattle.office_rows.specs.Tables.{required_column, key_column, schema_of}
use Rattle.office_closing.specs.declared.register_reading.Later.{Later}
use Rattle.office_closing.specs.declared.register_reading.Later.TheVariants as later

-- a row for each archive
abbrev pub archive_table : Table
archive_table = record {
  name = codes "archive";
  tree = 0;
  columns = key_column (codes "place") ∷ required_column (codes "file") Text ∷ required_column (codes "visits") Integer ∷ [];
  key = Some 0;
  primary = 0 ∷ [];
  uniques = (2 ∷ []) ∷ [];
  orders = plain ∷ [];
  checks = [];
  references = [];
  computed = [];
  stamps = record { places = []; terms = []; formats = [] };
  is_counted = false;
}

-- a row for each partner of which an archive closed numbers
abbrev pub segment_table : Table
segment_table = record {
  name = codes "segment";
  tree = 2;
  columns = required_column (codes "partner") Integer ∷ required_column (codes "archive") Integer ∷ required_column (codes "last") Integer ∷ [];
  key = None;
  primary = 1 ∷ 2 ∷ [];
  uniques = (1 ∷ 2 ∷ []) ∷ [];
  orders = plain ∷ [];
  checks = [];
  references = [];
  computed = [];
  stamps = record { places = []; terms = []; formats = [] };
  is_counted = false;
}

-- in an archive's own register a row, and else none
abbrev pub closed_for_table : Table
closed_for_table = record {
  name = codes "closed_for";
  tree = 4;
  columns = required_column (codes "file") Text ∷ [];
  key = None;
  primary = 1 ∷ [];
  uniques = (1 ∷ []) ∷ [];
  orders = plain ∷ [];
  checks = [];
  references = [];
  computed = [];
  stamps = record { places = []; terms = []; formats = [] };
  is_counted = false;
}

-- a row for each list and each archive with which lines of it were put away
abbrev pub settled_table : Table
settled_table = record {
  name = codes "settled";
  tree = 6;
  columns = required_column (codes "vessel") Text ∷ required_column (codes "voyage") Text ∷ required_column (codes "side") Integer
      ∷ required_column (codes "archive") Integer ∷ required_column (codes "lines") Text ∷ [];
  key = None;
  primary = 1 ∷ 2 ∷ 3 ∷ 4 ∷ [];
  uniques = (1 ∷ 2 ∷ 3 ∷ 4 ∷ []) ∷ [];
  orders = plain ∷ [];
  checks = [];
  references = [];
  computed = [];
  stamps = record { places = []; terms = []; formats = [] };
  is_counted = false;
}

-- a row for each archive and each partner of which anything had been taken as it was closed
abbrev pub taken_table : Table
taken_table = record {
  name = codes "taken";
  tree = 8;
  columns = required_column (codes "partner") Integer ∷ required_column (codes "archive") Integer ∷ required_column (codes "last") Integer ∷ [];
  key = None;
  primary = 1 ∷ 2 ∷ [];
  uniques = (1 ∷ 2 ∷ []) ∷ [];
  orders = plain ∷ [];
  checks = [];
  references = [];
  computed = [];
  stamps = record { places = []; terms = []; formats = [] };
  is_counted = false;
}

-- a row for each archive
abbrev pub sealed_table : Table
sealed_table = record {
  name = codes "sealed";
  tree = 10;
  columns = key_column (codes "archive") ∷ required_column (codes "terminal") Text ∷ required_column (codes "seals") Blob ∷ [];
  key = Some 0;
  primary = 0 ∷ [];
  uniques = [];
  orders = [];
  checks = [];
  references = [];
  computed = [];
  stamps = record { places = []; terms = []; formats = [] };
  is_counted = false;
}

-- the tables in the order in which they are made
abbrev pub register_tables : List Table
register_tables = archive_table ∷ segment_table ∷ closed_for_table ∷ settled_table ∷ taken_table ∷ sealed_table ∷ []

-- the schema that they make, with their automatic indexes
abbrev pub register_schema : Schema
register_schema = schema_of register_tables

-- which tables there are: a register of before has the first three, those and that of lists, or all but that of seals
pub data Layout : Type 0 where
  older : Layout
  former : Layout
  unsealed : Layout
  whole : Layout

abbrev pub older_schema : Schema
older_schema = schema_of (archive_table ∷ segment_table ∷ closed_for_table ∷ [])

abbrev pub former_schema : Schema
former_schema = schema_of (archive_table ∷ segment_table ∷ closed_for_table ∷ settled_table ∷ [])

abbrev pub unsealed_schema : Schema
unsealed_schema = schema_of (archive_table ∷ segment_table ∷ closed_for_table ∷ settled_table ∷ taken_table ∷ [])

abbrev pub schema_in : Layout → Schema
schema_in older = older_schema
schema_in former = former_schema
schema_in unsealed = unsealed_schema
schema_in whole = register_schema

-- the query that asks for a table that came later
abbrev pub asking : Later → List ℕ
asking later.Lists = codes "SELECT vessel FROM settled"
asking later.Taken = codes "SELECT last FROM taken"
asking later.Sealed = codes "SELECT terminal FROM sealed"

-- whether there is such a table
abbrev pub has_table : Later → Layout → Bool
has_table later.Lists older = false
has_table later.Lists former = true
has_table later.Lists unsealed = true
has_table later.Lists whole = true
has_table later.Taken older = false
has_table later.Taken former = false
has_table later.Taken unsealed = true
has_table later.Taken whole = true
has_table later.Sealed older = false
has_table later.Sealed former = false
has_table later.Sealed unsealed = false
has_table later.Sealed whole = true
