-- The tables of the office as SQL declares them.
use Rattle.std.specs.Prelude.{true, false, [], ◌∷◌, Some, None, codes, List, ℕ, fold}
use Rattle.sqlite.specs.{Collation.TheVariants.Binary, declared.types.Value.TheVariants.Null, Table.Table, Schema.Schema, Kind.Kind}
use Rattle.sqlite.specs.Kind.TheVariants.{Integer, Text, Blob}
use Rattle.sqlite_value.specs.Keys.{plain}
use Rattle.sqlite_schema.specs.{declared.schema.Column.Column, declared.schema.Action.TheVariants.NoAction}
use Rattle.sqlite_catalog.specs.Change.{created}

-- a column of a STRICT table, which has to have a value
abbrev pub required_column : List ℕ → Kind → Column
required_column name kind = record {
  name = name;
  kind = kind;
  is_strict = true;
  not_null = true;
  default = Null;
  collation = Binary;
}

-- an INTEGER PRIMARY KEY
abbrev pub key_column : List ℕ → Column
key_column name = record (required_column name Integer) { not_null = false }

-- a row for each account
abbrev pub partner_table : Table
partner_table = record {
  name = codes "partner";
  tree = 0;
  columns = key_column (codes "id") ∷ required_column (codes "code") Text ∷ required_column (codes "kind") Integer
      ∷ required_column (codes "next") Integer ∷ [];
  key = Some 0;
  primary = 0 ∷ [];
  uniques = (2 ∷ []) ∷ [];
  orders = plain ∷ [];
  checks = [];
  references = [];
  computed = [];
  stamps = record { places = []; terms = []; formats = [] };
  is_counted = false;
}

-- a row for each interchange that is kept; its reply is empty while it waits
abbrev pub interchange_table : Table
interchange_table = record {
  name = codes "interchange";
  tree = 2;
  columns = required_column (codes "partner") Integer ∷ required_column (codes "number") Integer ∷ required_column (codes "body") Blob
      ∷ required_column (codes "reply") Text ∷ [];
  key = None;
  primary = 1 ∷ 2 ∷ [];
  uniques = (1 ∷ 2 ∷ []) ∷ [];
  orders = plain ∷ [];
  checks = [];
  references = (record {
    columns = 1 ∷ [];
    parent = codes "partner";
    parent_columns = codes "id" ∷ [];
    on_delete = NoAction;
    on_update = NoAction;
    is_deferred = false;
  }) ∷ [];
  computed = [];
  stamps = record { places = []; terms = []; formats = [] };
  is_counted = false;
}

-- a row for each visit
abbrev pub visit_table : Table
visit_table = record {
  name = codes "visit";
  tree = 4;
  columns = key_column (codes "visit") ∷ required_column (codes "box") Text ∷ required_column (codes "size") Text
      ∷ required_column (codes "laden") Integer ∷ required_column (codes "booking") Text ∷ required_column (codes "in_by") Integer
      ∷ required_column (codes "in_partner") Integer ∷ required_column (codes "in_number") Integer ∷ required_column (codes "in_at") Text
      ∷ required_column (codes "in_slot") Text ∷ required_column (codes "out_by") Integer ∷ required_column (codes "out_partner") Integer
      ∷ required_column (codes "out_number") Integer ∷ required_column (codes "out_at") Text ∷ required_column (codes "kilos") Integer ∷ [];
  key = Some 0;
  primary = 0 ∷ [];
  uniques = [];
  orders = [];
  checks = [];
  references = [];
  computed = [];
  stamps = record { places = []; terms = []; formats = [] };
  is_counted = false;
}

-- a row for each container in the yard
abbrev pub place_table : Table
place_table = record {
  name = codes "place";
  tree = 5;
  columns = required_column (codes "box") Text ∷ required_column (codes "visit") Integer ∷ required_column (codes "slot") Text ∷ [];
  key = None;
  primary = 1 ∷ [];
  uniques = (1 ∷ []) ∷ (2 ∷ []) ∷ (3 ∷ []) ∷ [];
  orders = plain ∷ plain ∷ plain ∷ [];
  checks = [];
  references = (record {
    columns = 2 ∷ [];
    parent = codes "visit";
    parent_columns = codes "visit" ∷ [];
    on_delete = NoAction;
    on_update = NoAction;
    is_deferred = false;
  }) ∷ [];
  computed = [];
  stamps = record { places = []; terms = []; formats = [] };
  is_counted = false;
}

-- a row for each line of a vessel's lists
abbrev pub listing_table : Table
listing_table = record {
  name = codes "listed";
  tree = 9;
  columns = required_column (codes "vessel") Text ∷ required_column (codes "voyage") Text ∷ required_column (codes "side") Integer
      ∷ required_column (codes "box") Text ∷ required_column (codes "port") Text ∷ required_column (codes "done") Integer ∷ [];
  key = None;
  primary = 1 ∷ 2 ∷ 3 ∷ 4 ∷ [];
  uniques = (1 ∷ 2 ∷ 3 ∷ 4 ∷ []) ∷ [];
  orders = plain ∷ [];
  checks = [];
  references = [];
  computed = [];
  stamps = record { places = []; terms = []; formats = [] };
  is_counted = false;
}

-- the version, and what the terminal was set up with
abbrev pub setting_table : Table
setting_table = record {
  name = codes "setting";
  tree = 11;
  columns = required_column (codes "name") Text ∷ required_column (codes "value") Text ∷ [];
  key = None;
  primary = 1 ∷ [];
  uniques = (1 ∷ []) ∷ [];
  orders = plain ∷ [];
  checks = [];
  references = [];
  computed = [];
  stamps = record { places = []; terms = []; formats = [] };
  is_counted = false;
}

-- a row for each block of the yard; its rows are `lanes`
abbrev pub block_table : Table
block_table = record {
  name = codes "block";
  tree = 13;
  columns = required_column (codes "letter") Text ∷ required_column (codes "bays") Integer ∷ required_column (codes "lanes") Integer
      ∷ required_column (codes "tiers") Integer ∷ [];
  key = None;
  primary = 1 ∷ [];
  uniques = (1 ∷ []) ∷ [];
  orders = plain ∷ [];
  checks = [];
  references = [];
  computed = [];
  stamps = record { places = []; terms = []; formats = [] };
  is_counted = false;
}

-- ---- schemas

abbrev pub no_schema : Schema
no_schema = record { tables = []; indexes = []; views = [] }

-- the tables in the order in which they are made
abbrev pub office_tables : List Table
office_tables = partner_table ∷ interchange_table ∷ visit_table ∷ place_table ∷ listing_table ∷ setting_table ∷ block_table ∷ []

-- the schema that these tables make, with their automatic indexes
abbrev pub schema_of : List Table → Schema
schema_of tables = fold created no_schema tables

abbrev pub office_schema : Schema
office_schema = schema_of office_tables
