-- The tables of versions 1 and 2, whose visits have no weight, beside those of the newest.
use Rattle.std.specs.Prelude.{◌≡◌, [], ◌∷◌, take}
use Rattle.sqlite.specs.{Table.Table, Schema.Schema}
use Rattle.terminal_core.specs.{declared.change.Version.Version, declared.change.Version.TheVariants.{First, Second, Third}}
use Rattle.office_rows.specs.Tables.{partner_table, interchange_table, visit_table, place_table, listing_table, setting_table, block_table, schema_of, office_schema}

-- whether a visit has a column for its weight
pub data Layout : Type 0 where
  bare : Layout
  weighed : Layout

abbrev pub layout_of : Version → Layout
layout_of First = bare
layout_of Second = bare
layout_of Third = weighed

-- a row for each visit, which ends before the weight
abbrev pub bare_visit : Table
bare_visit = record visit_table { columns = take 14 visit_table.columns }

abbrev pub bare_schema : Schema
bare_schema = schema_of (partner_table ∷ interchange_table ∷ bare_visit ∷ place_table ∷ listing_table ∷ setting_table ∷ block_table ∷ [])

abbrev pub schema_in : Layout → Schema
schema_in bare = bare_schema
schema_in weighed = office_schema

-- the tables of an office of some version
abbrev pub IsOfficeSchema : Schema → Type 0
IsOfficeSchema schema = (layout : Layout) × (schema ≡ schema_in layout)
