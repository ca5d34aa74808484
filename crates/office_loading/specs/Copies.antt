-- What is copied from one store to another.
use Rattle.std.specs.Prelude.{◌≡◌, List, [], ◌∷◌, map, take, Ok}
use Rattle.sqlite.specs.{Order.{Row, column}, State.{State, HasCleanDisk}, declared.types.Value.TheVariants.{Text, Blob}}
use Rattle.sqlite_trees.specs.View.{IsShaped}
use Rattle.office_rows.specs.{Tables.{interchange_table, office_tables}, Layouts.bare_schema, Rows.{Interchange, Rows}, Stored.{columns_of, HasEmpty}}
use Rattle.office_rows.specs.{Values.{number_value, interchange_values}, Opened.OpenedRows, Opening.with_interchanges, Steps.Turns}
use Rattle.office_tables.specs.{Order.HasRowsInOrder, Writes.{Writes, WritesIfOpen}}
use Rattle.sqlite_trees.specs.declared.store.Shape.TheVariants as shape

-- ---- interchanges

-- the row of the query shows the body, the reply, the partner and the number of an interchange
pub record ShowsInterchange (row : Row) (i : Interchange) : Type 0 where
  pub body : column row 0 ≡ Blob i.body
  pub reply : column row 1 ≡ Text i.reply
  pub partner : column row 2 ≡ number_value i.partner
  pub number : column row 3 ≡ number_value i.number

-- these are the interchanges of a tree in the order in which they stand there, which is that of their rowids
abbrev pub AreStanding : List Row → List Interchange → Type 0
AreStanding stored copied =
    IsShaped shape.Table stored → map interchange_values copied ≡ map (columns_of interchange_table) stored

-- the interchange that a row shows is added
pub record AddsShown (row : Row) (old new : State) : Type 0 where
  pub one : Interchange
  pub shows : ShowsInterchange row one
  pub writes : Writes {T = Unit {0}} (with_interchanges (one ∷ [])) old new (Ok tt)

-- interchanges are added: those of the store that was read, if its tables are those of version 1 or 2, in the order in
-- which they stand there
pub record AddsStanding (from read old new : State) : Type 0 where
  pub copied : List Interchange
  pub are : HasCleanDisk read → from.now.schema ≡ bare_schema → AreStanding (from.now.trees 2) copied
  pub writes : WritesIfOpen {T = Unit {0}} (with_interchanges copied) old new (Ok tt)

-- ---- all rows

-- the rows but the interchanges
abbrev pub without_interchanges : OpenedRows → Rows
without_interchanges rows =
    record {
      partners = rows.partners;
      interchanges = [];
      visits = rows.visits;
      places = rows.places;
      lines = rows.lines;
      settings = rows.settings;
      blocks = rows.blocks;
    }

-- the rows with these interchanges
abbrev pub copied_rows : OpenedRows → List Interchange → Rows
copied_rows rows copied = record (without_interchanges rows) { interchanges = copied }

-- an empty database gets the tables with these rows and the interchanges of the store that was read
pub record MakesCopy (from read : State) (tables : OpenedRows) (old new : State) : Type 0 where
  pub copied : List Interchange
  pub are : HasCleanDisk read → from.now.schema ≡ bare_schema → AreStanding (from.now.trees 2) copied
  pub turns : Turns (HasEmpty (take 0 office_tables)) (HasRowsInOrder (copied_rows tables copied)) old new
