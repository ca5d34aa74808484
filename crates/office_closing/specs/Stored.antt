-- How a database holds a register.
use Rattle.std.specs.Prelude.{◌≡◌, ◌⊎◌, ℕ, List, [], ◌∷◌, Option, None, Some, map}
use Rattle.sqlite.specs.{declared.types.Value.TheVariants.{Blob, Text}, Order.Row, Tree.Trees, Effect.Database}
use Rattle.terminal_core.specs.State.{side_code}
use Rattle.sqlite_trees.specs.Objects.{catalog_tree}
use Rattle.sqlite_catalog.specs.Listing.{Lists}
use Rattle.office_rows.specs.{Values.number_value, Stored.Holds, Shown.ShowsTable}
use Rattle.office_closing.specs.{declared.register.Segment.Segment, Lists.SettledListContent, Register.{ArchiveContent, RegisterContent, SealedContent}}
use Rattle.office_closing.specs.Tables.{archive_table, segment_table, closed_for_table, settled_table, taken_table, sealed_table, Layout, older, former, unsealed, whole, register_schema, schema_in}

-- ---- rows, in the order of the columns

abbrev pub archive_values : ArchiveContent → Row
archive_values archive = number_value archive.place ∷ Text archive.file ∷ number_value archive.visits ∷ []

abbrev pub segment_values : Segment → Row
segment_values segment = number_value segment.partner ∷ number_value segment.archive ∷ number_value segment.last ∷ []

abbrev pub file_values : List ℕ → Row
file_values file = Text file ∷ []

abbrev pub list_values : SettledListContent → Row
list_values list =
    Text list.call.vessel ∷ Text list.call.voyage ∷ number_value (side_code list.side) ∷ number_value list.archive
    ∷ Text list.lines ∷ []

abbrev pub sealed_values : SealedContent → Row
sealed_values sealed = number_value sealed.archive ∷ Text sealed.terminal ∷ Blob sealed.seals ∷ []

-- the rows of which there is one or none
abbrev pub if_any : Option (List ℕ) → List (List ℕ)
if_any None = []
if_any (Some file) = file ∷ []

-- ---- a database

-- the lists, in any order; where there is no table of them there are none
abbrev pub HoldsLists : Layout → List SettledListContent → Trees → Type 0
HoldsLists older lists trees = lists ≡ []
HoldsLists former lists trees = Holds settled_table list_values lists (trees 6)
HoldsLists unsealed lists trees = Holds settled_table list_values lists (trees 6)
HoldsLists whole lists trees = Holds settled_table list_values lists (trees 6)

-- what had been taken, in any order; where there is no table of it nothing is said
abbrev pub HoldsTaken : Layout → List Segment → Trees → Type 0
HoldsTaken older taken trees = taken ≡ []
HoldsTaken former taken trees = taken ≡ []
HoldsTaken unsealed taken trees = Holds taken_table segment_values taken (trees 8)
HoldsTaken whole taken trees = Holds taken_table segment_values taken (trees 8)

-- what was sealed, in any order; where there is no table of it nothing is said
abbrev pub HoldsSealed : Layout → List SealedContent → Trees → Type 0
HoldsSealed older sealed trees = sealed ≡ []
HoldsSealed former sealed trees = sealed ≡ []
HoldsSealed unsealed sealed trees = sealed ≡ []
HoldsSealed whole sealed trees = Holds sealed_table sealed_values sealed (trees 10)

-- the tables of this layout and nothing else, as its trees list them too, with the rows of this register in any order
pub record HasRegisterIn (layout : Layout) (content : RegisterContent) (db : Database) : Type 0 where
  pub schema : db.schema ≡ schema_in layout
  pub listed : Lists (db.trees catalog_tree) (schema_in layout)
  pub archives : Holds archive_table archive_values content.archives (db.trees 0)
  pub segments : Holds segment_table segment_values content.segments (db.trees 2)
  pub closed_for : Holds closed_for_table file_values (if_any content.closed_for) (db.trees 4)
  pub lists : HoldsLists layout content.lists db.trees
  pub taken : HoldsTaken layout content.taken db.trees
  pub sealed : HoldsSealed layout content.sealed db.trees

-- it has this register, in one of the layouts
abbrev pub HasRegister : RegisterContent → Database → Type 0
HasRegister content db = (layout : Layout) × HasRegisterIn layout content db

-- it has this register, and a table of lists
abbrev pub HasListed : RegisterContent → Database → Type 0
HasListed content db =
    HasRegisterIn former content db ⊎ (HasRegisterIn unsealed content db ⊎ HasRegisterIn whole content db)

-- it has this register, and a table of what had been taken
abbrev pub HasTaken : RegisterContent → Database → Type 0
HasTaken content db = HasRegisterIn unsealed content db ⊎ HasRegisterIn whole content db

-- it has this register in all six tables
abbrev pub HasWhole : RegisterContent → Database → Type 0
HasWhole = HasRegisterIn whole

-- the trees are those of a database that has this register in all six tables
abbrev pub StoresRegister : RegisterContent → Trees → Type 0
StoresRegister content trees = HasWhole content (record { schema = register_schema; trees = trees })

-- the same in one of the layouts
abbrev pub StoresEither : RegisterContent → Trees → Type 0
StoresEither content trees =
    (layout : Layout) × HasRegisterIn layout content (record { schema = schema_in layout; trees = trees })

-- ---- what its tables show

-- the lists by call, side and archive
abbrev pub ShowsLists : Layout → Database → List SettledListContent → Type 0
ShowsLists older db lists = lists ≡ []
ShowsLists former db lists =
    ShowsTable settled_table (0 ∷ 1 ∷ 2 ∷ 3 ∷ 4 ∷ []) (0 ∷ 1 ∷ 2 ∷ 3 ∷ []) db (map list_values lists)
ShowsLists unsealed db lists =
    ShowsTable settled_table (0 ∷ 1 ∷ 2 ∷ 3 ∷ 4 ∷ []) (0 ∷ 1 ∷ 2 ∷ 3 ∷ []) db (map list_values lists)
ShowsLists whole db lists =
    ShowsTable settled_table (0 ∷ 1 ∷ 2 ∷ 3 ∷ 4 ∷ []) (0 ∷ 1 ∷ 2 ∷ 3 ∷ []) db (map list_values lists)

-- what had been taken by archive and partner
abbrev pub ShowsTaken : Layout → Database → List Segment → Type 0
ShowsTaken older db taken = taken ≡ []
ShowsTaken former db taken = taken ≡ []
ShowsTaken unsealed db taken = ShowsTable taken_table (0 ∷ 1 ∷ 2 ∷ []) (1 ∷ 0 ∷ []) db (map segment_values taken)
ShowsTaken whole db taken = ShowsTable taken_table (0 ∷ 1 ∷ 2 ∷ []) (1 ∷ 0 ∷ []) db (map segment_values taken)

-- what was sealed by archive
abbrev pub ShowsSealed : Layout → Database → List SealedContent → Type 0
ShowsSealed older db sealed = sealed ≡ []
ShowsSealed former db sealed = sealed ≡ []
ShowsSealed unsealed db sealed = sealed ≡ []
ShowsSealed whole db sealed = ShowsTable sealed_table (0 ∷ 1 ∷ 2 ∷ []) (0 ∷ []) db (map sealed_values sealed)

-- The tables of this layout show this register: the archives by place, the segments by archive and partner.
pub record ShowsRegister (layout : Layout) (content : RegisterContent) (db : Database) : Type 0 where
  pub archives : ShowsTable archive_table (0 ∷ 1 ∷ 2 ∷ []) (0 ∷ []) db (map archive_values content.archives)
  pub segments : ShowsTable segment_table (0 ∷ 1 ∷ 2 ∷ []) (1 ∷ 0 ∷ []) db (map segment_values content.segments)
  pub closed_for : ShowsTable closed_for_table (0 ∷ []) (0 ∷ []) db (map file_values (if_any content.closed_for))
  pub lists : ShowsLists layout db content.lists
  pub taken : ShowsTaken layout db content.taken
  pub sealed : ShowsSealed layout db content.sealed
