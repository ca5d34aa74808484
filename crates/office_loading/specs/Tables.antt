-- What reading the tables answers.
use Rattle.std.specs.{Prelude.{◌≡◌, ℕ, ◌<◌, ◌^◌, List, [], ◌∷◌, map, Contains, codes, Result, Ok, Err, Vec}, List.AllByRecursion}
use Rattle.sqlite.specs.{Order.Row, Effect.Database}
use Rattle.terminal_core.specs.{Rows.VisitContent, State.TerminalState, declared.restoring.RestoreFault.RestoreFault}
use Rattle.yard_core.specs.declared.plan.Block.{Block}
use Rattle.office_admission.specs.Setups.{SetupContent}
use Rattle.office_rows.specs.{Rows.{Partner, PlaceContent, ListingContent, Setting}, Opening.{setting_row, tables_version}, Layouts.{Layout, bare, weighed}}
use Rattle.office_rows.specs.{Values.{partner_values, visit_values, place_values, line_values, setting_values, block_values}, Bare.weighed_in, Shown.ShowsTable}
use Rattle.office_rows.specs.{Stored.columns_of, Opened.{OpenedRows, Shows}, Office.IsOffice}
use Rattle.office_loading.specs.{Closed.ClosedContent, Contents.{opened_rows, setting_content}, OwnOffice.IsOwnOffice, declared.table_reading.Weights.Weights}
use Rattle.office_loading.specs.{declared.restoring.OpenedTables.OpenedTables, declared.table_reading.Weights.TheVariants.{Absent, Kept}}
use Rattle.office_loading.specs.Fits.{FitsPartner, FitsNumber, FitsVisit, FitsPlace, FitsLine, FitsSetting, FitsBlock}
use Rattle.office_tables.specs.{declared.table_fault.TableFault.TableFault, declared.table_fault.TableFault.TheVariants.{Store, Damaged, Version, Memory}}
use Rattle.office_tables.specs.Faults.{IsOfStoreOr}
use Rattle.terminal_core.specs.declared.restoring.RestoreFault.TheVariants as restoring
use Rattle.office_rows.specs.Tables as table

-- ---- one table

abbrev pub ShowsPartners : Database → List Partner → Type 0
ShowsPartners db all = ShowsTable table.partner_table (0 ∷ 1 ∷ 2 ∷ 3 ∷ []) (0 ∷ []) db (map partner_values all)

abbrev pub ShowsVisits : Database → List VisitContent → Type 0
ShowsVisits db all = ShowsTable table.visit_table (0 ∷ 1 ∷ 2 ∷ 3 ∷ 4 ∷ 5 ∷ 6 ∷ 7 ∷ 8 ∷ 9 ∷ 10 ∷ 11 ∷ 12 ∷ 13 ∷ 14 ∷ [])
    (0 ∷ []) db (map visit_values all)

abbrev pub ShowsPlaces : Database → List PlaceContent → Type 0
ShowsPlaces db all = ShowsTable table.place_table (0 ∷ 1 ∷ 2 ∷ []) (0 ∷ []) db (map place_values all)

abbrev pub ShowsLines : Database → List ListingContent → Type 0
ShowsLines db all = ShowsTable table.listing_table (0 ∷ 1 ∷ 2 ∷ 3 ∷ 4 ∷ 5 ∷ []) (0 ∷ 1 ∷ 2 ∷ 3 ∷ []) db (map line_values all)

abbrev pub ShowsSettings : Database → List Setting → Type 0
ShowsSettings db all = ShowsTable table.setting_table (0 ∷ 1 ∷ []) (0 ∷ []) db (map setting_values all)

abbrev pub ShowsBlocks : Database → List Block → Type 0
ShowsBlocks db all = ShowsTable table.block_table (0 ∷ 1 ∷ 2 ∷ 3 ∷ []) (0 ∷ []) db (map block_values all)

-- some record that the table shows doesn't fit the types of a row, or the store failed
abbrev pub FailsTable : {C : Type 0} → (C → Type 0) → (List C → Type 0) → TableFault → Type 0
FailsTable {C} Fits Shown fault = IsOfStoreOr ((all : List C) → Shown all → ¬ AllByRecursion Fits all) fault

-- what is read is what the table shows, and fits
abbrev pub ReadsTable : {X C Z : Type 0} → (X → C) → (C → Type 0) → (List C → Type 0) → Result (Vec X Z) TableFault →
    Type 0
ReadsTable content Fits Shown (Ok read) = Shown (map content read.items) × AllByRecursion Fits (map content read.items)
ReadsTable content Fits Shown (Err fault) = FailsTable Fits Shown fault

-- ---- the version

-- Version only if no row names it, damage only if one does; or the store failed, or memory
abbrev pub FailsByVersion : Type 0 → Type 0 → TableFault → Type 0
FailsByVersion named damaged Version = ¬ named
FailsByVersion named damaged Damaged = named × damaged
FailsByVersion named damaged Memory = Unit {0}
FailsByVersion named damaged (Store error) = Unit {0}

-- Version only if no row names it; what is read or damaged has such a row
abbrev pub Tells : {X : Type 0} → Type 0 → Result X TableFault → Type 0
Tells named (Ok read) = named
Tells named (Err Version) = ¬ named
Tells named (Err Damaged) = named
Tells named (Err Memory) = Unit {0}
Tells named (Err (Store error)) = Unit {0}

-- one of these rows of a table of settings names this version
abbrev pub Names : List ℕ → List Row → Type 0
Names text rows = Contains (map (columns_of table.setting_table) rows) (setting_values (setting_row (codes "version") text))

-- one of these rows of a table of settings names the version that this office reads
abbrev pub NamesVersion : List Row → Type 0
NamesVersion rows = Names tables_version rows

-- the table of settings has the version that this office reads
abbrev pub HasVersion : Database → Type 0
HasVersion db = NamesVersion (db.trees table.setting_table.tree)

-- Version comes only if no row of the settings names it; what is read or damaged has such a row
abbrev pub TellsVersion : {X : Type 0} → List Row → Result X TableFault → Type 0
TellsVersion rows result = Tells (NamesVersion rows) result

-- the version is another one, or it is this and the settings can't be read
abbrev pub FailsSettings : Database → TableFault → Type 0
FailsSettings db fault = FailsByVersion (HasVersion db) (FailsTable FitsSetting (ShowsSettings db) Damaged) fault

abbrev pub ReadsSettings : {X Z : Type 0} → (X → Setting) → Database → Result (Vec X Z) TableFault → Type 0
ReadsSettings content db (Ok read) = HasVersion db × ReadsTable content FitsSetting (ShowsSettings db) (Ok read)
ReadsSettings content db (Err fault) = FailsSettings db fault

-- ---- all tables

pub record FitsRows (rows : OpenedRows) : Type 0 where
  pub partners : AllByRecursion FitsPartner rows.partners
  pub numbers : AllByRecursion FitsNumber rows.numbers
  pub visits : AllByRecursion FitsVisit rows.visits
  pub places : AllByRecursion FitsPlace rows.places
  pub lines : AllByRecursion FitsLine rows.lines
  pub settings : AllByRecursion FitsSetting rows.settings
  pub blocks : AllByRecursion FitsBlock rows.blocks

-- whatever rows the tables show, some don't fit the types of a row
abbrev pub ShowsUnfit : Database → Type 0
ShowsUnfit db = (rows : OpenedRows) → Shows db rows → ¬ FitsRows rows

abbrev pub FailsTables : Database → TableFault → Type 0
FailsTables db fault = FailsByVersion (HasVersion db) (ShowsUnfit db) fault

abbrev pub ReadsTables : Database → Result OpenedTables TableFault → Type 0
ReadsTables db (Ok tables) = HasVersion db × Shows db (opened_rows tables) × FitsRows (opened_rows tables)
ReadsTables db (Err fault) = FailsTables db fault

-- ---- all tables but that of the settings, which are read first

abbrev pub layout_with : Weights → Layout
layout_with Absent = bare
layout_with Kept = weighed

-- the rows with these for their settings
abbrev pub with_shown : List Setting → OpenedRows → OpenedRows
with_shown settings rows = record rows { settings = settings }

-- the settings that were read first stay; with any that are shown and fit, all that was read is shown and fits
abbrev pub ReadsOthers : Layout → Database → List Setting → Result OpenedTables TableFault → Type 0
ReadsOthers layout db settings (Ok tables) =
    (map setting_content tables.settings.items ≡ settings)
    × ((all : List Setting) → ShowsSettings (weighed_in layout db) all → AllByRecursion FitsSetting all →
    Shows (weighed_in layout db) (with_shown all (opened_rows tables)) × FitsRows (with_shown all (opened_rows tables)))
ReadsOthers layout db settings (Err fault) = IsOfStoreOr (ShowsUnfit (weighed_in layout db)) fault

-- ---- the office

-- the set-up and the terminal are those of the rows that the tables show
abbrev pub Loads : Database → SetupContent → TerminalState → Type 0
Loads db content state = (rows : OpenedRows) × Shows db rows × IsOffice rows content state

-- whatever rows the tables show, they are those of no office
abbrev pub ShowsNoOffice : Database → Type 0
ShowsNoOffice db = (rows : OpenedRows) (content : SetupContent) (state : TerminalState) → Shows db rows →
    ¬ IsOffice rows content state

-- the version is another one; or it is this and the tables show no office
abbrev pub FailsToLoad : Database → TableFault → Type 0
FailsToLoad db fault = FailsByVersion (HasVersion db) (ShowsNoOffice db) fault

-- ---- the office of a store of which this is closed

-- the set-up and the terminal are those of the rows that the tables show
abbrev pub LoadsOwn : ClosedContent → Database → SetupContent → TerminalState → Type 0
LoadsOwn closed db content state = (rows : OpenedRows) × Shows db rows × IsOwnOffice closed rows content state

-- whatever rows the tables show, they are those of no office
abbrev pub ShowsNoOwnOffice : ClosedContent → Database → Type 0
ShowsNoOwnOffice closed db = (rows : OpenedRows) (content : SetupContent) (state : TerminalState) → Shows db rows →
    ¬ IsOwnOffice closed rows content state

-- the version is another one; or it is this and the tables show no office
abbrev pub FailsToLoadOwn : ClosedContent → Database → TableFault → Type 0
FailsToLoadOwn closed db fault = FailsByVersion (HasVersion db) (ShowsNoOwnOffice closed db) fault

-- rows that were read and are those of no office are damaged
abbrev pub fault_of_restoring : RestoreFault → TableFault
fault_of_restoring restoring.Unsound = Damaged
fault_of_restoring restoring.Memory = Memory

-- ---- the next numbers

-- one of the accounts has a next number of more than 32 bits
abbrev pub HasHighNext : List Partner → Type 0
HasHighNext partners = (p : Partner) × Contains partners p × ¬ (p.next < 2 ^ 32)
