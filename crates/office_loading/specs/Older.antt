-- What reading the tables of version 1 or 2 answers.
use Rattle.std.specs.{Prelude.{◌≡◌, ◌⊎◌, List, map, Result, Ok, Err, Vec}, List.AllByRecursion}
use Rattle.sqlite.specs.{Order.Row, Effect.Database}
use Rattle.terminal_core.specs.{State.TerminalState, declared.change.Version.TheVariants.{First, Second}}
use Rattle.office_admission.specs.Setups.{SetupContent}
use Rattle.office_rows.specs.{Rows.Setting, Opening.version_text, Opened.{OpenedRows, Shows}, Bare.with_weights, Migrated.{migrated_settings, migrated_opened}}
use Rattle.office_rows.specs.Office.{IsOffice}
use Rattle.office_loading.specs.{Contents.opened_rows, declared.restoring.OpenedTables.OpenedTables, Fits.FitsSetting}
use Rattle.office_loading.specs.Tables.{Names, FailsByVersion, Tells, FailsTable, ShowsSettings, ShowsUnfit, FitsRows}
use Rattle.office_tables.specs.{declared.table_fault.TableFault.TableFault, declared.table_fault.TableFault.TheVariants.Damaged}
use Rattle.office_rows.specs.Tables as table

-- one of these rows of a table of settings names version 1 or 2
abbrev pub NamesOlder : List Row → Type 0
NamesOlder rows = Names (version_text First) rows ⊎ Names (version_text Second) rows

-- the table of settings has version 1 or 2
abbrev pub HasOlder : Database → Type 0
HasOlder db = NamesOlder (db.trees table.setting_table.tree)

-- Version comes only if no row of the settings names version 1 or 2; what is read or damaged has such a row
abbrev pub TellsOlder : {X : Type 0} → List Row → Result X TableFault → Type 0
TellsOlder rows result = Tells (NamesOlder rows) result

-- ---- the settings

-- it is another version, or one of these and the settings can't be read
abbrev pub FailsOlderSettings : Database → TableFault → Type 0
FailsOlderSettings db fault = FailsByVersion (HasOlder db) (FailsTable FitsSetting (ShowsSettings db) Damaged) fault

-- what is read are the settings that are shown, with the newest version for their own
abbrev pub ReadsOlderSettings : {X Z : Type 0} → (X → Setting) → Database → Result (Vec X Z) TableFault → Type 0
ReadsOlderSettings content db (Ok read) =
    HasOlder db × (settings : List Setting) × (map content read.items ≡ migrated_settings settings)
    × ShowsSettings db settings × AllByRecursion FitsSetting settings
ReadsOlderSettings content db (Err fault) = FailsOlderSettings db fault

-- ---- all tables

abbrev pub FailsOlderTables : Database → TableFault → Type 0
FailsOlderTables db fault = FailsByVersion (HasOlder db) (ShowsUnfit (with_weights db)) fault

-- what is read are the rows that are shown, each visit with a weight of 0, with the newest version for their own
abbrev pub ReadsOlderTables : Database → Result OpenedTables TableFault → Type 0
ReadsOlderTables db (Ok tables) =
    HasOlder db × (rows : OpenedRows) × (opened_rows tables ≡ migrated_opened rows)
    × Shows (with_weights db) rows × FitsRows rows
ReadsOlderTables db (Err fault) = FailsOlderTables db fault

-- ---- the office

-- it is version 1 or 2, and brought to the newest its rows are those of that set-up and of that terminal
abbrev pub LoadsOlder : Database → SetupContent → TerminalState → Type 0
LoadsOlder db content state =
    HasOlder db × (rows : OpenedRows) × Shows (with_weights db) rows × IsOffice (migrated_opened rows) content state

-- whatever rows the tables show, brought to the newest version they are those of no office
abbrev pub ShowsNoOlder : Database → Type 0
ShowsNoOlder db = (rows : OpenedRows) (content : SetupContent) (state : TerminalState) → Shows (with_weights db) rows →
    ¬ IsOffice (migrated_opened rows) content state

-- the version is another one; or it is 1 or 2 and the tables show no office
abbrev pub FailsToLoadOlder : Database → TableFault → Type 0
FailsToLoadOlder db fault = FailsByVersion (HasOlder db) (ShowsNoOlder db) fault
