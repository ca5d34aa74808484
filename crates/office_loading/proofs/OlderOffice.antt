-- The rows of an office of version 1 or 2 can be read, and in one way.
use Rattle.std.{specs.{List.AllByRecursion, List.Sorted.IsPermutation, Str.bytes_eq}, proofs.lemmas.Slice.Eq.bytes_eq-Decides}
use Rattle.std.proofs.Common.{◌≡◌, ℕ, Bool, true, false, ◌&&◌, ◌||◌, List, [], ◌∷◌, map, codes, IsUtf8, if◌then◌else◌, ◌==◌, refl, sym, ap, ap₂, subst, ◌∙◌, ◌^◌, Contains}
use Rattle.std.proofs.lemmas.List.Sorted.{IsPermutation-map, IsPermutation-sym, Contains-permutation}
use Rattle.sqlite_exec.proofs.RowsLemmas.{IsSorted-map}
use Rattle.sqlite.specs.{declared.types.Value.Value, declared.types.Value.TheVariants.{Null, Int, Real, Text, Blob}, Order.{Row, column}, Tree.Trees}
use Rattle.sqlite.specs.Effect.{Database}
use Rattle.sqlite_trees.proofs.ListLemmas.{map-map}
use Rattle.terminal_core.specs.{State.TerminalState, declared.restoring.RestoreFault.RestoreFault, declared.change.Version.TheVariants.{First, Second, Third}}
use Rattle.office_admission.specs.Setups.{SetupContent}
use Rattle.office_rows.specs.{Tables.setting_table, Rows.{Setting, Interchange, Rows}, Values.{setting_values, number_value}, Stored.columns_of}
use Rattle.office_rows.specs.{Opening.{version_text, tables_version}, Shown.{columns_at, ShowsTable}, Opened.{OpenedRows, Shows}, Bare.with_weights}
use Rattle.office_rows.{specs.{Migrated.{migrated_settings, migrated_opened}, Office.IsOffice}, proofs.{Listed.{unmapped, numbers_same}, Creating.has_mapped}}
use Rattle.office_loading.specs.{Closed.nothing_closed, Refusals.RefusesTables, Fits.FitsSetting, Tables.{FitsRows, ShowsUnfit, fault_of_restoring}}
use Rattle.office_loading.specs.{Older.{FailsOlderTables, FailsToLoadOlder, HasOlder, ShowsNoOlder}, Decoded.{IsSaid, FailsOne}, Columns.SaysNumber}
use Rattle.office_loading.{specs.Waiting.{HasHighWaiting, waiting_in, waiting_numbers, waiting_values}, proofs.Offices.own_office}
use Rattle.office_loading.proofs.{VersionLemmas.{keys_cmp, fails_weaker, mapped_has}, OfficeLemmas.{version_utf8, office_fits, office_one}}
use Rattle.office_tables.specs.{declared.table_fault.TableFault.TableFault, declared.table_fault.TableFault.TheVariants.{Store, Damaged, Version, Memory}}
use Rattle.office_tables.specs.Faults.{IsOfStoreOr}
use Rattle.sqlite_rules.{specs.Lists.Has, proofs.ListLemmas.{has_contained, contains_had}}
use Rattle.terminal_core.specs.declared.restoring.RestoreFault.TheVariants as restoring

abbrev is_older : List ℕ → Bool
is_older value = bytes_eq value (version_text First) || bytes_eq value (version_text Second)

abbrev names_older : List ℕ → List ℕ → Bool
names_older name value = bytes_eq name (codes "version") && is_older value

-- ---- what fits

older_utf8 : (value : List ℕ) (first second : Bool) → bytes_eq value (version_text First) ≡ first → bytes_eq value (version_text Second) ≡ second → (first || second) ≡ true → IsUtf8 value
older_utf8 value true second one two some = subst IsUtf8 (sym ((bytes_eq-Decides value (version_text First)).0 one)) (version_utf8 First)
older_utf8 value false true one two some = subst IsUtf8 (sym ((bytes_eq-Decides value (version_text Second)).0 two)) (version_utf8 Second)
older_utf8 value false false one two some = absurd cc

back_by : (s : Setting) (named older : Bool) → is_older s.value ≡ older → FitsSetting (if named && older then record s { value = tables_version } else s) → FitsSetting s
back_by s true true is fits = record { name = fits.name; value = older_utf8 s.value _ _ refl refl is }
back_by s true false is fits = fits
back_by s false true is fits = fits
back_by s false false is fits = fits

back : (settings : List Setting) → AllByRecursion FitsSetting (migrated_settings settings) → AllByRecursion FitsSetting settings
back [] all = tt
back (s ∷ settings) all = (back_by s _ _ refl all.0, back settings all.1)

forth_by : (s : Setting) (older : Bool) → FitsSetting s → FitsSetting (if older then record s { value = tables_version } else s)
forth_by s true fits = record { name = fits.name; value = version_utf8 Third }
forth_by s false fits = fits

forth : (settings : List Setting) → AllByRecursion FitsSetting settings → AllByRecursion FitsSetting (migrated_settings settings)
forth [] all = tt
forth (s ∷ settings) all = (forth_by s _ all.0, forth settings all.1)

pub older_fits : (rows : OpenedRows) (content : SetupContent) (state : TerminalState) → IsOffice (migrated_opened rows) content state → FitsRows rows
older_fits rows content state office =
    let f = office_fits nothing_closed (migrated_opened rows) content state (own_office (migrated_opened rows) content state office) in
    record { partners = f.partners; numbers = f.numbers; visits = f.visits; places = f.places; lines = f.lines; settings = back rows.settings f.settings; blocks = f.blocks }

newest_fits : (rows : OpenedRows) → FitsRows rows → FitsRows (migrated_opened rows)
newest_fits rows f = record { partners = f.partners; numbers = f.numbers; visits = f.visits; places = f.places; lines = f.lines; settings = forth rows.settings f.settings; blocks = f.blocks }

-- ---- the settings as the newest version has them

abbrev pub renamed_value : Value → Value → Value
renamed_value (Text name) (Text value) = if names_older name value then Text tables_version else Text value
renamed_value (Text name) Null = Null
renamed_value (Text name) (Int n) = Int n
renamed_value (Text name) (Real x) = Real x
renamed_value (Text name) (Blob b) = Blob b
renamed_value Null value = value
renamed_value (Int n) value = value
renamed_value (Real x) value = value
renamed_value (Blob b) value = value

abbrev pub renamed_columns : Row → Row
renamed_columns c = column c 0 ∷ renamed_value (column c 0) (column c 1) ∷ []

abbrev renamed_row : Row → Row
renamed_row row = column row 0 ∷ column row 1 ∷ renamed_value (column row 1) (column row 2) ∷ []

abbrev renamed_trees : Trees → Trees
renamed_trees trees tree = if tree == 11 then map renamed_row (trees 11) else trees tree

abbrev renamed : Database → Database
renamed db = record db { trees = renamed_trees db.trees }

renamed_as : (s : Setting) (older : Bool) → setting_values (if older then record s { value = tables_version } else s) ≡ Text s.name ∷ (if older then Text tables_version else Text s.value) ∷ []
renamed_as s true = refl
renamed_as s false = refl

pub renamed_all : (settings : List Setting) → map setting_values (migrated_settings settings) ≡ map renamed_columns (map setting_values settings)
renamed_all [] = refl
renamed_all (s ∷ settings) = ap₂ (λ r l. r ∷ l) (renamed_as s (names_older s.name s.value)) (renamed_all settings)

module _ (db : Database) (settings : List Setting) (it : ShowsTable setting_table (0 ∷ 1 ∷ []) (0 ∷ []) db (map setting_values settings)) where
  renamed_shown : ShowsTable setting_table (0 ∷ 1 ∷ []) (0 ∷ []) (renamed db) (map setting_values (migrated_settings settings))
  renamed_shown =
      let stored = db.trees 11 in
      record {
        by_key = map renamed_columns it.by_key;
        same = subst (λ l. IsPermutation l (map renamed_columns it.by_key)) (map-map renamed_columns (columns_of setting_table) stored ∙ sym (map-map (columns_of setting_table) renamed_row stored)) (IsPermutation-map renamed_columns _ _ it.same);
        ordered = IsSorted-map (keys_cmp (0 ∷ [])) renamed_columns it.by_key it.ordered;
        is = renamed_all settings ∙ ap (map renamed_columns) it.is ∙ map-map renamed_columns (columns_at (0 ∷ 1 ∷ [])) it.by_key ∙ sym (map-map (columns_at (0 ∷ 1 ∷ [])) renamed_columns it.by_key);
      }

newest_shown : (db : Database) (rows : OpenedRows) → Shows db rows → Shows (renamed db) (migrated_opened rows)
newest_shown db rows s = record {
  partners = record { by_key = s.partners.by_key; same = s.partners.same; ordered = s.partners.ordered; is = s.partners.is };
  numbers = record {
    interchanges = s.numbers.interchanges;
    shown = record { by_key = s.numbers.shown.by_key; same = s.numbers.shown.same; ordered = s.numbers.shown.ordered; is = s.numbers.shown.is };
    are = s.numbers.are;
  };
  visits = record { by_key = s.visits.by_key; same = s.visits.same; ordered = s.visits.ordered; is = s.visits.is };
  places = record { by_key = s.places.by_key; same = s.places.same; ordered = s.places.ordered; is = s.places.is };
  lines = record { by_key = s.lines.by_key; same = s.lines.same; ordered = s.lines.ordered; is = s.lines.is };
  settings = renamed_shown db rows.settings s.settings;
  blocks = record { by_key = s.blocks.by_key; same = s.blocks.same; ordered = s.blocks.ordered; is = s.blocks.is };
}

-- ---- faults

pub older_tables_fail : (db : Database) (fault : TableFault) → FailsOlderTables db fault → FailsToLoadOlder db fault
older_tables_fail db fault = fails_weaker (HasOlder db) (ShowsUnfit (with_weights db)) (ShowsNoOlder db) fault (λ h rows content state shown office. h rows shown (older_fits rows content state office))

-- the rows that were read are those of the office that the tables show
pub older_one : (db : Database) (rows : OpenedRows) (content : SetupContent) (state : TerminalState) → IsOffice (migrated_opened rows) content state → Shows (with_weights db) rows → (read : OpenedRows) → Shows (with_weights db) read → FitsRows read → IsOffice (migrated_opened read) content state
older_one db rows content state office shown read that fits =
    let same = office_one nothing_closed (migrated_opened rows) content state (own_office (migrated_opened rows) content state office) (renamed (with_weights db)) (newest_shown (with_weights db) rows shown) (migrated_opened read) (newest_shown (with_weights db) read that) (newest_fits read fits) in
    subst (λ r. IsOffice r content state) same office

pub none_older : (db : Database) (other : OpenedRows) → Shows (with_weights db) other → FitsRows other → ((content : SetupContent) (state : TerminalState) → ¬ IsOffice (migrated_opened other) content state) → ShowsNoOlder db
none_older db other that fits none rows content state shown = λ office. none content state (older_one db rows content state office shown other that fits)

-- what can't be restored isn't loaded
pub older_restoring_fails : (db : Database) (other : OpenedRows) → HasOlder db → Shows (with_weights db) other → FitsRows other → (fault : RestoreFault) → RefusesTables nothing_closed (migrated_opened other) fault → FailsToLoadOlder db (fault_of_restoring fault)
older_restoring_fails db other older that fits restoring.Unsound refuses = (older, none_older db other that fits (λ content state office. refuses content state (own_office (migrated_opened other) content state office)))
older_restoring_fails db other older that fits restoring.Memory refuses = tt

-- ==== WaitingLemmas: The numbers that the query of what waits shows.

abbrev number_of : Interchange → ℕ
number_of i = i.number

first_column : (is : List Interchange) → map (λ (r : Row). column r 0) (map waiting_values is) ≡ map number_value (map number_of is)
first_column [] = refl
first_column (i ∷ is) = ap (λ l. number_value i.number ∷ l) (first_column is)

abbrev pub IsRead : Row → Type 0
IsRead row = IsSaid (SaysNumber (2 ^ 32)) (column row 0)

module _ (partner next : ℕ) (rows : Rows) (answer : List Row) (shown : IsPermutation (map waiting_values (waiting_in partner next rows)) answer) where
  pub numbers_shown : (numbers : List ℕ) → map number_value numbers ≡ map (λ r. column r 0) answer → IsPermutation (waiting_numbers partner next rows) numbers
  numbers_shown numbers read =
      let placed = unmapped waiting_values (waiting_in partner next rows) answer shown in
      let is : numbers ≡ map number_of placed.0 = numbers_same _ _ (read ∙ ap (map (λ (r : Row). column r 0)) placed.2 ∙ first_column placed.0) in
      subst (IsPermutation (waiting_numbers partner next rows)) (sym is) (IsPermutation-map number_of (waiting_in partner next rows) placed.0 placed.1)

  number_there : (row : Row) → Contains answer row → (n : ℕ) × Contains (waiting_numbers partner next rows) n × (column row 0 ≡ number_value n)
  number_there row there =
      let placed = unmapped waiting_values (waiting_in partner next rows) answer shown in
      let i = has_mapped waiting_values placed.0 row (subst (λ l. Has l row) placed.2 (has_contained answer row there)) in
      let moved = Contains-permutation _ _ i.0 (IsPermutation-sym _ _ placed.1) (contains_had placed.0 i.0 i.1) in
      let had = mapped_has number_of (waiting_in partner next rows) i.0 (has_contained (waiting_in partner next rows) i.0 moved) in
      (i.0.number, contains_had (waiting_numbers partner next rows) i.0.number had, ap (λ (r : Row). column r 0) i.2)

  pub high_waiting : (fault : TableFault) → FailsOne IsRead answer fault → IsOfStoreOr (HasHighWaiting partner next rows) fault
  high_waiting Damaged h = let n = number_there h.0 h.1 in (n.0, n.1, λ fits. h.2 (n.0, (n.2, fits)))
  high_waiting Memory h = h
  high_waiting Version h = h
  high_waiting (Store error) h = absurd h
