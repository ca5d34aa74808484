-- The row of the version.
use Rattle.std.specs.{Cmp.IsTotalOrder, Ordering.{on, nat_cmp, int_cmp, ordering_then}, Prelude.Vec, List.{AllByRecursion, AllZip, list_any}, Str.bytes_eq}
use Rattle.std.{specs.Cmp.Lexicographic.slice_cmp, proofs.{lemmas.Cmp.{on_total, then_total}, lemmas.Bool.and_parts, lemmas.Slice.Eq.bytes_eq-Decides}}
use Rattle.std.proofs.Common.{◌≡◌, ℕ, suc, List, [], ◌∷◌, map, refl, sym, subst, subst₂, Ordering, Equal, IsPermutation, IsSorted, Contains, Result, Ok, Err, inl, inr, ap, ap₂, ◌∙◌, true, false, codes, IfErr, pos, arith, Less, Greater, is_eq, ◌^◌, Bool, ◌||◌}
use Rattle.std.proofs.lemmas.List.Sorted.{IsPermutation-sym, IsPermutation-trans, IsPermutation-map, sum_by-IsPermutation, Contains-permutation}
use Rattle.std.proofs.{lemmas.Map.Text.is_eq-slice_cmp, lemmas.Bool.Decides.nat_tests, lemmas.Int.ints}
use Rattle.sqlite.specs.{Collation.TheVariants.Binary, Order.{Row, column}, Table.Table, Effect.Database, Query.key_cmp, declared.types.Value.Value}
use Rattle.sqlite.specs.{declared.types.Value.TheVariants.{Null, Int, Real, Text, Blob}, State.{State, HasCleanDisk}, Schema.Schema}
use Rattle.sqlite_value.{specs.{Keys.ascending, Order.value_cmp}, proofs.OrderLemmas.{value_cmp_total, value_cmp-Int, value_cmp-Text}}
use Rattle.sqlite_rules.{specs.Lists.Has, proofs.ListLemmas.{has_contained, contains_had, some_has, some_from}}
use Rattle.sqlite_exec.proofs.{RowsLemmas.IsSorted-map, PartitionLemmas.ascending_from_sorted}
use Rattle.office_rows.specs.{Shown.{columns_at, ShowsTable}, Tables.{interchange_table, setting_table, partner_table}, Stored.{columns_of, HasRows}}
use Rattle.office_rows.specs.{Rows.{Interchange, Setting, Partner, Rows}, Opened.{NumberKept, number_kept, reply_values, ShowsNumbers, OpenedRows, Shows}}
use Rattle.office_rows.specs.{Opening.{setting_row as setting_of, version_text}, Values.{setting_values, number_value, partner_values}}
use Rattle.office_rows.{specs.{Bare.{weighed_in, with_weights}, Layouts.{Layout, weighed, schema_in, bare}, Migrated.migrated_settings}, proofs.Listed.unmapped}
use Rattle.office_rows.proofs.Creating.{has_mapped}
use Rattle.office_loading.specs.{Decoded.{IsSaid, FailsOne, DecodesAll, itself}, Columns.{SaysNumbered, is_text, names_version, SaysNumber, is_older}}
use Rattle.office_loading.specs.{Fits.{FitsNumber, FitsSetting}, Settings.setting_in, Contents.opened_rows, declared.restoring.OpenedTables.OpenedTables}
use Rattle.office_loading.specs.Tables.{FailsTable, ReadsTable, HasVersion, Names, Tells, FailsByVersion, ReadsSettings, ShowsSettings, FailsTables, FailsSettings, ReadsTables, ReadsOthers, ShowsUnfit, FitsRows, with_shown, HasHighNext, ShowsPartners}
use Rattle.office_loading.{specs.Older.{HasOlder, NamesOlder, FailsOlderSettings, FailsOlderTables, ReadsOlderTables}, proofs.LackingLemmas.{one_order, all_in}}
use Rattle.office_tables.specs.{declared.table_fault.TableFault.TableFault, declared.table_fault.TableFault.TheVariants.{Store, Damaged, Version, Memory}}
use Rattle.office_tables.{specs.{Faults.{IsOfStore, IsOfStoreOr}, Reading.Reads}, proofs.{WritesLemmas.{of_store_or, of_store_weaker}, MadeLemmas.clean_first}}
use Rattle.terminal_core.specs.declared.change.Version.TheVariants.{First, Second}

-- ==== ShownLemmas: What a table shows is shown in one order.

-- by these columns, from the least up
abbrev pub keys_cmp : List ℕ → Row → Row → Ordering
keys_cmp key = on (columns_at key) (key_cmp 0 (map (λ (n : ℕ). ascending Binary) key))

none_total : IsTotalOrder (λ (a b : Row). Equal)
none_total = record { antisymm = λ x y. refl; trans = λ x y z p q. p; congr = λ x y z p. refl }

from_total : (key : List ℕ) (at : ℕ) → IsTotalOrder (key_cmp at (map (λ (n : ℕ). ascending Binary) key))
from_total [] at = none_total
from_total (n ∷ key) at = then_total (on_total (λ (r : Row). column r at) value_cmp_total) (from_total key (suc at))

pub keys_total : (key : List ℕ) → IsTotalOrder (keys_cmp key)
keys_total key = on_total (columns_at key) (from_total key 0)

module _ (table : Table) (shown key : List ℕ) (sees : (r : Row) → columns_at key (columns_at shown r) ≡ columns_at key r) (db : Database) where
  pub in_order : (answer : List Row) → ShowsTable table shown key db answer → IsSorted (keys_cmp key) answer
  in_order answer it =
      let compare = key_cmp 0 (map (λ (n : ℕ). ascending Binary) key) in
      subst (IsSorted (keys_cmp key)) (sym it.is) (IsSorted-map (keys_cmp key) (columns_at shown) it.by_key (subst (λ c. IsSorted c it.by_key) (λ i a b. compare (sym (sees a) i) (sym (sees b) i)) it.ordered))

  pub same_rows : (answer other : List Row) → ShowsTable table shown key db answer → ShowsTable table shown key db other → IsPermutation answer other
  same_rows answer other it that =
      let same : IsPermutation it.by_key that.by_key = IsPermutation-trans _ _ _ (IsPermutation-sym _ _ it.same) that.same in
      subst₂ IsPermutation (sym it.is) (sym that.is) (IsPermutation-map (columns_at shown) _ _ same)

  pub one_answer : (answer other : List Row) → ShowsTable table shown key db answer → ShowsTable table shown key db other
      → ((x y : Row) → Has answer x → Has other y → keys_cmp key x y ≡ Equal → x ≡ y) → answer ≡ other
  one_answer answer other it that ties =
      let total = keys_total key in
      one_order (keys_cmp key) total answer other (ascending_from_sorted (keys_cmp key) total answer (in_order answer it)) (ascending_from_sorted (keys_cmp key) total other (in_order other that))
      (λ f. sym (sum_by-IsPermutation f answer other (same_rows answer other it that))) ties

-- ==== TableLemmas: From the rows that a query shows to the records of a table.

pub mapped_has : {A B : Type 0} (f : A → B) (xs : List A) (x : A) → Has xs x → Has (map f xs) (f x)
mapped_has f [] x h = absurd h
mapped_has f (y ∷ xs) x (inl same) = inl (ap f same)
mapped_has f (y ∷ xs) x (inr later) = inr (mapped_has f xs x later)

-- a failed query says nothing of records
pub store_fails : {C : Type 0} (Fits : C → Type 0) (Shown : List C → Type 0) (fault : TableFault) → IsOfStore fault → FailsTable Fits Shown fault
store_fails {C} Fits Shown = of_store_or ((all : List C) → Shown all → ¬ AllByRecursion Fits all)

-- ---- rows that show all their columns

module _ (own shown : List ℕ) (whole : (r : Row) → columns_at own (columns_at shown r) ≡ columns_at shown r) where
  pub all_own : (rows : List Row) (one : Row) → Has (map (columns_at shown) rows) one → columns_at own one ≡ one
  all_own rows one has = let r = has_mapped (columns_at shown) rows one has in ap (columns_at own) r.2 ∙ whole r.0 ∙ sym r.2

  module _ (table : Table) (key : List ℕ) (sees : (r : Row) → columns_at key (columns_at shown r) ≡ columns_at key r) (db : Database) (answer : List Row) (it : ShowsTable table shown key db answer) where
    own_here : (one : Row) → Has answer one → columns_at own one ≡ one
    own_here one has = all_own it.by_key one (subst (λ l. Has l one) it.is has)

    -- a row of one answer is one of the other
    pub also_shown : (other : List Row) → ShowsTable table shown key db other → (one : Row) → Contains answer one → Has other one
    also_shown other that one there = has_contained other one (Contains-permutation _ _ one (same_rows table shown key sees db answer other it that) there)

    module _ {X C : Type 0} (Z : Type 0) (content : X → C) (values : C → Row) (Fits : C → Type 0) where
      abbrev SaysOne : Row → C → Type 0
      SaysOne row c = (columns_at own row ≡ values c) × Fits c

      abbrev ShowsAll : List C → Type 0
      ShowsAll all = ShowsTable table shown key db (map values all)

      all_said : (rows : List Row) (read : List X) → ((one : Row) → Has rows one → columns_at own one ≡ one) → AllZip (λ row x. SaysOne row (content x)) rows read
          → (rows ≡ map values (map content read)) × AllByRecursion Fits (map content read)
      all_said [] [] mine all = (refl, tt)
      all_said [] (x ∷ read) mine all = absurd all
      all_said (row ∷ rows) [] mine all = absurd all
      all_said (row ∷ rows) (x ∷ read) mine all =
          let first : row ≡ values (content x) = sym (mine row (inl refl)) ∙ all.0.0 in
          let rest = all_said rows read (λ one h. mine one (inr h)) all.1 in
          (ap₂ (λ r l. r ∷ l) first rest.0, (all.0.1, rest.1))

      unsaid : (one : Row) → Contains answer one → ¬ IsSaid SaysOne one → (all : List C) → ShowsAll all → ¬ AllByRecursion Fits all
      unsaid one there none all that = λ fits.
          let c = has_mapped values all one (also_shown (map values all) that one there) in
          none (c.0, (own_here one (has_contained answer one there) ∙ c.2, all_in Fits all c.0 fits c.1))

      none_said : (fault : TableFault) → FailsOne (IsSaid SaysOne) answer fault → FailsTable Fits ShowsAll fault
      none_said Damaged h = unsaid h.0 h.1 h.2
      none_said Memory h = h
      none_said Version h = absurd h
      none_said (Store error) h = absurd h

      pub reads_table : (given : List Row) → given ≡ answer → (result : Result (Vec X Z) TableFault) → DecodesAll (λ row x. SaysOne row (content x)) (IsSaid SaysOne) given result → ReadsTable content Fits ShowsAll result
      reads_table given same (Ok read) all = let r = all_said answer read.items own_here (subst (λ l. AllZip (λ row x. SaysOne row (content x)) l read.items) same all) in (subst (ShowsTable table shown key db) r.0 it, r.1)
      reads_table given same (Err fault) h = none_said fault (subst (λ l. FailsOne (IsSaid SaysOne) l fault) same h)

-- ---- interchanges, of whose columns not all are shown

module _ (db : Database) (answer : List Row) (it : ShowsTable interchange_table (0 ∷ 1 ∷ 3 ∷ []) (0 ∷ 1 ∷ []) db answer) {X : Type 0} (Z : Type 0) (content : X → NumberKept) where
  number_here : (one : Row) → Has answer one → columns_at (0 ∷ 1 ∷ 2 ∷ []) one ≡ one
  number_here = own_here (0 ∷ 1 ∷ 2 ∷ []) (0 ∷ 1 ∷ 3 ∷ []) (λ r. refl) interchange_table (0 ∷ 1 ∷ []) (λ r. refl) db answer it

  numbers_said : (rows : List Row) (read : List X) → ((one : Row) → Has rows one → columns_at (0 ∷ 1 ∷ 2 ∷ []) one ≡ one) → AllZip (λ row x. SaysNumbered row (content x)) rows read
      → (is : List Interchange) × (rows ≡ map reply_values is) × (map content read ≡ map number_kept is) × AllByRecursion FitsNumber (map content read)
  numbers_said [] [] mine all = ([], refl, refl, tt)
  numbers_said [] (x ∷ read) mine all = absurd all
  numbers_said (row ∷ rows) [] mine all = absurd all
  numbers_said (row ∷ rows) (x ∷ read) mine all =
      let i = all.0.0 in
      let first : row ≡ reply_values i = sym (mine row (inl refl)) ∙ all.0.1 in
      let rest = numbers_said rows read (λ one h. mine one (inr h)) all.1 in
      (i ∷ rest.0, ap₂ (λ r l. r ∷ l) first rest.1, ap₂ (λ n l. n ∷ l) all.0.2 rest.2, (all.0.3, rest.3))

  number_unsaid : (one : Row) → Contains answer one → ¬ IsSaid SaysNumbered one → (all : List NumberKept) → ShowsNumbers db all → ¬ AllByRecursion FitsNumber all
  number_unsaid one there none all that = λ fits.
      let other = also_shown (0 ∷ 1 ∷ 2 ∷ []) (0 ∷ 1 ∷ 3 ∷ []) (λ r. refl) interchange_table (0 ∷ 1 ∷ []) (λ r. refl) db answer it (map reply_values that.interchanges) that.shown one there in
      let i = has_mapped reply_values that.interchanges one other in
      let fit = all_in FitsNumber (map number_kept that.interchanges) (number_kept i.0) (subst (AllByRecursion FitsNumber) that.are fits) (mapped_has number_kept that.interchanges i.0 i.1) in
      none (number_kept i.0, (i.0, number_here one (has_contained answer one there) ∙ i.2, refl, fit))

  no_number : (fault : TableFault) → FailsOne (IsSaid SaysNumbered) answer fault → FailsTable FitsNumber (ShowsNumbers db) fault
  no_number Damaged h = number_unsaid h.0 h.1 h.2
  no_number Memory h = h
  no_number Version h = absurd h
  no_number (Store error) h = absurd h

  pub reads_numbers : (given : List Row) → given ≡ answer → (result : Result (Vec X Z) TableFault) → DecodesAll (λ row x. SaysNumbered row (content x)) (IsSaid SaysNumbered) given result → ReadsTable content FitsNumber (ShowsNumbers db) result
  reads_numbers given same (Ok read) all =
      let r = numbers_said answer read.items number_here (subst (λ l. AllZip (λ row x. SaysNumbered row (content x)) l read.items) same all) in
      (record { interchanges = r.0; shown = subst (ShowsTable interchange_table (0 ∷ 1 ∷ 3 ∷ []) (0 ∷ 1 ∷ []) db) r.1 it; are = r.2 }, r.3)
  reads_numbers given same (Err fault) h = no_number fault (subst (λ l. FailsOne (IsSaid SaysNumbered) l fault) same h)

-- ==== VersionLemmas: The row of the version.

abbrev version : List ℕ → Setting
version text = setting_of (codes "version") text

text_is : (text : List ℕ) (value : Value) → is_text text value ≡ true → value ≡ Text text
text_is text (Text other) holds = ap Text ((bytes_eq-Decides other text).0 holds)
text_is text Null holds = absurd cc
text_is text (Int n) holds = absurd cc
text_is text (Real x) holds = absurd cc
text_is text (Blob b) holds = absurd cc

module _ (db : Database) (answer : List Row) (it : ShowsTable setting_table (0 ∷ 1 ∷ []) (0 ∷ []) db answer) where
  pub full : (r : Row) → Has it.by_key r → columns_at (0 ∷ 1 ∷ []) r ≡ r
  full r has =
      let stored = has_contained _ r (Contains-permutation _ _ r (IsPermutation-sym _ _ it.same) (contains_had it.by_key r has)) in
      let s = has_mapped (columns_of setting_table) (db.trees setting_table.tree) r stored in
      subst (λ l. columns_at (0 ∷ 1 ∷ []) l ≡ l) (sym s.2) refl

  pub version_there : (text : List ℕ) → list_any (names_version text) answer ≡ true → Names text (db.trees setting_table.tree)
  version_there text holds =
      let one = some_has (names_version text) answer holds in
      let r = has_mapped (columns_at (0 ∷ 1 ∷ [])) it.by_key one.0 (subst (λ l. Has l one.0) it.is one.1) in
      let tests = and_parts _ _ one.2 in
      let whole : one.0 ≡ r.0 = r.2 ∙ full r.0 r.1 in
      let first : column r.0 0 ≡ Text (codes "version") = ap (λ l. column l 0) (sym whole) ∙ text_is _ (column one.0 0) tests.0 in
      let second : column r.0 1 ≡ Text text = ap (λ l. column l 1) (sym whole) ∙ text_is _ (column one.0 1) tests.1 in
      let is : r.0 ≡ setting_values (version text) = sym (full r.0 r.1) ∙ ap₂ (λ a b. a ∷ b ∷ []) first second in
      subst (Contains (map (columns_of setting_table) (db.trees setting_table.tree))) is (Contains-permutation _ _ r.0 (IsPermutation-sym _ _ it.same) (contains_had it.by_key r.0 r.1))

  pub version_absent : (text : List ℕ) → list_any (names_version text) answer ≡ false → ¬ Names text (db.trees setting_table.tree)
  version_absent text none = λ there.
      let has = has_contained it.by_key (setting_values (version text)) (Contains-permutation _ _ (setting_values (version text)) it.same there) in
      let shown : Has answer (setting_values (version text)) = subst (λ l. Has l (setting_values (version text))) (sym it.is) (mapped_has (columns_at (0 ∷ 1 ∷ [])) it.by_key (setting_values (version text)) has) in
      let holds = some_from (names_version text) answer (setting_values (version text)) shown ((bytes_eq-Decides text text).1 refl) in
      absurd cc

-- a fault of the store, or damage, where the version is named
pub fails_named : (named damaged : Type 0) (fault : TableFault) → named → IsOfStoreOr damaged fault → FailsByVersion named damaged fault
fails_named named damaged Damaged has h = (has, h)
fails_named named damaged Memory has h = h
fails_named named damaged (Store error) has h = h
fails_named named damaged Version has h = absurd h

-- what follows from the damage
pub fails_weaker : (named damaged more : Type 0) (fault : TableFault) → (damaged → more) → FailsByVersion named damaged fault → FailsByVersion named more fault
fails_weaker named damaged more Damaged f h = (h.0, f h.1)
fails_weaker named damaged more Version f h = h
fails_weaker named damaged more Memory f h = h
fails_weaker named damaged more (Store error) f h = h

pub reads_settings : {X Z : Type 0} (content : X → Setting) (db : Database) (result : Result (Vec X Z) TableFault) → HasVersion db → ReadsTable content FitsSetting (ShowsSettings db) result → ReadsSettings content db result
reads_settings content db (Ok read) has h = (has, h)
reads_settings content db (Err fault) has h = fails_named (HasVersion db) (FailsTable FitsSetting (ShowsSettings db) Damaged) fault has h

-- ---- settings in any tree

module _ (db : Database) (tree : ℕ) (answer : List Row) (it : ShowsTable (setting_in tree) (0 ∷ 1 ∷ []) (0 ∷ []) db answer) where
  -- a database whose trees are all this one shows the same
  pub shows_there : ShowsTable setting_table (0 ∷ 1 ∷ []) (0 ∷ []) (record db { trees = λ _. db.trees tree }) answer
  shows_there = record { by_key = it.by_key; same = it.same; ordered = it.ordered; is = it.is }

  pub names_this : (text : List ℕ) → list_any (names_version text) answer ≡ true → Names text (db.trees tree)
  names_this text = version_there (record db { trees = λ _. db.trees tree }) answer shows_there text

  pub names_none : (text : List ℕ) → list_any (names_version text) answer ≡ false → ¬ Names text (db.trees tree)
  names_none text = version_absent (record db { trees = λ _. db.trees tree }) answer shows_there text

-- ---- where the version is named, no later call fails by it

pub fault_tells : (X named : Type 0) (fault : TableFault) → named → IsOfStoreOr (Unit {0}) fault → Tells {X = X} named (Err fault)
fault_tells X named (Store error) has h = h
fault_tells X named Memory has h = h
fault_tells X named Damaged has h = has
fault_tells X named Version has h = absurd h

pub result_tells : (X named : Type 0) (result : Result X TableFault) → named → IfErr result (IsOfStoreOr (Unit {0})) → Tells named result
result_tells X named (Ok x) has h = has
result_tells X named (Err fault) has h = fault_tells X named fault has h

pub decoding_tells : {A : Type 0} (X : Type 0) (is_said : A → Type 0) (given : List A) (named : Type 0) (fault : TableFault) → named → FailsOne is_said given fault → Tells {X = X} named (Err fault)
decoding_tells X is_said given named Damaged has h = has
decoding_tells X is_said given named Memory has h = h
decoding_tells X is_said given named Version has h = absurd h
decoding_tells X is_said given named (Store error) has h = absurd h

pub decoded_tells : {A X Z : Type 0} (says : A → X → Type 0) (is_said : A → Type 0) (given : List A) (named : Type 0) (result : Result (Vec X Z) TableFault) → named → DecodesAll says is_said given result → Tells named result
decoded_tells says is_said given named (Ok read) has h = has
decoded_tells {X = X} {Z = Z} says is_said given named (Err fault) has h = decoding_tells (Vec X Z) is_said given named fault has h

-- the same fault of another call
pub told : (X Y named : Type 0) (fault : TableFault) → Tells {X = X} named (Err fault) → Tells {X = Y} named (Err fault)
told X Y named (Store error) h = h
told X Y named Memory h = h
told X Y named Damaged h = h
told X Y named Version h = h

-- ==== ChainLemmas: What a later call says of what it reads, and why one of them fails.

-- what the later call says of what it reads, it says of the first state
pub from_first : (P : Database → Type 0) (schema : Schema) {X Y : Type 0} {a b c : State} {x : X} {result : Result Y TableFault} → Reads a b (Ok x) → Reads b c result → (HasCleanDisk c → b.now.schema ≡ schema → P b.now) → HasCleanDisk c → a.now.schema ≡ schema → P a.now
from_first P schema {a} {b} p q says clean is =
    let now : b.now ≡ a.now = (p.unchanged (clean_first q clean)).0.now_is in
    subst P now (says clean (ap (λ (d : Database). d.schema) now ∙ is))

pub same_items : {X : Type 0} (xs : List X) → map itself xs ≡ xs
same_items [] = refl
same_items (x ∷ xs) = ap (λ l. x ∷ l) (same_items xs)

-- ---- faults

-- a table that can't be read is one of rows that can't be
pub one_fails : {C : Type 0} (Fits : C → Type 0) (Shown : List C → Type 0) (pick : OpenedRows → List C) (db : Database) → ((rows : OpenedRows) → Shows db rows → Shown (pick rows)) → ((rows : OpenedRows) → FitsRows rows → AllByRecursion Fits (pick rows))
    → (fault : TableFault) → FailsTable Fits Shown fault → IsOfStoreOr (ShowsUnfit db) fault
one_fails {C} Fits Shown pick db shown fits = of_store_weaker ((all : List C) → Shown all → ¬ AllByRecursion Fits all) (ShowsUnfit db) (λ h rows shows fit. h (pick rows) (shown rows shows) (fits rows fit))

-- the same of a table that is read later
pub later_fails : {C : Type 0} (Fits : C → Type 0) (Shown : Database → List C → Type 0) (pick : OpenedRows → List C) (layout : Layout) → ((db : Database) (rows : OpenedRows) → Shows db rows → Shown db (pick rows)) → ((rows : OpenedRows) → FitsRows rows → AllByRecursion Fits (pick rows))
    → (fault : TableFault) → {X Y : Type 0} {a b c : State} {x : X} {result : Result Y TableFault} → Reads a b (Ok x) → Reads b c result → (HasCleanDisk c → b.now.schema ≡ schema_in layout → FailsTable Fits (Shown (weighed_in layout b.now)) fault) → HasCleanDisk c → a.now.schema ≡ schema_in layout → IsOfStoreOr (ShowsUnfit (weighed_in layout a.now)) fault
later_fails Fits Shown pick layout shown fits fault {a = a} p q says clean is =
    let db = weighed_in layout a.now in
    one_fails Fits (Shown db) pick db (shown db) fits fault (from_first (λ (d : Database). FailsTable Fits (Shown (weighed_in layout d)) fault) (schema_in layout) p q says clean is)

pub settings_fail : (db : Database) (fault : TableFault) → FailsSettings db fault → FailsTables db fault
settings_fail db fault = fails_weaker (HasVersion db) (FailsTable FitsSetting (ShowsSettings db) Damaged) (ShowsUnfit db) fault (λ h rows shows fit. h rows.settings shows.settings fit.settings)

-- ---- all tables

pub tables_read : (db : Database) (settings : List Setting) → HasVersion db → ShowsSettings db settings → AllByRecursion FitsSetting settings → (result : Result OpenedTables TableFault) → ReadsOthers weighed db settings result → ReadsTables db result
tables_read db settings has shown fits (Ok tables) others =
    let rows = opened_rows tables in
    let same : with_shown settings rows ≡ rows = ap (λ l. with_shown l rows) (sym others.0) in
    let both = others.1 settings shown fits in
    (has, subst (Shows db) same both.0, subst FitsRows same both.1)
tables_read db settings has shown fits (Err fault) others = fails_named (HasVersion db) (ShowsUnfit db) fault has others

-- ==== KeyLemmas: Records of a table whose keys differ are shown in one way.

both_equal : (a b : Ordering) → ordering_then a b ≡ Equal → (a ≡ Equal) × (b ≡ Equal)
both_equal Less b h = absurd cc
both_equal Equal b h = (refl, h)
both_equal Greater b h = absurd cc

naturals : (m n : ℕ) → int_cmp (pos m) (pos n) ≡ Equal → m ≡ n
naturals m n h = grind (arith, ints, nat_tests)

pub number_tied : (m n : ℕ) (rest : Ordering) → ordering_then (value_cmp (number_value m) (number_value n)) rest ≡ Equal → (m ≡ n) × (rest ≡ Equal)
number_tied m n rest h = let p = both_equal (value_cmp (number_value m) (number_value n)) rest h in (naturals m n (sym (value_cmp-Int (pos m) (pos n)) ∙ p.0), p.1)

pub text_tied : (s t : List ℕ) (rest : Ordering) → ordering_then (value_cmp (Text s) (Text t)) rest ≡ Equal → (s ≡ t) × (rest ≡ Equal)
text_tied s t rest h =
    let p = both_equal (value_cmp (Text s) (Text t)) rest h in
    let tied : slice_cmp nat_cmp s t ≡ Equal = sym (value_cmp-Text s t) ∙ p.0 in
    let same : bytes_eq s t ≡ true = sym (is_eq-slice_cmp s t) ∙ ap is_eq tied in
    ((bytes_eq-Decides s t).0 same, p.1)

module _ (table : Table) (shown key : List ℕ) (sees : (r : Row) → columns_at key (columns_at shown r) ≡ columns_at key r) (db : Database) {C : Type 0} (values : C → Row) where
  abbrev pub HasTies : List C → Type 0
  HasTies xs = (x y : C) → Has xs x → Has xs y → keys_cmp key (values x) (values y) ≡ Equal → values x ≡ values y

  pub one_showing : (xs ys : List C) → ShowsTable table shown key db (map values xs) → ShowsTable table shown key db (map values ys) → HasTies xs → map values xs ≡ map values ys
  one_showing xs ys it that ties = one_answer table shown key sees db (map values xs) (map values ys) it that (λ r t here there tied.
      let x = has_mapped values xs r here in
      let back = has_contained (map values xs) t (Contains-permutation _ _ t (IsPermutation-sym _ _ (same_rows table shown key sees db (map values xs) (map values ys) it that)) (contains_had (map values ys) t there)) in
      let y = has_mapped values xs t back in
      let equal : keys_cmp key (values x.0) (values y.0) ≡ Equal = sym (ap₂ (keys_cmp key) x.2 y.2) ∙ tied in
      x.2 ∙ ties x.0 y.0 x.1 y.1 equal ∙ sym y.2)

  pub one_reading : (Fits : C → Type 0) → ((x y : C) → Fits x → Fits y → values x ≡ values y → x ≡ y) → (xs ys : List C) → AllByRecursion Fits xs → AllByRecursion Fits ys → map values xs ≡ map values ys → xs ≡ ys
  one_reading Fits one [] [] fits others same = refl
  one_reading Fits one [] (y ∷ ys) fits others same = absurd cc
  one_reading Fits one (x ∷ xs) [] fits others same = absurd cc
  one_reading Fits one (x ∷ xs) (y ∷ ys) fits others same =
      let first : values x ≡ values y = cc in
      let rest : map values xs ≡ map values ys = cc in
      ap₂ (λ a l. a ∷ l) (one x y fits.0 others.0 first) (one_reading Fits one xs ys fits.1 others.1 rest)

-- ==== NextLemmas: Why the next numbers can't be read.

abbrev pub IsRead : Row → Type 0
IsRead row = IsSaid (SaysNumber (2 ^ 32)) (column row 3)

-- what can't be read among rows that are those of these accounts
among : (partners : List Partner) (answer : List Row) → ((row : Row) → Contains answer row → (p : Partner) × Contains partners p × (column row 3 ≡ number_value p.next)) → (fault : TableFault) → FailsOne IsRead answer fault → IsOfStoreOr (HasHighNext partners) fault
among partners answer account_of Damaged h = let p = account_of h.0 h.1 in (p.0, p.1, λ fits. h.2 (p.0.next, (p.2, fits)))
among partners answer account_of Memory h = h
among partners answer account_of Version h = h
among partners answer account_of (Store error) h = absurd h

module _ (rows : Rows) (db : Database) (answer : List Row) (has : HasRows rows db) (it : ShowsTable partner_table (0 ∷ 1 ∷ 2 ∷ 3 ∷ []) (0 ∷ []) db answer) where
  account_of : (row : Row) → Contains answer row → (p : Partner) × Contains rows.partners p × (column row 3 ≡ number_value p.next)
  account_of row there =
      let placed = unmapped partner_values rows.partners it.by_key (IsPermutation-trans _ _ _ has.rows_are.partners.same it.same) in
      let r = has_mapped (columns_at (0 ∷ 1 ∷ 2 ∷ 3 ∷ [])) it.by_key row (subst (λ l. Has l row) it.is (has_contained answer row there)) in
      let p = has_mapped partner_values placed.0 r.0 (subst (λ l. Has l r.0) placed.2 r.1) in
      let same : row ≡ columns_at (0 ∷ 1 ∷ 2 ∷ 3 ∷ []) (partner_values p.0) = r.2 ∙ ap (columns_at (0 ∷ 1 ∷ 2 ∷ 3 ∷ [])) p.2 in
      (p.0, Contains-permutation _ _ p.0 (IsPermutation-sym _ _ placed.1) (contains_had placed.0 p.0 p.1), ap (λ r. column r 3) same)

  pub high_next : (fault : TableFault) → FailsOne IsRead answer fault → IsOfStoreOr (HasHighNext rows.partners) fault
  high_next = among rows.partners answer account_of

module _ (partners : List Partner) (db : Database) (answer : List Row) (shows : ShowsPartners db partners) (it : ShowsTable partner_table (0 ∷ 1 ∷ 2 ∷ 3 ∷ []) (0 ∷ []) db answer) where
  shown_of : (row : Row) → Contains answer row → (p : Partner) × Contains partners p × (column row 3 ≡ number_value p.next)
  shown_of row there =
      let r = has_mapped (columns_at (0 ∷ 1 ∷ 2 ∷ 3 ∷ [])) it.by_key row (subst (λ l. Has l row) it.is (has_contained answer row there)) in
      let moved = Contains-permutation _ _ r.0 (IsPermutation-trans _ _ _ (IsPermutation-sym _ _ it.same) shows.same) (contains_had it.by_key r.0 r.1) in
      let mapped = mapped_has (columns_at (0 ∷ 1 ∷ 2 ∷ 3 ∷ [])) shows.by_key r.0 (has_contained shows.by_key r.0 moved) in
      let p = has_mapped partner_values partners _ (subst (λ l. Has l (columns_at (0 ∷ 1 ∷ 2 ∷ 3 ∷ []) r.0)) (sym shows.is) mapped) in
      (p.0, contains_had partners p.0 p.1, ap (λ r. column r 3) (r.2 ∙ p.2))

  pub high_shown : (fault : TableFault) → FailsOne IsRead answer fault → IsOfStoreOr (HasHighNext partners) fault
  high_shown = among partners answer shown_of

-- ==== OlderLemmas: The settings of version 1 and 2, and why reading the tables fails.

-- ---- the version

module _ (db : Database) (answer : List Row) (it : ShowsTable setting_table (0 ∷ 1 ∷ []) (0 ∷ []) db answer) where
  either : (first second : Bool) → list_any (names_version (version_text First)) answer ≡ first → list_any (names_version (version_text Second)) answer ≡ second → (first || second) ≡ true → HasOlder db
  either true second one two some = inl (version_there db answer it (version_text First) one)
  either false true one two some = inr (version_there db answer it (version_text Second) two)
  either false false one two some = absurd cc

  pub older_there : is_older answer ≡ true → HasOlder db
  older_there some = either _ _ refl refl some

  neither : (first second : Bool) → list_any (names_version (version_text First)) answer ≡ first → list_any (names_version (version_text Second)) answer ≡ second → (first || second) ≡ false → ¬ HasOlder db
  neither true second one two none = absurd cc
  neither false true one two none = absurd cc
  neither false false one two none = λ older. elim older [
    | inl a ↦ version_absent db answer it (version_text First) one a
    | inr b ↦ version_absent db answer it (version_text Second) two b
  ]

  pub older_absent : is_older answer ≡ false → ¬ HasOlder db
  older_absent none = neither _ _ refl refl none

-- ---- settings in any tree

module _ (db : Database) (tree : ℕ) (answer : List Row) (it : ShowsTable (setting_in tree) (0 ∷ 1 ∷ []) (0 ∷ []) db answer) where
  pub names_older : is_older answer ≡ true → NamesOlder (db.trees tree)
  names_older = older_there (record db { trees = λ _. db.trees tree }) answer (shows_there db tree answer it)

  pub names_no_older : is_older answer ≡ false → ¬ NamesOlder (db.trees tree)
  names_no_older = older_absent (record db { trees = λ _. db.trees tree }) answer (shows_there db tree answer it)

-- ---- faults

-- settings are shown alike with weights and without
pub shown_without : (db : Database) (all : List Setting) → ShowsSettings (with_weights db) all → ShowsSettings db all
shown_without db all it = record { by_key = it.by_key; same = it.same; ordered = it.ordered; is = it.is }

pub shown_with : (db : Database) (all : List Setting) → ShowsSettings db all → ShowsSettings (with_weights db) all
shown_with db all it = record { by_key = it.by_key; same = it.same; ordered = it.ordered; is = it.is }

pub older_settings_fail : (db : Database) (fault : TableFault) → FailsOlderSettings db fault → FailsOlderTables db fault
older_settings_fail db fault = fails_weaker (HasOlder db) (FailsTable FitsSetting (ShowsSettings db) Damaged) (ShowsUnfit (with_weights db)) fault (λ h rows shows fit. h rows.settings (shown_without db rows.settings shows.settings) fit.settings)

-- ---- all tables

pub older_read : (db : Database) (newest settings : List Setting) → HasOlder db → newest ≡ migrated_settings settings → ShowsSettings db settings → AllByRecursion FitsSetting settings → (result : Result OpenedTables TableFault) → ReadsOthers bare db newest result → ReadsOlderTables db result
older_read db newest settings has same shown fits (Ok tables) others =
    let rows = with_shown settings (opened_rows tables) in
    let both = others.1 settings (shown_with db settings shown) fits in
    (has, rows, ap (λ l. with_shown l rows) (others.0 ∙ same), both.0, both.1)
older_read db newest settings has same shown fits (Err fault) others = fails_named (HasOlder db) (ShowsUnfit (with_weights db)) fault has others
