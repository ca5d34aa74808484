-- What each query of all rows of a table shows.
use Rattle.std.{specs.{List.Sorted.{IsPermutation, IsSortedBy}, List.swap, Ordering.{is_lt, on, nat_cmp, int_cmp}}, proofs.lemmas.List.{length-map, map-set}}
use Rattle.std.proofs.Common.{◌≡◌, ℕ, ◌==◌, ◌&&◌, List, [], ◌∷◌, Bool, true, false, map, filter, refl, ap₂, ◌∙◌, zero, suc, ◌+◌, ◌<◌, IsSorted, length, set, slice_index_or, sym, ap, subst, arith, pos}
use Rattle.std.proofs.lemmas.List.Sorted.{IsPermutation-trans, IsPermutation-refl, IsPermutation-map, IsPermutation-swap, IsPermutation-keeps}
use Rattle.std.proofs.{lemmas.Int.ints, lemmas.Bool.Decides.nat_tests}
use Rattle.sqlite.specs.{declared.types.Value.TheVariants.Null, Order.{Row, column}, Collation.TheVariants.Binary, Ops.{binary, is_true}, State.{State, Shown}}
use Rattle.sqlite.specs.{Command.TheVariants.Select, Listing.{understood, reads_listing}, Table.Table, Term.{Term, eval_all}, Query.{Output, key_cmp}}
use Rattle.sqlite.{specs.{Program.overlay, Tree.Trees, Effect.Database, Schema.Schema}, proofs.Callers.{IsPlain, command_of, reads_as}}
use Rattle.sqlite_sql.specs.{declared.ops.BinaryOp.TheVariants.Compare, declared.ops.CompareOp.TheVariants.Eq}
use Rattle.office_rows.specs.Tables.{partner_table, interchange_table, office_schema, visit_table, place_table, listing_table, setting_table, block_table}
use Rattle.office_rows.specs.{Rows.{Interchange, Rows, Partner}, Values.{number_value, partner_values, interchange_values, kept_values, next_values}}
use Rattle.office_rows.specs.{Stored.{Holds, HasRows, columns_of}, Layouts.{Layout, bare, weighed, schema_in, bare_schema}, Effects.is_pair}
use Rattle.office_rows.specs.{Bare.{weighed_row, with_weights, weighed_in}, Shown.{columns_at, ShowsTable, AreNexts}}
use Rattle.office_rows.proofs.WriteLemmas.{equal_numbers, rows_of, answer_is, holds_read, passes, answer_in_order}
use Rattle.sqlite_trees.proofs.ListLemmas.{map-map, filter_all, all_of}
use Rattle.sqlite_value.{specs.{Keys.ascending, declared.keys.Key.Key}, proofs.OrderLemmas.{value_cmp-Int, then-Equal}}
use Rattle.office_rows.proofs.Reading as texts
use Rattle.office_rows.proofs.BareReading as bare_texts

-- ==== Found: What a query of one row finds.

pub and_true : (b : Bool) → (b && true) ≡ b
and_true true = refl
and_true false = refl

abbrev equals : Row → ℕ → ℕ → Bool
equals c at n = is_true (binary (Compare Eq Binary) (column c at) (number_value n))

kept_is : (layout : Layout) → (command_of (understood (schema_in layout) texts.select_kept) ≡ Select (record { lets = []; body = rows_of 2 texts.select_kept_tests texts.select_kept_shown }) texts.select_kept_names) × (reads_listing (schema_in layout) texts.select_kept ≡ false)
kept_is bare = bare_texts.select_kept_is
kept_is weighed = texts.select_kept_is

pub kept_plain : (layout : Layout) → IsPlain (understood (schema_in layout) texts.select_kept)
kept_plain bare = bare_texts.select_kept_plain
kept_plain weighed = texts.select_kept_plain

-- where the tables are those of some version, the interchanges of a pair are found
pub finds_pair : (old new : State) (answer : List Row) (layout : Layout) → old.now.schema ≡ schema_in layout → (interchanges : List Interchange) → Holds interchange_table interchange_values interchanges (old.now.trees 2) → (p n : ℕ) → Shown texts.select_kept (number_value p ∷ number_value n ∷ []) old new answer → IsPermutation (map kept_values (filter (is_pair p n) interchanges)) answer
finds_pair old new answer layout is interchanges held p n h =
    let params = number_value p ∷ number_value n ∷ [] in
    let read = reads_as texts.select_kept params old new (schema_in layout) is (Select (record { lets = []; body = rows_of 2 texts.select_kept_tests texts.select_kept_shown }) texts.select_kept_names) (kept_is layout).0 (kept_plain layout) (kept_is layout).1 answer h in
    IsPermutation-trans _ _ _ (holds_read interchange_table interchange_values interchanges (old.now.trees 2) held params texts.select_kept_tests texts.select_kept_shown
    (λ c. equals c 0 p && (equals c 1 n && true)) (λ c. column c 2 ∷ column c 3 ∷ []) (is_pair p n) kept_values
    (λ r. refl) (λ r. refl) (λ i. ap₂ ◌&&◌ (equal_numbers i.partner p) (and_true _ ∙ equal_numbers i.number n)) (λ i. refl))
    (answer_is params texts.select_kept_tests 2 texts.select_kept_shown old.now.trees answer refl (read.answer Null))

module _ (old new : State) (rows : Rows) (answer : List Row) (has : HasRows rows old.now) where
  pub finds_next : (id : ℕ) → Shown texts.select_next (number_value id ∷ []) old new answer → IsPermutation (map next_values (filter (λ p. p.id == id) rows.partners)) answer
  finds_next id h =
      let params = number_value id ∷ [] in
      let read = reads_as texts.select_next params old new office_schema has.schema (Select (record { lets = []; body = rows_of 0 texts.select_next_tests texts.select_next_shown }) texts.select_next_names) texts.select_next_is.0 texts.select_next_plain texts.select_next_is.1 answer h in
      IsPermutation-trans _ _ _ (holds_read partner_table partner_values rows.partners (old.now.trees 0) has.rows_are.partners params texts.select_next_tests texts.select_next_shown
      (λ c. equals c 0 id && true) (λ c. column c 3 ∷ []) (λ p. p.id == id) next_values
      (λ r. refl) (λ r. refl) (λ p. and_true _ ∙ equal_numbers p.id id) (λ p. refl))
      (answer_is params texts.select_next_tests 0 texts.select_next_shown old.now.trees answer refl (read.answer Null))

-- ==== Listed: What each query of all rows of a table shows.

-- ---- lists

within : {A C : Type 0} (h : A → C) (l : List A) (k : ℕ) (d : C) (z : A) → k < length l → slice_index_or (map h l) k d ≡ h (slice_index_or l k z)
within h [] k d z p = absurd (omega arith)
within h (x ∷ l) zero d z p = refl
within h (x ∷ l) (suc k) d z p = within h l k d z (omega arith)

pub map_swap : {A B : Type 0} (f : A → B) (l : List A) (i j : ℕ) → i < length l → j < length l → map f (swap l i j) ≡ swap (map f l) i j
map_swap f [] i j p q = refl
map_swap f (d ∷ ys) i j p q =
    let l = d ∷ ys in
    let a = slice_index_or l j d in
    let b = slice_index_or l i d in
    map-set f (set l i a) j b ∙ ap (λ m. set m j (f b)) (map-set f l i a) ∙ rw (← within f l j (f d) d q, ← within f l i (f d) d p) refl

-- a permutation of what a function gives is given by a permutation
pub unmapped : {A B : Type 0} (f : A → B) (xs : List A) (ys : List B) → IsPermutation (map f xs) ys → (zs : List A) × IsPermutation xs zs × (ys ≡ map f zs)
unmapped {A} {B} f xs ys same =
    IsPermutation-keeps (map f xs) (λ l. (zs : List A) × IsPermutation xs zs × (l ≡ map f zs)) (xs, IsPermutation-refl xs, refl)
    (λ l i j p q h.
    let long : length l ≡ length h.0 = ap length h.2 ∙ length-map h.0 f in
    let a : i < length h.0 = omega arith in
    let b : j < length h.0 = omega arith in
    (swap h.0 i j, IsPermutation-trans _ _ _ h.1 (IsPermutation-swap h.0 (swap h.0 i j) i j a b refl), ap (λ m. swap m i j) h.2 ∙ sym (map_swap f h.0 i j a b))) ys same

-- lists that a function gives each are sorted alike where their elements compare alike
pub sorted_as : {A B C : Type 0} (f : A → B) (h : A → C) (lt : B → B → Bool) (less : C → C → Bool) → ((x y : A) → less (h x) (h y) ≡ lt (f x) (f y)) → (l : List A) → IsSortedBy lt (map f l) → IsSortedBy less (map h l)
sorted_as f h lt less alike [] sorted = λ k d low high. absurd (omega arith)
sorted_as f h lt less alike (z ∷ zs) sorted = λ k d low high.
    let l = z ∷ zs in
    let n : length (map h l) ≡ length l = length-map l h in
    let m : length (map f l) ≡ length l = length-map l f in
    let more : k + 1 < length l = omega arith in
    let this : k < length l = omega arith in
    let there : k + 1 < length (map f l) = omega arith in
    let before = rw (within f l (k + 1) (f z) z more, within f l k (f z) z this) at (sorted k (f z) low there) in
    rw (within h l (k + 1) d z more, within h l k d z this, alike (slice_index_or l (k + 1) z) (slice_index_or l k z)) before

-- ---- queries

-- the rows of a tree show these columns of what each says, by those of the key from the least up
record ByKey (tree : ℕ) (columns_in : Row → Row) (shown key : List ℕ) (db : Database) (answer : List Row) : Type 0 where
  by_key : List Row
  same : IsPermutation (map columns_in (db.trees tree)) by_key
  ordered : IsSorted (on (columns_at key) (key_cmp 0 (map (λ _. ascending Binary) key))) by_key
  is : answer ≡ map (columns_at shown) by_key

module _ (schema : Schema) (old new : State) (has : old.now.schema ≡ schema) (answer : List Row) where
  rows_shown : (tree : ℕ) (columns_in : Row → Row) (sql : List ℕ) (shown : List Term) (order : List (Term × Key)) (names : List (List ℕ)) (columns key : List ℕ)
      → (command_of (understood schema sql) ≡ Select (record { lets = []; body = record (rows_of tree [] shown) { order = order } }) names) × (reads_listing schema sql ≡ false)
      → IsPlain (understood schema sql) → ((trees : Trees) → overlay trees [] tree ≡ trees tree)
      → ((r : Row) → eval_all shown ([] ∷ r ∷ []) ≡ columns_at columns (columns_in r))
      → ((r : Row) → eval_all (map (λ (k : Term × Key). k.0) order) ([] ∷ r ∷ []) ≡ columns_at key (columns_in r))
      → map (λ (k : Term × Key). k.1) order ≡ map (λ (n : ℕ). ascending Binary) key
      → Shown sql [] old new answer → ByKey tree columns_in columns key old.now answer
  rows_shown tree columns_in sql shown order names columns key is plain seen shows keys ascends h =
      let q = record (rows_of tree [] shown) { order = order } in
      let read = reads_as sql [] old new schema has (Select (record { lets = []; body = q }) names) is.0 plain is.1 answer h in
      let stored = old.now.trees tree in
      let keyed : Row → Output = λ r. (eval_all (map (λ (k : Term × Key). k.0) order) ([] ∷ r ∷ []), eval_all shown ([] ∷ r ∷ [])) in
      let given = answer_in_order [] [] tree shown order old.now.trees answer (seen old.now.trees) (read.answer Null) in
      let all : filter (passes [] []) stored ≡ stored = filter_all _ stored (all_of _ (λ r. refl) stored) in
      let placed = unmapped keyed stored (read.answer Null).ordered (subst (λ l. IsPermutation (map keyed l) (read.answer Null).ordered) all given.0) in
      let compare = key_cmp 0 (map (λ (k : Term × Key). k.1) order) in
      let lt : Output → Output → Bool = λ x y. is_lt (compare x.0 y.0) in
      let less : Row → Row → Bool = λ x y. is_lt (key_cmp 0 (map (λ (n : ℕ). ascending Binary) key) (columns_at key x) (columns_at key y)) in
      let alike : (x y : Row) → less (columns_in x) (columns_in y) ≡ lt (keyed x) (keyed y) = λ x y. rw (← keys x, ← keys y, ← ascends) refl in
      let sorted : IsSortedBy lt (map keyed placed.0) = subst (IsSortedBy lt) placed.2 given.1 in
      record {
        by_key = map columns_in placed.0;
        same = IsPermutation-map columns_in _ _ placed.1;
        ordered = sorted_as keyed columns_in lt less alike placed.0 sorted;
        is = given.2 ∙ ap (map (λ (o : Output). o.1)) placed.2 ∙ map-map (λ (o : Output). o.1) keyed placed.0 ∙ (λ i. map (λ r. shows r i) placed.0) ∙ sym (map-map (columns_at columns) columns_in placed.0);
      }

  lists : (table : Table) (sql : List ℕ) (shown : List Term) (order : List (Term × Key)) (names : List (List ℕ)) (columns key : List ℕ)
      → (command_of (understood schema sql) ≡ Select (record { lets = []; body = record (rows_of table.tree [] shown) { order = order } }) names) × (reads_listing schema sql ≡ false)
      → IsPlain (understood schema sql) → ((trees : Trees) → overlay trees [] table.tree ≡ trees table.tree)
      → ((r : Row) → eval_all shown ([] ∷ r ∷ []) ≡ columns_at columns (columns_of table r))
      → ((r : Row) → eval_all (map (λ (k : Term × Key). k.0) order) ([] ∷ r ∷ []) ≡ columns_at key (columns_of table r))
      → map (λ (k : Term × Key). k.1) order ≡ map (λ (n : ℕ). ascending Binary) key
      → Shown sql [] old new answer → ShowsTable table columns key old.now answer
  lists table sql shown order names columns key is plain seen shows keys ascends h =
      let s = rows_shown table.tree (columns_of table) sql shown order names columns key is plain seen shows keys ascends h in
      record { by_key = s.by_key; same = s.same; ordered = s.ordered; is = s.is }

module _ (old new : State) (answer : List Row) where
  pub lists_partner : (layout : Layout) → old.now.schema ≡ schema_in layout → Shown texts.select_partner [] old new answer → ShowsTable partner_table (0 ∷ 1 ∷ 2 ∷ 3 ∷ []) (0 ∷ []) (weighed_in layout old.now) answer
  lists_partner bare has h =
      let s = lists bare_schema old new has answer partner_table texts.select_partner texts.select_partner_shown texts.select_partner_order texts.select_partner_names (0 ∷ 1 ∷ 2 ∷ 3 ∷ []) (0 ∷ []) bare_texts.select_partner_is bare_texts.select_partner_plain (λ trees. refl) (λ r. refl) (λ r. refl) refl h in
      record { by_key = s.by_key; same = s.same; ordered = s.ordered; is = s.is }
  lists_partner weighed has h = lists office_schema old new has answer partner_table texts.select_partner texts.select_partner_shown texts.select_partner_order texts.select_partner_names (0 ∷ 1 ∷ 2 ∷ 3 ∷ []) (0 ∷ []) texts.select_partner_is texts.select_partner_plain (λ trees. refl) (λ r. refl) (λ r. refl) refl h

  pub lists_interchange : (layout : Layout) → old.now.schema ≡ schema_in layout → Shown texts.select_interchange [] old new answer → ShowsTable interchange_table (0 ∷ 1 ∷ 3 ∷ []) (0 ∷ 1 ∷ []) (weighed_in layout old.now) answer
  lists_interchange bare has h =
      let s = lists bare_schema old new has answer interchange_table texts.select_interchange texts.select_interchange_shown texts.select_interchange_order texts.select_interchange_names (0 ∷ 1 ∷ 3 ∷ []) (0 ∷ 1 ∷ []) bare_texts.select_interchange_is bare_texts.select_interchange_plain (λ trees. refl) (λ r. refl) (λ r. refl) refl h in
      record { by_key = s.by_key; same = s.same; ordered = s.ordered; is = s.is }
  lists_interchange weighed has h = lists office_schema old new has answer interchange_table texts.select_interchange texts.select_interchange_shown texts.select_interchange_order texts.select_interchange_names (0 ∷ 1 ∷ 3 ∷ []) (0 ∷ 1 ∷ []) texts.select_interchange_is texts.select_interchange_plain (λ trees. refl) (λ r. refl) (λ r. refl) refl h

  pub lists_place : (layout : Layout) → old.now.schema ≡ schema_in layout → Shown texts.select_place [] old new answer → ShowsTable place_table (0 ∷ 1 ∷ 2 ∷ []) (0 ∷ []) (weighed_in layout old.now) answer
  lists_place bare has h =
      let s = lists bare_schema old new has answer place_table texts.select_place texts.select_place_shown texts.select_place_order texts.select_place_names (0 ∷ 1 ∷ 2 ∷ []) (0 ∷ []) bare_texts.select_place_is bare_texts.select_place_plain (λ trees. refl) (λ r. refl) (λ r. refl) refl h in
      record { by_key = s.by_key; same = s.same; ordered = s.ordered; is = s.is }
  lists_place weighed has h = lists office_schema old new has answer place_table texts.select_place texts.select_place_shown texts.select_place_order texts.select_place_names (0 ∷ 1 ∷ 2 ∷ []) (0 ∷ []) texts.select_place_is texts.select_place_plain (λ trees. refl) (λ r. refl) (λ r. refl) refl h

  pub lists_listed : (layout : Layout) → old.now.schema ≡ schema_in layout → Shown texts.select_listed [] old new answer → ShowsTable listing_table (0 ∷ 1 ∷ 2 ∷ 3 ∷ 4 ∷ 5 ∷ []) (0 ∷ 1 ∷ 2 ∷ 3 ∷ []) (weighed_in layout old.now) answer
  lists_listed bare has h =
      let s = lists bare_schema old new has answer listing_table texts.select_listed texts.select_listed_shown texts.select_listed_order texts.select_listed_names (0 ∷ 1 ∷ 2 ∷ 3 ∷ 4 ∷ 5 ∷ []) (0 ∷ 1 ∷ 2 ∷ 3 ∷ []) bare_texts.select_listed_is bare_texts.select_listed_plain (λ trees. refl) (λ r. refl) (λ r. refl) refl h in
      record { by_key = s.by_key; same = s.same; ordered = s.ordered; is = s.is }
  lists_listed weighed has h = lists office_schema old new has answer listing_table texts.select_listed texts.select_listed_shown texts.select_listed_order texts.select_listed_names (0 ∷ 1 ∷ 2 ∷ 3 ∷ 4 ∷ 5 ∷ []) (0 ∷ 1 ∷ 2 ∷ 3 ∷ []) texts.select_listed_is texts.select_listed_plain (λ trees. refl) (λ r. refl) (λ r. refl) refl h

  pub lists_setting : (layout : Layout) → old.now.schema ≡ schema_in layout → Shown texts.select_setting [] old new answer → ShowsTable setting_table (0 ∷ 1 ∷ []) (0 ∷ []) old.now answer
  lists_setting bare has h = lists bare_schema old new has answer setting_table texts.select_setting texts.select_setting_shown texts.select_setting_order texts.select_setting_names (0 ∷ 1 ∷ []) (0 ∷ []) bare_texts.select_setting_is bare_texts.select_setting_plain (λ trees. refl) (λ r. refl) (λ r. refl) refl h
  lists_setting weighed has h = lists office_schema old new has answer setting_table texts.select_setting texts.select_setting_shown texts.select_setting_order texts.select_setting_names (0 ∷ 1 ∷ []) (0 ∷ []) texts.select_setting_is texts.select_setting_plain (λ trees. refl) (λ r. refl) (λ r. refl) refl h

  pub lists_block : (layout : Layout) → old.now.schema ≡ schema_in layout → Shown texts.select_block [] old new answer → ShowsTable block_table (0 ∷ 1 ∷ 2 ∷ 3 ∷ []) (0 ∷ []) (weighed_in layout old.now) answer
  lists_block bare has h =
      let s = lists bare_schema old new has answer block_table texts.select_block texts.select_block_shown texts.select_block_order texts.select_block_names (0 ∷ 1 ∷ 2 ∷ 3 ∷ []) (0 ∷ []) bare_texts.select_block_is bare_texts.select_block_plain (λ trees. refl) (λ r. refl) (λ r. refl) refl h in
      record { by_key = s.by_key; same = s.same; ordered = s.ordered; is = s.is }
  lists_block weighed has h = lists office_schema old new has answer block_table texts.select_block texts.select_block_shown texts.select_block_order texts.select_block_names (0 ∷ 1 ∷ 2 ∷ 3 ∷ []) (0 ∷ []) texts.select_block_is texts.select_block_plain (λ trees. refl) (λ r. refl) (λ r. refl) refl h

  pub lists_visit : old.now.schema ≡ office_schema → Shown texts.select_visit [] old new answer → ShowsTable visit_table (0 ∷ 1 ∷ 2 ∷ 3 ∷ 4 ∷ 5 ∷ 6 ∷ 7 ∷ 8 ∷ 9 ∷ 10 ∷ 11 ∷ 12 ∷ 13 ∷ 14 ∷ []) (0 ∷ []) old.now answer
  lists_visit has h = lists office_schema old new has answer visit_table texts.select_visit texts.select_visit_shown texts.select_visit_order texts.select_visit_names (0 ∷ 1 ∷ 2 ∷ 3 ∷ 4 ∷ 5 ∷ 6 ∷ 7 ∷ 8 ∷ 9 ∷ 10 ∷ 11 ∷ 12 ∷ 13 ∷ 14 ∷ []) (0 ∷ []) texts.select_visit_is texts.select_visit_plain (λ trees. refl) (λ r. refl) (λ r. refl) refl h

  pub lists_bare_visit : old.now.schema ≡ bare_schema → Shown bare_texts.select_visit [] old new answer → ShowsTable visit_table (0 ∷ 1 ∷ 2 ∷ 3 ∷ 4 ∷ 5 ∷ 6 ∷ 7 ∷ 8 ∷ 9 ∷ 10 ∷ 11 ∷ 12 ∷ 13 ∷ 14 ∷ []) (0 ∷ []) (with_weights old.now) answer
  lists_bare_visit has h =
      let columns_in : Row → Row = λ row. columns_of visit_table (weighed_row row) in
      let s = rows_shown bare_schema old new has answer 4 columns_in bare_texts.select_visit bare_texts.select_visit_shown texts.select_visit_order texts.select_visit_names (0 ∷ 1 ∷ 2 ∷ 3 ∷ 4 ∷ 5 ∷ 6 ∷ 7 ∷ 8 ∷ 9 ∷ 10 ∷ 11 ∷ 12 ∷ 13 ∷ 14 ∷ []) (0 ∷ []) bare_texts.select_visit_is bare_texts.select_visit_plain (λ trees. refl) (λ r. refl) (λ r. refl) refl h in
      let stored = old.now.trees 4 in
      record {
        by_key = s.by_key;
        same = subst (λ l. IsPermutation l s.by_key) (sym (map-map (columns_of visit_table) weighed_row stored)) s.same;
        ordered = s.ordered;
        is = s.is;
      }

-- ==== NextLemmas: The next numbers that the accounts show.

pub numbers_same : (xs ys : List ℕ) → map number_value xs ≡ map number_value ys → xs ≡ ys
numbers_same [] [] same = refl
numbers_same [] (y ∷ ys) same = absurd cc
numbers_same (x ∷ xs) [] same = absurd cc
numbers_same (x ∷ xs) (y ∷ ys) same = let first : x ≡ y = cc in let rest : map number_value xs ≡ map number_value ys = cc in let more = numbers_same xs ys rest in cc

naturals : (m n : ℕ) → is_lt (nat_cmp m n) ≡ is_lt (int_cmp (pos m) (pos n))
naturals m n = grind (arith, ints, nat_tests)

-- the order of two keys of one number each
by_number : (m n : ℕ) → is_lt (nat_cmp m n) ≡ is_lt (key_cmp 0 (ascending Binary ∷ []) (number_value m ∷ []) (number_value n ∷ []))
by_number m n = rw (value_cmp-Int, then-Equal) (naturals m n)

pub nexts_listed : (rows : Rows) (db : Database) (answer : List Row) (nexts : List ℕ) → HasRows rows db → ShowsTable partner_table (0 ∷ 1 ∷ 2 ∷ 3 ∷ []) (0 ∷ []) db answer
    → map number_value nexts ≡ map (λ r. column r 3) answer → AreNexts rows nexts
nexts_listed rows db answer nexts has it read =
    let placed = unmapped partner_values rows.partners it.by_key (IsPermutation-trans _ _ _ has.rows_are.partners.same it.same) in
    let lt : Row → Row → Bool = λ x y. is_lt (key_cmp 0 (ascending Binary ∷ []) (columns_at (0 ∷ []) x) (columns_at (0 ∷ []) y)) in
    let less : ℕ → ℕ → Bool = λ x y. is_lt (nat_cmp x y) in
    let sorted : IsSortedBy lt (map partner_values placed.0) = subst (IsSortedBy lt) placed.2 it.ordered in
    let shown : map (λ (r : Row). column r 3) answer ≡ map number_value (map (λ (p : Partner). p.next) placed.0) =
    ap (map (λ (r : Row). column r 3)) (it.is ∙ ap (map (columns_at (0 ∷ 1 ∷ 2 ∷ 3 ∷ []))) placed.2) ∙ thrice placed.0 in
    (placed.0, placed.1, sorted_as partner_values (λ (p : Partner). p.id) lt less (λ x y. by_number x.id y.id) placed.0 sorted, numbers_same _ _ (read ∙ shown))
  where
    thrice : (ps : List Partner) → map (λ (r : Row). column r 3) (map (columns_at (0 ∷ 1 ∷ 2 ∷ 3 ∷ [])) (map partner_values ps)) ≡ map number_value (map (λ (p : Partner). p.next) ps)
    thrice [] = refl
    thrice (p ∷ ps) = ap (λ l. number_value p.next ∷ l) (thrice ps)
