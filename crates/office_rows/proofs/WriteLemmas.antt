-- From what a statement means to the rows of its table.
use Rattle.std.specs.List.{flat_map, filter_map, list_all}
use Rattle.std.specs.List.Sorted.{IsPermutation}
use Rattle.std.specs.Str.{bytes_eq}
use Rattle.std.specs.Ordering.{nat_cmp, on}
use Rattle.std.specs.Prelude.{IsSorted}
use Rattle.std.{specs.Cmp.Lexicographic.slice_cmp, proofs.{lemmas.Bool.cases_Bool, lemmas.Bool.Decides.nat_tests, lemmas.Int.ints}}
use Rattle.std.proofs.Common.{◌≡◌, ◌≢◌, ◌⊎◌, ℕ, ◌==◌, ℤ, pos, negsuc, inl, inr, List, [], ◌∷◌, map, filter, slice_get, Bool, true, false, cond, Some, None, Result, Ok, Err, refl, sym, ap, subst, ◌∙◌, length, ◌/◌, arith, is_eq, is_lt, int_cmp, fold, MatchBool, if◌then◌else◌, ◌++◌, append-nil, drop, not}
use Rattle.std.proofs.{lemmas.List.Sorted.{IsPermutation-map, IsPermutation-trans, IsPermutation-cons, IsPermutation-middle}, lemmas.Map.Text.is_eq-slice_cmp}
use Rattle.sqlite.specs.Collation.TheVariants.{Binary}
use Rattle.sqlite.specs.declared.types.Value.{Value}
use Rattle.sqlite.specs.declared.types.Value.TheVariants.{Null, Int, Text}
use Rattle.sqlite.specs.Order.{Row}
use Rattle.sqlite.specs.Term.{Term, lit, eval_all, holds}
use Rattle.sqlite.specs.Ops.{unary, binary, is_true}
use Rattle.sqlite.specs.Query.{Query, inner, end, IsAnswer, output, Output, key_cmp}
use Rattle.sqlite.specs.{Program.overlay, Table.Table, Kind.TheVariants.Integer, Source.TheVariants.Values, Command.TheVariants.{Insert, Update, Delete}}
use Rattle.sqlite.specs.{Tree.Trees, Effect.{Database, IsDatabase, value_rows}, Does.{Tally, Does, OnRows, AtPlace}, State.{State, mode_of, Writes}}
use Rattle.sqlite.{specs.Rows.{Written, Task, stamped, CountsIn, count_of, higher, rowids_for, sequence, Gives}, proofs.Callers.one_step}
use Rattle.sqlite_value.{specs.declared.keys.Key.Key, proofs.OrderLemmas.{value_cmp-Int, value_cmp-Text}}
use Rattle.sqlite_sql.specs.{declared.ops.BinaryOp.TheVariants.Compare, declared.ops.CompareOp.TheVariants.Eq}
use Rattle.sqlite_schema.specs.{declared.schema.Keys.TheVariants.Enforced, Rules.parent_key}
use Rattle.sqlite_trees.{specs.{Objects.catalog_tree, Tree.{rowid, put_row}}, proofs.ListLemmas.{map-map, IsPermutation-filter}}
use Rattle.sqlite_rules.specs.{Cast.{cast, cast_row}, Calls.ids_of, declared.error.Rowids.TheVariants.{Chosen, Above, Given}}
use Rattle.sqlite_rules.specs.Edit.{Edit, edit_of, taken_by, Applies, numbered, with_rowid, without_all, put_all, id_in}
use Rattle.sqlite_rules.specs.Action.{works, work_by, pairs, deed_for, Writes as Steps}
use Rattle.sqlite_catalog.specs.Listing.{Lists}
use Rattle.office_rows.specs.{Tables.office_schema, Stored.{Holds, columns_of}}
use Rattle.office_rows.proofs.Creating.{put_all_fresh, put_all_shaped, without_all_shaped, updated, deleted}

-- ---- values

either : (b : Bool) (x : Value) → cond b x x ≡ x
either true x = refl
either false x = refl

pub cast_null : cast Integer Null ≡ Null
unfolding unary
cast_null = either _ Null

pub cast_int : (n : ℤ) → cast Integer (Int n) ≡ Int n
unfolding unary
cast_int n = either _ (Int n)

pub equal_numbers : (m n : ℕ) → is_true (binary (Compare Eq Binary) (Int (pos m)) (Int (pos n))) ≡ (m == n)
unfolding binary
equal_numbers m n = rw value_cmp-Int (truth_is (is_eq (int_cmp (pos m) (pos n))) ∙ ints_equal m n)
  where
    ints_equal : (m n : ℕ) → is_eq (int_cmp (pos m) (pos n)) ≡ (m == n)
    ints_equal m n = grind (arith, ints, nat_tests)

    truth_is : (b : Bool) → is_true (Rattle.sqlite.specs.Ops.from_truth (Some b)) ≡ b
    truth_is true = refl
    truth_is false = refl

pub equal_texts : (s t : List ℕ) → is_true (binary (Compare Eq Binary) (Text s) (Text t)) ≡ bytes_eq s t
unfolding binary
equal_texts s t = rw value_cmp-Text (truth_is (is_eq (slice_cmp nat_cmp s t)) ∙ is_eq-slice_cmp s t)
  where
    truth_is : (b : Bool) → is_true (Rattle.sqlite.specs.Ops.from_truth (Some b)) ≡ b
    truth_is true = refl
    truth_is false = refl

-- ---- the parts of a statement

-- a part that gave a value did not stop on the way
pub went : {X E R : Type 0} {x : X} {Stops : E → Type 0} → ((stop : E) × Stops stop × (Ok x ≡ Err stop)) ⊎ R → R
went (inl stopped) = absurd (let e = stopped.2 in cc)
went (inr on) = on

pub same_value : {X E : Type 0} {a b : X} → ◌≡◌ {A = Result X E} (Ok a) (Ok b) → a ≡ b
same_value e = cc

-- no reference acts where its key changes
pub no_works : (tree : ℕ) (olds news : List Row) → works office_schema Enforced 0 tree olds news ≡ []
no_works tree olds news =
    elim (length news == 0) as (λ b. flat_map (λ (child : Table). filter_map (λ ref. work_by 0 tree (pairs olds news) child ref (deed_for Enforced b ref) (parent_key office_schema.tables ref)) child.references) office_schema.tables ≡ [])
    [ true ↦ refl | false ↦ refl ]

-- ---- queries of one table

-- the rows of one table that pass tests, in any order
abbrev pub rows_of : ℕ → List Term → List Term → Query
rows_of tree tests shown = record {
  from = inner tree end;
  filter = tests;
  group = None;
  project = shown;
  distinct = false;
  collations = [];
  order = [];
  limit = lit (Int (negsuc 0));
  offset = lit (Int (pos 0));
}

module _ (params : Row) (tests : List Term) where
  abbrev pub passes : Row → Bool
  passes r = list_all (holds (params ∷ r ∷ [])) tests

  matched : (rows : List Row) → flat_map (λ r. cond (passes r) ((params ∷ r ∷ []) ∷ []) []) rows ≡ map (λ r. params ∷ r ∷ []) (filter passes rows)
  matched [] = refl
  matched (r ∷ rows) = elim (cases_Bool (passes r)) [ inl here ↦ rw (here, matched rows) | inr other ↦ rw (other, matched rows) ]

  pub answer_is : (tree : ℕ) (shown : List Term) (trees : Trees) (rows : List Row) → overlay trees [] tree ≡ trees tree → IsAnswer (rows_of tree tests shown) (overlay trees []) params rows
      → IsPermutation (map (λ r. eval_all shown (params ∷ r ∷ [])) (filter passes (trees tree))) rows
  answer_is tree shown trees rows seen a =
      let q = rows_of tree tests shown in
      let staged : a.staged ≡ map (λ r. params ∷ r ∷ []) (filter passes (trees tree)) = a.grouped ∙ matched (overlay trees [] tree) ∙ ap (λ l. map (λ r. params ∷ r ∷ []) (filter passes l)) seen in
      let kept : a.kept ≡ map (λ r. ([], eval_all shown (params ∷ r ∷ []))) (filter passes (trees tree)) = a.distinct ∙ ap (map (output q)) staged ∙ map-map (output q) _ _ in
      let all = IsPermutation-map (λ (o : Output). o.1) _ _ (subst (λ k. IsPermutation k a.ordered) kept a.same) in
      rw (a.shown, ← map-map (λ (o : Output). o.1) (λ r. ([], eval_all shown (params ∷ r ∷ []))) (filter passes (trees tree))) all

  -- the same under ORDER BY: the rows are shown in an order of their keys
  pub answer_in_order : (tree : ℕ) (shown : List Term) (order : List (Term × Key)) (trees : Trees) (rows : List Row) → overlay trees [] tree ≡ trees tree
      → (a : IsAnswer (record (rows_of tree tests shown) { order = order }) (overlay trees []) params rows)
      → IsPermutation (map (λ r. (eval_all (map (λ k. k.0) order) (params ∷ r ∷ []), eval_all shown (params ∷ r ∷ []))) (filter passes (trees tree))) a.ordered
      × IsSorted (on (λ (o : Output). o.0) (key_cmp 0 (map (λ k. k.1) order))) a.ordered × (rows ≡ map (λ o. o.1) a.ordered)
  answer_in_order tree shown order trees rows seen a =
      let q = record (rows_of tree tests shown) { order = order } in
      let staged : a.staged ≡ map (λ r. params ∷ r ∷ []) (filter passes (trees tree)) = a.grouped ∙ matched (overlay trees [] tree) ∙ ap (λ l. map (λ r. params ∷ r ∷ []) (filter passes l)) seen in
      let kept : a.kept ≡ map (λ r. output q (params ∷ r ∷ [])) (filter passes (trees tree)) = a.distinct ∙ ap (map (output q)) staged ∙ map-map (output q) _ _ in
      (subst (λ k. IsPermutation k a.ordered) kept a.same, a.sorted, a.shown)

-- ---- writes

pub record Edits (table : Table) (edit : Edit) (old new : Database) : Type 0 where
  pub schema : new.schema ≡ office_schema
  pub lists : Lists (new.trees catalog_tree) office_schema
  pub applies : Applies office_schema Enforced old.trees edit new.trees

-- a sound database of the office's tables lists them
pub listed_by : (db : Database) → db.schema ≡ office_schema → IsDatabase db → Lists (db.trees catalog_tree) office_schema
listed_by db is sound = subst (Lists (db.trees catalog_tree)) is sound.lists

pub record Inserts (table : Table) (rows : List Row) (old new : Database) : Type 0 where
  pub edits : Edits table (edit_of old.trees table [] Chosen 0 rows) old new

pub record Updates (table : Table) (params : Row) (tests shown : List Term) (old new : Database) : Type 0 where
  pub answer : List Row
  pub answers : IsPermutation (map (λ r. eval_all shown (params ∷ r ∷ [])) (filter (passes params tests) (old.trees table.tree))) answer
  pub edits : Edits table (edit_of old.trees table (ids_of answer) Given 1 answer) old new

pub record Deletes (table : Table) (params : Row) (tests shown : List Term) (old new : Database) : Type 0 where
  pub answer : List Row
  pub answers : IsPermutation (map (λ r. eval_all shown (params ∷ r ∷ [])) (filter (passes params tests) (old.trees table.tree))) answer
  pub edits : Edits table (edit_of old.trees table (ids_of answer) Given 0 []) old new

module _ (old new : State) (has : old.now.schema ≡ office_schema) (at : ℕ) (table : Table) (listed : slice_get office_schema.tables at ≡ Some table) (uncounted : table.is_counted ≡ false)
    (params : Row) (text : List ℕ) (count : ℕ) where
  abbrev task : Task
  task = record { limit = old.step_limit; keys = Enforced; schema = office_schema; table = table; params = params }

  pub inserts : (terms : List Term) (width : ℕ) → Writes old new None (Insert at (Values terms width)) text params count
      → Inserts table (value_rows (stamped table params) width (length terms / width) terms) old.now new.now
  inserts terms width w =
      let command = Insert at (Values terms width) in
      let here = subst (λ s. Does old.step_limit (mode_of old) params (record old.now { schema = s }) text None command (Ok (w.tally, new.now))) has w.changed in
      let done = went (subst (λ o. AtPlace (λ t. OnRows (record task { table = t }) (mode_of old) None command old.now.trees) o (Ok (w.tally, new.now))) listed here) in
      let now = ap (λ (p : Tally × Database). p.1) (same_value (went (went done.2).2).2) in
      let given = went done.1 in
      let uncount = went given.2 in
      let written = went uncount.2 in
      let counted = went written.2 in
      let top = fold higher (count_of uncount.0) (edit_of old.now.trees table [] (rowids_for table (count_of uncount.0)) 0 given.0).news in
      let kept : Gives written.0 (Ok counted.0) =
      subst (λ b. MatchBool (if b then is_lt (int_cmp (count_of uncount.0) top) else false) (CountsIn task written.0 uncount.0 top (sequence office_schema) (Ok counted.0)) (Gives written.0 (Ok counted.0))) uncounted counted.1 in
      let trees : new.now.trees ≡ written.0 = ap (λ (d : Database). d.trees) now ∙ ap (λ (it : Written). it.trees) (same_value counted.2) ∙ same_value kept in
      let chosen : rowids_for table (count_of uncount.0) ≡ Chosen = ap (λ b. if b then Above (count_of uncount.0) else Chosen) uncounted in
      let edit = edit_of old.now.trees table [] Chosen 0 given.0 in
      let step : Applies office_schema Enforced old.now.trees edit written.0 =
      one_step office_schema Enforced old.now.trees written.0 edit (no_works table.tree (taken_by old.now.trees edit) edit.news)
      (subst (λ r. Steps office_schema Enforced old.now.trees (edit_of old.now.trees table [] r 0 given.0) (Ok written.0)) chosen written.1) in
      let whole = subst (λ t. Applies office_schema Enforced old.now.trees edit t) (sym trees) step in
      subst (λ rows. Inserts table rows old.now new.now) given.1.1 (record { edits = record { schema = ap (λ (d : Database). d.schema) now; lists = listed_by new.now (ap (λ (d : Database). d.schema) now) w.sound; applies = whole } })

  pub updates : (tests shown : List Term) → ((trees : Trees) → overlay trees [] table.tree ≡ trees table.tree)
      → Writes old new None (Update at (record { lets = []; body = rows_of table.tree tests shown })) text params count → Updates table params tests shown old.now new.now
  updates tests shown seen w =
      let command = Update at (record { lets = []; body = rows_of table.tree tests shown }) in
      let here = subst (λ s. Does old.step_limit (mode_of old) params (record old.now { schema = s }) text None command (Ok (w.tally, new.now))) has w.changed in
      let done = went (subst (λ o. AtPlace (λ t. OnRows (record task { table = t }) (mode_of old) None command old.now.trees) o (Ok (w.tally, new.now))) listed here) in
      let now = ap (λ (p : Tally × Database). p.1) (same_value (went (went done.2).2).2) in
      let given = went done.1 in
      let written = went given.2 in
      let trees : new.now.trees ≡ written.0 = ap (λ (d : Database). d.trees) now ∙ ap (λ (it : Written). it.trees) (same_value written.2) in
      let edit = edit_of old.now.trees table (ids_of given.0) Given 1 given.0 in
      let step = one_step office_schema Enforced old.now.trees written.0 edit (no_works table.tree (taken_by old.now.trees edit) edit.news) written.1 in
      record {
        answer = given.0;
        answers = answer_is params tests table.tree shown old.now.trees given.0 (seen old.now.trees) (given.1.answer Null);
        edits = record { schema = ap (λ (d : Database). d.schema) now; lists = listed_by new.now (ap (λ (d : Database). d.schema) now) w.sound; applies = subst (λ t. Applies office_schema Enforced old.now.trees edit t) (sym trees) step };
      }

  pub deletes : (tests shown : List Term) → ((trees : Trees) → overlay trees [] table.tree ≡ trees table.tree)
      → Writes old new None (Delete at (record { lets = []; body = rows_of table.tree tests shown })) text params count → Deletes table params tests shown old.now new.now
  deletes tests shown seen w =
      let command = Delete at (record { lets = []; body = rows_of table.tree tests shown }) in
      let here = subst (λ s. Does old.step_limit (mode_of old) params (record old.now { schema = s }) text None command (Ok (w.tally, new.now))) has w.changed in
      let done = went (subst (λ o. AtPlace (λ t. OnRows (record task { table = t }) (mode_of old) None command old.now.trees) o (Ok (w.tally, new.now))) listed here) in
      let now = ap (λ (p : Tally × Database). p.1) (same_value (went (went done.2).2).2) in
      let given = went done.1 in
      let written = went given.2 in
      let trees : new.now.trees ≡ written.0 = ap (λ (d : Database). d.trees) now ∙ ap (λ (it : Written). it.trees) (same_value written.2) in
      let edit = edit_of old.now.trees table (ids_of given.0) Given 0 [] in
      let step = one_step office_schema Enforced old.now.trees written.0 edit (no_works table.tree (taken_by old.now.trees edit) edit.news) written.1 in
      record {
        answer = given.0;
        answers = answer_is params tests table.tree shown old.now.trees given.0 (seen old.now.trees) (given.1.answer Null);
        edits = record { schema = ap (λ (d : Database). d.schema) now; lists = listed_by new.now (ap (λ (d : Database). d.schema) now) w.sound; applies = subst (λ t. Applies office_schema Enforced old.now.trees edit t) (sym trees) step };
      }

-- ==== HoldLemmas: What a write makes of the records of its table.

-- rowids that are given stay
pub given_numbered : (rows news : List Row) → numbered Given rows news ≡ news
given_numbered rows [] = refl
given_numbered rows (n ∷ news) = ap (λ l. n ∷ l) (given_numbered (put_row n rows) news)

-- the row that an UPDATE writes in place of one
abbrev pub rewritten : Table → Row → List Term → Row → Row
rewritten table params shown row = cast_row table (drop 1 (eval_all shown (params ∷ row ∷ [])))

module _ {A : Type 0} (table : Table) (values : A → Row) (records : List A) (old new : Database) (held : Holds table values records (old.trees table.tree)) where
  abbrev stored : List Row
  stored = old.trees table.tree

  pub holds_inserted : (source : Row) (a : A) → columns_of table (with_rowid Chosen stored (cast_row table source)) ≡ values a → Inserts table (source ∷ []) old new
      → Holds table values (records ++ a ∷ []) (new.trees table.tree)
  holds_inserted source a shown it =
      let news = with_rowid Chosen stored (cast_row table source) ∷ [] in
      let applies = it.edits.applies in
      let put = IsPermutation-map (columns_of table) _ _ (put_all_fresh news stored applies.fresh) in
      record {
        shaped = rw applies.rows (put_all_shaped news stored applies.keyed held.shaped);
        same = rw applies.rows (IsPermutation-trans _ _ _ (IsPermutation-trans _ _ _ (last_first a) (IsPermutation-cons (values a) _ _ held.same)) (subst (λ v. IsPermutation (v ∷ map (columns_of table) stored) (map (columns_of table) (put_all stored news))) shown put));
      }
    where
      last_first : (a : A) → IsPermutation (map values (records ++ a ∷ [])) (values a ∷ map values records)
      last_first a = IsPermutation-map values _ _ (subst (λ l. IsPermutation (records ++ a ∷ []) (a ∷ l)) (append-nil records) (IsPermutation-middle records a []))

  -- `test` and `change` say it of the columns' values, `chosen` and `changed` of the records
  pub holds_updated : (params : Row) (tests shown : List Term) (test : Row → Bool) (change : Row → Row) (chosen : A → Bool) (changed : A → A)
      → ((r : Row) → id_in (rowid (eval_all shown (params ∷ r ∷ []))) ≡ id_in (rowid r))
      → ((r : Row) → passes params tests r ≡ test (columns_of table r))
      → ((r : Row) → columns_of table (rewritten table params shown r) ≡ change (columns_of table r))
      → ((a : A) → test (values a) ≡ chosen a) → ((a : A) → change (values a) ≡ values (changed a))
      → Updates table params tests shown old new → Holds table values (map (λ a. cond (chosen a) (changed a) a) records) (new.trees table.tree)
  holds_updated params tests shown test change chosen changed ids passing writing choosing changing it =
      let p = passes params tests in
      let up = rewritten table params shown in
      let each = λ (c : Row). cond (test c) (change c) c in
      let applies = it.edits.applies in
      let gone = ids_of it.answer in
      let same_ids : IsPermutation (map (λ r. id_in (rowid r)) (filter p stored)) gone =
      subst (λ l. IsPermutation l gone) (map-map _ _ (filter p stored) ∙ (λ i. map (λ r. ids r i) (filter p stored))) (IsPermutation-map (λ r. id_in (rowid r)) _ _ it.answers) in
      let news = map (λ s. cast_row table (drop 1 s)) it.answer in
      let same_news : IsPermutation (map up (filter p stored)) news = subst (λ l. IsPermutation l news) (map-map _ _ (filter p stored)) (IsPermutation-map (λ s. cast_row table (drop 1 s)) _ _ it.answers) in
      let numbers = given_numbered (without_all stored gone) news in
      let whole = IsPermutation-map (columns_of table) _ _ (updated p stored held.shaped up gone news same_ids same_news (rw numbers at applies.fresh)) in
      let left = without_all_shaped gone stored held.shaped in
      let rows : new.trees table.tree ≡ _ = rw numbers at applies.rows in
      record {
        shaped = rw rows (put_all_shaped news _ (rw numbers at applies.keyed) left);
        same = rw rows (IsPermutation-trans _ _ _
            (subst (λ l. IsPermutation l (map each (map (columns_of table) stored))) (in_records records) (IsPermutation-map each _ _ held.same))
            (subst (λ l. IsPermutation l (map (columns_of table) (put_all (without_all stored gone) news))) (in_columns stored) whole));
      }
    where
      in_records : (xs : List A) → map (λ c. cond (test c) (change c) c) (map values xs) ≡ map values (map (λ a. cond (chosen a) (changed a) a) xs)
      in_records [] = refl
      in_records (x ∷ xs) = elim (cases_Bool (chosen x)) [
        | inl here ↦ rw (choosing x, here, changing x, in_records xs)
        | inr other ↦ rw (choosing x, other, in_records xs)
      ]

      in_columns : (rows : List Row) → map (columns_of table) (map (λ r. cond (passes params tests r) (rewritten table params shown r) r) rows) ≡ map (λ c. cond (test c) (change c) c) (map (columns_of table) rows)
      in_columns [] = refl
      in_columns (r ∷ rows) = elim (cases_Bool (test (columns_of table r))) [
        | inl here ↦ rw (passing r, here, writing r, in_columns rows)
        | inr other ↦ rw (passing r, other, in_columns rows)
      ]

  pub holds_deleted : (params : Row) (tests shown : List Term) (test : Row → Bool) (chosen : A → Bool)
      → ((r : Row) → id_in (rowid (eval_all shown (params ∷ r ∷ []))) ≡ id_in (rowid r))
      → ((r : Row) → passes params tests r ≡ test (columns_of table r))
      → ((a : A) → test (values a) ≡ chosen a)
      → Deletes table params tests shown old new → Holds table values (filter (λ a. not (chosen a)) records) (new.trees table.tree)
  holds_deleted params tests shown test chosen ids passing choosing it =
      let p = passes params tests in
      let gone = ids_of it.answer in
      let applies = it.edits.applies in
      let same_ids : IsPermutation (map (λ r. id_in (rowid r)) (filter p stored)) gone =
      subst (λ l. IsPermutation l gone) (map-map _ _ (filter p stored) ∙ (λ i. map (λ r. ids r i) (filter p stored))) (IsPermutation-map (λ r. id_in (rowid r)) _ _ it.answers) in
      let rows : new.trees table.tree ≡ filter (λ r. not (p r)) stored = applies.rows ∙ deleted p stored held.shaped gone same_ids in
      record {
        shaped = rw applies.rows (without_all_shaped gone stored held.shaped);
        same = rw rows (subst (λ l. IsPermutation l (map (columns_of table) (filter (λ r. not (p r)) stored))) (in_records records)
            (subst (IsPermutation (filter (λ c. not (test c)) (map values records))) (sym (in_columns stored)) (IsPermutation-filter (λ c. not (test c)) _ _ held.same)));
      }
    where
      in_records : (xs : List A) → filter (λ c. not (test c)) (map values xs) ≡ map values (filter (λ a. not (chosen a)) xs)
      in_records [] = refl
      in_records (x ∷ xs) = elim (cases_Bool (chosen x)) [
        | inl here ↦ rw (choosing x, here, in_records xs)
        | inr other ↦ rw (choosing x, other, in_records xs)
      ]

      in_columns : (rows : List Row) → map (columns_of table) (filter (λ r. not (passes params tests r)) rows) ≡ filter (λ c. not (test c)) (map (columns_of table) rows)
      in_columns [] = refl
      in_columns (r ∷ rows) = elim (cases_Bool (test (columns_of table r))) [
        | inl here ↦ rw (passing r, here, in_columns rows)
        | inr other ↦ rw (passing r, other, in_columns rows)
      ]

module _ {A : Type 0} (table : Table) (values : A → Row) (records : List A) (stored : List Row) (held : Holds table values records stored) where
  -- a query of the table answers of each record that it chooses
  pub holds_read : (params : Row) (tests shown : List Term) (test : Row → Bool) (show : Row → Row) (chosen : A → Bool) (view : A → Row)
      → ((r : Row) → passes params tests r ≡ test (columns_of table r))
      → ((r : Row) → eval_all shown (params ∷ r ∷ []) ≡ show (columns_of table r))
      → ((a : A) → test (values a) ≡ chosen a) → ((a : A) → show (values a) ≡ view a)
      → IsPermutation (map view (filter chosen records)) (map (λ r. eval_all shown (params ∷ r ∷ [])) (filter (passes params tests) stored))
  holds_read params tests shown test show chosen view passing showing choosing viewing =
      subst (λ l. IsPermutation l (map (λ r. eval_all shown (params ∷ r ∷ [])) (filter (passes params tests) stored))) (in_records records)
      (subst (IsPermutation (map show (filter test (map values records)))) (sym (in_columns stored)) (IsPermutation-map show _ _ (IsPermutation-filter test _ _ held.same)))
    where
      in_records : (xs : List A) → map show (filter test (map values xs)) ≡ map view (filter chosen xs)
      in_records [] = refl
      in_records (x ∷ xs) = elim (cases_Bool (chosen x)) [
        | inl here ↦ rw (choosing x, here, viewing x, in_records xs)
        | inr other ↦ rw (choosing x, other, in_records xs)
      ]

      in_columns : (rows : List Row) → map (λ r. eval_all shown (params ∷ r ∷ [])) (filter (passes params tests) rows) ≡ map show (filter test (map (columns_of table) rows))
      in_columns [] = refl
      in_columns (r ∷ rows) = elim (cases_Bool (test (columns_of table r))) [
        | inl here ↦ rw (passing r, here, showing r, in_columns rows)
        | inr other ↦ rw (passing r, other, in_columns rows)
      ]
