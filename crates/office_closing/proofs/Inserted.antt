-- What each statement that writes makes of a register.
use Rattle.std.{specs.{List.{flat_map, filter_map, AllByRecursion, list_all}, List.Sorted.IsPermutation}, proofs.lemmas.Bool.{cases_Bool, and_parts}}
use Rattle.std.proofs.Common.{◌≡◌, ℕ, List, [], ◌∷◌, ◌++◌, append-nil, map, slice_get, true, false, Some, None, Ok, refl, sym, ap, subst, ◌∙◌, length, ◌/◌, ◌==◌, is_lt, int_cmp, fold, MatchBool, if◌then◌else◌, arith, zero, suc, ◌+◌, ◌<◌, ◌≤◌, inl, inr, take, set, replicate, get_or, max, nat_le}
use Rattle.std.proofs.lemmas.List.Sorted.{IsPermutation-trans, IsPermutation-cons, IsPermutation-map, IsPermutation-middle, IsPermutation-refl, IsPermutation-sym}
use Rattle.std.proofs.{lemmas.Bool.Decides.nat_tests, lemmas.List.{take_more, get_or-map, get_or-set_same, get_or-set_other}}
use Rattle.sqlite.specs.{Order.{Row, column}, Term.Term, Table.Table, Source.TheVariants.Values, Command.TheVariants.Insert, Effect.{Database, value_rows}}
use Rattle.sqlite.specs.{Rows.{Written, Task, stamped, CountsIn, count_of, higher, rowids_for, sequence, Gives}, Does.{Tally, Does, OnRows, AtPlace}}
use Rattle.sqlite.specs.{State.{State, mode_of, Writes, Executes}, declared.types.Value.TheVariants.Null, Listing.understood}
use Rattle.sqlite.proofs.Callers.{one_step, statement_of, runs_as}
use Rattle.sqlite_schema.specs.{declared.schema.Keys.TheVariants.Enforced, Rules.parent_key}
use Rattle.sqlite_rules.specs.{Cast.cast_row, declared.error.Rowids.TheVariants.{Chosen, Above}, Edit.{edit_of, taken_by, with_rowid, put_all, Applies}}
use Rattle.sqlite_rules.specs.Action.{works, work_by, pairs, deed_for, Writes as Steps}
use Rattle.sqlite_trees.specs.Objects.{catalog_tree}
use Rattle.sqlite_catalog.specs.Listing.{Lists}
use Rattle.office_rows.{specs.{Stored.{Holds, columns_of}, Values.number_value}, proofs.Creating.{put_all_fresh, put_all_shaped}}
use Rattle.office_rows.proofs.WriteLemmas.{went, same_value, cast_null, cast_int}
use Rattle.office_closing.specs.Tables.{register_schema, archive_table, segment_table, closed_for_table, settled_table, taken_table, sealed_table}
use Rattle.office_closing.specs.{declared.register.Segment.Segment, Lists.{SettledListContent, comes_before, put_list}}
use Rattle.office_closing.specs.Changes.{with_archive, with_segments, with_lists, with_sealed, with_taken, unmarked, marked_for}
use Rattle.office_closing.specs.{Register.{ArchiveContent, RegisterContent, SealedContent, is_of, last_closed}, Sound.{is_sound, is_within, IsOfAccount}}
use Rattle.office_closing.specs.Stored.{HasWhole, archive_values, segment_values, file_values, list_values, sealed_values}
use Rattle.office_closing.proofs.Created.{listed_by, last_pushed}
use Rattle.office_closing.proofs.WriteTexts as texts

-- ==== Inserting: What inserting a row makes of its table.

-- no reference acts where its key changes
no_works : (tree : ℕ) (olds news : List Row) → works register_schema Enforced 0 tree olds news ≡ []
no_works tree olds news =
    elim (length news == 0) as (λ b. flat_map (λ (child : Table). filter_map (λ ref. work_by 0 tree (pairs olds news) child ref (deed_for Enforced b ref) (parent_key register_schema.tables ref)) child.references) register_schema.tables ≡ [])
    [ true ↦ refl | false ↦ refl ]

-- one row is put into the table
pub record Inserts (table : Table) (source : Row) (old new : Database) : Type 0 where
  pub schema : new.schema ≡ register_schema
  pub lists : Lists (new.trees catalog_tree) register_schema
  pub applies : Applies register_schema Enforced old.trees (edit_of old.trees table [] Chosen 0 (source ∷ [])) new.trees

module _ (old new : State) (has : old.now.schema ≡ register_schema) (at : ℕ) (table : Table) (listed : slice_get register_schema.tables at ≡ Some table) (uncounted : table.is_counted ≡ false)
    (params : Row) (text : List ℕ) (count : ℕ) where
  abbrev task : Task
  task = record { limit = old.step_limit; keys = Enforced; schema = register_schema; table = table; params = params }

  pub inserts : (terms : List Term) (width : ℕ) (source : Row) → value_rows (stamped table params) width (length terms / width) terms ≡ source ∷ []
      → Writes old new None (Insert at (Values terms width)) text params count → Inserts table source old.now new.now
  inserts terms width source one w =
      let command = Insert at (Values terms width) in
      let here = subst (λ s. Does old.step_limit (mode_of old) params (record old.now { schema = s }) text None command (Ok (w.tally, new.now))) has w.changed in
      let done = went (subst (λ o. AtPlace (λ t. OnRows (record task { table = t }) (mode_of old) None command old.now.trees) o (Ok (w.tally, new.now))) listed here) in
      let now = ap (λ (p : Tally × Database). p.1) (same_value (went (went done.2).2).2) in
      let given = went done.1 in
      let uncount = went given.2 in
      let written = went uncount.2 in
      let counted = went written.2 in
      let top = fold higher (count_of uncount.0) (edit_of old.now.trees table [] (rowids_for table (count_of uncount.0)) 0 given.0).news in
      let kept : Gives written.0 (Ok counted.0) =
      subst (λ b. MatchBool (if b then is_lt (int_cmp (count_of uncount.0) top) else false) (CountsIn task written.0 uncount.0 top (sequence register_schema) (Ok counted.0)) (Gives written.0 (Ok counted.0))) uncounted counted.1 in
      let trees : new.now.trees ≡ written.0 = ap (λ (d : Database). d.trees) now ∙ ap (λ (it : Written). it.trees) (same_value counted.2) ∙ same_value kept in
      let chosen : rowids_for table (count_of uncount.0) ≡ Chosen = ap (λ b. if b then Above (count_of uncount.0) else Chosen) uncounted in
      let edit = edit_of old.now.trees table [] Chosen 0 given.0 in
      let step : Applies register_schema Enforced old.now.trees edit written.0 =
      one_step register_schema Enforced old.now.trees written.0 edit (no_works table.tree (taken_by old.now.trees edit) edit.news)
      (subst (λ r. Steps register_schema Enforced old.now.trees (edit_of old.now.trees table [] r 0 given.0) (Ok written.0)) chosen written.1) in
      let whole = subst (λ t. Applies register_schema Enforced old.now.trees edit t) (sym trees) step in
      let schema : new.now.schema ≡ register_schema = ap (λ (d : Database). d.schema) now in
      record {
        schema = schema;
        lists = listed_by new.now schema w.sound;
        applies = subst (λ rows. Applies register_schema Enforced old.now.trees (edit_of old.now.trees table [] Chosen 0 rows) new.now.trees) (given.1.1 ∙ one) whole;
      }

module _ {A : Type 0} (table : Table) (values : A → Row) (records : List A) (old new : Database) (held : Holds table values records (old.trees table.tree)) where
  abbrev stored : List Row
  stored = old.trees table.tree

  last_first : (a : A) → IsPermutation (map values (records ++ a ∷ [])) (values a ∷ map values records)
  last_first a = IsPermutation-map values _ _ (subst (λ l. IsPermutation (records ++ a ∷ []) (a ∷ l)) (append-nil records) (IsPermutation-middle records a []))

  -- the table has one record more
  pub holds_inserted : (source : Row) (a : A) → columns_of table (with_rowid Chosen stored (cast_row table source)) ≡ values a → Inserts table source old new
      → Holds table values (records ++ a ∷ []) (new.trees table.tree)
  holds_inserted source a shown it =
      let news = with_rowid Chosen stored (cast_row table source) ∷ [] in
      let applies = it.applies in
      let put = IsPermutation-map (columns_of table) _ _ (put_all_fresh news stored applies.fresh) in
      record {
        shaped = rw applies.rows (put_all_shaped news stored applies.keyed held.shaped);
        same = rw applies.rows (IsPermutation-trans _ _ _ (IsPermutation-trans _ _ _ (last_first a) (IsPermutation-cons (values a) _ _ held.same)) (subst (λ v. IsPermutation (v ∷ map (columns_of table) stored) (map (columns_of table) (put_all stored news))) shown put));
      }

-- ==== Inserted: What each statement that writes makes of a register.

-- ---- a list goes to its place

put_permutes : (a : SettledListContent) (lists : List SettledListContent) → IsPermutation (put_list a lists) (a ∷ lists)
put_permutes a [] = IsPermutation-refl (a ∷ [])
put_permutes a (b ∷ lists) = elim (comes_before a b) as (λ v. IsPermutation (if v then a ∷ b ∷ lists else b ∷ put_list a lists) (a ∷ b ∷ lists)) [
  | true ↦ IsPermutation-refl (a ∷ b ∷ lists)
  | false ↦ IsPermutation-trans _ _ _ (IsPermutation-cons b _ _ (put_permutes a lists)) (IsPermutation-middle (b ∷ []) a lists)
]

put_as_last : (a : SettledListContent) (lists : List SettledListContent) → IsPermutation (put_list a lists) (lists ++ a ∷ [])
put_as_last a lists = IsPermutation-trans _ _ _ (put_permutes a lists) (IsPermutation-sym _ _ (subst (λ l. IsPermutation (lists ++ a ∷ []) (a ∷ l)) (append-nil lists) (IsPermutation-middle lists a [])))

holds_again : {A : Type 0} (table : Table) (values : A → Row) (stored : List Row) (xs ys : List A) → IsPermutation ys xs → Holds table values xs stored → Holds table values ys stored
holds_again table values stored xs ys same held = record { shaped = held.shaped; same = IsPermutation-trans _ _ _ (IsPermutation-map values ys xs same) held.same }

-- ---- statements

module _ (old new : State) (content : RegisterContent) (count : ℕ) where
  pub inserted_archive : HasWhole content old.now → (a : ArchiveContent) → Executes texts.insert_archive (archive_values a) old new (Ok count) → HasWhole (with_archive a content) new.now
  inserted_archive has a h =
      let params = archive_values a in
      let source = number_value a.place ∷ Null ∷ column params 1 ∷ column params 2 ∷ [] in
      let text = statement_of texts.insert_archive (understood register_schema texts.insert_archive) in
      let w = runs_as texts.insert_archive params old new register_schema has.schema (Insert 0 (Values texts.insert_archive_terms 4)) texts.insert_archive_is texts.insert_archive_plain count h in
      let it = inserts old new has.schema 0 archive_table refl refl params text count texts.insert_archive_terms 4 source refl w in
      record {
        schema = it.schema;
        listed = it.lists;
        archives = holds_inserted archive_table archive_values content.archives old.now new.now has.archives source a (simp (cast_null, cast_int)) it;
        segments = rw (it.applies.tables.1.0 (λ e. omega (arith, e))) has.segments;
        closed_for = rw (it.applies.tables.1.1.0 (λ e. omega (arith, e))) has.closed_for;
        lists = rw (it.applies.tables.1.1.1.0 (λ e. omega (arith, e))) has.lists;
        taken = rw (it.applies.tables.1.1.1.1.0 (λ e. omega (arith, e))) has.taken;
        sealed = rw (it.applies.tables.1.1.1.1.1.0 (λ e. omega (arith, e))) has.sealed;
      }

  pub inserted_segment : HasWhole content old.now → (a : Segment) → Executes texts.insert_segment (segment_values a) old new (Ok count) → HasWhole (with_segments (a ∷ []) content) new.now
  inserted_segment has a h =
      let params = segment_values a in
      let source = Null ∷ params in
      let text = statement_of texts.insert_segment (understood register_schema texts.insert_segment) in
      let w = runs_as texts.insert_segment params old new register_schema has.schema (Insert 1 (Values texts.insert_segment_terms 4)) texts.insert_segment_is texts.insert_segment_plain count h in
      let it = inserts old new has.schema 1 segment_table refl refl params text count texts.insert_segment_terms 4 source refl w in
      record {
        schema = it.schema;
        listed = it.lists;
        archives = rw (it.applies.tables.0 (λ e. omega (arith, e))) has.archives;
        segments = holds_inserted segment_table segment_values content.segments old.now new.now has.segments source a (simp (cast_null, cast_int)) it;
        closed_for = rw (it.applies.tables.1.1.0 (λ e. omega (arith, e))) has.closed_for;
        lists = rw (it.applies.tables.1.1.1.0 (λ e. omega (arith, e))) has.lists;
        taken = rw (it.applies.tables.1.1.1.1.0 (λ e. omega (arith, e))) has.taken;
        sealed = rw (it.applies.tables.1.1.1.1.1.0 (λ e. omega (arith, e))) has.sealed;
      }

  pub inserted_closed_for : HasWhole (unmarked content) old.now → (file : List ℕ) → Executes texts.insert_closed_for (file_values file) old new (Ok count) → HasWhole (marked_for file content) new.now
  inserted_closed_for has file h =
      let params = file_values file in
      let source = Null ∷ params in
      let text = statement_of texts.insert_closed_for (understood register_schema texts.insert_closed_for) in
      let w = runs_as texts.insert_closed_for params old new register_schema has.schema (Insert 2 (Values texts.insert_closed_for_terms 2)) texts.insert_closed_for_is texts.insert_closed_for_plain count h in
      let it = inserts old new has.schema 2 closed_for_table refl refl params text count texts.insert_closed_for_terms 2 source refl w in
      record {
        schema = it.schema;
        listed = it.lists;
        archives = rw (it.applies.tables.0 (λ e. omega (arith, e))) has.archives;
        segments = rw (it.applies.tables.1.0 (λ e. omega (arith, e))) has.segments;
        closed_for = holds_inserted closed_for_table file_values [] old.now new.now has.closed_for source file (simp cast_null) it;
        lists = rw (it.applies.tables.1.1.1.0 (λ e. omega (arith, e))) has.lists;
        taken = rw (it.applies.tables.1.1.1.1.0 (λ e. omega (arith, e))) has.taken;
        sealed = rw (it.applies.tables.1.1.1.1.1.0 (λ e. omega (arith, e))) has.sealed;
      }

  pub inserted_settled : HasWhole content old.now → (a : SettledListContent) → Executes texts.insert_settled (list_values a) old new (Ok count) → HasWhole (with_lists (a ∷ []) content) new.now
  inserted_settled has a h =
      let params = list_values a in
      let source = Null ∷ params in
      let text = statement_of texts.insert_settled (understood register_schema texts.insert_settled) in
      let w = runs_as texts.insert_settled params old new register_schema has.schema (Insert 3 (Values texts.insert_settled_terms 6)) texts.insert_settled_is texts.insert_settled_plain count h in
      let it = inserts old new has.schema 3 settled_table refl refl params text count texts.insert_settled_terms 6 source refl w in
      let last = holds_inserted settled_table list_values content.lists old.now new.now has.lists source a (simp (cast_null, cast_int)) it in
      record {
        schema = it.schema;
        listed = it.lists;
        archives = rw (it.applies.tables.0 (λ e. omega (arith, e))) has.archives;
        segments = rw (it.applies.tables.1.0 (λ e. omega (arith, e))) has.segments;
        closed_for = rw (it.applies.tables.1.1.0 (λ e. omega (arith, e))) has.closed_for;
        lists = holds_again settled_table list_values (new.now.trees 6) (content.lists ++ a ∷ []) (put_list a content.lists) (put_as_last a content.lists) last;
        taken = rw (it.applies.tables.1.1.1.1.0 (λ e. omega (arith, e))) has.taken;
        sealed = rw (it.applies.tables.1.1.1.1.1.0 (λ e. omega (arith, e))) has.sealed;
      }

  pub inserted_taken : HasWhole content old.now → (a : Segment) → Executes texts.insert_taken (segment_values a) old new (Ok count) → HasWhole (with_taken (a ∷ []) content) new.now
  inserted_taken has a h =
      let params = segment_values a in
      let source = Null ∷ params in
      let text = statement_of texts.insert_taken (understood register_schema texts.insert_taken) in
      let w = runs_as texts.insert_taken params old new register_schema has.schema (Insert 4 (Values texts.insert_taken_terms 4)) texts.insert_taken_is texts.insert_taken_plain count h in
      let it = inserts old new has.schema 4 taken_table refl refl params text count texts.insert_taken_terms 4 source refl w in
      record {
        schema = it.schema;
        listed = it.lists;
        archives = rw (it.applies.tables.0 (λ e. omega (arith, e))) has.archives;
        segments = rw (it.applies.tables.1.0 (λ e. omega (arith, e))) has.segments;
        closed_for = rw (it.applies.tables.1.1.0 (λ e. omega (arith, e))) has.closed_for;
        lists = rw (it.applies.tables.1.1.1.0 (λ e. omega (arith, e))) has.lists;
        taken = holds_inserted taken_table segment_values content.taken old.now new.now has.taken source a (simp (cast_null, cast_int)) it;
        sealed = rw (it.applies.tables.1.1.1.1.1.0 (λ e. omega (arith, e))) has.sealed;
      }

  pub inserted_sealed : HasWhole content old.now → (a : SealedContent) → Executes texts.insert_sealed (sealed_values a) old new (Ok count) → HasWhole (with_sealed (a ∷ []) content) new.now
  inserted_sealed has a h =
      let params = sealed_values a in
      let source = number_value a.archive ∷ Null ∷ column params 1 ∷ column params 2 ∷ [] in
      let text = statement_of texts.insert_sealed (understood register_schema texts.insert_sealed) in
      let w = runs_as texts.insert_sealed params old new register_schema has.schema (Insert 5 (Values texts.insert_sealed_terms 4)) texts.insert_sealed_is texts.insert_sealed_plain count h in
      let it = inserts old new has.schema 5 sealed_table refl refl params text count texts.insert_sealed_terms 4 source refl w in
      record {
        schema = it.schema;
        listed = it.lists;
        archives = rw (it.applies.tables.0 (λ e. omega (arith, e))) has.archives;
        segments = rw (it.applies.tables.1.0 (λ e. omega (arith, e))) has.segments;
        closed_for = rw (it.applies.tables.1.1.0 (λ e. omega (arith, e))) has.closed_for;
        lists = rw (it.applies.tables.1.1.1.0 (λ e. omega (arith, e))) has.lists;
        taken = rw (it.applies.tables.1.1.1.1.0 (λ e. omega (arith, e))) has.taken;
        sealed = holds_inserted sealed_table sealed_values content.sealed old.now new.now has.sealed source a (simp (cast_null, cast_int)) it;
      }

-- ==== RaiseLemmas: Registers with one more archive, and the last numbers of their segments in a list by id.

-- ---- accounts

least_of : (m n : ℕ) → nat_le m n ≡ true → m ≤ n
least_of m n h = grind (arith, nat_tests)

of_accounts : (archives : ℕ) (segments : List Segment) → list_all (is_within archives) segments ≡ true → AllByRecursion IsOfAccount segments
of_accounts archives [] h = tt
of_accounts archives (s ∷ segments) h =
    let parts = and_parts _ _ h in
    let whose = and_parts _ _ (and_parts _ _ (and_parts _ _ parts.0).0).0 in
    (record { from = least_of 1 s.partner whose.0; to = least_of s.partner 999 whose.1 }, of_accounts archives segments parts.1)

pub sound_accounts : (content : RegisterContent) → is_sound content ≡ true → AllByRecursion IsOfAccount content.segments
sound_accounts content h = of_accounts (length content.archives) content.segments (and_parts _ _ (and_parts _ _ (and_parts _ _ h).1).0).0

pub account_at : (segments : List Segment) (i : ℕ) (d : Segment) → i < length segments → AllByRecursion IsOfAccount segments → IsOfAccount (get_or segments i d)
account_at [] i d within all = absurd (omega (arith, within))
account_at (s ∷ segments) zero d within all = all.0
account_at (s ∷ segments) (suc i) d within all = account_at segments i d (omega (arith, within)) all.1

-- ---- one more segment

same_of : (m n : ℕ) → (m == n) ≡ true → m ≡ n
same_of m n h = grind (arith, nat_tests)

other_of : (m n : ℕ) → (m == n) ≡ false → m ≡ n → ⊥
other_of m n h e = grind (arith, nat_tests)

no_higher : (m : ℕ) → max m 0 ≡ m
no_higher m = grind (arith, nat_tests)

module _ (segments : List Segment) (i : ℕ) (d : Segment) (within : i < length segments) (last : List ℕ) (at : ℕ) (is : at + 1 ≡ (get_or segments i d).partner) (there : at < length last)
    (told : (partner : ℕ) → get_or (0 ∷ last) partner 0 ≡ last_closed (take i segments) partner) where
  abbrev item : Segment
  item = get_or segments i d

  pushed : (partner : ℕ) → last_closed (take (i + 1) segments) partner ≡ max (last_closed (take i segments) partner) (if is_of partner item then item.last else 0)
  pushed partner = ap (λ l. last_closed l partner) (take_more segments i d within) ∙ last_pushed partner (take i segments) item

  pub one_higher : (partner : ℕ) → get_or (0 ∷ set last at (max (get_or last at 0) item.last)) partner 0 ≡ last_closed (take (i + 1) segments) partner
  one_higher zero = told 0 ∙ sym (no_higher (last_closed (take i segments) 0)) ∙ sym (pushed 0 ∙ ap (λ b. max (last_closed (take i segments) 0) (if b then item.last else 0)) none)
    where
      none : is_of 0 item ≡ false
      none = elim (cases_Bool (is_of 0 item)) [
        | inl here ↦ (let e : item.partner ≡ 0 = same_of item.partner 0 here in absurd (omega (arith, e, is)))
        | inr other ↦ other
      ]
  one_higher (suc k) = elim (cases_Bool (is_of (suc k) item)) [
    | inl here ↦
        let e : item.partner ≡ suc k = same_of item.partner (suc k) here in
        let same : at ≡ k = omega (arith, e, is) in
        ap (λ n. get_or (set last at (max (get_or last at 0) item.last)) n 0) (sym same)
        ∙ get_or-set_same last at (max (get_or last at 0) item.last) 0 there
        ∙ ap (λ n. max (get_or last n 0) item.last) same
        ∙ ap (λ n. max n item.last) (told (suc k))
        ∙ sym (pushed (suc k) ∙ ap (λ b. max (last_closed (take i segments) (suc k)) (if b then item.last else 0)) here)
    | inr other ↦
        let apart : k ≡ at → ⊥ = λ e. other_of item.partner (suc k) other (omega (arith, e, is)) in
        get_or-set_other last at k (max (get_or last at 0) item.last) 0 apart
        ∙ told (suc k) ∙ sym (pushed (suc k) ∙ ap (λ b. max (last_closed (take i segments) (suc k)) (if b then item.last else 0)) other ∙ no_higher (last_closed (take i segments) (suc k)))
  ]

pub zeros : (n : ℕ) (xs : List ℕ) → xs ≡ replicate n 0 → (partner : ℕ) → ◌≡◌ {A = ℕ} (get_or (0 ∷ xs) partner 0) 0
zeros n xs are zero = refl
zeros n xs are (suc k) = ap (λ l. get_or l k 0) are ∙ at n k
  where
    at : (n k : ℕ) → ◌≡◌ {A = ℕ} (get_or (replicate n 0) k 0) 0
    at zero k = refl
    at (suc n) zero = refl
    at (suc n) (suc k) = at n k

-- ---- lists alike so far

pub alike_at : {A B : Type 0} (f : A → B) (xs ys : List A) (i : ℕ) (x y : A) → i < length xs → length xs ≡ length ys → map f xs ≡ map f ys → x ≡ get_or xs i x → y ≡ get_or ys i y → f x ≡ f y
alike_at f xs ys i x y within long same here there =
    ap f here ∙ sym (get_or-map f xs i x (f x) within) ∙ ap (λ l. get_or l i (f x)) same ∙ get_or-map f ys i y (f x) (omega (arith, within, long)) ∙ sym (ap f there)
