-- What calls in a transaction come to, one after the other, and what the whole one commits.
use Rattle.std.{specs.{Ordering.is_lt, List.Sorted.{IsPermutation, IsSortedBy}}, proofs.{lemmas.List.append-nil, lemmas.List.Sorted.IsPermutation-map}}
use Rattle.std.proofs.Common.{◌≡◌, ◌++◌, List, [], ◌∷◌, IsTrue, Result, Ok, true, take, refl, sym, ap, subst, ◌∙◌, append_assoc, arith, ℕ, Bool, false, Err, map, filter}
use Rattle.sqlite.specs.{Effect.Database, State.{State, HasCleanDisk, Shows, Survives, Shown}, Tree.Trees, declared.types.Value.TheVariants.Null, Order.Row}
use Rattle.sqlite.specs.{Collation.TheVariants.Binary, Schema.Schema, Table.Table, Term.{Term, eval_all}, Query.{Output, key_cmp}, Program.overlay}
use Rattle.sqlite.{specs.{Command.TheVariants.Select, Listing.{understood, reads_listing}}, proofs.Callers.{IsPlain, command_of, reads_as}}
use Rattle.office_rows.specs.{Steps.Turns, Stored.{HasEmpty, columns_of}, Tables.no_schema, Shown.{columns_at, ShowsTable}}
use Rattle.office_rows.proofs.{Creating.{keep_then, quiet_then, on_ok}, Listed.{unmapped, sorted_as}, WriteLemmas.{rows_of, passes, answer_in_order}}
use Rattle.office_tables.{specs.declared.table_fault.TableFault.TableFault, proofs.WritesLemmas.survives_here}
use Rattle.office_closing.specs.{declared.register.Segment.Segment, Changes.{empty_register, unchanged, with_segments, with_lists, with_taken, with_sealed}}
use Rattle.office_closing.specs.{Lists.{SettledListContent, put_list, put_lists}, Register.{RegisterContent, SealedContent}}
use Rattle.office_closing.specs.Stored.{HasRegister, HasWhole, StoresRegister}
use Rattle.office_closing.specs.Tables.{register_tables, archive_table, segment_table, closed_for_table, settled_table, taken_table, sealed_table, Layout, register_schema, schema_in, has_table}
use Rattle.office_closing.specs.Transactions.{Holding, Steps, StepsTo, Writes, WritesTo, WritesIfOpen, IsMade, HasBecome}
use Rattle.sqlite_resolve.specs.declared.error.CompileError.{CompileError}
use Rattle.sqlite_trees.proofs.ListLemmas.{map-map, filter_all, all_of}
use Rattle.sqlite_value.specs.{Keys.ascending, declared.keys.Key.Key}
use Rattle.office_closing.specs.declared.register_reading.Later.TheVariants as later
use Rattle.office_closing.proofs.WriteTexts as texts

-- the trees of a database that has the register store it
pub stores : (content : RegisterContent) (db : Database) → HasWhole content db → StoresRegister content db.trees
stores content db has = record { schema = refl; listed = has.listed; archives = has.archives; segments = has.segments; closed_for = has.closed_for; lists = has.lists; taken = has.taken; sealed = has.sealed }

-- ---- inside

-- a statement that was made
pub writes_to_of : {T : Type 0} (Has Then : Holding) (from to : RegisterContent → RegisterContent) (old new : State) (value : T) → Survives old new (λ _. ⊥)
    → (HasCleanDisk new → IsTrue old.in_transaction → Shows old new new.now old.committed true × ((content : RegisterContent) → Has (from content) old.now → Then (to content) new.now))
    → WritesTo Has Then from to old new (Ok value)
writes_to_of Has Then from to old new value survives made = record {
  steps = λ clean inside.
      let done = made clean inside in
      record { register = done.1; inside = done.0.mode; committed = done.0.committed_is; is_open = done.0.is_open };
  keeps = λ clean inside. record { was_open = λ _. (made clean inside).0.was_open; committed = λ _. (made clean inside).0.committed_is };
  survives = survives;
  fault = tt;
}

pub writes_of : {T : Type 0} (Has : Holding) (from to : RegisterContent → RegisterContent) (old new : State) (value : T) → Survives old new (λ _. ⊥)
    → (HasCleanDisk new → IsTrue old.in_transaction → Shows old new new.now old.committed true × ((content : RegisterContent) → Has (from content) old.now → HasWhole (to content) new.now))
    → Writes Has from to old new (Ok value)
writes_of Has = writes_to_of Has HasWhole

-- a table is there, and then another
pub writes_through : {X Y : Type 0} (Has Then Last : Holding) (a b c : State) (x : X) (result : Result Y TableFault) → WritesTo Has Then unchanged unchanged a b (Ok x) → WritesTo Then Last unchanged unchanged b c result → WritesTo Has Last unchanged unchanged a c result
writes_through Has Then Last a b c x result p q = record {
  steps = λ clean inside.
      let early : HasCleanDisk b = omega (arith, q.survives.clean) in
      let first = p.steps early inside in
      on_ok result (λ (second : StepsTo Then Last unchanged unchanged b c). record {
        register = λ content has. second.register content (first.register content has);
        inside = second.inside;
        committed = second.committed ∙ first.committed;
        is_open = second.is_open;
      }) (q.steps clean first.inside);
  keeps = λ clean inside.
      let early : HasCleanDisk b = omega (arith, q.survives.clean) in
      keep_then a b c (p.keeps early inside) (q.keeps clean (p.steps early inside).inside);
  survives = quiet_then a b c p.survives q.survives;
  fault = q.fault;
}

pub steps_then : (Has : Holding) (from over to : RegisterContent → RegisterContent) (a b c : State) → Steps Has from over a b → Steps HasWhole over to b c → Steps Has from to a c
steps_then Has from over to a b c p q = record { register = λ content has. q.register content (p.register content has); inside = q.inside; committed = q.committed ∙ p.committed; is_open = q.is_open }

-- a step is made from a register that comes of another too
pub steps_from : (Has : Holding) (first from to : RegisterContent → RegisterContent) (old new : State) → Steps Has from to old new → Steps Has (λ content. from (first content)) (λ content. to (first content)) old new
steps_from Has first from to old new p = record { register = λ content has. p.register (first content) has; inside = p.inside; committed = p.committed; is_open = p.is_open }

pub writes_from : {T : Type 0} (Has : Holding) (first from to : RegisterContent → RegisterContent) (old new : State) (result : Result T TableFault) → Writes Has from to old new result → Writes Has (λ content. from (first content)) (λ content. to (first content)) old new result
writes_from Has first from to old new result p = record {
  steps = λ clean inside. on_ok result (steps_from Has first from to old new) (p.steps clean inside);
  keeps = p.keeps;
  survives = p.survives;
  fault = p.fault;
}

pub writes_if_open : {T : Type 0} (Has : Holding) (from to : RegisterContent → RegisterContent) (old new : State) (result : Result T TableFault) → Writes Has from to old new result → WritesIfOpen Has from to old new result
writes_if_open Has from to old new result p = record {
  steps = λ clean inside was. p.steps clean inside;
  keeps = λ clean inside was. p.keeps clean inside;
  survives = p.survives;
  fault = p.fault;
}

-- one call, and then another
module _ {X Y : Type 0} (Has : Holding) (from over to : RegisterContent → RegisterContent) (a b c : State) (x : X) (result : Result Y TableFault) where
  pub writes_then : Writes Has from over a b (Ok x) → WritesIfOpen HasWhole over to b c result → Writes Has from to a c result
  writes_then p q = record {
    steps = λ clean inside.
        let early : HasCleanDisk b = omega (arith, q.survives.clean) in
        let first = p.steps early inside in
        on_ok result (λ (second : Steps HasWhole over to b c). steps_then Has from over to a b c first second) (q.steps clean first.inside first.is_open);
    keeps = λ clean inside.
        let early : HasCleanDisk b = omega (arith, q.survives.clean) in
        let first = p.steps early inside in
        keep_then a b c (p.keeps early inside) (q.keeps clean first.inside first.is_open);
    survives = quiet_then a b c p.survives q.survives;
    fault = q.fault;
  }

-- the same from a register that the first call left
module _ {X Y : Type 0} (Has : Holding) (f g : RegisterContent → RegisterContent) (a b c : State) (x : X) (result : Result Y TableFault) where
  pub writes_next : Writes Has unchanged f a b (Ok x) → WritesIfOpen HasWhole unchanged g b c result → Writes Has unchanged (λ content. g (f content)) a c result
  writes_next p q = writes_then Has unchanged f (λ content. g (f content)) a b c x result p (record {
    steps = λ clean inside was. on_ok result (steps_from HasWhole f unchanged g b c) (q.steps clean inside was);
    keeps = q.keeps;
    survives = q.survives;
    fault = q.fault;
  })

-- ---- rows, one after the other

module _ {A : Type 0} (change : List A → RegisterContent → RegisterContent) where
  pub none_written : ((content : RegisterContent) → change [] content ≡ content) → (now : State) → WritesIfOpen {T = Unit {0}} HasWhole unchanged (change []) now now (Ok tt)
  none_written none now = record {
    steps = λ clean inside was. record {
      register = λ content has. subst (λ c. HasWhole c now.now) (sym (none content)) has;
      inside = inside;
      committed = refl;
      is_open = was;
    };
    keeps = λ clean inside was. record { was_open = λ was. was; committed = λ was. refl };
    survives = survives_here now (λ _. ⊥);
    fault = tt;
  }

  pub one_more_written : (before after : List A) (one : A) → ((content : RegisterContent) → change (one ∷ []) (change before content) ≡ change after content) → (old mid new : State)
      → WritesIfOpen {T = Unit {0}} HasWhole unchanged (change before) old mid (Ok tt) → Writes {T = Unit {0}} HasWhole unchanged (change (one ∷ [])) mid new (Ok tt)
      → WritesIfOpen {T = Unit {0}} HasWhole unchanged (change after) old new (Ok tt)
  one_more_written before after one is old mid new p q = record {
    steps = λ clean inside was.
        let early : HasCleanDisk mid = omega (arith, q.survives.clean) in
        let first = p.steps early inside was in
        let second = q.steps clean first.inside in
        record {
          register = λ content has. subst (λ c. HasWhole c new.now) (is content) (second.register (change before content) (first.register content has));
          inside = second.inside;
          committed = second.committed ∙ first.committed;
          is_open = second.is_open;
        };
    keeps = λ clean inside was.
        let early : HasCleanDisk mid = omega (arith, q.survives.clean) in
        keep_then old mid new (p.keeps early inside was) (q.keeps clean (p.steps early inside was).inside);
    survives = quiet_then old mid new p.survives q.survives;
    fault = tt;
  }

pub no_segments : (content : RegisterContent) → with_segments [] content ≡ content
no_segments content = ap (λ l. record content { segments = l }) (append-nil content.segments)

pub one_more_segment : (before after : List Segment) (one : Segment) → after ≡ before ++ one ∷ [] → (content : RegisterContent) → with_segments (one ∷ []) (with_segments before content) ≡ with_segments after content
one_more_segment before after one is content = ap (λ l. record content { segments = l }) (append_assoc content.segments before (one ∷ []) ∙ ap (λ l. content.segments ++ l) (sym is))

pub none_taken : (content : RegisterContent) → with_taken [] content ≡ content
none_taken content = ap (λ l. record content { taken = l }) (append-nil content.taken)

pub one_more_taken : (before after : List Segment) (one : Segment) → after ≡ before ++ one ∷ [] → (content : RegisterContent) → with_taken (one ∷ []) (with_taken before content) ≡ with_taken after content
one_more_taken before after one is content = ap (λ l. record content { taken = l }) (append_assoc content.taken before (one ∷ []) ∙ ap (λ l. content.taken ++ l) (sym is))

pub none_sealed : (content : RegisterContent) → with_sealed [] content ≡ content
none_sealed content = ap (λ l. record content { sealed = l }) (append-nil content.sealed)

pub one_more_sealed : (before after : List SealedContent) (one : SealedContent) → after ≡ before ++ one ∷ [] → (content : RegisterContent) → with_sealed (one ∷ []) (with_sealed before content) ≡ with_sealed after content
one_more_sealed before after one is content = ap (λ l. record content { sealed = l }) (append_assoc content.sealed before (one ∷ []) ∙ ap (λ l. content.sealed ++ l) (sym is))

pub put_more : (before : List SettledListContent) (one : SettledListContent) (lists : List SettledListContent) → put_lists (before ++ one ∷ []) lists ≡ put_list one (put_lists before lists)
put_more [] one lists = refl
put_more (l ∷ before) one lists = put_more before one (put_list l lists)

pub one_more_list : (before after : List SettledListContent) (one : SettledListContent) → after ≡ before ++ one ∷ [] → (content : RegisterContent) → with_lists (one ∷ []) (with_lists before content) ≡ with_lists after content
one_more_list before after one is content = ap (λ l. record content { lists = l }) (sym (put_more before one content.lists) ∙ ap (λ l. put_lists l content.lists) (sym is))

-- ---- the whole transaction

-- an empty database has the register as the transaction ends
pub made_register : (old begun last : State) → begun.now ≡ old.committed → Turns (HasEmpty (take 0 register_tables)) (HasWhole empty_register) begun last → old.committed.schema ≡ no_schema → HasWhole empty_register last.now
made_register old begun last same turns none = turns.now (record { schema = ap (λ (d : Database). d.schema) same ∙ none; empty = tt })

pub made : (old begun last : State) (db : Trees) → begun.now ≡ old.committed → Turns (HasEmpty (take 0 register_tables)) (HasWhole empty_register) begun last → db ≡ last.now.trees → IsMade empty_register old db
made old begun last db same turns is none = rw is (stores empty_register last.now (made_register old begun last same turns none))

pub became : (from to : RegisterContent → RegisterContent) (old begun last : State) (db : Trees) → begun.now ≡ old.committed → Steps HasRegister from to begun last → db ≡ last.now.trees → HasBecome from to old db
became from to old begun last db same steps is content has =
    rw is (stores (to content) last.now (steps.register content (subst (HasRegister (from content)) (sym same) has)))

-- ==== Listed: What each query of all rows of a table shows.

module _ (old new : State) (schema : Schema) (has : old.now.schema ≡ schema) (answer : List Row) where
  lists : (table : Table) (sql : List ℕ) (shown : List Term) (order : List (Term × Key)) (names : List (List ℕ)) (columns key : List ℕ)
      → (command_of (understood schema sql) ≡ Select (record { lets = []; body = record (rows_of table.tree [] shown) { order = order } }) names) × (reads_listing schema sql ≡ false)
      → IsPlain (understood schema sql) → ((trees : Trees) → overlay trees [] table.tree ≡ trees table.tree)
      → ((r : Row) → eval_all shown ([] ∷ r ∷ []) ≡ columns_at columns (columns_of table r))
      → ((r : Row) → eval_all (map (λ (k : Term × Key). k.0) order) ([] ∷ r ∷ []) ≡ columns_at key (columns_of table r))
      → map (λ (k : Term × Key). k.1) order ≡ map (λ (n : ℕ). ascending Binary) key
      → Shown sql [] old new answer → ShowsTable table columns key old.now answer
  lists table sql shown order names columns key is plain seen shows keys ascends h =
      let q = record (rows_of table.tree [] shown) { order = order } in
      let read = reads_as sql [] old new schema has (Select (record { lets = []; body = q }) names) is.0 plain is.1 answer h in
      let stored = old.now.trees table.tree in
      let keyed : Row → Output = λ r. (eval_all (map (λ (k : Term × Key). k.0) order) ([] ∷ r ∷ []), eval_all shown ([] ∷ r ∷ [])) in
      let given = answer_in_order [] [] table.tree shown order old.now.trees answer (seen old.now.trees) (read.answer Null) in
      let all : filter (passes [] []) stored ≡ stored = filter_all _ stored (all_of _ (λ r. refl) stored) in
      let placed = unmapped keyed stored (read.answer Null).ordered (subst (λ l. IsPermutation (map keyed l) (read.answer Null).ordered) all given.0) in
      let compare = key_cmp 0 (map (λ (k : Term × Key). k.1) order) in
      let lt : Output → Output → Bool = λ x y. is_lt (compare x.0 y.0) in
      let less : Row → Row → Bool = λ x y. is_lt (key_cmp 0 (map (λ (n : ℕ). ascending Binary) key) (columns_at key x) (columns_at key y)) in
      let alike : (x y : Row) → less (columns_of table x) (columns_of table y) ≡ lt (keyed x) (keyed y) = λ x y. rw (← keys x, ← keys y, ← ascends) refl in
      let sorted : IsSortedBy lt (map keyed placed.0) = subst (IsSortedBy lt) placed.2 given.1 in
      record {
        by_key = map (columns_of table) placed.0;
        same = IsPermutation-map (columns_of table) _ _ placed.1;
        ordered = sorted_as keyed (columns_of table) lt less alike placed.0 sorted;
        is = given.2 ∙ ap (map (λ (o : Output). o.1)) placed.2 ∙ map-map (λ (o : Output). o.1) keyed placed.0 ∙ (λ i. map (λ r. shows r i) placed.0) ∙ sym (map-map (columns_at columns) (columns_of table) placed.0);
      }

module _ (old new : State) (layout : Layout) (has : old.now.schema ≡ schema_in layout) (answer : List Row) where
  pub lists_archives : Shown texts.select_archive [] old new answer → ShowsTable archive_table (0 ∷ 1 ∷ 2 ∷ []) (0 ∷ []) old.now answer
  lists_archives = lists old new (schema_in layout) has answer archive_table texts.select_archive texts.select_archive_shown texts.select_archive_order texts.select_archive_names (0 ∷ 1 ∷ 2 ∷ []) (0 ∷ []) (texts.select_archive_is layout) (texts.select_archive_plain layout) (λ trees. refl) (λ r. refl) (λ r. refl) refl

  pub lists_segments : Shown texts.select_segment [] old new answer → ShowsTable segment_table (0 ∷ 1 ∷ 2 ∷ []) (1 ∷ 0 ∷ []) old.now answer
  lists_segments = lists old new (schema_in layout) has answer segment_table texts.select_segment texts.select_segment_shown texts.select_segment_order texts.select_segment_names (0 ∷ 1 ∷ 2 ∷ []) (1 ∷ 0 ∷ []) (texts.select_segment_is layout) (texts.select_segment_plain layout) (λ trees. refl) (λ r. refl) (λ r. refl) refl

  pub lists_files : Shown texts.select_closed_for [] old new answer → ShowsTable closed_for_table (0 ∷ []) (0 ∷ []) old.now answer
  lists_files = lists old new (schema_in layout) has answer closed_for_table texts.select_closed_for texts.select_closed_for_shown texts.select_closed_for_order texts.select_closed_for_names (0 ∷ []) (0 ∷ []) (texts.select_closed_for_is layout) (texts.select_closed_for_plain layout) (λ trees. refl) (λ r. refl) (λ r. refl) refl

pub lists_settled : (old new : State) (layout : Layout) → has_table later.Lists layout ≡ true → old.now.schema ≡ schema_in layout → (answer : List Row) → Shown texts.select_settled [] old new answer → ShowsTable settled_table (0 ∷ 1 ∷ 2 ∷ 3 ∷ 4 ∷ []) (0 ∷ 1 ∷ 2 ∷ 3 ∷ []) old.now answer
lists_settled old new layout there has answer = lists old new (schema_in layout) has answer settled_table texts.select_settled texts.select_settled_shown texts.select_settled_order texts.select_settled_names (0 ∷ 1 ∷ 2 ∷ 3 ∷ 4 ∷ []) (0 ∷ 1 ∷ 2 ∷ 3 ∷ []) (texts.select_settled_is layout there) (texts.select_settled_plain layout there) (λ trees. refl) (λ r. refl) (λ r. refl) refl

pub lists_taken : (old new : State) (layout : Layout) → has_table later.Taken layout ≡ true → old.now.schema ≡ schema_in layout → (answer : List Row) → Shown texts.select_taken [] old new answer → ShowsTable taken_table (0 ∷ 1 ∷ 2 ∷ []) (1 ∷ 0 ∷ []) old.now answer
lists_taken old new layout there has answer = lists old new (schema_in layout) has answer taken_table texts.select_taken texts.select_segment_shown texts.select_segment_order texts.select_segment_names (0 ∷ 1 ∷ 2 ∷ []) (1 ∷ 0 ∷ []) (texts.select_taken_is layout there) (texts.select_taken_plain layout there) (λ trees. refl) (λ r. refl) (λ r. refl) refl

pub lists_sealed : (old new : State) → old.now.schema ≡ register_schema → (answer : List Row) → Shown texts.select_sealed [] old new answer → ShowsTable sealed_table (0 ∷ 1 ∷ 2 ∷ []) (0 ∷ []) old.now answer
lists_sealed old new has answer = lists old new register_schema has answer sealed_table texts.select_sealed texts.select_archive_shown texts.select_archive_order texts.select_sealed_names (0 ∷ 1 ∷ 2 ∷ []) (0 ∷ []) texts.select_sealed_is texts.select_sealed_plain (λ trees. refl) (λ r. refl) (λ r. refl) refl

-- Where there are no tables nothing is shown.
pub lists_nothing : (old new : State) (sql : List ℕ) (e : CompileError) → understood no_schema sql ≡ Err e → old.now.schema ≡ no_schema → (answer : List Row) → Shown sql [] old new answer → ⊥
unfolding Shown
lists_nothing old new sql e missing none answer h =
    let failed : Ok h.0 ≡ Err e = sym h.1.is ∙ ap (λ s. understood s sql) none ∙ missing in
    absurd cc
