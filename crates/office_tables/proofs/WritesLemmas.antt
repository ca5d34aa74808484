-- Calls that write in a transaction, one after the other.
use Rattle.std.proofs.Common.{◌≡◌, ap, ◌∙◌, take, ℕ, ◌+◌, Bool, true, false, List, Option, None, Ok, Err, inl, inr, refl, sym, subst, ◌<◌, ◌++◌, [], ◌∷◌, IsTrue, Result, OnOk, get_or, length, map, arith}
use Rattle.std.proofs.{lemmas.Bool.cases_Bool, lemmas.List.{map-append, take_more}}
use Rattle.sqlite.specs.{Effect.Database, State.{State, HasCleanDisk, Shows, Survives}, Tree.Trees}
use Rattle.sqlite.specs.Listing.{understood, reads_listing, listing_schema, if_select, is_select}
use Rattle.office_admission.specs.Setups.{SetupContent}
use Rattle.office_rows.specs.{Tables.{office_tables, no_schema}, Stored.{HasRows, HasEmpty}, Steps.{Turns, Steps}, Opening.opening_rows, Rows.Rows}
use Rattle.office_rows.{specs.InPlace.InterchangesAreInPlace, proofs.WriteLemmas.same_value}
use Rattle.office_rows.proofs.Creating.{stores, steps_on, steps_here, steps_then, steps_same, keep_then, quiet_then, on_ok}
use Rattle.office_tables.specs.{Opened.IsOpening, declared.table_fault.TableFault.TableFault, Faults.{IsOfStore, IsOfStoreOr}, Reading.OnlyShows}
use Rattle.office_tables.specs.{declared.table_fault.TableFault.TheVariants.{Store, Damaged, Version, Memory}, Order.{HasRowsInOrder, KeepsOrder}}
use Rattle.office_tables.specs.Writes.{Writes, WritesIfOpen}
use Rattle.sqlite_ast.specs.declared.Statement.{Statement}
use Rattle.sqlite_syntax.specs.declared.statement.Parsed.{Parsed}
use Rattle.sqlite_schema.specs.{declared.schema.Schema.Schema, declared.command.Command.Command, declared.command.Returning.Returning}
use Rattle.sqlite_resolve.specs.{declared.compiled.Compiled.Compiled, Lowering.{Checked, and_then}, Scope.Name}
use Rattle.sqlite_resolve.specs.Compile.{first, planned, meaning, returning, command, timed, compiled, with_command, timed_by, returning_by, command_by, small}
use Rattle.sqlite_tied.specs.Compute.{everything}
use Rattle.sqlite_ast.specs.declared.Statement.TheVariants as written
use Rattle.office_rows.proofs.Reading as texts

-- ==== OpenedLemmas: What making the tables commits.

-- an empty database has the rows as the transaction ends
pub made_rows : (setup : SetupContent) (old begun last : State) → begun.now ≡ old.committed → Turns (HasEmpty (take 0 office_tables)) (HasRows (opening_rows setup)) begun last → old.committed.schema ≡ no_schema → HasRows (opening_rows setup) last.now
made_rows setup old begun last same turns none = turns.now (record { schema = ap (λ (d : Database). d.schema) same ∙ none; empty = tt })

pub opened : (setup : SetupContent) (old begun last : State) (db : Trees) → begun.now ≡ old.committed → Turns (HasEmpty (take 0 office_tables)) (HasRows (opening_rows setup)) begun last → db ≡ last.now.trees → IsOpening setup old db
opened setup old begun last db same turns is none = rw is (stores (opening_rows setup) last.now (made_rows setup old begun last same turns none))

-- ==== FaultLemmas: From which damage a fault comes.

-- a damage that there is if the other is
pub of_store_weaker : (P Q : Type 0) → (P → Q) → (fault : TableFault) → IsOfStoreOr P fault → IsOfStoreOr Q fault
of_store_weaker P Q f (Store error) h = h
of_store_weaker P Q f Damaged h = f h
of_store_weaker P Q f Version h = h
of_store_weaker P Q f Memory h = h

-- where nothing is damaged the store failed, or memory was refused
pub of_store_alone : (P : Type 0) → ¬ P → (fault : TableFault) → IsOfStoreOr P fault → IsOfStore fault
of_store_alone P none (Store error) h = h
of_store_alone P none Damaged h = none h
of_store_alone P none Version h = h
of_store_alone P none Memory h = h

-- whatever is damaged, a fault of the store is no other
pub of_store_or : (P : Type 0) (fault : TableFault) → IsOfStore fault → IsOfStoreOr P fault
of_store_or P (Store error) h = h
of_store_or P Damaged h = absurd h
of_store_or P Version h = h
of_store_or P Memory h = h

-- ==== TextLemmas: A text that is a SELECT writes nothing, under any schema.

abbrev is_query : Statement → Bool
is_query (written.Select s) = true
is_query _ = false

-- the text is a SELECT, whatever tables there are
abbrev pub is_read : Checked Parsed → Bool
is_read (Ok p) = is_query p.statement
is_read (Err e) = false

pub and_then_ok : {A B : Type 0} (r : Checked A) (f : A → Checked B) (b : B) → and_then r f ≡ Ok b → (a : A) × (r ≡ Ok a) × (f a ≡ Ok b)
and_then_ok (Ok a) f b h = (a, refl, h)
and_then_ok (Err e) f b h = absurd cc

abbrev pub Plan : Type 0
Plan = List Name × (Command × Option Returning)

-- what is planned for a statement
abbrev pub plan_by : Schema → List Name → List Name → Statement → Checked Plan
plan_by schema formats names s =
    let times = timed_by schema formats s in
    and_then (and_then (returning_by schema (small names + small times) s) (λ shown. and_then (command_by schema formats (small names + small times) s) (λ c. Ok (c, shown)))) (λ found. Ok (times, found))

pub as_planned : (schema : Schema) (p : Parsed) (plan : Plan) → planned schema p ≡ Ok plan → plan_by schema p.formats p.names p.statement ≡ Ok plan
unfolding planned meaning returning command timed
as_planned schema p plan h = h

plan_of : (times : List Name) (r : Checked Command) (plan : Plan) → ◌≡◌ {A = Checked Plan} (and_then (and_then r (λ c. Ok (c, None))) (λ found. Ok (times, found))) (Ok plan) → plan.1.1 ≡ None
plan_of times (Ok k) plan h =
    let is : (times, (k, None)) ≡ plan = same_value h in
    subst (λ (p : Plan). p.1.1 ≡ None) is refl
plan_of times (Err e) plan h = absurd cc

plans_query : (schema : Schema) (formats names : List Name) (s : Statement) → is_query s ≡ true → (plan : Plan) → plan_by schema formats names s ≡ Ok plan → plan.1.1 ≡ None
plans_query schema formats names (written.Select s) query plan h = plan_of formats (command_by schema formats (small names + small formats) (written.Select s)) plan h
plans_query schema formats names _ query plan h = absurd cc

compiles_parsed : (schema : Schema) (c : Compiled) (parsed : Checked Parsed) → is_read parsed ≡ true → and_then parsed (λ p. and_then (planned schema p) (λ plan. Ok (with_command p plan))) ≡ Ok c → c.returning ≡ None
compiles_parsed schema c (Ok p) query h =
    let plan = and_then_ok (planned schema p) (λ plan. Ok (with_command p plan)) c h in
    let is : c ≡ with_command p plan.0 = sym (same_value plan.2) in
    rw is (plans_query schema p.formats p.names p.statement query plan.0 (as_planned schema p plan.0 plan.1))
compiles_parsed schema c (Err e) query h = absurd cc

compiles_query : (schema : Schema) (text : List ℕ) (c : Compiled) → is_read (first text) ≡ true → compiled schema text ≡ Ok c → c.returning ≡ None
unfolding compiled
compiles_query schema text c query h = compiles_parsed schema c (first text) query h

selected : (r : Checked Compiled) (c : Compiled) → if_select r ≡ Ok c → r ≡ Ok c
selected (Ok k) c h = elim (cases_Bool (is_select k.command)) [
  | inl reads ↦ rw reads at h
  | inr other ↦ absurd (let e = rw other at h in cc)
]
selected (Err e) c h = absurd cc

pub understands_query : (schema : Schema) (text : List ℕ) (c : Compiled) → is_read (first text) ≡ true → understood schema text ≡ Ok c → c.returning ≡ None
unfolding understood
understands_query schema text c query h = elim (cases_Bool (reads_listing schema text)) [
  | inl lists ↦ compiles_query listing_schema text c query (selected (compiled listing_schema text) c (rw lists at h))
  | inr other ↦ compiles_query schema text c query (rw other at h)
]

-- a text that is a query, whatever tables there are
pub only_shows : (text : List ℕ) → is_read (first text) ≡ true → OnlyShows text
only_shows text query schema c = understands_query schema text c query

-- ==== QueryTexts: The texts that read are queries, under any schema.

kept_read : is_read (first texts.select_kept) ≡ true
unfolding everything
kept_read = refl

pub kept_shows : OnlyShows texts.select_kept
kept_shows schema c is = understands_query schema texts.select_kept c kept_read is

next_read : is_read (first texts.select_next) ≡ true
unfolding everything
next_read = refl

pub next_shows : OnlyShows texts.select_next
next_shows schema c is = understands_query schema texts.select_next c next_read is

-- ==== WritesLemmas: Calls that write in a transaction, one after the other.

-- a statement that was made
pub writes_of : {T : Type 0} (change : Rows → Rows) (old new : State) (value : T) → Survives old new (λ _. ⊥)
    → (HasCleanDisk new → IsTrue old.in_transaction → Shows old new new.now old.committed true × ((rows : Rows) → HasRows rows old.now → HasRows (change rows) new.now)
    × ((rows : Rows) → HasRows rows old.now → InterchangesAreInPlace rows.interchanges old.now.trees → InterchangesAreInPlace (change rows).interchanges new.now.trees))
    → Writes change old new (Ok value)
writes_of change old new value survives made = record {
  steps = λ clean inside. steps_on change old new (made clean inside).0 (made clean inside).1;
  in_order = λ clean inside rows held. record { has = (made clean inside).1 rows held.has; in_place = (made clean inside).2 rows held.has held.in_place };
  keeps = λ clean inside. record { was_open = λ _. (made clean inside).0.was_open; committed = λ _. (made clean inside).0.committed_is };
  survives = survives;
  fault = tt;
}

-- rows that stay in order through one and then through the other
pub order_then : {Y : Type 0} (f g : Rows → Rows) (a b c : State) (result : Result Y TableFault) → KeepsOrder f a b → OnOk result (KeepsOrder g b c) → OnOk result (KeepsOrder (λ rows. g (f rows)) a c)
order_then f g a b c result first = on_ok result (λ (second : KeepsOrder g b c) rows held. second (f rows) (first rows held))

pub order_same : (f g : Rows → Rows) (old new : State) → ((rows : Rows) → f rows ≡ g rows) → KeepsOrder f old new → KeepsOrder g old new
order_same f g old new same keeps rows held = subst (λ r. HasRowsInOrder r new.now) (same rows) (keeps rows held)

-- one call, and then another
module _ {X Y : Type 0} (f g : Rows → Rows) (a b c : State) (x : X) (result : Result Y TableFault) where
  pub writes_then : Writes f a b (Ok x) → Writes g b c result → Writes (λ rows. g (f rows)) a c result
  writes_then p q = record {
    steps = λ clean inside.
        let early : HasCleanDisk b = omega (arith, q.survives.clean) in
        let first = p.steps early inside in
        on_ok result (steps_then f g a b c first) (q.steps clean first.inside);
    in_order = λ clean inside.
        let early : HasCleanDisk b = omega (arith, q.survives.clean) in
        order_then f g a b c result (p.in_order early inside) (q.in_order clean (p.steps early inside).inside);
    keeps = λ clean inside.
        let early : HasCleanDisk b = omega (arith, q.survives.clean) in
        keep_then a b c (p.keeps early inside) (q.keeps clean (p.steps early inside).inside);
    survives = quiet_then a b c p.survives q.survives;
    fault = q.fault;
  }

  pub writes_then_if_open : Writes f a b (Ok x) → WritesIfOpen g b c result → Writes (λ rows. g (f rows)) a c result
  writes_then_if_open p q = record {
    steps = λ clean inside.
        let early : HasCleanDisk b = omega (arith, q.survives.clean) in
        let first = p.steps early inside in
        on_ok result (steps_then f g a b c first) (q.steps clean first.inside first.is_open);
    in_order = λ clean inside.
        let early : HasCleanDisk b = omega (arith, q.survives.clean) in
        let first = p.steps early inside in
        order_then f g a b c result (p.in_order early inside) (q.in_order clean first.inside first.is_open);
    keeps = λ clean inside.
        let early : HasCleanDisk b = omega (arith, q.survives.clean) in
        let first = p.steps early inside in
        keep_then a b c (p.keeps early inside) (q.keeps clean first.inside first.is_open);
    survives = quiet_then a b c p.survives q.survives;
    fault = q.fault;
  }

  pub if_open_then : WritesIfOpen f a b (Ok x) → Writes g b c result → WritesIfOpen (λ rows. g (f rows)) a c result
  if_open_then p q = record {
    steps = λ clean inside was.
        let early : HasCleanDisk b = omega (arith, q.survives.clean) in
        let first = p.steps early inside was in
        on_ok result (steps_then f g a b c first) (q.steps clean first.inside);
    in_order = λ clean inside was.
        let early : HasCleanDisk b = omega (arith, q.survives.clean) in
        order_then f g a b c result (p.in_order early inside was) (q.in_order clean (p.steps early inside was).inside);
    keeps = λ clean inside was.
        let early : HasCleanDisk b = omega (arith, q.survives.clean) in
        keep_then a b c (p.keeps early inside was) (q.keeps clean (p.steps early inside was).inside);
    survives = quiet_then a b c p.survives q.survives;
    fault = q.fault;
  }

-- what comes to the same rows
pub writes_same : {T : Type 0} (f g : Rows → Rows) (old new : State) (result : Result T TableFault) → ((rows : Rows) → f rows ≡ g rows) → Writes f old new result
    → Writes g old new result
writes_same f g old new result same p = record {
  steps = λ clean inside. on_ok result (steps_same f g old new same) (p.steps clean inside);
  in_order = λ clean inside. on_ok result (order_same f g old new same) (p.in_order clean inside);
  keeps = p.keeps;
  survives = p.survives;
  fault = p.fault;
}

-- what is written where the store need not be known to be open
pub writes_if_open : {T : Type 0} (change : Rows → Rows) (old new : State) (result : Result T TableFault) → Writes change old new result → WritesIfOpen change old new result
writes_if_open change old new result p = record {
  steps = λ clean inside was. p.steps clean inside;
  in_order = λ clean inside was. p.in_order clean inside;
  keeps = λ clean inside was. p.keeps clean inside;
  survives = p.survives;
  fault = p.fault;
}

-- ---- a list, one after the other

pub survives_here : (now : State) (P : Trees → Type 0) → Survives now now P
survives_here now P = record {
  clean = omega arith;
  shield = λ is. is;
  counts = omega arith;
  limit = refl;
  closes = λ clean was. inl was;
  crash = λ clean db left. inl left;
}

-- nothing is written yet
pub none_written : (change : Rows → Rows) (now : State) → ((rows : Rows) → change rows ≡ rows) → WritesIfOpen {T = Unit {0}} change now now (Ok tt)
none_written change now same = record {
  steps = λ clean inside was. steps_here change now inside was same;
  in_order = λ clean inside was rows held. subst (λ r. HasRowsInOrder r now.now) (sym (same rows)) held;
  keeps = λ clean inside was. record { was_open = λ was. was; committed = λ was. refl };
  survives = survives_here now (λ _. ⊥);
  fault = tt;
}

-- one more is written
pub one_more_written : {B : Type 0} (adds : List B → Rows → Rows) → ((done more : List B) (rows : Rows) → adds more (adds done rows) ≡ adds (done ++ more) rows) → (before after : List B) (one : B) → after ≡ before ++ one ∷ [] → (old mid new : State) → WritesIfOpen {T = Unit {0}} (adds before) old mid (Ok tt) → Writes {T = Unit {0}} (adds (one ∷ [])) mid new (Ok tt)
    → WritesIfOpen {T = Unit {0}} (adds after) old new (Ok tt)
one_more_written adds joins before after one is old mid new p q =
    let both = if_open_then (adds before) (adds (one ∷ [])) old mid new tt (Ok tt) p q in
    record {
      steps = λ clean inside was. subst (λ l. Steps (adds l) old new) (sym is) (steps_same (λ rows. adds (one ∷ []) (adds before rows)) (adds (before ++ one ∷ [])) old new (joins before (one ∷ [])) (both.steps clean inside was));
      in_order = λ clean inside was. subst (λ l. KeepsOrder (adds l) old new) (sym is) (order_same (λ rows. adds (one ∷ []) (adds before rows)) (adds (before ++ one ∷ [])) old new (joins before (one ∷ [])) (both.in_order clean inside was));
      keeps = both.keeps;
      survives = both.survives;
      fault = tt;
    }

-- what the items say that a loop has come to
pub taken_more : {A B : Type 0} (content : A → B) (all : List A) (i : ℕ) (item : A) → i < length all → item ≡ get_or all i item → map content (take (i + 1) all) ≡ map content (take i all) ++ content item ∷ []
taken_more content all i item there is = ap (map content) (take_more all i item there ∙ ap (λ x. take i all ++ x ∷ []) (sym is)) ∙ map-append content (take i all) (item ∷ [])
