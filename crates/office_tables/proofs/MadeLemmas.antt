-- A text that makes a table, run on a database of any schema: the table was not there.
use Rattle.std.{specs.{List.{AllByRecursion, position_from}, Option.option_or}, proofs.lemmas.Bool.{cases_Bool, or_parts, or_from}}
use Rattle.std.proofs.Common.{◌≡◌, ℕ, ◌+◌, Bool, true, false, not, ◌==◌, length, ◌&&◌, if◌then◌else◌, List, [], ◌∷◌, ◌++◌, slice_range, Option, None, is_some, Result, Ok, Err, OnOk, inl, inr, refl, sym, ap, subst, ◌∙◌, IsTrue, take, arith, IsErr}
use Rattle.sqlite_ast.specs.{declared.Statement.Statement, declared.CreateTable.CreateTable as Definition}
use Rattle.sqlite_syntax.specs.declared.statement.Parsed.{Parsed}
use Rattle.sqlite_schema.specs.{declared.schema.Schema.Schema, declared.schema.Table.Table, declared.command.Command.Command}
use Rattle.sqlite_schema.specs.{declared.command.Command.TheVariants.{CreateTable, Nothing}, Names.{table_named, index_named, view_named}}
use Rattle.sqlite_resolve.specs.{declared.compiled.Compiled.Compiled, declared.error.CompileError.CompileError, Lowering.{Checked, and_then}, Scope.Name}
use Rattle.sqlite_resolve.specs.declared.error.CompileError.TheVariants.{Exists, Misuse, Unsupported}
use Rattle.sqlite_resolve.specs.Compile.{first, planned, create_table, creates, is_attached, is_reserved, compiled, with_command, table_defined_by}
use Rattle.sqlite_catalog.specs.Change.{created, is_used}
use Rattle.sqlite.specs.{Listing.{understood, reads_listing, listing_schema, if_select, is_select}, Does.{Tally, lacks_sequence}, Effect.Database, Order.Row}
use Rattle.sqlite.specs.State.{State, Executes, ExecutesIn, Writes, text_of, HasCleanDisk, Shows, Survives, IsUnchanged, KeepsCommit, Shown, ShowsRows, FailsToQuery, FailsToShow, IsNotRun, CommitsShowing}
use Rattle.sqlite.{specs.{Tree.Trees, Clock.timed, declared.error.Error.Error}, proofs.Callers.{IsPlain, command_of, statement_of, runs_as, unchanged_then}}
use Rattle.sqlite.proofs.StateLemmas.{survives_weaker}
use Rattle.office_rows.{specs.{Rows.Rows, Stored.{HasEmpty, HasRows}, Tables.office_tables}, proofs.WriteLemmas.{went, same_value}}
use Rattle.office_rows.proofs.Creating.{turns_on, turns_then, steps_turn, keep_then, quiet_then, on_ok, stops_keep}
use Rattle.office_tables.specs.{Opened.MakesTables, declared.table_fault.TableFault.TableFault, Writes.{Creates, MakesOffice, WritesIfOpen}}
use Rattle.office_tables.{specs.Reading.{Reads, ReadsIfOpen, OnlyShows}, proofs.WritesLemmas.{and_then_ok, Plan, plan_by, as_planned}}
use Rattle.sqlite_tied.specs.Compute.{everything}
use Rattle.sqlite_ast.specs.declared.Statement.TheVariants as written
use Rattle.sqlite_resolve.specs.Define as define
use Rattle.office_rows.proofs.Creating as texts

-- ---- the text

abbrev is_new : Statement → Bool
is_new (written.CreateTable def) = not def.if_missing
is_new _ = false

-- the text makes a table, and is refused where there is one
abbrev pub makes_new : Checked Parsed → Bool
makes_new (Ok p) = is_new p.statement
makes_new (Err e) = false

-- the statement as it is written
abbrev pub stated : List ℕ → Checked Parsed → List ℕ
stated text (Ok p) = slice_range text p.start p.end
stated text (Err e) = []

abbrev IsNewTable : List ℕ → Checked Parsed → Compiled → Type 0
IsNewTable text parsed c = (c.command ≡ CreateTable) × (c.returning ≡ None) × (c.formats ≡ []) × (text_of text c ≡ stated text parsed)

free_or_not : (reserved other same b : Bool) → ◌≡◌ {A = Checked Bool} (if reserved then Err Misuse else (if other then Err Exists else (if same then (if false then Ok false else Err Exists) else Ok true))) (Ok b) → b ≡ true
free_or_not true other same b h = absurd cc
free_or_not false true same b h = absurd cc
free_or_not false false true b h = absurd cc
free_or_not false false false b h = cc

creates_new : (name : Name) (same other : Option ℕ) (b : Bool) → creates false name same other ≡ Ok b → b ≡ true
unfolding creates
creates_new name same other b h = free_or_not (is_reserved name) (is_some other) (is_some same) b h

chosen : (b : Bool) (k other : Command) → ◌≡◌ {A = Checked Command} (if b then Ok other else Err Unsupported) (Ok k) → k ≡ other
chosen true k other h = cc
chosen false k other h = absurd cc

past : (b : Bool) (e : CompileError) (r : Checked Command) (k : Command) → ◌≡◌ {A = Checked Command} (if b then Err e else r) (Ok k) → r ≡ Ok k
past true e r k h = absurd cc
past false e r k h = h

creates_table : (schema : Schema) (formats : List Name) (def : Definition) (k : Command) → def.if_missing ≡ false → create_table schema formats def ≡ Ok k → k ≡ CreateTable
unfolding create_table
creates_table schema formats def k new h =
    let same = option_or (table_named schema def.name) (view_named schema def.name) in
    let other = index_named schema def.name in
    let build : Checked Command = and_then (define.table formats def) (λ t. if length t.computed == length t.stamps.places && not def.resolves then Ok CreateTable else Err Unsupported) in
    let goes : Bool → Checked Command = λ b. if b then build else Ok Nothing in
    let free : and_then (creates def.if_missing def.name same other) goes ≡ Ok k = past (is_attached schema def.name) Unsupported (and_then (creates def.if_missing def.name same other) goes) k h in
    let made = and_then_ok (creates def.if_missing def.name same other) goes k free in
    let is : made.0 ≡ true = creates_new def.name same other made.0 (subst (λ b. creates b def.name same other ≡ Ok made.0) new made.1) in
    let built : build ≡ Ok k = subst (λ b. goes b ≡ Ok k) is made.2 in
    let defined = and_then_ok (define.table formats def) (λ t. if length t.computed == length t.stamps.places && not def.resolves then Ok CreateTable else Err Unsupported) k built in
    chosen (length defined.0.computed == length defined.0.stamps.places && not def.resolves) k CreateTable defined.2

false_of : (b : Bool) → not b ≡ true → b ≡ false
false_of true h = absurd cc
false_of false h = refl

abbrev IsMaking : Plan → Type 0
IsMaking plan = (plan.0 ≡ []) × (plan.1.0 ≡ CreateTable) × (plan.1.1 ≡ None)

plan_of : (r : Checked Command) (plan : Plan) → ((k : Command) → r ≡ Ok k → k ≡ CreateTable) → ◌≡◌ {A = Checked Plan} (and_then (and_then r (λ c. Ok (c, None))) (λ found. Ok ([], found))) (Ok plan) → IsMaking plan
plan_of (Ok k) plan makes h =
    let is : ([], (k, None)) ≡ plan = same_value h in
    subst IsMaking is (refl, makes k refl, refl)
plan_of (Err e) plan makes h = absurd cc

plans_table : (schema : Schema) (formats names : List Name) (s : Statement) → is_new s ≡ true → (plan : Plan) → plan_by schema formats names s ≡ Ok plan → IsMaking plan
plans_table schema formats names (written.CreateTable def) new plan h = plan_of (create_table schema formats def) plan (λ k is. creates_table schema formats def k (false_of def.if_missing new) is) h
plans_table schema formats names _ new plan h = absurd cc

compiles_parsed : (schema : Schema) (text : List ℕ) (c : Compiled) (parsed : Checked Parsed) → makes_new parsed ≡ true → and_then parsed (λ p. and_then (planned schema p) (λ plan. Ok (with_command p plan))) ≡ Ok c → IsNewTable text parsed c
compiles_parsed schema text c (Ok p) new h =
    let plan = and_then_ok (planned schema p) (λ plan. Ok (with_command p plan)) c h in
    let is : c ≡ with_command p plan.0 = sym (same_value plan.2) in
    let is_plan = plans_table schema p.formats p.names p.statement new plan.0 (as_planned schema p plan.0 plan.1) in
    rw is (is_plan.1, is_plan.2, is_plan.0, refl)
compiles_parsed schema text c (Err e) new h = absurd cc

compiles_new : (schema : Schema) (text : List ℕ) (c : Compiled) → makes_new (first text) ≡ true → compiled schema text ≡ Ok c → IsNewTable text (first text) c
unfolding compiled
compiles_new schema text c new h = compiles_parsed schema text c (first text) new h

-- ---- the schema

found_before : {K : Type 0} (t : K → Bool) (i : ℕ) (xs ys : List K) → is_some (position_from t i (xs ++ ys)) ≡ false → is_some (position_from t i xs) ≡ false
found_before t i [] ys none = refl
found_before t i (x ∷ xs) ys none = elim (cases_Bool (t x)) [
  | inl here ↦ absurd (let e = rw here at none in cc)
  | inr other ↦ rw other (found_before t (i + 1) xs ys (rw other at none))
]

pub unused_before : (schema : Schema) (table : Table) (name : List ℕ) → is_used (created schema table) name ≡ false → is_used schema name ≡ false
unused_before schema table name none =
    let parts = or_parts _ _ none in
    let more = or_parts _ _ parts.0 in
    or_from _ _ (or_from _ _ (found_before _ 0 schema.tables _ more.0) (found_before _ 0 schema.indexes _ more.1)) parts.1

-- ---- the statement

selected : (r : Checked Compiled) (c : Compiled) → if_select r ≡ Ok c → (r ≡ Ok c) × (is_select c.command ≡ true)
selected (Ok k) c h = elim (cases_Bool (is_select k.command)) [
  | inl reads ↦ let e : Ok k ≡ Ok c = rw reads at h in let same : k ≡ c = same_value e in (e, subst (λ (x : Compiled). is_select x.command ≡ true) same reads)
  | inr other ↦ absurd (let e = rw other at h in cc)
]
selected (Err e) c h = absurd cc

understands_new : (schema : Schema) (text : List ℕ) (c : Compiled) → makes_new (first text) ≡ true → understood schema text ≡ Ok c → IsNewTable text (first text) c
unfolding understood
understands_new schema text c new h = elim (cases_Bool (reads_listing schema text)) [
  | inl lists ↦
      let query = selected (compiled listing_schema text) c (rw lists at h) in
      let is = compiles_new listing_schema text c new query.0 in
      absurd (let e = rw is.0 at query.1 in cc)
  | inr other ↦ compiles_new schema text c new (rw other at h)
]

module _ (text : List ℕ) (table : Table) (new : makes_new (first text) ≡ true) (whole : stated text (first text) ≡ text) (defined : table_defined_by text ≡ Ok (record table { tree = 0 })) (old next : State) (count : ℕ) where
  writes_new : Executes text [] old next (Ok count) → Writes old next None CreateTable text [] count
  unfolding ExecutesIn
  writes_new h =
      let known = h.1.is in
      let is = understands_new old.now.schema text h.0 new known in
      let plain : IsPlain (understood old.now.schema text) = subst IsPlain (sym known) (is.1, is.2) in
      let said : statement_of text (understood old.now.schema text) ≡ text = ap (statement_of text) known ∙ is.3 ∙ whole in
      subst (λ t. Writes old next None CreateTable t [] count) said (runs_as text [] old next old.now.schema refl CreateTable (ap command_of known ∙ is.0) plain count h)

  pub makes_one : Executes text [] old next (Ok count) → MakesTables (table ∷ []) old.now.schema next.now.schema
  makes_one h =
      let w = writes_new h in
      let all = went w.changed in
      let begun = went all.1 in
      let made = begun.1 in
      let same : made.table ≡ record table { tree = 0 } = same_value (sym made.defined ∙ defined) in
      let now : next.now ≡ all.0 = ap (λ (p : Tally × Database). p.1) (same_value all.2) in
      let before : (name : List ℕ) → is_used begun.0.schema name ≡ false → is_used old.now.schema name ≡ false = λ name none.
      unused_before old.now.schema made.table name (subst (λ s. is_used s name ≡ false) made.is none) in
      let counted : (name : List ℕ) → is_used all.0.schema name ≡ false → is_used begun.0.schema name ≡ false = λ name none.
      elim (cases_Bool (lacks_sequence begun.0.schema)) [
        | inl lacks ↦ let more = rw lacks at begun.2 in unused_before begun.0.schema more.table name (subst (λ s. is_used s name ≡ false) more.is none)
        | inr has ↦ let kept : all.0 ≡ begun.0 = same_value (rw has at begun.2) in subst (λ (d : Database). is_used d.schema name ≡ false) kept none
      ] in
      record {
        missing = (subst (λ (t : Table). is_used old.now.schema t.name ≡ false) same made.free, tt);
        keeps = λ name none. before name (counted name (subst (λ (d : Database). is_used d.schema name ≡ false) now none));
      }

-- ---- one after the other

all_before : (a b : Schema) → ((name : List ℕ) → is_used b name ≡ false → is_used a name ≡ false) → (tables : List Table) → AllByRecursion (λ (t : Table). is_used b t.name ≡ false) tables → AllByRecursion (λ (t : Table). is_used a t.name ≡ false) tables
all_before a b keeps [] all = tt
all_before a b keeps (t ∷ tables) all = (keeps t.name all.0, all_before a b keeps tables all.1)

all_both : (P : Table → Type 0) (xs ys : List Table) → AllByRecursion P xs → AllByRecursion P ys → AllByRecursion P (xs ++ ys)
all_both P [] ys p q = q
all_both P (x ∷ xs) ys p q = (p.0, all_both P xs ys p.1 q)

pub makes_then : (xs ys : List Table) (a b c : Schema) → MakesTables xs a b → MakesTables ys b c → MakesTables (xs ++ ys) a c
makes_then xs ys a b c p q = record {
  missing = all_both _ xs ys p.missing (all_before a b p.keeps ys q.missing);
  keeps = λ name none. p.keeps name (q.keeps name none);
}

-- what holds, holds if a call succeeds
pub on_ok_from : {X E : Type 0} {P : Type 0} (r : Result X E) → P → OnOk r P
on_ok_from (Ok x) p = p
on_ok_from (Err e) p = tt

-- ==== CreatesLemmas: Calls that make tables, one after the other.

-- a statement that was made
pub creates_of : {T : Type 0} (tables : List Table) (from to : Database → Type 0) (old new : State) (value : T) → Survives old new (λ _. ⊥)
    → (HasCleanDisk new → IsTrue old.in_transaction → Shows old new new.now old.committed true × (from old.now → to new.now) × MakesTables tables old.now.schema new.now.schema)
    → Creates tables from to old new (Ok value)
creates_of tables from to old new value survives made = record {
  turns = λ clean inside. let does = made clean inside in turns_on from to old new does.0 does.1;
  makes = λ clean inside. (made clean inside).2;
  keeps = λ clean inside. record { was_open = λ _. (made clean inside).0.was_open; committed = λ _. (made clean inside).0.committed_is };
  survives = survives;
  fault = tt;
}

-- one call, and then another
pub creates_then : {X Y : Type 0} (xs ys : List Table) (from over to : Database → Type 0) (a b c : State) (x : X) (result : Result Y TableFault)
    → Creates xs from over a b (Ok x) → Creates ys over to b c result → Creates (xs ++ ys) from to a c result
creates_then xs ys from over to a b c x result p q = record {
  turns = λ clean inside.
      let early : HasCleanDisk b = omega (arith, q.survives.clean) in
      let first = p.turns early inside in
      on_ok result (turns_then from over to a b c first) (q.turns clean first.inside);
  makes = λ clean inside.
      let early : HasCleanDisk b = omega (arith, q.survives.clean) in
      let first = p.turns early inside in
      on_ok result (makes_then xs ys a.now.schema b.now.schema c.now.schema (p.makes early inside)) (q.makes clean first.inside);
  keeps = λ clean inside.
      let early : HasCleanDisk b = omega (arith, q.survives.clean) in
      keep_then a b c (p.keeps early inside) (q.keeps clean (p.turns early inside).inside);
  survives = quiet_then a b c p.survives q.survives;
  fault = q.fault;
}

-- all tables, and no row yet
pub makes_empty : {X : Type 0} (rows : Rows) (a b : State) (result : Result X TableFault) → Creates office_tables (HasEmpty (take 0 office_tables)) (HasRows rows) a b result
    → MakesOffice rows a b result
makes_empty rows a b result p = record {
  turns = p.turns;
  missing = λ clean inside. on_ok result (λ (made : MakesTables office_tables a.now.schema b.now.schema). made.missing) (p.makes clean inside);
  keeps = p.keeps;
  survives = p.survives;
  fault = p.fault;
}

-- rows that are written into them
pub makes_with : {X Y : Type 0} (rows : Rows) (change : Rows → Rows) (a b c : State) (x : X) (result : Result Y TableFault)
    → MakesOffice rows a b (Ok x) → WritesIfOpen change b c result → MakesOffice (change rows) a c result
makes_with rows change a b c x result p q = record {
  turns = λ clean inside.
      let early : HasCleanDisk b = omega (arith, q.survives.clean) in
      let first = p.turns early inside in
      on_ok result (steps_turn (HasEmpty (take 0 office_tables)) rows change a b c first) (q.steps clean first.inside first.is_open);
  missing = λ clean inside.
      let early : HasCleanDisk b = omega (arith, q.survives.clean) in
      on_ok_from result (p.missing early inside);
  keeps = λ clean inside.
      let early : HasCleanDisk b = omega (arith, q.survives.clean) in
      let first = p.turns early inside in
      keep_then a b c (p.keeps early inside) (q.keeps clean first.inside first.is_open);
  survives = quiet_then a b c p.survives q.survives;
  fault = q.fault;
}

-- ==== MadeTexts: The texts that make the tables say nothing of a table that is there.

-- a table is made only where there is none, and its own text is kept
abbrev pub MakesAnew : List ℕ → Type 0
MakesAnew text = (makes_new (first text) ≡ true) × (stated text (first text) ≡ text)

pub partner_anew : MakesAnew texts.create_partner
unfolding everything
partner_anew = (refl, refl)

pub interchange_anew : MakesAnew texts.create_interchange
unfolding everything
interchange_anew = (refl, refl)

pub visit_anew : MakesAnew texts.create_visit
unfolding everything
visit_anew = (refl, refl)

pub place_anew : MakesAnew texts.create_place
unfolding everything
place_anew = (refl, refl)

pub listed_anew : MakesAnew texts.create_listed
unfolding everything
listed_anew = (refl, refl)

pub setting_anew : MakesAnew texts.create_setting
unfolding everything
setting_anew = (refl, refl)

pub block_anew : MakesAnew texts.create_block
unfolding everything
block_anew = (refl, refl)

-- ==== ReadingLemmas: A query only reads, and so does a call that works on what it shows.

-- where nothing has changed
pub reads_same : {T : Type 0} (old new : State) (value : T) → (HasCleanDisk new → IsUnchanged old new) → (old.in_transaction ≡ false → new.in_transaction ≡ false) → Survives old new (λ _. ⊥) → Reads old new (Ok value)
reads_same old new value same mode s = record { unchanged = same; keeps = λ clean. stops_keep old new (inl (same clean)); mode = mode; survives = s }

-- ---- one query

module _ (sql : List ℕ) (params : Row) (old new : State) (shows : OnlyShows sql) where
  pub shown_unchanged : (rows : List Row) → Shown sql params old new rows → IsUnchanged old new
  unfolding Shown
  shown_unchanged rows h = (subst (ShowsRows old new sql h.0 (timed params h.0.formats h.1.now) rows) (shows old.now.schema h.0 h.1.is) h.2).3

  failed_commits_nothing : (e : Error) → FailsToQuery sql params old new e → KeepsCommit old new
  unfolding FailsToQuery IsNotRun
  failed_commits_nothing e (inl (inl stopped)) = stops_keep old new (inl stopped.1)
  failed_commits_nothing e (inl (inr failed)) = stops_keep old new (inr failed.3)
  failed_commits_nothing e (inr h) = stops_keep old new (inl (subst (FailsToShow old new sql h.0 (timed params h.0.formats h.1.now) e) (shows old.now.schema h.0 h.1.is) h.2).3)

  never_commits : (db : Trees) → ¬ CommitsShowing sql params old db
  unfolding CommitsShowing
  never_commits db made = absurd (let none = shows old.now.schema made.0 made.1.is in let e = rw none at made.2 in cc)

  pub query_survives : Survives old new (CommitsShowing sql params old) → Survives old new (λ _. ⊥)
  query_survives s = survives_weaker old new _ _ (λ clean. never_commits) s

  pub reads_shown : {T : Type 0} (rows : List Row) (value : T) → (HasCleanDisk new → Shown sql params old new rows) → (old.in_transaction ≡ false → new.in_transaction ≡ false)
      → Survives old new (CommitsShowing sql params old) → Reads old new (Ok value)
  reads_shown rows value shown mode s = reads_same old new value (λ clean. shown_unchanged rows (shown clean)) mode (query_survives s)

  pub reads_failed : {T : Type 0} (e : Error) (result : Result T TableFault) → IsErr result → (HasCleanDisk new → FailsToQuery sql params old new e) → (old.in_transaction ≡ false → new.in_transaction ≡ false)
      → Survives old new (CommitsShowing sql params old) → Reads old new result
  reads_failed e (Ok value) err fails mode s = absurd cc
  reads_failed e (Err fault) err fails mode s = record { unchanged = λ clean. tt; keeps = λ clean. failed_commits_nothing e (fails clean); mode = mode; survives = query_survives s }

-- ---- what is done with its answer

-- whatever comes of what was read
pub reads_on : {X Y : Type 0} {old new : State} {x : X} (result : Result Y TableFault) → Reads old new (Ok x) → Reads old new result
reads_on (Ok y) reads = record { unchanged = reads.unchanged; keeps = reads.keeps; mode = reads.mode; survives = reads.survives }
reads_on (Err fault) reads = record { unchanged = λ clean. tt; keeps = reads.keeps; mode = reads.mode; survives = reads.survives }

-- the fault of a call that it made
pub reads_stopped : {X Y : Type 0} {old new : State} {inner : Result X TableFault} (result : Result Y TableFault) → IsErr result → Reads old new inner → Reads old new result
reads_stopped (Ok y) err reads = absurd cc
reads_stopped (Err fault) err reads = record { unchanged = λ clean. tt; keeps = reads.keeps; mode = reads.mode; survives = reads.survives }

-- ---- one read after the other

pub clean_first : {X : Type 0} {b c : State} {result : Result X TableFault} → Reads b c result → HasCleanDisk c → HasCleanDisk b
clean_first q clean = omega (arith, q.survives.clean)

infixr 10 ◌then◌
pub ◌then◌ : {X Y : Type 0} {a b c : State} {x : X} {result : Result Y TableFault} → Reads a b (Ok x) → Reads b c result → Reads a c result
◌then◌ {a} {b} {c} {result} p q = record {
  unchanged = λ clean. on_ok result (unchanged_then a b c (p.unchanged (clean_first q clean))) (q.unchanged clean);
  keeps = λ clean. keep_then a b c (p.keeps (clean_first q clean)) (q.keeps clean);
  mode = λ outside. q.mode (p.mode outside);
  survives = quiet_then a b c p.survives q.survives;
}

-- ---- of a call that may have nothing to read

pub if_open_then : {X Y : Type 0} {a b c : State} {x : X} {result : Result Y TableFault} → ReadsIfOpen a b (Ok x) → Reads b c result → ReadsIfOpen a c result
if_open_then {a} {b} {c} {result} p q = record {
  unchanged = λ clean was. on_ok result (unchanged_then a b c (p.unchanged (clean_first q clean) was)) (q.unchanged clean);
  keeps = λ clean. keep_then a b c (p.keeps (clean_first q clean)) (q.keeps clean);
  mode = λ outside. q.mode (p.mode outside);
  survives = quiet_then a b c p.survives q.survives;
}

pub then_if_open : {X Y : Type 0} {a b c : State} {x : X} {result : Result Y TableFault} → Reads a b (Ok x) → ReadsIfOpen b c result → Reads a c result
then_if_open {a} {b} {c} {result} p q = record {
  unchanged = λ clean.
      let early : HasCleanDisk b = omega (arith, q.survives.clean) in
      let first = p.unchanged early in
      on_ok result (unchanged_then a b c first) (q.unchanged clean first.0.is_open);
  keeps = λ clean. let early : HasCleanDisk b = omega (arith, q.survives.clean) in keep_then a b c (p.keeps early) (q.keeps clean);
  mode = λ outside. q.mode (p.mode outside);
  survives = quiet_then a b c p.survives q.survives;
}

pub if_open_stopped : {X Y : Type 0} {old new : State} {inner : Result X TableFault} (result : Result Y TableFault) → IsErr result → ReadsIfOpen old new inner → ReadsIfOpen old new result
if_open_stopped (Ok y) err reads = absurd cc
if_open_stopped (Err fault) err reads = record { unchanged = λ clean was. tt; keeps = reads.keeps; mode = reads.mode; survives = reads.survives }

pub if_open_on : {X Y : Type 0} {old new : State} {x : X} (result : Result Y TableFault) → ReadsIfOpen old new (Ok x) → ReadsIfOpen old new result
if_open_on (Ok y) reads = record { unchanged = reads.unchanged; keeps = reads.keeps; mode = reads.mode; survives = reads.survives }
if_open_on (Err fault) reads = record { unchanged = λ clean was. tt; keeps = reads.keeps; mode = reads.mode; survives = reads.survives }
