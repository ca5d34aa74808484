-- The query of the settings, under any schema whose table of that name has the columns name and value first.
use Rattle.std.proofs.Common.{◌≡◌, ℕ, ◌-◌, negsuc, Bool, true, false, nat_lt, List, [], ◌∷◌, ◌++◌, slice_get, codes, Option, Some, None, Ok, Err, if◌then◌else◌, refl, sym, subst, ◌∙◌}
use Rattle.sqlite_value.specs.{Keys.ascending, declared.keys.Collation.Collation, declared.keys.Collation.TheVariants.Binary}
use Rattle.sqlite_value.specs.declared.value.Value.TheVariants.{Null, Int}
use Rattle.sqlite_ast.specs.{declared.Expr.{Expr, out-Expr}, declared.Expr.TheOpen.{Expr-F, Shown-F}, declared.Shown.{Shown, out-Shown}}
use Rattle.sqlite_ast.specs.{declared.Select.{Select, out-Select}, declared.Core.{Core, out-Core}, declared.Sort.{Sort, out-Sort}, declared.Statement.Statement}
use Rattle.sqlite_ast.specs.declared.Source.{Source, out-Source}
use Rattle.sqlite_sql.specs.{Term.{Term, lit, col}, Query.Query}
use Rattle.sqlite_schema.specs.{declared.schema.Kind.TheVariants.Text, declared.schema.Schema.Schema, declared.schema.Table.Table}
use Rattle.sqlite_schema.specs.{declared.schema.Column.Column, Names.{table_named, same_name}, declared.program.Table.Table as Let}
use Rattle.sqlite_schema.specs.{declared.command.Command.Command, declared.command.Command.TheVariants.Select as SelectRows}
use Rattle.sqlite_resolve.specs.{declared.state.State.State, declared.state.Carried.Carried, declared.scope.Bound.Bound, declared.scope.Output.Output}
use Rattle.sqlite_resolve.specs.{Lowering.{Checked, and_then, fresh, max_budget, take_slot, nothing, alone, spend, begin, finish}, declared.body.Body.Body}
use Rattle.sqlite_resolve.specs.{Scope.{Name, Context, find, column_in, hit, only, in_level, is_among, term_of, column_at, column}, Terms.number}
use Rattle.sqlite_resolve.specs.Body.{table_in, bound, bounds, outputs, shown, heading, declared, is_column, result, tests, join, joins, inner_join, shared, matching, body}
use Rattle.sqlite_resolve.specs.{Expr.{lower, lower_to, node, opened, passes}, declared.select.Clauses.Clauses, declared.compiled.Compiled.Compiled}
use Rattle.sqlite_resolve.specs.Order.{is_numeral, alias_in, written_on, peeled, collation_of, placed, key, keys, sort, sorts}
use Rattle.sqlite_resolve.specs.{Select.{outermost, having, parts, ungrouped, assembled, named as resolved}, declared.error.CompileError.TheVariants.Mismatch}
use Rattle.sqlite_resolve.specs.Program.{viewing, single, alone as alone_of, whole as whole_of, level, with, query_to, query, program}
use Rattle.sqlite_resolve.specs.Compile.{first, read, planned, meaning, returning, command, timed, compiled, with_command}
use Rattle.sqlite_draft.specs.{declared.join.Step.TheVariants.Inner, declared.query.Draft.Draft, Join.chain, Query.query_of}
use Rattle.sqlite_syntax.specs.declared.statement.Parsed.{Parsed}
use Rattle.sqlite_typing.specs.Types.{accepts_program}
use Rattle.sqlite.specs.Listing.{understood, reads_listing, misses_table}
use Rattle.office_tables.proofs.WritesLemmas.{Plan, plan_by}
use Rattle.office_loading.proofs.MissingLemmas.{Selects, IsOfOne, sourced, page, paged}
use Rattle.sqlite_ast.specs.declared.Origin.TheVariants as origin
use Rattle.sqlite_resolve.specs.declared.scope.Found.TheVariants as found
use Rattle.sqlite_ast.specs.declared.Statement.TheVariants as written

abbrev text_column : Name → Column
text_column name = record { name = name; kind = Text; is_strict = true; not_null = true; default = Null; collation = Binary }

-- the table with these columns first, and no column for the rowid
abbrev pub with_settings : Table → List Column → Table
with_settings table more = record table { columns = text_column (codes "name") ∷ text_column (codes "value") ∷ more; key = None }

abbrev pub Names : Expr → Name → Type 0
Names e name = out-Expr e ≡ Expr-F.Column None name

-- SELECT name, value FROM setting ORDER BY name
pub record IsOfSettings (s : Select) : Type 0 where
  pub one : IsOfOne (codes "setting") s
  pub unnamed : (out-Source one.source).alias ≡ None
  pub using : (out-Source one.source).using ≡ []
  pub on : (out-Source one.source).on ≡ None
  pub inner : (out-Source one.source).is_left ≡ false
  pub first : Shown
  pub second : Shown
  pub shown : (out-Core (out-Select s).first).shown ≡ first ∷ second ∷ []
  pub name : Expr
  pub name_text : Name
  pub first_is : out-Shown first ≡ Shown-F.One name None name_text
  pub name_is : Names name (codes "name")
  pub value : Expr
  pub value_text : Name
  pub second_is : out-Shown second ≡ Shown-F.One value None value_text
  pub value_is : Names value (codes "value")
  pub all : (out-Core (out-Select s).first).distinct ≡ false
  pub unfiltered : (out-Core (out-Select s).first).filter ≡ None
  pub ungrouped : (out-Core (out-Select s).first).group ≡ []
  pub unkept : (out-Core (out-Select s).first).having ≡ None
  pub sort : Sort
  pub order : (out-Select s).order ≡ sort ∷ []
  pub sort_is : Names (out-Sort sort).key (codes "name")
  pub ascends : (out-Sort sort).descending ≡ false
  pub nulls : (out-Sort sort).nulls_first ≡ None

-- the state in which so much work may still be done
abbrev left : ℕ → Carried → State
left budget last = record (fresh 2 budget) { last = last }

abbrev by_text : Carried
by_text = record { collation = Some Binary; is_written = false }

-- the rows of a tree, by their names
abbrev draft : ℕ → Draft
draft tree = record {
  from = chain (Inner tree ∷ []);
  filter = [];
  group = None;
  project = col 1 1 ∷ col 1 2 ∷ [];
  distinct = false;
  collations = [];
  order = (col 1 1, ascending Binary) ∷ [];
  limit = lit (Int (negsuc 0));
  offset = number 0;
}

abbrev pub settings_query : ℕ → Query
settings_query tree = query_of (draft tree)

abbrev pub settings_names : List Name
settings_names = codes "name" ∷ codes "value" ∷ []

-- the query, or that the types of some table don't fit
abbrev typed : {A : Type 0} → Bool → A → Checked A
typed fits a = if fits then Ok a else Err Mismatch

module _ (schema : Schema) (at : ℕ) (table : Table) (more : List Column) (named : table_named schema (codes "setting") ≡ Some at) (there : slice_get schema.tables at ≡ Some (with_settings table more)) where
  abbrev here : Bound
  here = record { name = codes "setting"; table = at; slot = 1; shared = [] }

  abbrev inside : List Output → Bool → Context
  inside shown may = record { schema = schema; levels = record { tables = here ∷ []; shown = shown } ∷ []; may_aggregate = may; may_alias = true }

  is_bound : (s : Source) → (out-Source s).origin ≡ origin.Table (codes "setting") → (out-Source s).alias ≡ None → (out-Source s).using ≡ [] → bounds schema (s ∷ []) (fresh 1 max_budget) ≡ Ok (here ∷ [], left max_budget nothing)
  unfolding bounds bound take_slot table_in
  is_bound s is unnamed plain = rw (is, named, unnamed, plain) refl

  finds_name : (shown : List Output) (may : Bool) → find (inside shown may) None (codes "name") ≡ Ok (found.Column 1 at 0)
  unfolding find in_level only hit column_in is_among same_name
  finds_name shown may = rw there refl

  finds_value : (shown : List Output) (may : Bool) → find (inside shown may) None (codes "value") ≡ Ok (found.Column 1 at 1)
  unfolding find in_level only hit column_in is_among same_name
  finds_value shown may = rw there refl

  reads_name : (shown : List Output) (may : Bool) (budget : ℕ) (last : Carried) → column (inside shown may) None (codes "name") (left budget last) ≡ Ok (col 1 1, left budget by_text)
  unfolding column term_of column_at
  reads_name shown may budget last = rw (finds_name shown may, there) refl

  reads_value : (shown : List Output) (may : Bool) (budget : ℕ) (last : Carried) → column (inside shown may) None (codes "value") (left budget last) ≡ Ok (col 1 2, left budget by_text)
  unfolding column term_of column_at
  reads_value shown may budget last = rw (finds_value shown may, there) refl

  lowered : (again : Context → Expr → State → Checked (Term × State)) (e : Expr) (name : Name) (place : ℕ) (cx : Context) (budget : ℕ) (last : Carried) → Names e name → nat_lt 1 budget ≡ true
      → column cx None name (left (budget - 1) nothing) ≡ Ok (col 1 place, left (budget - 1) by_text) → node again cx e (left budget last) ≡ Ok (col 1 place, left (budget - 1) by_text)
  unfolding node spend begin opened finish passes
  lowered again e name place cx budget last is enough reads = rw (is, enough, reads) refl

  name_lowered : (e : Expr) (shown : List Output) (may : Bool) (budget : ℕ) (last : Carried) → Names e (codes "name") → nat_lt 1 budget ≡ true → lower (inside shown may) e (left budget last) ≡ Ok (col 1 1, left (budget - 1) by_text)
  unfolding lower_to
  name_lowered e shown may budget last is enough = lowered (lower_to 699) e (codes "name") 1 (inside shown may) budget last is enough (reads_name shown may (budget - 1) nothing)

  value_lowered : (e : Expr) (shown : List Output) (may : Bool) (budget : ℕ) (last : Carried) → Names e (codes "value") → nat_lt 1 budget ≡ true → lower (inside shown may) e (left budget last) ≡ Ok (col 1 2, left (budget - 1) by_text)
  unfolding lower_to
  value_lowered e shown may budget last is enough = lowered (lower_to 699) e (codes "value") 2 (inside shown may) budget last is enough (reads_value shown may (budget - 1) nothing)

  abbrev shows : Name → ℕ → Output
  shows name place = record { name = name; is_alias = false; is_column = true; term = col 1 place; carried = by_text }

  abbrev both : List Output
  both = shows (codes "name") 1 ∷ shows (codes "value") 2 ∷ []

  headed_name : (e : Expr) (text : Name) → Names e (codes "name") → heading (inside [] true) e text ≡ codes "name"
  unfolding heading declared
  headed_name e text is = rw (is, finds_name [] true, there) refl

  headed_value : (e : Expr) (text : Name) → Names e (codes "value") → heading (inside [] true) e text ≡ codes "value"
  unfolding heading declared
  headed_value e text is = rw (is, finds_value [] true, there) refl

  is_named : (e : Expr) (name : Name) → Names e name → is_column e ≡ true
  unfolding is_column
  is_named e name is = rw is refl

  module _ (again : Context → Expr → State → Checked (Term × State)) where
    one_shown : (done : List Output) (s : Shown) (e : Expr) (text name : Name) (place budget : ℕ) (last : Carried) → out-Shown s ≡ Shown-F.One e None text → Names e name → heading (inside [] true) e text ≡ name
        → again (inside [] true) e (left budget last) ≡ Ok (col 1 place, left (budget - 1) by_text)
        → shown again (inside [] true) (here ∷ []) done s (left budget last) ≡ Ok (done ++ shows name place ∷ [], left (budget - 1) by_text)
    unfolding shown
    one_shown done s e text name place budget last is names headed reads = rw (is, reads, headed, is_named e name names) refl

  module _ (s : Select) (it : IsOfSettings s) where
    abbrev core : Core
    core = (out-Select s).first

    abbrev order : List Sort
    order = (out-Select s).order

    resulted : result lower (outermost schema) (record { tables = here ∷ []; shown = [] }) core (left 100000 nothing) ≡ Ok (both, left 99998 by_text)
    unfolding result outputs
    resulted = rw (
      it.shown,
      one_shown lower [] it.first it.name it.name_text (codes "name") 1 100000 nothing it.first_is it.name_is (headed_name it.name it.name_text it.name_is) (name_lowered it.name [] true 100000 nothing it.name_is refl),
      one_shown lower (shows (codes "name") 1 ∷ []) it.second it.value it.value_text (codes "value") 2 99999 by_text it.second_is it.value_is (headed_value it.value it.value_text it.value_is) (value_lowered it.value [] true 99999 by_text it.value_is refl),
    ) refl

    joined : (cx : Context) (s : State) → cx.schema ≡ schema → joins lower cx (here ∷ []) (out-Core core).from s ≡ Ok (record { steps = Inner table.tree ∷ []; filter = [] }, s)
    unfolding joins join inner_join shared tests
    joined cx s is = rw (is, it.one.from, it.on, it.using, it.inner, there) refl

    matched : matching lower (outermost schema) (record { tables = here ∷ []; shown = both }) core (left 99998 by_text) ≡ Ok (record { steps = Inner table.tree ∷ []; filter = [] }, left 99998 by_text)
    unfolding matching tests
    matched = rw (joined (inside both false) (left 99998 by_text) refl, it.unfiltered) refl

    abbrev whole : Body
    whole = record { level = record { tables = here ∷ []; shown = both }; steps = Inner table.tree ∷ []; filter = [] }

    bodied : body lower (outermost schema) core (fresh 1 max_budget) ≡ Ok (whole, left 99998 by_text)
    unfolding body
    bodied = rw (it.one.from, is_bound it.one.source it.one.origin it.unnamed it.using, resulted, matched) refl

    sorted : sorts lower (inside both false) both order (left 99998 by_text) ≡ Ok ((col 1 1, ascending Binary) ∷ [], left 99997 by_text)
    unfolding sorts sort key alias_in peeled collation_of written_on placed is_numeral same_name alone
    sorted = rw (it.order, it.sort_is, it.sort_is, it.ascends, it.nulls, name_lowered (out-Sort it.sort).key both false 99998 by_text it.sort_is refl, it.sort_is) refl

    abbrev clauses : Clauses
    clauses = record { body = whole; is_grouped = false; keys = []; collations = []; having = []; order = (col 1 1, ascending Binary) ∷ [] }

    parted : parts schema core order (fresh 1 max_budget) ≡ Ok (clauses, left 99997 by_text)
    unfolding parts keys having tests
    parted = rw (bodied, it.ungrouped, it.unkept, sorted) refl

    resolves : resolved schema core order page ≡ Ok (draft table.tree, settings_names, Some Binary ∷ Some Binary ∷ [])
    unfolding resolved assembled ungrouped
    resolves = rw (parted, it.all) refl

    abbrev given : Draft × List Name × List (Option Collation)
    given = (draft table.tree, settings_names, Some Binary ∷ Some Binary ∷ [])

    viewed : (again : Schema → Select → List Let → Checked _) → alone_of again schema core order page [] ≡ Ok (given, [])
    unfolding alone_of single viewing
    viewed again = rw (it.one.from, sourced schema (codes "setting") again it.one.source it.one.origin, resolves) refl

    whole_is : (again : Schema → Select → List Let → Checked _) → whole_of again schema s [] ≡ Ok (given, [])
    unfolding whole_of
    whole_is again = rw (paged schema (codes "setting") s it.one, it.one.others, viewed again) refl

    level_is : (again : Schema → Select → List Let → Checked _) → level again schema s [] ≡ Ok (given, [])
    unfolding level with
    level_is again = rw (it.one.with, whole_is again) refl

    query_is : query schema s ≡ Ok (given, [])
    unfolding query query_to
    query_is = level_is (query_to 15)

    abbrev fits : Bool
    fits = accepts_program schema [] (settings_query table.tree) []

    reads_fit : (b : Bool) → and_then (typed b (record { lets = []; body = settings_query table.tree })) (λ p. Ok (SelectRows p settings_names)) ≡ typed b (SelectRows (record { lets = []; body = settings_query table.tree }) settings_names)
    reads_fit true = refl
    reads_fit false = refl

    read_is : read schema s ≡ typed fits (SelectRows (record { lets = []; body = settings_query table.tree }) settings_names)
    unfolding read program
    read_is = rw query_is (reads_fit fits)

-- ---- the text

-- the text is the query of the settings, and reads no clock
abbrev pub SelectsSettings : Checked Parsed → Type 0
SelectsSettings (Ok p) = Selects IsOfSettings p.statement × (p.formats ≡ [])
SelectsSettings (Err e) = ⊥

abbrev pub settings_command : ℕ → Command
settings_command tree = SelectRows (record { lets = []; body = settings_query tree }) settings_names

-- what is run reads the settings in this tree
pub record RunsSettings (tree : ℕ) (c : Compiled) : Type 0 where
  pub command : c.command ≡ settings_command tree
  pub returning : c.returning ≡ None
  pub formats : c.formats ≡ []

module _ (schema : Schema) (at : ℕ) (table : Table) (more : List Column) (named : table_named schema (codes "setting") ≡ Some at) (there : slice_get schema.tables at ≡ Some (with_settings table more)) where
  abbrev all_fit : Bool
  all_fit = accepts_program schema [] (settings_query table.tree) []

  abbrev plan : Plan
  plan = ([], (settings_command table.tree, None))

  plan_fits : (b : Bool) → and_then (and_then (typed b (settings_command table.tree)) (λ c. Ok (c, None))) (λ found. Ok ([], found)) ≡ typed b plan
  plan_fits true = refl
  plan_fits false = refl

  plan_is : (formats names : List Name) (s : Statement) → Selects IsOfSettings s → formats ≡ [] → plan_by schema formats names s ≡ typed all_fit plan
  plan_is formats names (written.Select s) it none = rw (read_is schema at table more named there s it, none) (plan_fits all_fit)
  plan_is formats names _ it none = absurd it

  planned_is : (p : Parsed) → Selects IsOfSettings p.statement → p.formats ≡ [] → planned schema p ≡ typed all_fit plan
  unfolding planned meaning returning command timed
  planned_is p it none = plan_is p.formats p.names p.statement it none

  compiled_fits : (p : Parsed) (b : Bool) → and_then (typed b plan) (λ plan. Ok (with_command p plan)) ≡ typed b (with_command p plan)
  compiled_fits p true = refl
  compiled_fits p false = refl

  compiles_by : (parsed : Checked Parsed) → SelectsSettings parsed → (c : Compiled) × RunsSettings table.tree c × (and_then parsed (λ p. and_then (planned schema p) (λ plan. Ok (with_command p plan))) ≡ typed all_fit c)
  compiles_by (Ok p) it = (with_command p plan, record { command = refl; returning = refl; formats = refl }, rw (planned_is p it.0 it.1) (compiled_fits p all_fit))
  compiles_by (Err e) none = absurd none

  compiles : (text : List ℕ) → SelectsSettings (first text) → (c : Compiled) × RunsSettings table.tree c × (compiled schema text ≡ typed all_fit c)
  unfolding compiled
  compiles text it = compiles_by (first text) it

  found_typed : (b : Bool) (c : Compiled) → misses_table (typed b c) ≡ false
  found_typed true c = refl
  found_typed false c = refl

  typed_is : (b : Bool) (c k : Compiled) → typed b c ≡ Ok k → c ≡ k
  typed_is true c k h = cc
  typed_is false c k h = absurd cc

  -- it reads no list of SQLite's own
  pub unlisted : (text : List ℕ) → SelectsSettings (first text) → reads_listing schema text ≡ false
  unlisted text it = let made = compiles text it in rw made.2 (found_typed all_fit made.0)

  pub understands_settings : (text : List ℕ) → SelectsSettings (first text) → (c : Compiled) → understood schema text ≡ Ok c → RunsSettings table.tree c
  unfolding understood
  understands_settings text it c h =
      let made = compiles text it in
      subst (RunsSettings table.tree) (typed_is all_fit made.0 c (sym made.2 ∙ rw (unlisted text it) at h)) made.1
