-- A query of a table that is not there.
use Rattle.std.proofs.Common.{◌≡◌, ℕ, negsuc, List, [], ◌∷◌, None, Ok, Err, refl}
use Rattle.sqlite_ast.specs.{declared.Statement.Statement, declared.Select.{Select, out-Select}, declared.Core.{Core, out-Core}, declared.Sort.Sort}
use Rattle.sqlite_ast.specs.declared.Source.{Source, out-Source}
use Rattle.sqlite_syntax.specs.declared.statement.Parsed.{Parsed}
use Rattle.sqlite_value.specs.declared.value.Value.TheVariants.{Int}
use Rattle.sqlite_sql.specs.Term.{Term, lit}
use Rattle.sqlite_resolve.specs.{Terms.number, declared.error.CompileError.CompileError, declared.error.CompileError.TheVariants.NoSuchTable, Scope.Name}
use Rattle.sqlite_resolve.specs.{Lowering.{Checked, and_then, fresh, max_budget, take_slot}, Body.{table_in, bound, bounds, body}}
use Rattle.sqlite_resolve.specs.Select.{parts, named, paging, constant_or}
use Rattle.sqlite_resolve.specs.Program.{source, sources, viewing, single, alone, whole, level, with, query_to, query}
use Rattle.sqlite_resolve.specs.Compile.{first, read, planned, meaning, returning, command, timed, compiled, with_command}
use Rattle.sqlite_schema.specs.{declared.schema.Schema.Schema, declared.program.Table.Table as Let, Names.{table_named, view_named}}
use Rattle.sqlite.specs.Listing.{understood, listing_schema}
use Rattle.office_tables.proofs.WritesLemmas.{plan_by}
use Rattle.sqlite_ast.specs.declared.Statement.TheVariants as written
use Rattle.sqlite_ast.specs.declared.Origin.TheVariants as origin

-- a SELECT from only one table, with no WITH and no LIMIT
pub record IsOfOne (name : Name) (s : Select) : Type 0 where
  pub with : (out-Select s).with ≡ []
  pub others : (out-Select s).others ≡ []
  pub limit : (out-Select s).limit ≡ None
  pub offset : (out-Select s).offset ≡ None
  pub source : Source
  pub from : (out-Core (out-Select s).first).from ≡ source ∷ []
  pub origin : (out-Source source).origin ≡ origin.Table name

-- the statement is a SELECT of this kind
abbrev pub Selects : (Select → Type 0) → Statement → Type 0
Selects Is (written.Select s) = Is s
Selects Is _ = ⊥

abbrev pub ParsedAs : (Select → Type 0) → Checked Parsed → Type 0
ParsedAs Is (Ok p) = Selects Is p.statement
ParsedAs Is (Err e) = ⊥

-- ---- what doesn't depend on the table

-- with no LIMIT and no OFFSET
abbrev pub page : Term × Term
page = (lit (Int (negsuc 0)), number 0)

module _ (schema : Schema) (name : Name) where
  pub sourced : (again : Schema → Select → List Let → Checked _) (s : Source) → (out-Source s).origin ≡ origin.Table name → sources again schema (s ∷ []) [] ≡ Ok (schema, [])
  unfolding sources source
  sourced again s is = rw is refl

  pub paged : (s : Select) → IsOfOne name s → paging schema s ≡ Ok page
  unfolding paging constant_or
  paged s one = rw (one.limit, one.offset) refl

-- ---- a table that is not there

module _ (schema : Schema) (name : Name) (no_table : table_named schema name ≡ None) (no_view : view_named schema name ≡ None) where
  missing : (slot : ℕ) → table_in schema slot (origin.Table name) ≡ Err NoSuchTable
  unfolding table_in
  missing slot = rw (no_table, no_view) refl

  bounds_fail : (s : Source) → (out-Source s).origin ≡ origin.Table name → bounds schema (s ∷ []) (fresh 1 max_budget) ≡ Err NoSuchTable
  unfolding bounds bound take_slot
  bounds_fail s is = rw (is, missing 1) refl

  named_fails : (core : Core) (s : Source) (order : List Sort) (p : Term × Term) → (out-Core core).from ≡ s ∷ [] → (out-Source s).origin ≡ origin.Table name → named schema core order p ≡ Err NoSuchTable
  unfolding named parts body
  named_fails core s order p from is = rw (from, bounds_fail s is) refl

  alone_fails : (again : Schema → Select → List Let → Checked _) (core : Core) (s : Source) (order : List Sort) (p : Term × Term) → (out-Core core).from ≡ s ∷ [] → (out-Source s).origin ≡ origin.Table name → alone again schema core order p [] ≡ Err NoSuchTable
  unfolding alone single viewing
  alone_fails again core s order p from is = rw (from, sourced schema name again s is, named_fails core s order p from is) refl

  pub table_fails : (again : Schema → Select → List Let → Checked _) (s : Select) → IsOfOne name s → alone again schema (out-Select s).first (out-Select s).order page [] ≡ Err NoSuchTable
  table_fails again s one = alone_fails again (out-Select s).first one.source (out-Select s).order page one.from one.origin

-- ---- where the one SELECT fails, the text does

module _ (schema : Schema) (name : Name) (Is : Select → Type 0) (one : (s : Select) → Is s → IsOfOne name s) (e : CompileError)
    (fails : (again : Schema → Select → List Let → Checked _) (s : Select) → Is s → alone again schema (out-Select s).first (out-Select s).order page [] ≡ Err e) where
  whole_fails : (again : Schema → Select → List Let → Checked _) (s : Select) → Is s → whole again schema s [] ≡ Err e
  unfolding whole
  whole_fails again s is = rw (paged schema name s (one s is), (one s is).others, fails again s is) refl

  level_fails : (again : Schema → Select → List Let → Checked _) (s : Select) → Is s → level again schema s [] ≡ Err e
  unfolding level with
  level_fails again s is = rw ((one s is).with, whole_fails again s is) refl

  query_fails : (s : Select) → Is s → query schema s ≡ Err e
  unfolding query query_to
  query_fails s is = level_fails (query_to 15) s is

  read_fails : (s : Select) → Is s → read schema s ≡ Err e
  unfolding read
  read_fails s is = rw (query_fails s is) refl

  plan_fails : (formats names : List Name) (s : Statement) → Selects Is s → plan_by schema formats names s ≡ Err e
  plan_fails formats names (written.Select s) is = rw (read_fails s is) refl
  plan_fails formats names _ none = absurd none

  planned_fails : (p : Parsed) → Selects Is p.statement → planned schema p ≡ Err e
  unfolding planned meaning returning command timed
  planned_fails p is = plan_fails p.formats p.names p.statement is

  compiled_by_fails : (parsed : Checked Parsed) → ParsedAs Is parsed → and_then parsed (λ p. and_then (planned schema p) (λ plan. Ok (with_command p plan))) ≡ Err e
  compiled_by_fails (Ok p) is = rw (planned_fails p is) refl
  compiled_by_fails (Err e) none = absurd none

  pub compiled_fails : (text : List ℕ) → ParsedAs Is (first text) → compiled schema text ≡ Err e
  unfolding compiled
  compiled_fails text is = compiled_by_fails (first text) is

module _ (name : Name) (unlisted : table_named listing_schema name ≡ None) (not_viewed : view_named listing_schema name ≡ None) where
  missing_fails : (schema : Schema) → table_named schema name ≡ None → view_named schema name ≡ None → (text : List ℕ) → ParsedAs (IsOfOne name) (first text) → compiled schema text ≡ Err NoSuchTable
  missing_fails schema no_table no_view text is = compiled_fails schema name (IsOfOne name) (λ s one. one) NoSuchTable (table_fails schema name no_table no_view) text is

  -- a query of one table that is not there, and is none of SQLite's own, isn't understood
  pub not_understood : (schema : Schema) → table_named schema name ≡ None → view_named schema name ≡ None → (text : List ℕ) → ParsedAs (IsOfOne name) (first text) → understood schema text ≡ Err NoSuchTable
  unfolding understood
  not_understood schema no_table no_view text is = rw (missing_fails schema no_table no_view text is, missing_fails listing_schema unlisted not_viewed text is) refl
