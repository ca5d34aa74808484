-- The query of the settings, where the table of that name lacks one of the two columns.
use Rattle.std.{specs.{Str.bytes_eq, List.{AllZip, AllByRecursion}, Prelude.sum_by, Cmp.IsTotalOrder, Ordering.ordering_reverse}, proofs.lemmas.List.take_more}
use Rattle.std.proofs.Common.{◌≡◌, ◌⊎◌, ℕ, ◌-◌, nat_lt, true, false, List, [], ◌∷◌, slice_get, codes, Option, Some, None, Ok, Err, inl, inr, refl, Bool, ◌&&◌, if◌then◌else◌, IsTrue, sym, ap, subst, ◌∙◌, ◌+◌, ◌<◌, ◌++◌, length, take, get_or, ◌≤◌, cond, ap₂, arith, Ordering, Less, Equal, Greater, is_gt, is_eq, map}
use Rattle.std.proofs.{lemmas.Slice.Eq.bytes_eq-Decides, lemmas.Cmp.{tied_itself, alike_right}, lemmas.List.Sums.sum_by-cons}
use Rattle.sqlite_ast.specs.{declared.Expr.Expr, declared.Expr.TheOpen.Shown-F, declared.Shown.{Shown, out-Shown}, declared.Select.{Select, out-Select}}
use Rattle.sqlite_ast.specs.{declared.Core.Core, declared.Source.{Source, out-Source}}
use Rattle.sqlite_sql.specs.Term.{Term, col}
use Rattle.sqlite_schema.specs.{declared.schema.Schema.Schema, declared.schema.Table.Table, declared.schema.Column.Column, declared.program.Table.Table as Let}
use Rattle.sqlite_schema.specs.Names.{table_named, column_named, place_of, same_name}
use Rattle.sqlite_resolve.specs.{declared.error.CompileError.TheVariants.NoSuchColumn, declared.state.State.State, declared.state.Carried.Carried}
use Rattle.sqlite_resolve.specs.{declared.scope.Bound.Bound, declared.scope.Output.Output, declared.scope.Level.Level, Program.{viewing, single, alone}}
use Rattle.sqlite_resolve.specs.{Lowering.{Checked, fresh, max_budget, take_slot, nothing, spend, begin, finish}, Expr.{lower, lower_to, node, opened, passes}}
use Rattle.sqlite_resolve.specs.Scope.{Name, Context, find, column_in, hit, only, in_level, is_among, is_rowid, column, term_of, column_at, declared}
use Rattle.sqlite_resolve.specs.{Body.{table_in, bound, bounds, outputs, shown, heading, is_column, result, body}, Select.{outermost, parts, named as resolved}}
use Rattle.sqlite_resolve.specs.Compile.{first}
use Rattle.sqlite.specs.{Listing.understood, declared.types.Value.Value, declared.types.Value.TheVariants.Text}
use Rattle.office_loading.specs.{Decoded.{IsSaid, Fails, FailsOne}, Columns.{SaysContainer, SaysSize, SaysMoment}, OwnOffice.{ComesAfter, AreInOrder}}
use Rattle.office_loading.proofs.{MissingLemmas.{ParsedAs, page, sourced, compiled_fails, IsOfOne}, SettingQuery.{IsOfSettings, Names, SelectsSettings}}
use Rattle.sqlite_tied.specs.Compute.{everything}
use Rattle.office_tables.{specs.{Reading.OnlyShows, declared.table_fault.TableFault.TableFault}, proofs.WritesLemmas.{is_read, understands_query}}
use Rattle.office_tables.specs.declared.table_fault.TableFault.TheVariants.{Store, Damaged, Version, Memory}
use Rattle.box6346.specs.{ContainerNumber.number_of, SizeCode.size_of, declared.box_number.NumberFault.NumberFault, declared.size_type.SizeFault.SizeFault}
use Rattle.edi_syntax.specs.Moments.{CivilMoment, moment_of, moment_digits}
use Rattle.sqlite_trees.specs.Tree.{IsAscending}
use Rattle.sqlite_rules.specs.Lists.{Has}
use Rattle.office_rows.specs.{Rows.Interchange, Opened.{NumberKept, number_kept}}
use Rattle.sqlite_ast.specs.declared.Origin.TheVariants as origin
use Rattle.sqlite_resolve.specs.declared.scope.Found.TheVariants as found
use Rattle.office_rows.proofs.Reading as texts
use Rattle.office_rows.proofs.BareReading as bare_texts
use Rattle.box6346.specs.NumberText as container
use Rattle.box6346.specs.SizeText as size

module _ (schema : Schema) (at : ℕ) (table : Table) (named : table_named schema (codes "setting") ≡ Some at) (there : slice_get schema.tables at ≡ Some table) where
  abbrev here : Bound
  here = record { name = codes "setting"; table = at; slot = 1; shared = [] }

  abbrev inside : Context
  inside = record { schema = schema; levels = record { tables = here ∷ []; shown = [] } ∷ []; may_aggregate = true; may_alias = true }

  abbrev left : ℕ → Carried → State
  left budget last = record (fresh 2 budget) { last = last }

  is_bound : (s : Source) → (out-Source s).origin ≡ origin.Table (codes "setting") → (out-Source s).alias ≡ None → (out-Source s).using ≡ [] → bounds schema (s ∷ []) (fresh 1 max_budget) ≡ Ok (here ∷ [], left max_budget nothing)
  unfolding bounds bound take_slot table_in
  is_bound s is unnamed plain = rw (is, named, unnamed, plain) refl

  -- ---- a name that no column has, and that isn't the rowid's

  not_found : (name : Name) → is_rowid name ≡ false → column_named table name ≡ None → find inside None name ≡ Err NoSuchColumn
  unfolding find in_level only hit column_in is_among
  not_found name plain none = rw (there, none, plain) refl

  not_read : (name : Name) (s : State) → is_rowid name ≡ false → column_named table name ≡ None → column inside None name s ≡ Err NoSuchColumn
  unfolding column
  not_read name s plain none = rw (not_found name plain none) refl

  not_lowered : (again : Context → Expr → State → Checked (Term × State)) (e : Expr) (name : Name) (budget : ℕ) (last : Carried) → Names e name → nat_lt 1 budget ≡ true → is_rowid name ≡ false → column_named table name ≡ None
      → node again inside e (left budget last) ≡ Err NoSuchColumn
  unfolding node spend begin opened
  not_lowered again e name budget last is enough plain none = rw (is, enough, not_read name (left (budget - 1) nothing) plain none) refl

  not_shown : (done : List Output) (s : Shown) (e : Expr) (text name : Name) (budget : ℕ) (last : Carried) → out-Shown s ≡ Shown-F.One e None text → Names e name → nat_lt 1 budget ≡ true → is_rowid name ≡ false → column_named table name ≡ None
      → shown lower inside (here ∷ []) done s (left budget last) ≡ Err NoSuchColumn
  unfolding shown lower_to
  not_shown done s e text name budget last is names enough plain none = rw (is, not_lowered (lower_to 699) e name budget last names enough plain none) refl

  -- ---- a name that a column has

  abbrev Goes : Checked (List Output × State) → ℕ → Type 0
  Goes r budget = (r ≡ Err NoSuchColumn) ⊎ ((o : List Output) × (last : Carried) × (r ≡ Ok (o, left budget last)))

  abbrev Reads : Checked (Term × State) → ℕ → Type 0
  Reads r budget = (r ≡ Err NoSuchColumn) ⊎ ((t : Term) × (last : Carried) × (r ≡ Ok (t, left budget last)))

  is_found : (name : Name) (k : ℕ) → column_named table name ≡ Some k → find inside None name ≡ Ok (found.Column 1 at k)
  unfolding find in_level only hit column_in is_among
  is_found name k some = rw (there, some) refl

  column_read : (k budget : ℕ) (c : Option Column) → slice_get table.columns k ≡ c → Reads (term_of inside (found.Column 1 at k) (left budget nothing)) budget
  unfolding term_of column_at
  column_read k budget None is = inl (rw (there, is) refl)
  column_read k budget (Some c) is = inr (col 1 (place_of table k), declared table k c, rw (there, is) refl)

  name_read : (name : Name) (k budget : ℕ) → column_named table name ≡ Some k → Reads (column inside None name (left budget nothing)) budget
  unfolding column
  name_read name k budget some = rw (is_found name k some) (column_read k budget (slice_get table.columns k) refl)

  goes_lowered : (again : Context → Expr → State → Checked (Term × State)) (e : Expr) (name : Name) (budget : ℕ) (last : Carried) → Names e name → nat_lt 1 budget ≡ true
      → Reads (column inside None name (left (budget - 1) nothing)) (budget - 1) → Reads (node again inside e (left budget last)) (budget - 1)
  unfolding node spend begin opened finish passes
  goes_lowered again e name budget last is enough (inl fails) = inl (rw (is, enough, fails) refl)
  goes_lowered again e name budget last is enough (inr (t, then_last, read)) = inr (t, then_last, rw (is, enough, read) refl)

  goes_shown : (s : Shown) (e : Expr) (text : Name) (budget : ℕ) (last : Carried) → out-Shown s ≡ Shown-F.One e None text → Reads (lower inside e (left budget last)) (budget - 1) → Goes (shown lower inside (here ∷ []) [] s (left budget last)) (budget - 1)
  unfolding shown
  goes_shown s e text budget last is (inl fails) = inl (rw (is, fails) refl)
  goes_shown s e text budget last is (inr (t, then_last, read)) =
      inr (record { name = heading inside e text; is_alias = false; is_column = is_column e; term = t; carried = then_last } ∷ [], then_last, rw (is, read) refl)

  -- ---- the query

  module _ (lacks : (column_named table (codes "name") ≡ None) ⊎ (column_named table (codes "value") ≡ None)) (s : Select) (it : IsOfSettings s) where
    abbrev core : Core
    core = (out-Select s).first

    abbrev level : Level
    level = record { tables = here ∷ []; shown = [] }

    no_name : column_named table (codes "name") ≡ None → result lower (outermost schema) level core (left 100000 nothing) ≡ Err NoSuchColumn
    unfolding result outputs is_rowid same_name
    no_name none = rw (it.shown, not_shown [] it.first it.name it.name_text (codes "name") 100000 nothing it.first_is it.name_is refl refl none) refl

    no_value_after : column_named table (codes "value") ≡ None → Goes (shown lower inside (here ∷ []) [] it.first (left 100000 nothing)) 99999 → result lower (outermost schema) level core (left 100000 nothing) ≡ Err NoSuchColumn
    unfolding result outputs is_rowid same_name
    no_value_after none (inl fails) = rw (it.shown, fails) refl
    no_value_after none (inr (o, last, goes)) = rw (it.shown, goes, not_shown o it.second it.value it.value_text (codes "value") 99999 last it.second_is it.value_is refl refl none) refl

    no_value : (c : Option ℕ) → column_named table (codes "name") ≡ c → column_named table (codes "value") ≡ None → result lower (outermost schema) level core (left 100000 nothing) ≡ Err NoSuchColumn
    unfolding lower_to
    no_value None is none = no_name is
    no_value (Some k) is none =
        no_value_after none (goes_shown it.first it.name it.name_text 100000 nothing it.first_is (goes_lowered (lower_to 699) it.name (codes "name") 100000 nothing it.name_is refl (name_read (codes "name") k 99999 is)))

    result_fails : result lower (outermost schema) level core (left 100000 nothing) ≡ Err NoSuchColumn
    result_fails = elim lacks [ inl none ↦ no_name none | inr none ↦ no_value (column_named table (codes "name")) refl none ]

    body_fails : body lower (outermost schema) core (fresh 1 max_budget) ≡ Err NoSuchColumn
    unfolding body
    body_fails = rw (it.one.from, is_bound it.one.source it.one.origin it.unnamed it.using, result_fails) refl

    named_fails : resolved schema core (out-Select s).order page ≡ Err NoSuchColumn
    unfolding resolved parts
    named_fails = rw body_fails refl

    column_fails : (again : Schema → Select → List Let → Checked _) → alone again schema core (out-Select s).order page [] ≡ Err NoSuchColumn
    unfolding alone single viewing
    column_fails again = rw (it.one.from, sourced schema (codes "setting") again it.one.source it.one.origin, named_fails) refl

  -- where a column is missing, the query isn't understood
  pub lacking_fails : (column_named table (codes "name") ≡ None) ⊎ (column_named table (codes "value") ≡ None) → (text : List ℕ) → ParsedAs IsOfSettings (first text) → understood schema text ≡ Err NoSuchColumn
  unfolding understood
  lacking_fails lacks text is = rw (compiled_fails schema (codes "setting") IsOfSettings (λ s it. it.one) NoSuchColumn (λ again s it. column_fails lacks s it again) text is) refl

-- ==== QueryTexts: The texts are queries, under any schema.

partner_read : is_read (first texts.select_partner) ≡ true
unfolding everything
partner_read = refl

pub partner_shows : OnlyShows texts.select_partner
partner_shows schema c is = understands_query schema texts.select_partner c partner_read is

interchange_read : is_read (first texts.select_interchange) ≡ true
unfolding everything
interchange_read = refl

pub interchange_shows : OnlyShows texts.select_interchange
interchange_shows schema c is = understands_query schema texts.select_interchange c interchange_read is

visit_read : is_read (first texts.select_visit) ≡ true
unfolding everything
visit_read = refl

pub visit_shows : OnlyShows texts.select_visit
visit_shows schema c is = understands_query schema texts.select_visit c visit_read is

bare_visit_read : is_read (first bare_texts.select_visit) ≡ true
unfolding everything
bare_visit_read = refl

pub bare_visit_shows : OnlyShows bare_texts.select_visit
bare_visit_shows schema c is = understands_query schema bare_texts.select_visit c bare_visit_read is

place_read : is_read (first texts.select_place) ≡ true
unfolding everything
place_read = refl

pub place_shows : OnlyShows texts.select_place
place_shows schema c is = understands_query schema texts.select_place c place_read is

listed_read : is_read (first texts.select_listed) ≡ true
unfolding everything
listed_read = refl

pub listed_shows : OnlyShows texts.select_listed
listed_shows schema c is = understands_query schema texts.select_listed c listed_read is

setting_read : is_read (first texts.select_setting) ≡ true
unfolding everything
setting_read = refl

pub setting_shows : OnlyShows texts.select_setting
setting_shows schema c is = understands_query schema texts.select_setting c setting_read is

block_read : is_read (first texts.select_block) ≡ true
unfolding everything
block_read = refl

pub block_shows : OnlyShows texts.select_block
block_shows schema c is = understands_query schema texts.select_block c block_read is

pub setting_one : ParsedAs (IsOfOne (codes "setting")) (first texts.select_setting)
unfolding everything
setting_one = record { with = refl; others = refl; limit = refl; offset = refl; source = _; from = refl; origin = refl }

pub setting_selects : SelectsSettings (first texts.select_setting)
unfolding everything
setting_selects = (
  record {
    one = record { with = refl; others = refl; limit = refl; offset = refl; source = _; from = refl; origin = refl };
    unnamed = refl;
    using = refl;
    on = refl;
    inner = refl;
    first = _;
    second = _;
    shown = refl;
    name = _;
    name_text = _;
    first_is = refl;
    name_is = refl;
    value = _;
    value_text = _;
    second_is = refl;
    value_is = refl;
    all = refl;
    unfiltered = refl;
    ungrouped = refl;
    unkept = refl;
    sort = _;
    order = refl;
    sort_is = refl;
    ascends = refl;
    nulls = refl;
  },
  refl,
)

-- ==== ColumnLemmas: What a column of a text says.

chosen : {E : Type 0} (f k : Bool) (text read : List ℕ) (e d : E) → Ok read ≡ (if f then (if k then Ok text else Err d) else Err e) → (read ≡ text) × IsTrue (f && k)
chosen true true text read e d is = let same : read ≡ text = cc in (same, refl)
chosen true false text read e d is = absurd cc
chosen false k text read e d is = absurd cc

refused : {E : Type 0} (f k : Bool) (text : List ℕ) (e d fault : E) → Err fault ≡ (if f then (if k then Ok text else Err d) else Err e) → ¬ IsTrue (f && k)
refused true true text e d fault is = λ yes. absurd cc
refused true false text e d fault is = λ yes. absurd cc
refused false k text e d fault is = λ yes. absurd cc

pub container_read : (value : Value) (text read : List ℕ) → value ≡ Text text → Ok read ≡ number_of text → SaysContainer value read
unfolding number_of container.is_number
container_read value text read said is =
    let p = chosen (container.has_form text) (container.is_checked text) text read _ _ is in
    (said ∙ (λ i. Text (sym p.0 i)), subst (λ t. IsTrue (container.is_number t)) (sym p.0) p.1)

pub container_refused : (value : Value) (text : List ℕ) (fault : NumberFault) → value ≡ Text text → Err fault ≡ number_of text → ¬ IsSaid SaysContainer value
unfolding number_of container.is_number
container_refused value text fault said is (b, says) =
    let same : b ≡ text = let e = says.0 in cc in
    refused (container.has_form text) (container.is_checked text) text _ _ fault is (subst (λ t. IsTrue (container.is_number t)) same says.1)

pub size_read : (value : Value) (text read : List ℕ) → value ≡ Text text → Ok read ≡ size_of text → SaysSize value read
unfolding size_of size.is_size
size_read value text read said is =
    let p = chosen (size.has_form text) (size.has_length text) text read _ _ is in
    (said ∙ (λ i. Text (sym p.0 i)), subst (λ t. IsTrue (size.is_size t)) (sym p.0) p.1)

pub size_refused : (value : Value) (text : List ℕ) (fault : SizeFault) → value ≡ Text text → Err fault ≡ size_of text → ¬ IsSaid SaysSize value
unfolding size_of size.is_size
size_refused value text fault said is (b, says) =
    let same : b ≡ text = let e = says.0 in cc in
    refused (size.has_form text) (size.has_length text) text _ _ fault is (subst (λ t. IsTrue (size.is_size t)) same says.1)

pub moment_read : (value : Value) (text digits : List ℕ) (moment : CivilMoment) → value ≡ Text text → digits ≡ moment_digits moment → moment_of digits ≡ Some moment
    → true ≡ bytes_eq digits text → SaysMoment value moment
moment_read value text digits moment said written read same =
    let is : digits ≡ text = (bytes_eq-Decides digits text).0 (sym same) in
    (said ∙ ap Text (sym is ∙ written), ap moment_of (sym written) ∙ read)

pub moment_refused : (value : Value) (text digits : List ℕ) (moment : CivilMoment) → value ≡ Text text → digits ≡ moment_digits moment → Some moment ≡ moment_of text
    → false ≡ bytes_eq digits text → ¬ IsSaid SaysMoment value
moment_refused value text digits moment said written parsed other (m, says) =
    let is : text ≡ moment_digits m = let e = says.0 in cc in
    let read = says.1 in
    let one : Some moment ≡ Some m = parsed ∙ ap moment_of is ∙ read in
    let m_is : moment ≡ m = cc in
    let same : digits ≡ text = written ∙ ap moment_digits m_is ∙ sym is in
    let yes = (bytes_eq-Decides digits text).1 same in
    absurd cc

-- ==== DecodeLemmas: From one row to all of them.

pub zip_push : {A B : Type 0} (R : A → B → Type 0) (xs : List A) (ys : List B) (x : A) (y : B) → AllZip R xs ys → R x y → AllZip R (xs ++ x ∷ []) (ys ++ y ∷ [])
zip_push R [] [] x y all one = (one, all)
zip_push R [] (b ∷ ys) x y all one = absurd all
zip_push R (a ∷ xs) [] x y all one = absurd all
zip_push R (a ∷ xs) (b ∷ ys) x y all one = (all.0, zip_push R xs ys x y all.1 one)

pub read_more : {A B : Type 0} (R : A → B → Type 0) (rows : List A) (read more : List B) (i : ℕ) (row : A) (one : B) → i < length rows → row ≡ get_or rows i row → AllZip R (take i rows) read
    → R row one → more ≡ read ++ one ∷ [] → AllZip R (take (i + 1) rows) more
read_more R rows read more i row one within is all says pushed =
    let longer : take (i + 1) rows ≡ take i rows ++ row ∷ [] = take_more rows i row within ∙ ap (λ r. take i rows ++ r ∷ []) (sym is) in
    subst (λ l. AllZip R l more) (sym longer) (subst (AllZip R (take i rows ++ row ∷ [])) (sym pushed) (zip_push R (take i rows) read row one all says))

pub all_refused : {A : Type 0} (is_said : A → Type 0) (rows : List A) (i : ℕ) (row : A) (fault : TableFault) → i < length rows → row ≡ get_or rows i row → Fails is_said row fault → FailsOne is_said rows fault
all_refused is_said rows i row Damaged within is h = (row, (i, within, sym is), h)
all_refused is_said rows i row Memory within is h = h
all_refused is_said rows i row Version within is h = h
all_refused is_said rows i row (Store error) within is h = h

-- the same of what a part of a row says
pub one_refused : {A B : Type 0} (part : A → B) (is_said : B → Type 0) (rows : List A) (i : ℕ) (row : A) (fault : TableFault) → i < length rows → row ≡ get_or rows i row → Fails is_said (part row) fault → FailsOne (λ r. is_said (part r)) rows fault
one_refused part is_said rows i row Damaged within is h = (row, (i, within, sym is), h)
one_refused part is_said rows i row Memory within is h = h
one_refused part is_said rows i row Version within is h = h
one_refused part is_said rows i row (Store error) within is h = h

-- ==== OrderLemmas: Two lists in order, of the same elements, are one.

sum_none : {X : Type 0} (f : X → ℕ) (xs : List X) → ((x : X) → Has xs x → f x ≡ 0) → sum_by f xs ≡ 0
sum_none f [] none = refl
sum_none f (x ∷ xs) none =
    let first : f x ≡ 0 = none x (inl refl) in
    let rest : sum_by f xs ≡ 0 = sum_none f xs (λ y h. none y (inr h)) in
    omega (arith, sum_by-cons f x xs)

pub all_in : {X : Type 0} (P : X → Type 0) (xs : List X) (x : X) → AllByRecursion P xs → Has xs x → P x
all_in P [] x all has = absurd has
all_in P (y ∷ ys) x all (inl same) = subst P (sym same) all.0
all_in P (y ∷ ys) x all (inr later) = all_in P ys x all.1 later

module _ {X : Type 0} (cmp : X → X → Ordering) (total : IsTotalOrder cmp) where
  abbrev pub AtMost : X → X → Type 0
  AtMost a b = is_gt (cmp a b) ≡ false

  less_than : (x y z : X) → cmp x y ≡ Less → AtMost y z → cmp x z ≡ Less
  less_than x y z low most = by_case (cmp y z) refl most
    where
      by_case : (o : Ordering) → cmp y z ≡ o → is_gt o ≡ false → cmp x z ≡ Less
      by_case Less is h = total.trans x y z low is
      by_case Equal is h = sym (alike_right total y z x is) ∙ low
      by_case Greater is h = absurd cc

  tied_to : X → X → ℕ
  tied_to x z = cond (is_eq (cmp x z)) 1 0

  none_tied : (x y : X) (ys : List X) → cmp x y ≡ Less → AllByRecursion (AtMost y) ys → sum_by (tied_to x) (y ∷ ys) ≡ 0
  unfolding tied_to
  none_tied x y ys low up = sum_none (tied_to x) (y ∷ ys) (λ z has. elim has [
    | inl same ↦ ap (λ o. cond (is_eq o) 1 0) (ap (cmp x) same ∙ low)
    | inr later ↦ ap (λ o. cond (is_eq o) 1 0) (less_than x y z low (all_in (AtMost y) ys z up later))
  ])

  one_tied : (x : X) (xs : List X) → 1 ≤ sum_by (tied_to x) (x ∷ xs)
  unfolding tied_to
  one_tied x xs =
      let one : tied_to x x ≡ 1 = ap (λ o. cond (is_eq o) 1 0) (tied_itself total x) in
      omega (arith, sum_by-cons (tied_to x) x xs)

  pub one_order : (xs ys : List X) → IsAscending AtMost xs → IsAscending AtMost ys → ((f : X → ℕ) → sum_by f xs ≡ sum_by f ys)
      → ((x y : X) → Has xs x → Has ys y → cmp x y ≡ Equal → x ≡ y) → xs ≡ ys
  one_order [] [] up down sums ties = refl
  one_order [] (y ∷ ys) up down sums ties = absurd (let s = sums (λ _. 1) in omega (arith, sum_by-cons (λ (z : X). 1) y ys))
  one_order (x ∷ xs) [] up down sums ties = absurd (let s = sums (λ _. 1) in omega (arith, sum_by-cons (λ (z : X). 1) x xs))
  one_order (x ∷ xs) (y ∷ ys) up down sums ties = by_case (λ rest. one_order xs ys up.1 down.1 rest (λ a b p q. ties a b (inr p) (inr q))) (cmp x y) refl
    where
      by_case : (((f : X → ℕ) → sum_by f xs ≡ sum_by f ys) → xs ≡ ys) → (o : Ordering) → cmp x y ≡ o → x ∷ xs ≡ y ∷ ys
      by_case later Less is = absurd (omega (arith, sums (tied_to x), one_tied x xs, none_tied x y ys is down.0))
      by_case later Greater is =
          let back : cmp y x ≡ Less = total.antisymm y x ∙ ap ordering_reverse is in
          absurd (omega (arith, sums (tied_to y), one_tied y ys, none_tied y x xs back up.0))
      by_case later Equal is =
          let same : x ≡ y = ties x y (inl refl) (inl refl) is in
          let rest : (f : X → ℕ) → sum_by f xs ≡ sum_by f ys = λ f. let e : f x ≡ f y = ap f same in omega (arith, sums f, sum_by-cons f x xs, sum_by-cons f y ys) in
          ap₂ (λ a l. a ∷ l) same (later rest)

  -- in a list whose elements rise no two are tied
  pub rising_ties : (xs : List X) → IsAscending (λ a b. cmp a b ≡ Less) xs → (x y : X) → Has xs x → Has xs y → cmp x y ≡ Equal → x ≡ y
  rising_ties [] up x y p q tied = absurd p
  rising_ties (z ∷ zs) up x y (inl p) (inl q) tied = p ∙ sym q
  rising_ties (z ∷ zs) up x y (inl p) (inr q) tied = absurd (let low = all_in (λ b. cmp z b ≡ Less) zs y up.0 q in cc)
  rising_ties (z ∷ zs) up x y (inr p) (inl q) tied = absurd (let low = all_in (λ b. cmp z b ≡ Less) zs x up.0 p in let turned = total.antisymm x y in cc)
  rising_ties (z ∷ zs) up x y (inr p) (inr q) tied = rising_ties zs up.1 x y p q tied

-- ==== NumberLemmas: The interchanges of an office are in the order of partner and number.

abbrev Before : NumberKept → NumberKept → Type 0
Before a b = (a.partner < b.partner) ⊎ ((a.partner ≡ b.partner) × (a.number < b.number))

pub all_from : {X : Type 0} (P : X → Type 0) (xs : List X) → ((x : X) → Has xs x → P x) → AllByRecursion P xs
all_from P [] h = tt
all_from P (x ∷ xs) h = (h x (inl refl), all_from P xs (λ y p. h y (inr p)))

all_weaker : {X : Type 0} (P Q : X → Type 0) (xs : List X) → ((x : X) → P x → Q x) → AllByRecursion P xs → AllByRecursion Q xs
all_weaker P Q [] f h = tt
all_weaker P Q (x ∷ xs) f h = (f x h.0, all_weaker P Q xs f h.1)

abbrev After : (partner number : ℕ) → NumberKept → Type 0
After partner number n = (partner < n.partner) ⊎ ((partner ≡ n.partner) × (number < n.number))

after_of : (partner number : ℕ) (n : NumberKept) → ComesAfter partner number n → After partner number n
after_of partner number n (inl near) = inr (sym near.0, near.1)
after_of partner number n (inr far) = inl far.0

after_both : (partner number : ℕ) (n m : NumberKept) → After partner number n → After n.partner n.number m → After partner number m
after_both partner number n m (inl far) (inl on) = inl (omega (arith, far, on))
after_both partner number n m (inl far) (inr on) = inl (omega (arith, far, on.0))
after_both partner number n m (inr near) (inl on) = inl (omega (arith, near.0, on))
after_both partner number n m (inr near) (inr on) = inr (near.0 ∙ on.0, omega (arith, near.1, on.1))

order_rise : (count partner number : ℕ) (numbers : List NumberKept) → AreInOrder count partner number numbers → AllByRecursion (After partner number) numbers × IsAscending Before numbers
order_rise count partner number [] order = (tt, tt)
order_rise count partner number (n ∷ numbers) order =
    let first = after_of partner number n order.0.0 in
    let rest = order_rise count n.partner n.number numbers order.1 in
    ((first, all_weaker (After n.partner n.number) (After partner number) numbers (λ m later. after_both partner number n m first later) rest.0), (rest.0, rest.1))

mapped_below : (i : Interchange) (is : List Interchange) (j : Interchange) → AllByRecursion (Before (number_kept i)) (map number_kept is) → Has is j → Before (number_kept i) (number_kept j)
mapped_below i [] j all has = absurd has
mapped_below i (k ∷ is) j all (inl same) = subst (λ l. Before (number_kept i) (number_kept l)) (sym same) all.0
mapped_below i (k ∷ is) j all (inr later) = mapped_below i is j all.1 later

apart : (i j : Interchange) → Before (number_kept i) (number_kept j) → i.partner ≡ j.partner → i.number ≡ j.number → ⊥
apart i j (inl low) p n = omega arith
apart i j (inr low) p n = omega (arith, low.1)

differ : (is : List Interchange) → IsAscending Before (map number_kept is) → (i j : Interchange) → Has is i → Has is j → i.partner ≡ j.partner → i.number ≡ j.number → i ≡ j
differ [] up i j p q partner number = absurd p
differ (k ∷ is) up i j (inl p) (inl q) partner number = p ∙ sym q
differ (k ∷ is) up i j (inl p) (inr q) partner number = absurd (apart i j (subst (λ l. Before (number_kept l) (number_kept j)) (sym p) (mapped_below k is j up.0 q)) partner number)
differ (k ∷ is) up i j (inr p) (inl q) partner number = absurd (apart j i (subst (λ l. Before (number_kept l) (number_kept i)) (sym q) (mapped_below k is i up.0 p)) (sym partner) (sym number))
differ (k ∷ is) up i j (inr p) (inr q) partner number = differ is up.1 i j p q partner number

pub interchanges_differ : (count : ℕ) (numbers : List NumberKept) (is : List Interchange) → AreInOrder count 1 0 numbers → numbers ≡ map number_kept is
    → (i j : Interchange) → Has is i → Has is j → i.partner ≡ j.partner → i.number ≡ j.number → i ≡ j
interchanges_differ count numbers is order same = differ is (subst (IsAscending Before) same (order_rise count 1 0 numbers order).1)
