-- Which stores open after some events, as a closing asks.
use Rattle.std.{specs.{Prelude.Contains, Option.option_map}, proofs.lemmas.Bool.leb-true}
use Rattle.std.proofs.Common.{◌≡◌, ◌≤◌, List, [], ◌∷◌, Bool, true, false, cond, filter, not, refl, sym, ap, subst, ◌∙◌, arith}
use Rattle.sqlite.specs.Tree.{Trees}
use Rattle.sqlite_rules.proofs.ListLemmas.{contains_had, has_contained, has_filtered}
use Rattle.office_replies.specs.Events.{Event}
use Rattle.office_rows.specs.{Effects.is_pair, Rows.{Interchange, Rows}, Stored.StoresRows, Tables.office_schema}
use Rattle.office_admission.specs.Setups.{SetupContent}
use Rattle.office_history.{specs.After.AreAfter, proofs.{Runs.is_pair_at, Kept.{found_only, head_in, tail_in}, Accounted.text_within}}
use Rattle.office_parts.specs.{Away.lists_after, Naming.AreHere, OwnLists.{ListName, is_own_line, rows_without_lists}, Closing.{is_beyond, is_closed}}
use Rattle.office_parts.{specs.{LeftOver.rows_beyond, Parts.nothing_archived}, proofs.Takings.rows_are_parts}
use Rattle.office_desk.proofs.DeliverLemmas.{own_once}
use Rattle.office_closing.specs.{Changes.empty_register, Register.closed_by}
use Rattle.office_archive_files.{specs.ClosedStores.{LoadedStoresOpen, OpensAfter, UnclosedStoresOpen}, proofs.ShelfLemmas.none_named}

-- ---- nothing was put away

all_stay : {A : Type 0} (p : A → Bool) (xs : List A) → ((x : A) → Contains xs x → p x ≡ true) → filter p xs ≡ xs
all_stay p [] all = refl
all_stay p (x ∷ xs) all = ap (λ b. cond b (x ∷ filter p xs) (filter p xs)) (all x (head_in x xs)) ∙ ap (λ l. x ∷ l) (all_stay p xs (λ y inside. all y (tail_in x y xs inside)))

abbrev none_away : ListName → Bool
none_away list = false

all_here : (lists : List ListName) → AreHere none_away lists
all_here [] = tt
all_here (list ∷ lists) = (refl, all_here lists)

module _ (content : SetupContent) (es : List Event) (rows : Rows) (db : Trees) (stored : StoresRows rows db) (after : AreAfter content es rows) where
  -- numbers begin at 1
  from_one : (i : Interchange) → Contains rows.interchanges i → 1 ≤ i.number
  from_one i inside =
      let found = found_only (is_pair i.partner i.number) rows.interchanges i (after.kept_once i.partner i.number) inside (is_pair_at i.partner i.number i refl refl) in
      (text_within content es rows i.partner i.number i.body after (ap (option_map (λ (other : Interchange). other.body)) found)).2

  none_closed : (i : Interchange) → Contains rows.interchanges i → is_beyond nothing_archived.last_closed i ≡ true
  none_closed i inside = by (is_closed nothing_archived.last_closed i) refl
    where
      by : (closed : Bool) → is_closed nothing_archived.last_closed i ≡ closed → not closed ≡ true
      by true e = let high = leb-true i.number 0 e in let low = from_one i inside in absurd (omega (arith, low, high))
      by false e = refl

  beyond : rows_beyond nothing_archived.last_closed rows ≡ rows
  beyond = ap (λ l. let with_them : Rows = record rows { interchanges = l } in with_them) (all_stay (is_beyond nothing_archived.last_closed) rows.interchanges none_closed)

  without : rows_without_lists none_away rows ≡ rows
  without = ap (λ l. let with_them : Rows = record rows { lines = l } in with_them) (all_stay (is_own_line none_away) rows.lines (λ line inside. refl))

  none_left : (i : Interchange) → Contains (filter (is_closed nothing_archived.last_closed) rows.interchanges) i → Contains nothing_archived.interchanges i
  none_left i inside =
      let there = has_filtered (is_closed nothing_archived.last_closed) rows.interchanges i (has_contained _ i inside) in
      let low = from_one i (contains_had rows.interchanges i there.0) in
      let high = leb-true i.number 0 there.1 in
      absurd (omega (arith, low, high))

  opens : OpensAfter content es [] empty_register rows db
  opens =
      let parts = rows_are_parts content es rows after in
      record {
        sound = record { tested = refl; texts = record { files = tt; lines = tt; closed_for = tt } };
        named = none_named;
        beside = record {
          archived = nothing_archived;
          own = rows;
          whole = rows;
          parts = parts.0;
          hold = parts.1;
          knows = record { numbers = λ partner. refl; visits = λ number above. refl };
          rows = rows;
          is_own = record { beyond = beyond; rest = none_left };
          away = none_away;
          lists = record { kept = λ list e. absurd cc; done = λ list kept e. absurd cc; waits = λ partner number text far kept. all_here (lists_after content es partner text) };
          are = subst (λ (r : Rows). StoresRows r db) (sym without) stored;
        };
        rows_are = without;
        once = after.kept_once;
      }

pub unclosed_stores_open : UnclosedStoresOpen
unclosed_stores_open content es rows db stored after = opens content es rows db stored after

-- ---- its tables load

pub loaded_stores_open : LoadedStoresOpen
loaded_stores_open content es archives register db setup terminal sound named beside loads = record {
  sound = sound;
  named = named;
  beside = beside;
  rows_are = refl;
  once = own_once (closed_by register) (record { schema = office_schema; trees = db }) (rows_without_lists beside.away beside.rows) loads.0 setup terminal beside.are loads.1 loads.2;
}
