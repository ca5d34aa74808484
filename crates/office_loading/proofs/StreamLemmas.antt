-- What reading the rows of a query one at a time leaves, and what it has read.
use Rattle.std.{specs.{Prelude.Vec, List.AllZip}, proofs.Common.{◌≡◌, ℕ, List, [], ◌∷◌, ◌++◌, None, Some, Result, Ok, Err, inl, inr, refl, sym, subst}}
use Rattle.sqlite.specs.{Order.Row, Effect.Database, Clock.timed, Held.{Held, state}, Given.{Returns, HasGiven, HasBegun, Advances}}
use Rattle.sqlite.specs.{Listing.{understood, reads_listing, IsSourceOf}, State.{State, IsUnchanged, Shown, ShowsRows, Begins}}
use Rattle.sqlite.proofs.Callers.{given_begin, unchanged_then}
use Rattle.sqlite_resolve.specs.{declared.compiled.Compiled.Compiled, declared.error.CompileError.CompileError}
use Rattle.sqlite_rules.{specs.Lists.Has, proofs.ListLemmas.contains_had}
use Rattle.office_tables.specs.{declared.table_fault.TableFault.TableFault, declared.table_fault.TableFault.TheVariants.{Store, Damaged, Version, Memory}}
use Rattle.office_tables.specs.{Faults.IsOfStoreOr, Reading.OnlyShows}
use Rattle.office_loading.{specs.Decoded.{Fails, ShowsUnsaid, ReadsShown}, proofs.LackingLemmas.zip_push}
use Rattle.sqlite_trees.specs.declared.store.Store as store

-- ---- what a query leaves

none_returns : (r : Result Compiled CompileError) → ((c : Compiled) → r ≡ Ok c → c.returning ≡ None) → ¬ Returns r
none_returns (Ok c) none some = absurd (let e = rw (none c refl) at some in cc)
none_returns (Err e) none some = some

pub begun_shows : {S : Type 0} (g : store.Ghosts S) (sql : List ℕ) (params : Row) (old new : Held S) → OnlyShows sql → HasBegun g sql params old new
    → HasGiven g sql params new [] × IsUnchanged (state g old) (state g new)
begun_shows g sql params old new shows (inl h) = h
begun_shows g sql params old new shows (inr h) = absurd (none_returns _ (shows old.schema) h.0)

-- ---- of a database that is unchanged

begins_from : (sql : List ℕ) (params : Row) (old now : State) (rows : List Row) → IsUnchanged old now → Begins sql params now rows → Begins sql params old rows
unfolding Begins
begins_from sql params old now rows same h = (
  h.0,
  record { is = subst (λ (d : Database). understood d.schema sql ≡ Ok h.0) same.0.now_is h.1.is; whole = h.1.whole; given = h.1.given; now = h.1.now },
  h.2,
  h.3,
  subst (λ (d : Database). IsSourceOf (reads_listing d.schema sql) d h.3) same.0.now_is h.4,
  h.5,
)

shown_from : (sql : List ℕ) (params : Row) (old mid new : State) (rows : List Row) → OnlyShows sql → IsUnchanged old mid → Shown sql params mid new rows → Shown sql params old new rows
unfolding Shown
shown_from sql params old mid new rows shows same h =
    let none = shows mid.now.schema h.0 h.1.is in
    let full = timed params h.0.formats h.1.now in
    let it = subst (ShowsRows mid new sql h.0 full rows) none h.2 in (
      h.0,
      record { is = subst (λ (d : Database). understood d.schema sql ≡ Ok h.0) same.0.now_is h.1.is; whole = h.1.whole; given = h.1.given; now = h.1.now },
      subst (ShowsRows old new sql h.0 full rows) (sym none) (it.0, subst (λ (d : Database). IsSourceOf (reads_listing d.schema sql) d it.0) same.0.now_is it.1, it.2, unchanged_then old mid new same it.3),
    )

-- ---- what was read so far

has_last : {X : Type 0} (xs : List X) (x : X) → Has (xs ++ x ∷ []) x
has_last [] x = inl refl
has_last (y ∷ xs) x = inr (has_last xs x)

module _ {S T : Type 0} (g : store.Ghosts S) (says : Row → T → Type 0) (sql : List ℕ) (first : Held S) where
  -- these records say the rows that were given so far
  pub record Stands (now : Held S) (read : List T) : Type 0 where
    pub same : IsUnchanged (state g first) (state g now)
    pub given : List Row
    pub has : HasGiven g sql [] now given
    pub said : AllZip says given read

  pub stands_first : (now : Held S) → HasGiven g sql [] now [] × IsUnchanged (state g first) (state g now) → Stands now []
  stands_first now h = record { same = h.1; given = []; has = h.0; said = tt }

  module _ (old new : Held S) (read : List T) (s : Stands old read) where
    pub stands_next : (more : List T) (row : Row) (one : T) → Advances g old new (Some row) → IsUnchanged (state g old) (state g new) → says row one → more ≡ read ++ one ∷ [] → Stands new more
    stands_next more row one moved same says_it pushed = record {
      same = unchanged_then _ _ _ s.same same;
      given = s.given ++ row ∷ [];
      has = moved sql [] s.given s.has;
      said = subst (AllZip says (s.given ++ row ∷ [])) (sym pushed) (zip_push says s.given read row one s.said says_it);
    }

    pub row_refused : (is_said : Row → Type 0) (row : Row) → Advances g old new (Some row) → IsUnchanged (state g old) (state g new) → (fault : TableFault) → Fails is_said row fault → IsOfStoreOr (ShowsUnsaid is_said sql (state g first) (state g new)) fault
    row_refused is_said row moved same Damaged h =
        let given = s.given ++ row ∷ [] in
        let all = unchanged_then _ _ _ s.same same in
        (given, begins_from sql [] (state g first) (state g new) given all (given_begin g sql [] new given (moved sql [] s.given s.has)), all, row, contains_had given row (has_last s.given row), h)
    row_refused is_said row moved same Memory h = h
    row_refused is_said row moved same Version h = h
    row_refused is_said row moved same (Store error) h = absurd h

    pub all_shown : OnlyShows sql → Advances g old new None → (answer : List Row) × Shown sql [] (state g first) (state g new) answer × AllZip says answer read
    all_shown shows moved = (s.given, shown_from sql [] _ _ _ s.given shows s.same (moved sql [] s.given s.has), s.said)

    pub all_read : OnlyShows sql → (Z : Type 0) (is_said : Row → Type 0) (vector : Vec T Z) → vector.items ≡ read → Advances g old new None → ReadsShown says is_said sql (state g first) (state g new) (Ok vector)
    all_read shows Z is_said vector is moved =
        let all = all_shown shows moved in
        (all.0, all.1, subst (AllZip says all.0) (sym is) all.2)
