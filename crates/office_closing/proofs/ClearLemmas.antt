-- Transactions that delete, one after the other.
use Rattle.std.{specs.Prelude.{◌↔◌, Contains, slice_get}, proofs.{lemmas.Bool.eqb-true, lemmas.Bool.Decides.nat_tests, lemmas.Option.same_Some}}
use Rattle.std.proofs.Common.{◌≡◌, ℕ, List, [], ◌∷◌, Bool, true, false, ◌&&◌, ◌||◌, ◌==◌, not, Ok, IsTrue, codes, filter, refl, sym, ap₂, ◌∙◌, arith, Result, Err, IfErr, OnErr, OnOk, subst, ◌⊎◌, inl, inr, ◌++◌, ap, None, map, length}
use Rattle.sqlite.specs.{Collation.TheVariants.Binary, Command.TheVariants.Delete, Listing.understood, Ops.{binary, is_true}, Order.{Row, column}, Tree.Trees}
use Rattle.sqlite.specs.{State.{State, HasCleanDisk, Executes, Shows, Survives, IsRolledBack, KeepsCommit}, Term.{Term, col}, Held.{Held, state}}
use Rattle.sqlite.{specs.declared.types.Value.TheVariants.Text, proofs.Callers.{IsPlain, command_of, statement_of, runs_as, survives_begin}}
use Rattle.sqlite.proofs.StateLemmas.{survives_then, survives_weaker}
use Rattle.sqlite_rules.specs.{Calls.ids_of, declared.error.Rowids.TheVariants.Given}
use Rattle.sqlite_sql.specs.{declared.ops.BinaryOp.TheVariants.Compare, declared.ops.CompareOp.TheVariants.Eq}
use Rattle.sqlite_tied.specs.Compute.{everything}
use Rattle.edi_messages.specs.Purposes.{CallContent}
use Rattle.terminal_core.specs.{Rows.VisitContent, State.{side_code, AreNumbered, TerminalState}, declared.lines.Side.Side, Listings.lines_of}
use Rattle.terminal_core.{specs.{Restoring.AreOnce, declared.lines.Listing.Listing}, proofs.Whole.{found_at, same_index}}
use Rattle.office_rows.{specs.{Effects.is_pair, Rows.{ListingContent, Rows, listing_content}, Stored.HasRows}, proofs.Listed.and_true}
use Rattle.office_rows.{specs.Tables.{interchange_table, listing_table, visit_table, office_schema}, proofs.Creating.{keep_then, on_ok, quiet_then, stores}}
use Rattle.office_rows.specs.Values.{number_value, interchange_values, line_values, visit_values}
use Rattle.office_rows.proofs.WriteLemmas.{holds_deleted, rows_of, deletes, equal_numbers, equal_texts}
use Rattle.office_rows.proofs.Writing.{only_interchanges, only_lines, only_visits, equals}
use Rattle.office_parts.specs.{Bringing.is_list, OwnLists.{is_own_line, list_name, rows_without_lists, ListName}}
use Rattle.office_parts.proofs.Splits.{has_contained, contained_has, has_left, has_right, has_pushed}
use Rattle.office_closing.specs.{Deleting.{Deletes, without_interchange, without_visits, Becomes}, Clearing.{IsCleared, IsPartlyCleared, StoresLeft, Clears}}
use Rattle.office_closing.specs.{declared.visits.VisitFault.VisitFault, declared.visits.VisitFault.TheVariants.Differs, Going.AreDone, Changes.unmarked}
use Rattle.office_closing.specs.{Visits.{AreAlike, AreToGo, GoesBelow, IsCauseOf, IsOtherwiseOver}, Lists.{SettledListContent, list_content}}
use Rattle.office_closing.specs.{Register.{SealedContent, sealed_content, ArchiveContent, RegisterContent}, declared.faults.CloseFault.CloseFault}
use Rattle.office_closing.specs.{declared.planning.ClosingLists.ClosingLists, declared.planning.History.History, declared.planning.Plan.Plan}
use Rattle.office_closing.{specs.{declared.planning.Stage.Stage, declared.register.Segment.Segment}, proofs.FoundLemmas.{list_tied, listings_by}}
use Rattle.office_closing.specs.Copies.{AreDoneIn, ComesOn, FileNames, GoWith, HasCome, IsOfStore as AreOfStore, OfficeContent, archive_in, lists_at, sealed_at, segments_in, taken_at}
use Rattle.office_closing.specs.Planning.{AreClosingLists, AreFor, AreInBoth, IsHistory, IsPlan, IsPlanOf, IsRefused, IsRefusedWith, IsSealedFor, IsTakenFor}
use Rattle.sqlite_trees.specs.declared.store.Store.{Ghosts}
use Rattle.office_tables.{specs.{Faults.IsOfStore, declared.table_fault.TableFault.TableFault, Writing.IsUndone}, proofs.WritesLemmas.survives_here}
use Rattle.office_tables.proofs.WriteLemmas.{on_failed}
use Rattle.office_loading.proofs.Keyed.{listed_once}
use Rattle.office_closing.specs.declared.faults.CloseFault.TheVariants as fault
use Rattle.office_closing.specs.declared.faults.Refusal.TheVariants as refusal
use Rattle.office_closing.specs.declared.planning.Stage.TheVariants as stage

-- ==== DeleteLemmas: What the texts mean that delete, and what each makes of the rows.

abbrev pub delete_interchange : List ℕ
delete_interchange = codes "DELETE FROM interchange WHERE partner = ?1 AND number = ?2"

abbrev pub delete_interchange_tests : List Term
delete_interchange_tests = equals (col 1 1) (col 0 0) ∷ equals (col 1 2) (col 0 1) ∷ []

abbrev pub delete_shown : List Term
delete_shown = col 1 0 ∷ []

pub delete_interchange_is : command_of (understood office_schema delete_interchange) ≡ Delete 1 (record { lets = []; body = rows_of 2 delete_interchange_tests delete_shown })
unfolding understood everything
delete_interchange_is = refl

pub delete_interchange_plain : IsPlain (understood office_schema delete_interchange)
unfolding understood everything
delete_interchange_plain = (refl, refl)

abbrev pub delete_list : List ℕ
delete_list = codes "DELETE FROM listed WHERE vessel = ?1 AND voyage = ?2 AND side = ?3"

abbrev pub delete_list_tests : List Term
delete_list_tests = equals (col 1 1) (col 0 0) ∷ equals (col 1 2) (col 0 1) ∷ equals (col 1 3) (col 0 2) ∷ []

pub delete_list_is : command_of (understood office_schema delete_list) ≡ Delete 4 (record { lets = []; body = rows_of 9 delete_list_tests delete_shown })
unfolding understood everything
delete_list_is = refl

pub delete_list_plain : IsPlain (understood office_schema delete_list)
unfolding understood everything
delete_list_plain = (refl, refl)

abbrev pub delete_visit : List ℕ
delete_visit = codes "DELETE FROM visit WHERE visit = ?1"

abbrev pub delete_visit_tests : List Term
delete_visit_tests = equals (col 1 0) (col 0 0) ∷ []

pub delete_visit_is : command_of (understood office_schema delete_visit) ≡ Delete 2 (record { lets = []; body = rows_of 4 delete_visit_tests delete_shown })
unfolding understood everything
delete_visit_is = refl

pub delete_visit_plain : IsPlain (understood office_schema delete_visit)
unfolding understood everything
delete_visit_plain = (refl, refl)

-- ---- the rows

-- a column that is this number
abbrev is_number : Row → ℕ → ℕ → Bool
is_number c at n = is_true (binary (Compare Eq Binary) (column c at) (number_value n))

-- a column that is this text
abbrev is_text : Row → ℕ → List ℕ → Bool
is_text c at s = is_true (binary (Compare Eq Binary) (column c at) (Text s))

or_false : (b : Bool) → (b || false) ≡ b
or_false true = refl
or_false false = refl

equal_back : (m n : ℕ) → (m == n) ≡ (n == m)
equal_back m n = grind (arith, nat_tests)

module _ (old new : State) (rows : Rows) (count : ℕ) (has : HasRows rows old.now) where
  pub deleted_interchange : (partner number : ℕ) → Executes delete_interchange (number_value partner ∷ number_value number ∷ []) old new (Ok count) → HasRows (without_interchange partner number rows) new.now
  deleted_interchange partner number h =
      let params = number_value partner ∷ number_value number ∷ [] in
      let text = statement_of delete_interchange (understood office_schema delete_interchange) in
      let w = runs_as delete_interchange params old new office_schema has.schema (Delete 1 (record { lets = []; body = rows_of 2 delete_interchange_tests delete_shown })) delete_interchange_is delete_interchange_plain count h in
      let it = deletes old new has.schema 1 interchange_table refl refl params text count delete_interchange_tests delete_shown (λ trees. refl) w in
      only_interchanges rows old.now new.now has (ids_of it.answer) Given 0 [] (filter (λ i. not (is_pair partner number i)) rows.interchanges) it.edits
      (holds_deleted interchange_table interchange_values rows.interchanges old.now new.now has.rows_are.interchanges params delete_interchange_tests delete_shown
      (λ c. is_number c 0 partner && (is_number c 1 number && true)) (is_pair partner number)
      (λ r. refl) (λ r. refl) (λ i. ap₂ ◌&&◌ (equal_numbers i.partner partner) (and_true _ ∙ equal_numbers i.number number)) it)

  pub deleted_visit : (number : ℕ) → Executes delete_visit (number_value number ∷ []) old new (Ok count) → HasRows (without_visits (number ∷ []) rows) new.now
  deleted_visit number h =
      let params = number_value number ∷ [] in
      let text = statement_of delete_visit (understood office_schema delete_visit) in
      let w = runs_as delete_visit params old new office_schema has.schema (Delete 2 (record { lets = []; body = rows_of 4 delete_visit_tests delete_shown })) delete_visit_is delete_visit_plain count h in
      let it = deletes old new has.schema 2 visit_table refl refl params text count delete_visit_tests delete_shown (λ trees. refl) w in
      only_visits rows old.now new.now has (ids_of it.answer) Given 0 [] (filter (λ (v : VisitContent). not ((number == v.number) || false)) rows.visits) it.edits
      (holds_deleted visit_table visit_values rows.visits old.now new.now has.rows_are.visits params delete_visit_tests delete_shown
      (λ c. is_number c 0 number && true) (λ (v : VisitContent). (number == v.number) || false)
      (λ r. refl) (λ r. refl) (λ v. and_true _ ∙ equal_numbers v.number number ∙ equal_back v.number number ∙ sym (or_false (number == v.number))) it)

  pub deleted_list : (call : CallContent) (side : Side) → Executes delete_list (Text call.vessel ∷ Text call.voyage ∷ number_value (side_code side) ∷ []) old new (Ok count)
      → HasRows (rows_without_lists (is_list (list_name call side)) rows) new.now
  deleted_list call side h =
      let params = Text call.vessel ∷ Text call.voyage ∷ number_value (side_code side) ∷ [] in
      let text = statement_of delete_list (understood office_schema delete_list) in
      let w = runs_as delete_list params old new office_schema has.schema (Delete 4 (record { lets = []; body = rows_of 9 delete_list_tests delete_shown })) delete_list_is delete_list_plain count h in
      let it = deletes old new has.schema 4 listing_table refl refl params text count delete_list_tests delete_shown (λ trees. refl) w in
      only_lines rows old.now new.now has (ids_of it.answer) Given 0 [] (filter (is_own_line (is_list (list_name call side))) rows.lines) it.edits
      (holds_deleted listing_table line_values rows.lines old.now new.now has.rows_are.lines params delete_list_tests delete_shown
      (λ c. is_text c 0 call.vessel && (is_text c 1 call.voyage && (is_number c 2 (side_code side) && true))) (λ (l : ListingContent). is_list (list_name call side) (list_name l.call l.side))
      (λ r. refl) (λ r. refl)
      (λ (l : ListingContent). ap₂ ◌&&◌ (equal_texts l.call.vessel call.vessel) (ap₂ ◌&&◌ (equal_texts l.call.voyage call.voyage) (and_true _ ∙ equal_numbers (side_code l.side) (side_code side))) ∙ sym (list_tied call side l)) it)

-- a statement that was made
pub deletes_of : {T : Type 0} (change : Rows → Rows) (old new : State) (value : T) → Survives old new (λ _. ⊥)
    → (HasCleanDisk new → IsTrue old.in_transaction → Shows old new new.now old.committed true × ((rows : Rows) → HasRows rows old.now → HasRows (change rows) new.now))
    → Deletes change old new (Ok value)
deletes_of change old new value survives made = record {
  becomes = λ clean inside. record {
    rows = (made clean inside).1;
    inside = (made clean inside).0.mode;
    committed = (made clean inside).0.committed_is;
    is_open = λ _. (made clean inside).0.is_open;
  };
  keeps = λ clean inside. record { was_open = λ _. (made clean inside).0.was_open; committed = λ _. (made clean inside).0.committed_is };
  survives = survives;
  fault = tt;
}

-- ==== ClearLemmas: Transactions that delete, one after the other.

-- ---- in a transaction

becomes_then : (f g : Rows → Rows) (a b c : State) → Becomes f a b → Becomes g b c → Becomes (λ rows. g (f rows)) a c
becomes_then f g a b c p q = record { rows = λ rows has. q.rows (f rows) (p.rows rows has); inside = q.inside; committed = q.committed ∙ p.committed; is_open = λ was. q.is_open (p.is_open was) }

becomes_same : (f g : Rows → Rows) (a b : State) → ((rows : Rows) → f rows ≡ g rows) → Becomes f a b → Becomes g a b
becomes_same f g a b same p = record { rows = λ rows has. subst (λ r. HasRows r b.now) (same rows) (p.rows rows has); inside = p.inside; committed = p.committed; is_open = p.is_open }

pub deletes_none : (change : Rows → Rows) (now : State) → ((rows : Rows) → change rows ≡ rows) → Deletes {T = Unit {0}} change now now (Ok tt)
deletes_none change now same = record {
  becomes = λ clean inside. record { rows = λ rows has. rw same has; inside = inside; committed = refl; is_open = λ was. was };
  keeps = λ clean inside. record { was_open = λ was. was; committed = λ was. refl };
  survives = survives_here now (λ _. ⊥);
  fault = tt;
}

pub deletes_then : {X Y : Type 0} (f g : Rows → Rows) (a b c : State) (x : X) (result : Result Y TableFault) → Deletes f a b (Ok x) → Deletes g b c result → Deletes (λ rows. g (f rows)) a c result
deletes_then f g a b c x result p q = record {
  becomes = λ clean inside.
      let early : HasCleanDisk b = omega (arith, q.survives.clean) in
      let first = p.becomes early inside in
      on_ok result (becomes_then f g a b c first) (q.becomes clean first.inside);
  keeps = λ clean inside.
      let early : HasCleanDisk b = omega (arith, q.survives.clean) in
      keep_then a b c (p.keeps early inside) (q.keeps clean (p.becomes early inside).inside);
  survives = quiet_then a b c p.survives q.survives;
  fault = q.fault;
}

pub deletes_same : {T : Type 0} (f g : Rows → Rows) (old new : State) (result : Result T TableFault) → ((rows : Rows) → f rows ≡ g rows) → Deletes f old new result → Deletes g old new result
deletes_same f g old new result same p = record {
  becomes = λ clean inside. on_ok result (becomes_same f g old new same) (p.becomes clean inside);
  keeps = p.keeps;
  survives = p.survives;
  fault = p.fault;
}

-- ---- one transaction

module _ {S : Type 0} (g : Ghosts S) (change : Rows → Rows) (MayBeLeft : Rows → Rows → Type 0) (all_may : (rows : Rows) → MayBeLeft rows rows)
    (old : Held S) (last end : State) (settles : IsTrue (state g old).is_open → (state g old).now ≡ (state g old).committed) where
  abbrev begun : State
  begun = state g (record old { in_transaction = true })

  all_left : end.now ≡ (state g old).committed → end.committed ≡ (state g old).committed → IsPartlyCleared MayBeLeft (state g old) end
  all_left now committed = record {
    rows = λ rows has. (rows, all_may rows, rw committed has);
    settled = now ∙ sym committed;
  }

  -- it is committed
  module _ {X Y : Type 0} (x : X) (result : Result Y TableFault) (whole_may : (rows : Rows) → MayBeLeft rows (change rows)) (deletes : Deletes change begun last (Ok x))
      (was_open : HasCleanDisk end → IsTrue end.is_open → IsTrue last.is_open) (err : HasCleanDisk end → IsTrue last.in_transaction → IsTrue end.is_open → OnErr result (IsUndone last end))
      (survives : Survives last end (λ db. db ≡ last.now.trees)) where
    before : HasCleanDisk end → HasCleanDisk last
    before clean = omega (arith, survives.clean)

    became : HasCleanDisk last → Becomes change begun last
    became clean = deletes.becomes clean refl

    opened : HasCleanDisk end → IsTrue end.is_open → IsTrue (state g old).is_open
    opened clean is_open = (deletes.keeps (before clean) refl).was_open (was_open clean is_open)

    made : (rows : Rows) → HasCleanDisk end → IsTrue (state g old).is_open → HasRows rows (state g old).committed → HasRows (change rows) last.now
    made rows clean was has = (became (before clean)).rows rows (rw (settles was) has)

    crash : Survives (state g old) end (StoresLeft MayBeLeft (state g old))
    crash = survives_then (state g old) last end _ _ (StoresLeft MayBeLeft (state g old)) (λ _ db none. absurd none)
        (λ clean db is was rows has. (change rows, whole_may rows, rw is (stores (change rows) last.now (made rows clean was has)))) (survives_begin g old last _ deletes.survives) survives

    pub clears_batch : end.in_transaction ≡ false → (HasCleanDisk end → OnOk result (Shows last end last.now last.now false)) → (IsTrue end.is_open → (db : Trees) → end.may_leave db → db ≡ end.committed.trees) → IfErr result IsOfStore
        → Clears change MayBeLeft (state g old) end result
    clears_batch ended ok alone fault = record {
      ends = record { idle = ended; clean = λ clean. omega (arith, crash.clean); was_open = opened };
      ok = λ clean was. on_ok result (λ (shows : Shows last end last.now last.now false). record {
        rows = λ rows has. rw shows.committed_is (made rows clean was has);
        settled = shows.now_is ∙ sym shows.committed_is;
        is_open = shows.is_open;
        alone = alone shows.is_open;
      }) (ok clean);
      err = λ clean is_open. on_failed result (λ (undone : IsUndone last end). all_left (undone.now ∙ (became (before clean)).committed) (undone.committed ∙ (became (before clean)).committed)) (err clean (became (before clean)).inside is_open);
      crash = crash;
      fault = fault;
    }

  -- it is given up
  pub clears_nothing : {T : Type 0} (fault : TableFault) → Deletes {T = T} change begun last (Err fault) → end.in_transaction ≡ false → (HasCleanDisk end → IsRolledBack last end) → Survives last end (λ _. ⊥)
      → Clears {T = T} change MayBeLeft (state g old) end (Err fault)
  clears_nothing fault deletes ended undone survives =
      let crash = survives_then (state g old) last end _ _ (StoresLeft MayBeLeft (state g old)) (λ _ db none. absurd none) (λ _ db none. absurd none) (survives_begin g old last _ deletes.survives) survives in
      let keeps : HasCleanDisk end → KeepsCommit begun last = λ clean. deletes.keeps (omega (arith, survives.clean)) refl in
      record {
        ends = record { idle = ended; clean = λ clean. omega (arith, crash.clean); was_open = λ clean is_open. (keeps clean).was_open ((undone clean).was_open is_open) };
        ok = λ clean was. tt;
        err = λ clean is_open.
            let back = (undone clean).undone is_open in
            let same = (keeps clean).committed ((undone clean).was_open is_open) in
            all_left (back.0 ∙ same) (back.1 ∙ same);
        crash = crash;
        fault = deletes.fault;
      }

-- ---- one after the other

module _ (MayBeLeft : Rows → Rows → Type 0) where
  -- nothing was deleted
  pub clears_none : {S : Type 0} (g : Ghosts S) (change : Rows → Rows) (old : Held S) → (state g old).in_transaction ≡ false → (IsTrue (state g old).is_open → (state g old).now ≡ (state g old).committed)
      → (IsTrue (state g old).is_open → (db : Trees) → (state g old).may_leave db → db ≡ (state g old).committed.trees) → ((rows : Rows) → change rows ≡ rows) → Clears {T = Unit {0}} change MayBeLeft (state g old) (state g old) (Ok tt)
  clears_none g change old idle settles alone same = record {
    ends = record { idle = idle; clean = λ clean. clean; was_open = λ clean is_open. is_open };
    ok = λ clean was. record { rows = λ rows has. rw same has; settled = settles was; is_open = was; alone = alone was };
    err = λ clean is_open. tt;
    crash = survives_here (state g old) (StoresLeft MayBeLeft (state g old));
    fault = tt;
  }

  module _ (then_left : (a b c : Rows) → MayBeLeft a b → MayBeLeft b c → MayBeLeft a c) where
    pub clears_then : {X Y : Type 0} (f g : Rows → Rows) (may : (rows : Rows) → MayBeLeft rows (f rows)) (a b c : State) (x : X) (result : Result Y TableFault)
        → Clears f MayBeLeft a b (Ok x) → Clears g MayBeLeft b c result → Clears (λ rows. g (f rows)) MayBeLeft a c result
    clears_then f g may a b c x result p q =
        let first : HasCleanDisk c → IsTrue a.is_open → IsCleared f a b = λ clean was. p.ok (q.ends.clean clean) was in
        record {
          ends = record { idle = q.ends.idle; clean = λ clean. p.ends.clean (q.ends.clean clean); was_open = λ clean is_open. p.ends.was_open (q.ends.clean clean) (q.ends.was_open clean is_open) };
          ok = λ clean was.
              let one = first clean was in
              on_ok result (λ (two : IsCleared g b c). record { rows = λ rows has. two.rows (f rows) (one.rows rows has); settled = two.settled; is_open = two.is_open; alone = two.alone }) (q.ok clean one.is_open);
          err = λ clean is_open.
              let one = first clean (p.ends.was_open (q.ends.clean clean) (q.ends.was_open clean is_open)) in
              on_failed result (λ (two : IsPartlyCleared MayBeLeft b c). record {
                rows = λ rows has. let left = two.rows (f rows) (one.rows rows has) in (left.0, then_left rows (f rows) left.0 (may rows) left.1, left.2);
                settled = two.settled;
              }) (q.err clean is_open);
          crash = survives_then a b c _ _ (StoresLeft MayBeLeft a) (λ clean db is. is)
              (λ clean db is was rows has.
              let one = first clean was in
              let left = is one.is_open (f rows) (one.rows rows has) in
              (left.0, then_left rows (f rows) left.0 (may rows) left.1, left.2)) p.crash q.crash;
          fault = q.fault;
        }

pub clears_same : {T : Type 0} (f g : Rows → Rows) (MayBeLeft : Rows → Rows → Type 0) (old new : State) (result : Result T TableFault) → ((rows : Rows) → f rows ≡ g rows) → Clears f MayBeLeft old new result → Clears g MayBeLeft old new result
clears_same f g MayBeLeft old new result same p = record {
  ends = p.ends;
  ok = λ clean was. on_ok result (λ (it : IsCleared f old new). record { rows = λ rows has. subst (λ r. HasRows r new.committed) (same rows) (it.rows rows has); settled = it.settled; is_open = it.is_open; alone = it.alone }) (p.ok clean was);
  err = p.err;
  crash = p.crash;
  fault = p.fault;
}

-- more might be left
pub clears_weaker : {T : Type 0} (change : Rows → Rows) (Left More : Rows → Rows → Type 0) (old new : State) (result : Result T TableFault) → ((rows left : Rows) → Left rows left → More rows left) → Clears change Left old new result → Clears change More old new result
clears_weaker change Left More old new result weaker p = record {
  ends = p.ends;
  ok = p.ok;
  err = λ clean is_open. on_failed result (λ (it : IsPartlyCleared Left old new). record { rows = λ rows has. let left = it.rows rows has in (left.0, weaker rows left.0 left.1, left.2); settled = it.settled }) (p.err clean is_open);
  crash = survives_weaker old new _ _ (λ clean db is was rows has. let left = is was rows has in (left.0, weaker rows left.0 left.1, left.2)) p.crash;
  fault = p.fault;
}

-- at a fault it doesn't matter what was to come of it
pub clears_failed : {T : Type 0} (f g : Rows → Rows) (MayBeLeft : Rows → Rows → Type 0) (old new : State) (fault : TableFault) → Clears {T = T} f MayBeLeft old new (Err fault) → Clears {T = T} g MayBeLeft old new (Err fault)
clears_failed f g MayBeLeft old new fault p = record { ends = p.ends; ok = λ clean was. tt; err = p.err; crash = p.crash; fault = p.fault }

-- ==== VisitLemmas: Which visits go, one after the other.

-- no two visits have one number
pub same_visit : (visits : List VisitContent) → AreNumbered 0 visits → (v w : VisitContent) → Contains visits v → Contains visits w → v.number ≡ w.number → v ≡ w
same_visit visits are v w here there same =
    let at = found_at visits v here in
    let at' = found_at visits w there in
    let index : here.0 ≡ there.0 = same_index 0 visits here.0 there.0 v w are at at' same in
    same_Some v w (sym at ∙ ap (slice_get visits) index ∙ at')

-- one that differs says why
pub differs_told : (own copy : List VisitContent) (visit : VisitContent) (fault : VisitFault) → fault ≡ Differs visit.number → Contains own visit → IsOtherwiseOver copy visit → IsCauseOf own copy fault
differs_told own copy visit fault is here otherwise = subst (IsCauseOf own copy) (sym is) (visit, refl, here, otherwise)

-- the numbers of those of these visits that go
abbrev pub AreGone : ℕ → List VisitContent → List VisitContent → List ℕ → Type 0
AreGone newest copy done numbers =
    (number : ℕ) → Contains numbers number ↔ ((visit : VisitContent) × (visit.number ≡ number) × Contains done visit × GoesBelow newest copy visit)

pub none_gone : (newest : ℕ) (copy : List VisitContent) → AreGone newest copy [] []
none_gone newest copy number = (λ here. absurd (has_contained [] number here), λ it. absurd (has_contained [] it.0 it.2))

pub none_differs : (copy : List VisitContent) → AreAlike [] copy
none_differs copy visit here = absurd (has_contained [] visit here)

last_in : {A : Type 0} (xs : List A) (x : A) → Contains (xs ++ x ∷ []) x
last_in xs x = contained_has (xs ++ x ∷ []) x (has_right xs (x ∷ []) x (inl refl))

earlier_in : {A : Type 0} (xs : List A) (x y : A) → Contains xs y → Contains (xs ++ x ∷ []) y
earlier_in xs x y here = contained_has (xs ++ x ∷ []) y (has_left xs (x ∷ []) y (has_contained xs y here))

pushed_in : {A : Type 0} (xs : List A) (x y : A) → Contains (xs ++ x ∷ []) y → Contains xs y ⊎ (x ≡ y)
pushed_in xs x y here = elim (has_pushed xs x y (has_contained (xs ++ x ∷ []) y here)) [
  | inl earlier ↦ inl (contained_has xs y earlier)
  | inr last ↦ inr last
]

module _ (newest : ℕ) (copy done after : List VisitContent) (v : VisitContent) (is : after ≡ done ++ v ∷ []) where
  earlier_done : (w : VisitContent) → Contains done w → Contains after w
  earlier_done w here = subst (λ l. Contains l w) (sym is) (earlier_in done v w here)

  either_done : (w : VisitContent) → Contains after w → Contains done w ⊎ (v ≡ w)
  either_done w here = pushed_in done v w (subst (λ l. Contains l w) is here)

  -- one more that is alike
  pub one_alike : ¬ IsOtherwiseOver copy v → AreAlike done copy → AreAlike after copy
  one_alike alike are w here = elim (either_done w here) [
    | inl earlier ↦ are w earlier
    | inr last ↦ λ it. alike (subst (IsOtherwiseOver copy) (sym last) it)
  ]

  -- one more that stays
  pub one_stays : (numbers : List ℕ) → ¬ GoesBelow newest copy v → AreGone newest copy done numbers → AreGone newest copy after numbers
  one_stays numbers stays are number = (
    λ here. let it = (are number).0 here in (it.0, it.1, earlier_done it.0 it.2, it.3),
    λ it. elim (either_done it.0 it.2) [
      | inl earlier ↦ (are number).1 (it.0, it.1, earlier, it.3)
      | inr last ↦ absurd (stays (subst (GoesBelow newest copy) (sym last) it.3))
    ],
  )

  -- one more that goes
  pub one_goes : (numbers numbers' : List ℕ) → GoesBelow newest copy v → numbers' ≡ numbers ++ v.number ∷ [] → AreGone newest copy done numbers → AreGone newest copy after numbers'
  one_goes numbers numbers' goes pushed are number = (
    λ here. elim (pushed_in numbers v.number number (subst (λ l. Contains l number) pushed here)) [
      | inl earlier ↦ (let it = (are number).0 earlier in (it.0, it.1, earlier_done it.0 it.2, it.3))
      | inr last ↦ (v, last, subst (λ l. Contains l v) (sym is) (last_in done v), goes)
    ],
    λ it. subst (λ l. Contains l number) (sym pushed) (elim (either_done it.0 it.2) [
      | inl earlier ↦ earlier_in numbers v.number number ((are number).1 (it.0, it.1, earlier, it.3))
      | inr last ↦ subst (Contains (numbers ++ v.number ∷ [])) (ap (λ (w : VisitContent). w.number) last ∙ it.1) (last_in numbers v.number)
    ]),
  )

-- ==== StageLemmas: How far a closing has come, and the lists that the store's register has with the archive then.

-- a register with an archive more is another one
pub one_longer : (archives : List ArchiveContent) (archive : ArchiveContent) → archives ++ archive ∷ [] ≡ archives → ⊥
one_longer [] archive e = absurd cc
one_longer (first ∷ rest) archive e = let same : rest ++ archive ∷ [] ≡ rest = cc in one_longer rest archive same

module _ (own copy : OfficeContent) (names : FileNames) (place : ℕ) (done lists : List SettledListContent) (unclosed : own.register.closed_for ≡ None) (for : AreFor own copy place done lists) where
  pub own_is : own.register ≡ unmarked own.register
  own_is = λ i. record own.register { closed_for = unclosed i }

  -- the lists at a stage that the closing has come to
  pub lists_come : (with_ : List SettledListContent) (come : Stage) → HasCome own copy names with_ come → lists ≡ lists_at own place done come
  lists_come with_ stage.New has = for.same (has.0 ∙ own_is)
  lists_come with_ stage.Marked has = for.same (has.0 ∙ own_is)
  lists_come with_ stage.Raised has =
      for.other (λ same. one_longer copy.register.archives (archive_in names.archive copy) (ap (λ (c : RegisterContent). c.archives) has.0 ∙ sym (ap (λ (c : RegisterContent). c.archives) same)))

module _ (own copy : OfficeContent) (names : FileNames) (place : ℕ) (taken : List Segment) (unclosed : own.register.closed_for ≡ None) (for : IsTakenFor own copy place taken) where
  own_unmarked : own.register ≡ unmarked own.register
  own_unmarked = λ i. record own.register { closed_for = unclosed i }

  -- what had been taken at a stage that the closing has come to
  pub taken_come : (with_ : List SettledListContent) (come : Stage) → HasCome own copy names with_ come → taken ≡ taken_at own place come
  taken_come with_ stage.New has = for.same (has.0 ∙ own_unmarked)
  taken_come with_ stage.Marked has = for.same (has.0 ∙ own_unmarked)
  taken_come with_ stage.Raised has =
      for.other (λ same. one_longer copy.register.archives (archive_in names.archive copy) (ap (λ (c : RegisterContent). c.archives) has.0 ∙ sym (ap (λ (c : RegisterContent). c.archives) same)))

module _ (own copy : OfficeContent) (names : FileNames) (place : ℕ) (sealed : List SealedContent) (unclosed : own.register.closed_for ≡ None) (for : IsSealedFor own copy place sealed) where
  -- what is sealed at a stage that the closing has come to, as yet without seals
  pub sealed_come : (with_ : List SettledListContent) (come : Stage) → HasCome own copy names with_ come → sealed ≡ sealed_at own place [] come
  sealed_come with_ stage.New has = for.same (has.0 ∙ (λ i. record own.register { closed_for = unclosed i }))
  sealed_come with_ stage.Marked has = for.same (has.0 ∙ (λ i. record own.register { closed_for = unclosed i }))
  sealed_come with_ stage.Raised has =
      for.other (λ same. one_longer copy.register.archives (archive_in names.archive copy) (ap (λ (c : RegisterContent). c.archives) has.0 ∙ sym (ap (λ (c : RegisterContent). c.archives) same)))

-- ---- what a plan has of lists

-- the registers are asked with lists in memory
pub registers_for : (own copy : OfficeContent) (place : ℕ) (done lists : List SettledListContent) (given these : List SettledListContent) → given ≡ done → these ≡ lists → AreFor own copy place given lists → AreFor own copy place done these
registers_for own copy place done lists given these same those for = record {
  same = λ e. those ∙ for.same e ∙ same;
  other = λ e. those ∙ for.other e;
}

-- Rust lines of the terminal, and what is found done among them
pub done_in : (terminal : TerminalState) (named : List ListName) (segments : List Segment) (at : ℕ) (lines : List Listing) (done : List SettledListContent) → lines_of lines ≡ terminal.lines → AreOnce lines → GoWith segments (map listing_content lines) named at done
    → AreDoneIn terminal named segments at done
done_in terminal named segments at lines done told once are = record {
  lines = map listing_content lines;
  once = listed_once lines once;
  by_key = sym (listings_by lines) ∙ told;
  are = are;
}

pub none_is_empty : (segments : List Segment) → (length segments == 0) ≡ true → segments ≡ []
none_is_empty [] e = refl
none_is_empty (segment ∷ segments) e = absurd (omega (arith, eqb-true (length (segment ∷ segments)) 0 e))

-- with some segment, what is done goes
pub go_with : (segments : List Segment) (lines : List ListingContent) (named : List ListName) (archive : ℕ) (found : List SettledListContent) → (segments ≡ [] → ⊥) → AreDone lines named archive found → GoWith segments lines named archive found
go_with [] lines named archive found some are = absurd (some refl)
go_with (segment ∷ segments) lines named archive found some are = are

-- lists that go are done, and with no segment there are none
pub gone_are_done : (segments : List Segment) (lines : List ListingContent) (named : List ListName) (archive : ℕ) (found : List SettledListContent) → GoWith segments lines named archive found → (found ≡ []) ⊎ AreDone lines named archive found
gone_are_done [] lines named archive found go = inl go
gone_are_done (segment ∷ segments) lines named archive found go = inr go

pub done_with : (segments : List Segment) (lines : List ListingContent) (named : List ListName) (archive : ℕ) (found : List SettledListContent) → (segments ≡ [] → ⊥) → GoWith segments lines named archive found → AreDone lines named archive found
done_with [] lines named archive found some go = absurd (some refl)
done_with (segment ∷ segments) lines named archive found some go = go

pub plan_from : (own copy : OfficeContent) (names : FileNames) (named : List ListName) (history : History) (lists : ClosingLists) (come : Stage) (plan : Plan) → AreOfStore own copy → IsHistory own copy names.archive history
    → AreClosingLists own copy named (segments_in names.archive copy) (archive_in names.archive copy).place lists → ComesOn own copy names (map list_content lists.all.items) come → IsPlanOf history lists come plan → IsPlan own copy names named [] plan
plan_from own copy names named history lists come plan of_store closes put comes is =
    let place = (archive_in names.archive copy).place in
    let all = map list_content lists.all.items in
    record {
      is_copy = record {
        of_store = of_store;
        comes =
            subst (λ s. ComesOn own copy names (map list_content plan.lists.items) s) (sym is.stage)
            (subst (λ l. ComesOn own copy names (map list_content l) come) (sym is.lists) comes);
      };
      numbers = is.numbers ∙ closes.numbers;
      archive = is.archive ∙ closes.archive;
      segments = is.segments ∙ closes.segments;
      visits = subst (AreToGo own.terminal.visits copy.terminal.visits) (sym is.visits) closes.visits;
      done = put.done;
      are_done = put.are_done;
      lists =
          ap (map list_content) is.lists ∙ lists_come own copy names place put.done all of_store.unclosed put.all all come comes.has_come
          ∙ ap (lists_at own place put.done) (sym is.stage);
      gone =
          subst (λ l. AreInBoth put.done (map list_content l) (map list_content plan.gone.items)) (sym is.lists)
          (subst (λ l. AreInBoth put.done all (map list_content l)) (sym is.gone) put.gone);
      taken =
          is.taken ∙ taken_come own copy names place history.taken.items of_store.unclosed closes.taken all come comes.has_come
          ∙ ap (taken_at own place) (sym is.stage);
      sealed =
          ap (map sealed_content) is.sealed ∙ sealed_come own copy names place (map sealed_content history.sealed.items) of_store.unclosed closes.sealed all come comes.has_come
          ∙ ap (sealed_at own place []) (sym is.stage);
    }

pub refused_with : (own copy : OfficeContent) (names : FileNames) (named : List ListName) (done : List SettledListContent) → AreDoneIn own.terminal named (segments_in names.archive copy) (archive_in names.archive copy).place done → (why : CloseFault) → IsRefusedWith own copy names done why → IsRefused own copy names why
refused_with own copy names named done are (fault.Archive refusal.Register) none = record { named = named; done = done; are_done = are; none = none }
refused_with own copy names named done are (fault.Archive refusal.Closed) is = absurd is
refused_with own copy names named done are (fault.Archive refusal.Office) is = absurd is
refused_with own copy names named done are (fault.Archive refusal.Later) is = absurd is
refused_with own copy names named done are (fault.Archive refusal.Order) is = absurd is
refused_with own copy names named done are (fault.Archive refusal.Seals) is = absurd is
refused_with own copy names named done are (fault.Archive (refusal.Visit number)) is = absurd is
refused_with own copy names named done are (fault.Archive (refusal.Interchange difference)) is = absurd is
refused_with own copy names named done are (fault.File of) is = absurd is
refused_with own copy names named done are (fault.Comparing of) is = absurd is
refused_with own copy names named done are fault.Memory is = tt
