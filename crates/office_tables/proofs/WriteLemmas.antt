-- Writing a list in turn, and committing what was written.
use Rattle.std.{specs.Option.option_map, proofs.{lemmas.Bool.ne_eqb, lemmas.List.{append-nil, append_assoc, map-append}, lemmas.List.Sums.fold_push}}
use Rattle.std.proofs.Common.{◌≡◌, inl, ℕ, [], find, Contains, None, Some, Result, Ok, Err, IsErr, IsTrue, OnOk, refl, sym, ap, subst, ◌∙◌, arith, ◌+◌, ◌==◌, ◌≤◌, ◌<◌, false, if◌then◌else◌, eq-eqb, List, ◌∷◌, ◌++◌, Option, true, IfErr, OnErr, map, fold}
use Rattle.sqlite_rules.{specs.Lists.Has, proofs.ListLemmas.{contains_had, has_contained, has_filtered, has_kept}}
use Rattle.sqlite.{specs.{State.{State, HasCleanDisk, IsUnchanged, Survives, Shows}, Held.{Held, state}, Tree.Trees}, proofs.StateLemmas.survives_then}
use Rattle.sqlite.proofs.Callers.{unchanged_then, survives_begin}
use Rattle.terminal_core.{specs.{Rows.{ChangeContent, visit_opened}, State.TerminalState}, proofs.{Indexed.{found_is, some_or_none}, Whole.contained}}
use Rattle.office_rows.specs.{Rows.{Interchange, Rows}, Effects.{is_pair, with_waiting, with_reply, with_next, with_change}, Steps.Steps}
use Rattle.office_rows.proofs.Creating.{keep_then, on_ok, quiet_then, steps_then, steps_same, stores}
use Rattle.office_tables.specs.{Answers.{IsKept, pair_of}, Reading.Reads, declared.interchanges.Kept.Kept, declared.table_fault.TableFault.TableFault}
use Rattle.office_tables.specs.{DeliveryReading.{IsSame, OnlyReads}, Taken.{taken_content, taken_contents}, Taking.IsTaken, declared.running.Taken.Taken}
use Rattle.office_tables.specs.{Faults.IsOfStore, Kept.with_kept_reply, Order.{HasRowsInOrder, KeepsOrder}, Writes.{Writes, WritesIfOpen}}
use Rattle.office_tables.{specs.Writing.{Commits, IsUndone, IsWhole, IsWholeInOrder, WritesWhole}, proofs.MadeLemmas.{clean_first, if_open_on, if_open_stopped}}
use Rattle.office_tables.proofs.WritesLemmas.{order_then, order_same, writes_then, writes_then_if_open, writes_same}
use Rattle.office_history.specs.Cascade.{text_in, TakenContent, AreTakenFrom, texts_with, with_changes, with_interchange, with_interchanges, with_run}
use Rattle.office_history.{specs.After.AreKeptOnce, proofs.Kept.found_only}
use Rattle.office_admission.specs.{Taking.{MachineState, machine_of, interchange_taken, interchange_changes}, declared.setup.Setup.Setup}
use Rattle.sqlite_trees.specs.declared.store.Store.{Ghosts}

-- ==== ReadLemmas: Reading one after the other, and what is found.

-- ---- one after the other

survives_here : (now : State) → Survives now now (λ _. ⊥)
survives_here now = record {
  clean = omega arith;
  shield = λ is. is;
  counts = omega arith;
  limit = refl;
  closes = λ clean was. inl was;
  crash = λ clean db left. inl left;
}

on_both : {X : Type 0} {P : Type 0} (result : Result X TableFault) → P → OnOk result P
on_both (Ok x) is = is
on_both (Err fault) is = tt

-- nothing was read
pub nothing_read : {T : Type 0} (now : State) (result : Result T TableFault) → OnlyReads now now result
nothing_read now result = record {
  same = λ clean. on_both result (record { now = refl; committed = refl });
  reads = record {
    unchanged = λ clean is. on_both result (record { was_open = is; is_open = is; now_is = refl; committed_is = refl; mode = refl }, record { changes = refl; last_rowid = refl }, refl);
    keeps = λ clean. record { was_open = λ was. was; committed = λ was. refl };
    mode = λ was. was;
    survives = survives_here now;
  };
}

pub same_unchanged : (old new : State) → IsUnchanged old new → IsSame old new
same_unchanged old new is = record { now = is.0.now_is; committed = is.0.committed_is }

-- one read, of any tables
pub one_read : {T : Type 0} {old new : State} {result : Result T TableFault} → Reads old new result → OnlyReads old new result
one_read {old} {new} {result} r = record {
  same = λ clean. on_ok result (same_unchanged old new) (r.unchanged clean);
  reads = record { unchanged = λ clean was. r.unchanged clean; keeps = r.keeps; mode = r.mode; survives = r.survives };
}

-- whatever comes of what was read
pub only_on : {X Y : Type 0} {old new : State} {x : X} (result : Result Y TableFault) → OnlyReads old new (Ok x) → OnlyReads old new result
only_on result r = record { same = λ clean. on_both result (r.same clean); reads = if_open_on result r.reads }

-- the fault of a call that it made
pub only_stopped : {X Y : Type 0} {old new : State} {inner : Result X TableFault} (result : Result Y TableFault) → IsErr result → OnlyReads old new inner → OnlyReads old new result
only_stopped (Ok y) err r = absurd cc
only_stopped (Err fault) err r = record { same = λ clean. tt; reads = if_open_stopped (Err fault) err r.reads }

pub was_clean : {T : Type 0} {old new : State} {result : Result T TableFault} → OnlyReads old new result → HasCleanDisk new → HasCleanDisk old
was_clean r clean = omega (arith, r.reads.survives.clean)

pub was_open : {T : Type 0} {old new : State} {result : Result T TableFault} → OnlyReads old new result → HasCleanDisk new → IsTrue new.is_open → IsTrue old.is_open
was_open r clean = (r.reads.keeps clean).was_open

-- one after the other
pub only_then : {X Y : Type 0} {a b c : State} {x : X} {result : Result Y TableFault} → OnlyReads a b (Ok x) → OnlyReads b c result → OnlyReads a c result
only_then {a} {b} {c} {result} p q = record {
  same = λ clean.
      let first = p.same (was_clean q clean) in
      on_ok result (λ (next : IsSame b c). record { now = next.now ∙ first.now; committed = next.committed ∙ first.committed }) (q.same clean);
  reads = record {
    unchanged = λ clean was.
        let first = p.reads.unchanged (was_clean q clean) was in
        on_ok result (unchanged_then a b c first) (q.reads.unchanged clean first.0.is_open);
    keeps = λ clean. keep_then a b c (p.reads.keeps (was_clean q clean)) (q.reads.keeps clean);
    mode = λ outside. q.reads.mode (p.reads.mode outside);
    survives = quiet_then a b c p.reads.survives q.reads.survives;
  };
}

-- what reads in the end reads, whatever it did before
pub then_read : {X Y : Type 0} {a b c : State} {x : X} {result : Result Y TableFault} → OnlyReads a b (Ok x) → Reads b c result → Reads a c result
then_read {a} {b} {c} {result} p q = record {
  unchanged = λ clean.
      let before = clean_first q clean in
      on_ok result (λ (next : IsUnchanged b c). unchanged_then a b c (p.reads.unchanged before ((p.reads.keeps before).was_open next.0.was_open)) next) (q.unchanged clean);
  keeps = λ clean. keep_then a b c (p.reads.keeps (clean_first q clean)) (q.keeps clean);
  mode = λ outside. q.mode (p.reads.mode outside);
  survives = quiet_then a b c p.reads.survives q.survives;
}

-- ---- what is found

-- the one interchange of the pair
pub one_kept : (partner number : ℕ) (rows : Rows) (i : Interchange) → AreKeptOnce rows.interchanges → Contains (pair_of partner number rows) i → find (is_pair partner number) rows.interchanges ≡ Some i
one_kept partner number rows i once there =
    let own = has_filtered (is_pair partner number) rows.interchanges i (has_contained _ i there) in
    found_only (is_pair partner number) rows.interchanges i (once partner number) (contains_had rows.interchanges i own.0) own.1

pub none_kept : (partner number : ℕ) (rows : Rows) → pair_of partner number rows ≡ [] → find (is_pair partner number) rows.interchanges ≡ None
none_kept partner number rows none = some_or_none (find (is_pair partner number) rows.interchanges) (λ i e.
    let here = found_is (is_pair partner number) rows.interchanges i e in
    subst (λ l. Has l i) none (has_kept (is_pair partner number) rows.interchanges i (has_contained _ i (contained rows.interchanges here.0 i here.1)) here.2))

-- the text of what is kept
pub text_kept : (partner number : ℕ) (rows : Rows) (kept : Kept) → AreKeptOnce rows.interchanges → IsKept partner number rows (Some kept) → text_in rows partner number ≡ Some kept.text.items
text_kept partner number rows kept once is =
    ap (option_map (λ (i : Interchange). i.body)) (one_kept partner number rows is.0 once is.1) ∙ ap Some (sym is.2)

pub no_text : (partner number : ℕ) (rows : Rows) → IsKept partner number rows None → text_in rows partner number ≡ None
no_text partner number rows none = ap (option_map (λ (i : Interchange). i.body)) (none_kept partner number rows none)

-- ==== RunLemmas: Taking a run, text by text.

module _ (partner : ℕ) (texts : ℕ → Option (List ℕ)) where
  -- these are taken, and those that are taken from that number on follow them
  abbrev pub AreTakenTo : ℕ → MachineState → List TakenContent → ℕ → MachineState → Type 0
  AreTakenTo number old done next new =
      (rest : List TakenContent) (last : MachineState) → AreTakenFrom partner texts next new rest last → AreTakenFrom partner texts number old (done ++ rest) last

  then_rest : (number : ℕ) (old new : MachineState) (text : List ℕ) (taken : TakenContent) (rest : List TakenContent) (last : MachineState) →
      texts number ≡ Some text → IsTaken partner number text old taken new → AreTakenFrom partner texts (number + 1) new rest last →
      AreTakenFrom partner texts number old (taken ∷ rest) last
  then_rest number old new text taken rest last found is more = (
    text,
    found,
    is.number_is,
    sym (ap (λ pair. pair.1) is.takes),
    is.changes_are,
    subst (λ m. AreTakenFrom partner texts (number + 1) m rest last) (sym (ap (λ pair. pair.0) is.takes)) more,
  )

  pub first_taken : (number : ℕ) (old new : MachineState) (text : List ℕ) (taken : TakenContent) → texts number ≡ Some text → IsTaken partner number text old taken new →
      AreTakenTo number old (taken ∷ []) (number + 1) new
  first_taken number old new text taken found is rest last more = then_rest number old new text taken rest last found is more

  pub more_taken : (number next : ℕ) (old mid new : MachineState) (done : List TakenContent) (text : List ℕ) (taken : TakenContent) → AreTakenTo number old done next mid →
      texts next ≡ Some text → IsTaken partner next text mid taken new → AreTakenTo number old (done ++ taken ∷ []) (next + 1) new
  more_taken number next old mid new done text taken before found is rest last more =
      subst (λ l. AreTakenFrom partner texts number old l last) (sym (append_assoc done (taken ∷ []) rest))
      (before (taken ∷ rest) last (then_rest next mid new text taken rest last found is more))

  pub all_taken : (number next : ℕ) (old new : MachineState) (done : List TakenContent) → AreTakenTo number old done next new → texts next ≡ None →
      AreTakenFrom partner texts number old done new
  all_taken number next old new done before none =
      subst (λ l. AreTakenFrom partner texts number old l new) (append-nil done) (before [] new (none, refl))

-- ---- the texts

pub texts_at : (rows : Rows) (partner number : ℕ) (text : List ℕ) → texts_with rows partner number text number ≡ Some text
texts_at rows partner number text = ap (λ here. if here then Some text else text_in rows partner number) (eq-eqb number number refl)

pub texts_behind : (rows : Rows) (partner number next : ℕ) (text : List ℕ) (found : Option (List ℕ)) → number ≤ next → text_in rows partner (next + 1) ≡ found →
    texts_with rows partner number text (next + 1) ≡ found
texts_behind rows partner number next text found below is =
    let other : (number == (next + 1)) ≡ false = ne_eqb number (next + 1) (λ same. omega (arith, below, same)) in
    ap (λ here. if here then Some text else text_in rows partner (next + 1)) other ∙ is

-- ---- a text that is taken

pub taken_now : (setup : Setup) (old new : TerminalState) (partner other number : ℕ) (text reply : List ℕ) (before after : List ChangeContent) → other ≡ partner → before ≡ [] →
    interchange_taken (machine_of setup old) other text ≡ (machine_of setup new, reply) → after ≡ before ++ interchange_changes (machine_of setup old) other text →
    IsTaken partner number text (machine_of setup old) (record { number = number; reply = reply; changes = after }) (machine_of setup new)
taken_now setup old new partner other number text reply before after same none takes changes = record {
  number_is = refl;
  takes = subst (λ p. interchange_taken (machine_of setup old) p text ≡ (machine_of setup new, reply)) same takes;
  changes_are = changes ∙ ap (λ l. l ++ interchange_changes (machine_of setup old) other text) none ∙ ap (λ p. interchange_changes (machine_of setup old) p text) same;
}

-- ---- the list that grows

pub below_last : (n number : ℕ) → n ≡ number → number ≤ 999999999 → n < 1000000000
below_last n number is below = omega (arith, is, below)

pub first_pushed : (rows : Rows) (partner number : ℕ) (old new : MachineState) (text : List ℕ) (first : Taken) (items : List Taken) → items ≡ first ∷ [] →
    IsTaken partner number text old (taken_content first) new → AreTakenTo partner (texts_with rows partner number text) number old (taken_contents items) (number + 1) new
first_pushed rows partner number old new text first items pushed is =
    subst (λ l. AreTakenTo partner (texts_with rows partner number text) number old (taken_contents l) (number + 1) new) (sym pushed)
    (first_taken partner (texts_with rows partner number text) number old new text (taken_content first) (texts_at rows partner number text) is)

pub more_pushed : (rows : Rows) (partner number last : ℕ) (old mid new : MachineState) (text found : List ℕ) (done : List Taken) (next : Taken) (items : List Taken) → items ≡ done ++ next ∷ [] →
    number ≤ last → text_in rows partner (last + 1) ≡ Some found → AreTakenTo partner (texts_with rows partner number text) number old (taken_contents done) (last + 1) mid →
    IsTaken partner (last + 1) found mid (taken_content next) new → AreTakenTo partner (texts_with rows partner number text) number old (taken_contents items) (last + 1 + 1) new
more_pushed rows partner number last old mid new text found done next items pushed after kept before is =
    subst (λ l. AreTakenTo partner (texts_with rows partner number text) number old l (last + 1 + 1) new) (sym (ap taken_contents pushed ∙ map-append taken_content done (next ∷ [])))
    (more_taken partner (texts_with rows partner number text) number (last + 1) old mid new (taken_contents done) found (taken_content next) before
    (texts_behind rows partner number last text (Some found) after kept) is)

-- ==== WriteLemmas: Writing a list in turn, and committing what was written.

-- each of a list, one after the other
abbrev pub in_turn : {B : Type 0} → (B → Rows → Rows) → List B → Rows → Rows
in_turn one items rows = fold (λ (done : Rows) (item : _). one item done) rows items

-- one call and then another, where there may be nothing to write
both_if_open : {X Y : Type 0} (f g : Rows → Rows) (a b c : State) (x : X) (result : Result Y TableFault) → WritesIfOpen f a b (Ok x) → WritesIfOpen g b c result → WritesIfOpen (λ rows. g (f rows)) a c result
both_if_open f g a b c x result p q = record {
  steps = λ clean inside was.
      let early : HasCleanDisk b = omega (arith, q.survives.clean) in
      let first = p.steps early inside was in
      on_ok result (steps_then f g a b c first) (q.steps clean first.inside first.is_open);
  in_order = λ clean inside was.
      let early : HasCleanDisk b = omega (arith, q.survives.clean) in
      let first = p.steps early inside was in
      order_then f g a b c result (p.in_order early inside was) (q.in_order clean first.inside first.is_open);
  keeps = λ clean inside was.
      let early : HasCleanDisk b = omega (arith, q.survives.clean) in
      let first = p.steps early inside was in
      keep_then a b c (p.keeps early inside was) (q.keeps clean first.inside first.is_open);
  survives = quiet_then a b c p.survives q.survives;
  fault = q.fault;
}

if_open_same : {T : Type 0} (f g : Rows → Rows) (old new : State) (result : Result T TableFault) → ((rows : Rows) → f rows ≡ g rows) → WritesIfOpen f old new result → WritesIfOpen g old new result
if_open_same f g old new result same p = record {
  steps = λ clean inside was. on_ok result (steps_same f g old new same) (p.steps clean inside was);
  in_order = λ clean inside was. on_ok result (order_same f g old new same) (p.in_order clean inside was);
  keeps = p.keeps;
  survives = p.survives;
  fault = p.fault;
}

-- one more of the list is written
pub written_more : {A B : Type 0} (content : A → B) (one : B → Rows → Rows) (before after : List A) (item : A) (old mid new : State) → after ≡ before ++ item ∷ [] →
    WritesIfOpen {T = Unit {0}} (in_turn one (map content before)) old mid (Ok tt) → WritesIfOpen {T = Unit {0}} (one (content item)) mid new (Ok tt) → WritesIfOpen {T = Unit {0}} (in_turn one (map content after)) old new (Ok tt)
written_more content one before after item old mid new is first second =
    let same : map content after ≡ map content before ++ content item ∷ [] = ap (map content) is ∙ map-append content before (item ∷ []) in
    if_open_same (λ rows. one (content item) (in_turn one (map content before) rows)) (in_turn one (map content after)) old new (Ok tt)
    (λ rows. sym (ap (λ l. in_turn one l rows) same ∙ fold_push _ rows (map content before) (content item)))
    (both_if_open (in_turn one (map content before)) (one (content item)) old mid new tt (Ok tt) first second)

whole : (change : Rows → Rows) (old begun last : State) (db : Trees) → begun.now ≡ old.committed → Steps change begun last → db ≡ last.now.trees → IsWhole change old db
whole change old begun last db same steps is rows has = rw is (stores (change rows) last.now (steps.rows rows (rw same has)))

whole_in_order : (change : Rows → Rows) (old begun last : State) (db : Trees) → begun.now ≡ old.committed → KeepsOrder change begun last → db ≡ last.now.trees → IsWholeInOrder change old db
whole_in_order change old begun last db same keeps is rows held =
    let made : HasRowsInOrder (change rows) last.now = keeps rows (rw same held) in
    rw is (record { has = stores (change rows) last.now made.has; in_place = made.in_place })

-- the changes that a transaction made are committed as it ends
committed : (change : Rows → Rows) (old begun last end : State) → begun.now ≡ old.committed → Steps change begun last → KeepsOrder change begun last →
    (IsTrue end.is_open → (db : Trees) → end.may_leave db → db ≡ end.committed.trees) → Shows last end last.now last.now false → Commits change old end
committed change old begun last end same steps keeps alone shows = record {
  rows = λ rows has. rw shows.committed_is (steps.rows rows (rw same has));
  in_order = λ rows held. rw shows.committed_is (keeps rows (rw same held));
  settled = shows.now_is ∙ sym shows.committed_is;
  is_open = shows.is_open;
  alone = alone shows.is_open;
}

-- what a call that failed has undone
pub on_failed : {X E : Type 0} {P Q : Type 0} (r : Result X E) → (P → Q) → OnErr r P → OnErr r Q
on_failed (Ok x) f is = is
on_failed (Err e) f is = f is

-- ---- a transaction that is begun, written in and committed

module _ {S X Y : Type 0} (g : Ghosts S) (change : Rows → Rows) (old : Held S) (last end : State) (x : X) (result : Result Y TableFault)
    (settles : IsTrue (state g old).is_open → (state g old).now ≡ (state g old).committed) (writes : Writes change (state g (record old { in_transaction = true })) last (Ok x))
    (was_open : HasCleanDisk end → IsTrue end.is_open → IsTrue last.is_open) (err : HasCleanDisk end → IsTrue last.in_transaction → IsTrue end.is_open → OnErr result (IsUndone last end))
    (survives : Survives last end (λ db. db ≡ last.now.trees)) where
  before : HasCleanDisk end → HasCleanDisk last
  before clean = omega (arith, survives.clean)

  stepped : HasCleanDisk last → Steps change (state g (record old { in_transaction = true })) last
  stepped clean = writes.steps clean refl

  ordered : HasCleanDisk last → KeepsOrder change (state g (record old { in_transaction = true })) last
  ordered clean = writes.in_order clean refl

  settled : HasCleanDisk last → (state g old).now ≡ (state g old).committed
  settled clean = settles ((writes.keeps clean refl).was_open (stepped clean).is_open)

  crash : Survives (state g old) end (IsWhole change (state g old))
  crash = survives_then (state g old) last end _ _ (IsWhole change (state g old)) (λ _ db none. absurd none)
      (λ clean db is. whole change (state g old) (state g (record old { in_transaction = true })) last db (settled (before clean)) (stepped (before clean)) is) (survives_begin g old last _ writes.survives) survives

  pub crash_in_order : Survives (state g old) end (IsWholeInOrder change (state g old))
  crash_in_order = survives_then (state g old) last end _ _ (IsWholeInOrder change (state g old)) (λ _ db none. absurd none)
      (λ clean db is. whole_in_order change (state g old) (state g (record old { in_transaction = true })) last db (settled (before clean)) (ordered (before clean)) is) (survives_begin g old last _ writes.survives) survives

  pub written_whole : end.in_transaction ≡ false → (HasCleanDisk end → OnOk result (Shows last end last.now last.now false)) → (IsTrue end.is_open → (db : Trees) → end.may_leave db → db ≡ end.committed.trees) → IfErr result IsOfStore →
      WritesWhole change (state g old) end result
  written_whole ended ok alone fault = record {
    ends = record { idle = ended; clean = λ clean. omega (arith, crash.clean); was_open = λ clean is_open. (writes.keeps (before clean) refl).was_open (was_open clean is_open) };
    ok = λ clean. on_ok result (committed change (state g old) (state g (record old { in_transaction = true })) last end (settled (before clean)) (stepped (before clean)) (ordered (before clean)) alone) (ok clean);
    err = λ clean is_open. on_failed result (λ (undone : IsUndone last end). undone.committed ∙ (stepped (before clean)).committed) (err clean (stepped (before clean)).inside is_open);
    crash = crash;
    fault = fault;
  }

  pub none_left : HasCleanDisk end → IsTrue end.is_open → OnErr result (end.now ≡ (state g old).committed)
  none_left clean is_open = on_failed result (λ (undone : IsUndone last end). undone.now ∙ (stepped (before clean)).committed) (err clean (stepped (before clean)).inside is_open)

-- ---- a text that is taken at once

-- a change alters no interchange
change_then_reply : (partner number : ℕ) (reply : List ℕ) (change : ChangeContent) (rows : Rows) → with_change change (with_reply partner number reply rows) ≡ with_reply partner number reply (with_change change rows)
change_then_reply partner number reply (visit_opened visit) rows = refl
change_then_reply partner number reply change rows = refl

changes_then_reply : (partner number : ℕ) (reply : List ℕ) (changes : List ChangeContent) (rows : Rows) → with_changes changes (with_reply partner number reply rows) ≡ with_reply partner number reply (with_changes changes rows)
changes_then_reply partner number reply [] rows = refl
changes_then_reply partner number reply (c ∷ changes) rows =
    ap (with_changes changes) (change_then_reply partner number reply c rows) ∙ changes_then_reply partner number reply changes (with_change c rows)

-- kept with its reply, and then what it changed, and then the number after it
pub writes_first : {X Y Z : Type 0} (partner : ℕ) (text : List ℕ) (taken : TakenContent) (a b c d : State) (x : X) (y : Y) (result : Result Z TableFault)
    → Writes (with_kept_reply partner taken.number text taken.reply) a b (Ok x) → WritesIfOpen (with_changes taken.changes) b c (Ok y)
    → Writes (with_next partner (taken.number + 1)) c d result → Writes (λ rows. with_interchange partner taken (with_waiting partner taken.number text rows)) a d result
writes_first partner text taken a b c d x y result kept changed next =
    let number = taken.number in
    let both = writes_then_if_open (with_kept_reply partner number text taken.reply) (with_changes taken.changes) a b c x (Ok y) kept changed in
    let whole = writes_then (λ rows. with_changes taken.changes (with_kept_reply partner number text taken.reply rows)) (with_next partner (number + 1)) a c d y result both next in
    writes_same (λ rows. with_next partner (number + 1) (with_changes taken.changes (with_kept_reply partner number text taken.reply rows)))
    (λ rows. with_interchange partner taken (with_waiting partner number text rows)) a d result
    (λ rows. ap (with_next partner (number + 1)) (changes_then_reply partner number taken.reply taken.changes (with_waiting partner number text rows))) whole

-- a run whose first text is taken at once, and then those after it
pub writes_run : {X Y : Type 0} (partner number : ℕ) (text : List ℕ) (taken behind : List TakenContent) (first : TakenContent) (a b c : State) (x : X) (result : Result Y TableFault)
    → first.number ≡ number → taken ≡ first ∷ behind → Writes (λ rows. with_interchange partner first (with_waiting partner first.number text rows)) a b (Ok x)
    → WritesIfOpen (with_interchanges partner behind) b c result → Writes (with_run partner number text taken) a c result
writes_run partner number text taken behind first a b c x result same is one more =
    writes_same (λ rows. with_interchanges partner behind (with_interchange partner first (with_waiting partner first.number text rows))) (with_run partner number text taken) a c result
    (λ rows i. with_run partner (same i) text (sym is i) rows)
    (writes_then_if_open (λ rows. with_interchange partner first (with_waiting partner first.number text rows)) (with_interchanges partner behind) a b c x result one more)
