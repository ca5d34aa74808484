-- What reading two queries row by row leaves, and what they have shown.
use Rattle.std.proofs.lemmas.List.{map-append}
use Rattle.std.proofs.lemmas.List.Elements.{filter-append}
use Rattle.std.proofs.Common.{◌≡◌, ◌⊎◌, inl, inr, ◌∙◌, ℕ, Bool, true, false, cond, List, [], ◌∷◌, ◌++◌, map, filter, Option, None, Some, Result, Ok, Err, IsErr, refl, sym, ap, subst, arith}
use Rattle.sqlite_value.specs.Order.{Row}
use Rattle.sqlite_trees.specs.declared.store.Store.{Ghosts}
use Rattle.sqlite.specs.{declared.error.Error.Error, Held.{Held, state}, Given.{HasBegun, HasGiven, Advances}, declared.rows.stream.Rows.Rows, Clock.timed}
use Rattle.sqlite.specs.{State.{State, HasCleanDisk, IsUnchanged, Fails, KeepsCommit, ShowsRows, Survives, Shown, CommitsShowing}, Effect.Database}
use Rattle.sqlite.{specs.Listing.{understood, reads_listing, IsSourceOf}, proofs.Callers.unchanged_then}
use Rattle.office_closing.specs.Arriving.{AreCompared, GoesBeyond, IsReadOn, TellsRows, arrival_in, arrivals_in, shows_beyond, stops_at}
use Rattle.office_closing.specs.{declared.arriving.Likeness.Likeness, Files.IsRead}
use Rattle.office_rows.proofs.Creating.{keep_then, on_ok, quiet_then, stops_keep}
use Rattle.office_loading.proofs.StreamLemmas.{begun_shows}
use Rattle.office_tables.specs.{Reading.OnlyShows, Faults.{IsOfStore, IsOfStoreOr}, declared.table_fault.TableFault.TableFault}
use Rattle.office_tables.{specs.declared.table_fault.TableFault.TheVariants.{Store, Damaged, Version, Memory}, proofs.MadeLemmas.query_survives}
use Rattle.office_closing.specs.declared.arriving.Likeness.TheVariants as likeness

-- ---- what a connection is left as

module _ {S : Type 0} (g : Ghosts S) where
  pub read_any : {T U E F : Type 0} (old new : State) (x : U) (result : Result T E) → IsRead {E = F} old new (Ok x) → IsRead old new result
  read_any old new x (Ok y) read = record { unchanged = read.unchanged; keeps = read.keeps; mode = read.mode; survives = read.survives }
  read_any old new x (Err e) read = record { unchanged = λ clean. tt; keeps = read.keeps; mode = read.mode; survives = read.survives }

  read_then : {T U E F : Type 0} (a b c : State) (x : U) (result : Result T E) → IsRead {E = F} a b (Ok x) → IsRead b c result → IsRead a c result
  read_then a b c x result p q =
      let clean_first : HasCleanDisk c → HasCleanDisk b = λ clean. omega (arith, q.survives.clean, clean) in
      record {
        unchanged = λ clean. on_ok result (unchanged_then a b c (p.unchanged (clean_first clean))) (q.unchanged clean);
        keeps = λ clean. keep_then a b c (p.keeps (clean_first clean)) (q.keeps clean);
        mode = λ outside. q.mode (p.mode outside);
        survives = quiet_then a b c p.survives q.survives;
      }

  pub on_none : {T E : Type 0} (rows : Rows S g) (result : Result T E) → IsReadOn g rows rows result
  on_none rows result = record { same_reference = refl; read = inl refl }

  -- whatever comes of what was read
  pub on_any : {T U E F : Type 0} (old new : Rows S g) (x : U) (result : Result T E) → IsReadOn {E = F} g old new (Ok x) → IsReadOn g old new result
  on_any old new x result on = record {
    same_reference = on.same_reference;
    read = elim on.read [ inl none ↦ inl none | inr read ↦ inr (read_any (state g old.conn.now) (state g new.conn.now) x result read) ];
  }

  -- what failed has the fault of what it called
  pub on_failed : {T U E F : Type 0} (old new : Rows S g) (e : F) (result : Result T E) → IsErr result → IsReadOn {T = U} g old new (Err e) → IsReadOn g old new result
  on_failed old new e (Ok x) err on = absurd cc
  on_failed old new e (Err f) err on = record {
    same_reference = on.same_reference;
    read = elim on.read [ inl none ↦ inl none | inr read ↦ inr (record { unchanged = λ clean. tt; keeps = read.keeps; mode = read.mode; survives = read.survives }) ];
  }

  pub on_clean : {T E : Type 0} (old new : Rows S g) (result : Result T E) → IsReadOn g old new result → HasCleanDisk (state g new.conn.now) → HasCleanDisk (state g old.conn.now)
  on_clean old new result on clean = elim on.read [
    | inl none ↦ subst (λ (h : Held S). HasCleanDisk (state g h)) none clean
    | inr read ↦ omega (arith, read.survives.clean, clean)
  ]

  pub on_then : {T U E F : Type 0} (a b c : Rows S g) (x : U) (result : Result T E) → IsReadOn {E = F} g a b (Ok x) → IsReadOn g b c result → IsReadOn g a c result
  on_then {T} {U} {E} {F} a b c x result p q = record {
    same_reference = q.same_reference ∙ p.same_reference;
    read = elim p.read [
      | inl none ↦ elim q.read [
        | inl neither ↦ inl (neither ∙ none)
        | inr read ↦ inr (subst (λ (h : Held S). IsRead (state g h) (state g c.conn.now) result) none read)
      ]
      | inr first ↦ elim q.read [
        | inl none ↦ inr (subst (λ (h : Held S). IsRead (state g a.conn.now) (state g h) result) (sym none) (read_any (state g a.conn.now) (state g b.conn.now) x result first))
        | inr read ↦ inr (read_then (state g a.conn.now) (state g b.conn.now) (state g c.conn.now) x result first read)
      ]
    ];
  }

  -- what a query leaves that only shows rows
  pub begun_is : (sql : List ℕ) (old new : Held S) → OnlyShows sql → (HasCleanDisk (state g new) → HasBegun g sql [] old new) → HasCleanDisk (state g new) → HasGiven g sql [] new [] × IsUnchanged (state g old) (state g new)
  begun_is sql old new shows begun clean = begun_shows g sql [] old new shows (begun clean)

  pub begun_read : (sql : List ℕ) (old new : Held S) → OnlyShows sql → (HasCleanDisk (state g new) → HasBegun g sql [] old new) → (old.in_transaction ≡ false → new.in_transaction ≡ false) → Survives (state g old) (state g new) (CommitsShowing sql [] (state g old)) → IsRead {T = Unit {0}} {E = Error} (state g old) (state g new) (Ok tt)
  begun_read sql old new shows begun mode survives = record {
    unchanged = λ clean. (begun_is sql old new shows begun clean).1;
    keeps = λ clean. stops_keep _ _ (inl (begun_is sql old new shows begun clean).1);
    mode = mode;
    survives = query_survives sql [] (state g old) (state g new) shows survives;
  }

  -- and what is left of it when it was read on
  pub read_since : {T U E F : Type 0} (old : State) (now new : Rows S g) (x : U) (result : Result T E) → IsRead {E = F} old (state g now.conn.now) (Ok x) → IsReadOn g now new result → IsRead old (state g new.conn.now) result
  read_since old now new x result read on = elim on.read [
    | inl none ↦ subst (λ (h : Held S). IsRead old (state g h) result) (sym none) (read_any old (state g now.conn.now) x result read)
    | inr more ↦ read_then old (state g now.conn.now) (state g new.conn.now) x result read more
  ]

  pub on_same : {T E : Type 0} (old new : Rows S g) (x : T) → IsReadOn {E = E} g old new (Ok x) → HasCleanDisk (state g new.conn.now) → (state g new.conn.now).now ≡ (state g old.conn.now).now
  on_same old new x on clean = elim on.read [
    | inl none ↦ ap (λ (h : Held S). (state g h).now) none
    | inr read ↦ (read.unchanged clean).0.now_is
  ]

  module _ (now new : Rows S g) (same_reference : new.conn.ghost_name ≡ now.conn.ghost_name) (mode : (state g now.conn.now).in_transaction ≡ false → (state g new.conn.now).in_transaction ≡ false) (survives : Survives (state g now.conn.now) (state g new.conn.now) (λ _. ⊥)) where
    -- one row more was read
    pub read_one : (HasCleanDisk (state g new.conn.now) → IsUnchanged (state g now.conn.now) (state g new.conn.now)) → IsReadOn {T = Unit {0}} {E = Error} g now new (Ok tt)
    read_one same = record {
      same_reference = same_reference;
      read = inr (record { unchanged = same; keeps = λ clean. stops_keep _ _ (inl (same clean)); mode = mode; survives = survives });
    }

    -- no row could be read
    pub read_no_more : {T : Type 0} (e : Error) (result : Result T Error) → IsErr result → (HasCleanDisk (state g new.conn.now) → Fails (state g now.conn.now) (state g new.conn.now) ⊥ e ⊎ IsUnchanged (state g now.conn.now) (state g new.conn.now)) → IsReadOn g now new result
    read_no_more e (Ok x) err kept = absurd cc
    read_no_more e (Err f) err kept = record {
      same_reference = same_reference;
      read = inr (record { unchanged = λ clean. tt; keeps = λ clean. kept_by (kept clean); mode = mode; survives = survives });
    }
      where
        kept_by : Fails (state g now.conn.now) (state g new.conn.now) ⊥ e ⊎ IsUnchanged (state g now.conn.now) (state g new.conn.now) → KeepsCommit (state g now.conn.now) (state g new.conn.now)
        kept_by (inl failed) = stops_keep _ _ (inr failed.3)
        kept_by (inr same) = stops_keep _ _ (inl same)

-- nothing is said of rows
pub no_damage : (fault : TableFault) → IsOfStore fault → IsOfStoreOr ⊥ fault
no_damage (Store e) is = tt
no_damage Memory is = tt
no_damage Damaged is = is
no_damage Version is = is

-- ---- what rows show

shown_from : (sql : List ℕ) (params : Row) (old mid new : State) (rows : List Row) → OnlyShows sql → IsUnchanged old mid → Shown sql params mid new rows → Shown sql params old new rows
unfolding Shown
shown_from sql params old mid new rows shows same h =
    let none = shows mid.now.schema h.0 h.1.is in
    let full = timed params h.0.formats h.1.now in
    let it = subst (ShowsRows mid new sql h.0 full rows) none h.2 in (
      h.0,
      record { is = subst (λ (d : Database). understood d.schema sql ≡ Ok h.0) same.0.now_is h.1.is; whole = h.1.whole; given = h.1.given; now = h.1.now },
      subst (ShowsRows old new sql h.0 full rows) (sym none) (it.0, subst (λ (d : Database). IsSourceOf (reads_listing d.schema sql) d it.0) same.0.now_is it.1, it.2, unchanged_then old mid new same it.3),
    )

cons_shown : (last_closed : ℕ → ℕ) (row : Row) (b : Bool) → shows_beyond last_closed row ≡ b → arrivals_in last_closed (row ∷ []) ≡ (cond b (arrival_in row ∷ []) [])
cons_shown last_closed row true e = ap (λ b. map arrival_in (cond b (row ∷ []) [])) e
cons_shown last_closed row false e = ap (λ b. map arrival_in (cond b (row ∷ []) [])) e

module _ (last_closed : ℕ → ℕ) (given : List Row) (row : Row) where
  arrivals_pushed : arrivals_in last_closed (given ++ row ∷ []) ≡ arrivals_in last_closed given ++ arrivals_in last_closed (row ∷ [])
  arrivals_pushed = ap (map arrival_in) (filter-append (shows_beyond last_closed) given (row ∷ [])) ∙ map-append arrival_in (filter (shows_beyond last_closed) given) (filter (shows_beyond last_closed) (row ∷ []))

  pub more_arrived : shows_beyond last_closed row ≡ true → arrivals_in last_closed (given ++ row ∷ []) ≡ arrivals_in last_closed given ++ arrival_in row ∷ []
  more_arrived e = arrivals_pushed ∙ ap (λ l. arrivals_in last_closed given ++ l) (cons_shown last_closed row true e)

  pub none_arrived : shows_beyond last_closed row ≡ false → arrivals_in last_closed (given ++ row ∷ []) ≡ arrivals_in last_closed given
  none_arrived e = arrivals_pushed ∙ ap (λ l. arrivals_in last_closed given ++ l) (cons_shown last_closed row false e) ∙ append_none (arrivals_in last_closed given)
    where
      append_none : (l : List Row) → l ++ [] ≡ l
      append_none [] = refl
      append_none (x ∷ l) = ap (λ t. x ∷ t) (append_none l)

module _ {S : Type 0} (g : Ghosts S) (last_closed : ℕ → ℕ) where
  -- whatever was given before, no row that was given since shows a number beyond what is closed
  abbrev pub HasPassed : (old now : Held S) → Type 0
  HasPassed old now =
      (sql : List ℕ) (given : List Row) → OnlyShows sql → HasGiven g sql [] old given
      → (more : List Row) × HasGiven g sql [] now more × (arrivals_in last_closed more ≡ arrivals_in last_closed given)

  pub passes_none : (old : Held S) → HasPassed old old
  passes_none old sql given shows has = (given, has, refl)

  -- what was shown since is shown from the start
  pub shown_since : (old now : Rows S g) (new : Held S) (on : IsReadOn {T = Unit {0}} {E = Error} g old now (Ok tt)) (clean : HasCleanDisk (state g now.conn.now)) (sql : List ℕ) (rows : List Row) → OnlyShows sql → Shown sql [] (state g now.conn.now) (state g new) rows → Shown sql [] (state g old.conn.now) (state g new) rows
  shown_since old now new on clean sql rows shows shown = elim on.read [
    | inl none ↦ subst (λ (h : Held S). Shown sql [] (state g h) (state g new) rows) none shown
    | inr read ↦ shown_from sql [] (state g old.conn.now) (state g now.conn.now) (state g new) rows shows (read.unchanged clean) shown
  ]

  module _ (old now new : Rows S g) (on : IsReadOn {T = Unit {0}} {E = Error} g old now (Ok tt)) (clean : HasCleanDisk (state g now.conn.now)) (passed : HasPassed old.conn.now now.conn.now) where
    pub comes_to : (stands : Option Row) → Advances g now.conn.now new.conn.now stands → stops_at last_closed stands ≡ true → GoesBeyond g last_closed old.conn.now new.conn.now stands
    comes_to None moved stops sql given shows has =
        let so_far = passed sql given shows has in
        (so_far.0, shown_since old now new.conn.now on clean sql so_far.0 shows (moved sql [] so_far.0 so_far.1), so_far.2)
    comes_to (Some row) moved stops sql given shows has =
        let so_far = passed sql given shows has in
        (so_far.0 ++ row ∷ [], moved sql [] so_far.0 so_far.1, more_arrived last_closed so_far.0 row stops ∙ ap (λ l. l ++ arrival_in row ∷ []) so_far.2)

    pub passes_more : (stands : Option Row) → Advances g now.conn.now new.conn.now stands → stops_at last_closed stands ≡ false → HasPassed old.conn.now new.conn.now
    passes_more None moved stops sql given shows has = absurd cc
    passes_more (Some row) moved stops sql given shows has =
        let so_far = passed sql given shows has in
        (so_far.0 ++ row ∷ [], moved sql [] so_far.0 so_far.1, none_arrived last_closed so_far.0 row stops ∙ so_far.2)

-- ---- two queries

module _ {S A : Type 0} (g : Ghosts S) (h : Ghosts A) (last_closed : ℕ → ℕ) where
  -- both have shown the same so far
  abbrev pub HaveShownSame : (own own' : Held S) → (copy copy' : Held A) → Type 0
  HaveShownSame own own' copy copy' =
      (sql : List ℕ) → OnlyShows sql → HasGiven g sql [] own [] → HasGiven h sql [] copy []
      → (given : List Row) × (given' : List Row) × HasGiven g sql [] own' given × HasGiven h sql [] copy' given' × (arrivals_in last_closed given' ≡ arrivals_in last_closed given)

  pub none_shown : (own : Held S) (copy : Held A) → HaveShownSame own own copy copy
  none_shown own copy sql shows has has' = ([], [], has, has', refl)

  module _ (own own1 own2 : Rows S g) (copy copy1 copy2 : Rows A h)
      (own_on : IsReadOn {T = Unit {0}} {E = Error} g own own1 (Ok tt)) (own_clean : HasCleanDisk (state g own1.conn.now))
      (copy_on : IsReadOn {T = Unit {0}} {E = Error} h copy copy1 (Ok tt)) (copy_clean : HasCleanDisk (state h copy1.conn.now))
      (same : HaveShownSame own.conn.now own1.conn.now copy.conn.now copy1.conn.now) where
    both_ended : GoesBeyond g last_closed own1.conn.now own2.conn.now None → GoesBeyond h last_closed copy1.conn.now copy2.conn.now None → AreCompared g h last_closed own.conn.now own2.conn.now copy.conn.now copy2.conn.now likeness.Same
    both_ended kept copied sql shows has has' =
        let s = same sql shows has has' in
        let o = kept sql s.0 shows s.2 in
        let c = copied sql s.1 shows s.3 in
        record { all = o.0; shown = shown_since g last_closed own own1 own2.conn.now own_on own_clean sql o.0 shows o.1; copied = c.0; copied_shown = shown_since h last_closed copy copy1 copy2.conn.now copy_on copy_clean sql c.0 shows c.1; same = c.2 ∙ s.4 ∙ sym o.2 }

    copy_ended : (row : Row) → GoesBeyond g last_closed own1.conn.now own2.conn.now (Some row) → GoesBeyond h last_closed copy1.conn.now copy2.conn.now None → AreCompared g h last_closed own.conn.now own2.conn.now copy.conn.now copy2.conn.now likeness.First
    copy_ended row kept copied sql shows has has' =
        let s = same sql shows has has' in
        let o = kept sql s.0 shows s.2 in
        let c = copied sql s.1 shows s.3 in
        record { copied = c.0; copied_shown = shown_since h last_closed copy copy1 copy2.conn.now copy_on copy_clean sql c.0 shows c.1; given = o.0; has = o.1; one = arrival_in row; shows = o.2 ∙ ap (λ l. l ++ arrival_in row ∷ []) (sym s.4 ∙ sym c.2) }

    own_ended : (row : Row) → GoesBeyond g last_closed own1.conn.now own2.conn.now None → GoesBeyond h last_closed copy1.conn.now copy2.conn.now (Some row) → AreCompared g h last_closed own.conn.now own2.conn.now copy.conn.now copy2.conn.now likeness.Other
    own_ended row kept copied sql shows has has' =
        let s = same sql shows has has' in
        let o = kept sql s.0 shows s.2 in
        let c = copied sql s.1 shows s.3 in
        record { before = arrivals_in last_closed s.1; one = arrival_in row; given = c.0; has = c.1; shows = c.2; another = inl (o.0, shown_since g last_closed own own1 own2.conn.now own_on own_clean sql o.0 shows o.1, o.2 ∙ sym s.4) }

    own_differs : (other row : Row) → ¬ (arrival_in other ≡ arrival_in row) → GoesBeyond g last_closed own1.conn.now own2.conn.now (Some other) → GoesBeyond h last_closed copy1.conn.now copy2.conn.now (Some row) → AreCompared g h last_closed own.conn.now own2.conn.now copy.conn.now copy2.conn.now likeness.Other
    own_differs other row differs kept copied sql shows has has' =
        let s = same sql shows has has' in
        let o = kept sql s.0 shows s.2 in
        let c = copied sql s.1 shows s.3 in
        record { before = arrivals_in last_closed s.1; one = arrival_in row; given = c.0; has = c.1; shows = c.2; another = inr (o.0, arrival_in other, o.1, o.2 ∙ ap (λ l. l ++ arrival_in other ∷ []) (sym s.4), differs) }

    pub told_by : (kept copied : Option Row) (told : Likeness) → TellsRows kept copied (Some told) → GoesBeyond g last_closed own1.conn.now own2.conn.now kept → GoesBeyond h last_closed copy1.conn.now copy2.conn.now copied
        → AreCompared g h last_closed own.conn.now own2.conn.now copy.conn.now copy2.conn.now told
    told_by None None told is here there =
        let told_is : likeness.Same ≡ told = cc in
        subst (AreCompared g h last_closed own.conn.now own2.conn.now copy.conn.now copy2.conn.now) told_is (both_ended here there)
    told_by (Some row) None told is here there =
        let told_is : likeness.First ≡ told = cc in
        subst (AreCompared g h last_closed own.conn.now own2.conn.now copy.conn.now copy2.conn.now) told_is (copy_ended row here there)
    told_by None (Some row) told is here there =
        let told_is : likeness.Other ≡ told = cc in
        subst (AreCompared g h last_closed own.conn.now own2.conn.now copy.conn.now copy2.conn.now) told_is (own_ended row here there)
    told_by (Some other) (Some row) told is here there = subst (AreCompared g h last_closed own.conn.now own2.conn.now copy.conn.now copy2.conn.now) (sym is.0) (own_differs other row is.1 here there)

    pub goes_on : (kept copied : Option Row) → TellsRows kept copied None → GoesBeyond g last_closed own1.conn.now own2.conn.now kept → GoesBeyond h last_closed copy1.conn.now copy2.conn.now copied
        → HaveShownSame own.conn.now own2.conn.now copy.conn.now copy2.conn.now
    goes_on None None is here there = absurd cc
    goes_on (Some row) None is here there = absurd cc
    goes_on None (Some row) is here there = absurd cc
    goes_on (Some other) (Some row) is kept copied = λ sql shows has has'.
        let s = same sql shows has has' in
        let c = copied sql s.1 shows s.3 in
        let o = kept sql s.0 shows s.2 in
        (o.0, c.0, o.1, c.1, c.2 ∙ ap (λ l. l ++ arrival_in row ∷ []) s.4 ∙ ap (λ r. arrivals_in last_closed s.0 ++ r ∷ []) (sym is) ∙ sym o.2)
