-- Where a closing ends, and what it leaves there.
use Rattle.std.specs.{Prelude.{Contains, IsPermutation, find}, Option.{option_map, option_or}}
use Rattle.std.proofs.Common.{inl, inr, Result, Ok, Err, IsTrue, map, sym, subst, ◌∙◌, ◌≡◌, ◌⊎◌, ℕ, ◌<◌, ◌≤◌, List, [], ◌∷◌, ◌++◌, ◌||◌, Bool, true, false, Option, None, Some, filter, not, refl, ap, arith}
use Rattle.sqlite.{specs.{Effect.Database, State.{State, KeepsCommit, Survives}, Tree.Trees}, proofs.StateLemmas.survives_weaker}
use Rattle.office_rows.specs.{Stored.HasRows, Effects.is_pair, Opened.{NumberKept, OpenedRows}, Rows.{Interchange, Rows}}
use Rattle.office_tables.specs.declared.table_fault.TableFault.{TableFault}
use Rattle.office_closing.specs.{Changes.{closed_with, marked_for, unchanged, unmarked}, Lists.{list_content, SettledListContent}, Stored.HasRegister}
use Rattle.office_closing.specs.{Register.{archive_content, RegisterContent, closed_by, newest_visit, sealed_content}, declared.faults.CloseFault.CloseFault}
use Rattle.office_closing.specs.{declared.planning.Plan.Plan, declared.planning.PutAway.PutAway, Clearing.Clears, Copies.FileNames, Refusing.IsFileOf}
use Rattle.office_closing.specs.Closes.{AreHeld, AreInTheirOrder, ArePutAway, HasItsTexts, IsOfClosing, Closes, Closing, HasArchive, Held, IsBeforehand, IsMarkedNow, IsLeft, StoresLeftRows, StoresMarked, StoresRaised, Tells, cleared, closing_content, AreOfSetup, PutsAway}
use Rattle.office_closing.specs.{Files.{AreClean, AreIdle, AreRead, Files, IsRead}, Judging.{AreResting, IsJudged, IsResting}, Going.{MayGo, lines_on, name_of}}
use Rattle.office_closing.specs.{Steps.{IsOfWriting, StepsIf, is_unmarked, is_unraised}, DoneListLaws.KeepLines, Deleting.is_one_of}
use Rattle.office_closing.{specs.PuttingAway.{AreNamedThen, ListsThatGoAreAway, Stands}, proofs.PlanLemmas.{beyond_is_above, of_store_there, written_tells}}
use Rattle.office_closing.proofs.{TextLemmas.one_list, DoneAwayLemmas.put_away}
use Rattle.sqlite_rules.proofs.ListLemmas.{contains_had, has_contained, has_filtered, has_found, has_kept, has_left, has_right, some_from, some_has}
use Rattle.terminal_core.{specs.State.TerminalState, proofs.Lined.{same_key, tied_self}}
use Rattle.office_admission.specs.{Accounts.content_after, Setups.SetupContent}
use Rattle.office_replies.specs.Events.{Event}
use Rattle.office_loading.specs.{Closed.ClosedContent, OwnOffice.{AreInOrder, IsOwnOffice}}
use Rattle.office_history.{specs.{After.{AreKeptOnce, SaysSame, machine_after}, Cascade.text_in}, proofs.{Loads.{ShowsSetupAndTerminal, one_setup}, Kept.Rises}}
use Rattle.office_history.proofs.{Once.{once_if_rising, place, place_of}, Runs.pair_of}
use Rattle.office_parts.specs.{Archives.Archive, Closing.{is_beyond, is_closed}, LeftOver.rows_beyond, OwnTerminal.own_terminal, Away.{AreAway, lines_away}}
use Rattle.office_parts.{specs.{Bringing.{is_list, lines_of}, OwnLists.{ListName, rows_without_lists, without_lists}}, proofs.LeftOver.told_alike}
use Rattle.office_parts.proofs.{AwayLemmas.away_with, Writings.own_office_without}
use Rattle.office_closing.specs.declared.faults.File.TheVariants as file
use Rattle.office_closing.specs.declared.faults.CloseFault.TheVariants as fault
use Rattle.office_closing.proofs.FileLemmas as lemma

-- ---- reading

read_failed : {X Y E : Type 0} (old new : State) (fault : E) → IsRead {T = X} old new (Err fault) → IsRead {T = Y} old new (Err fault)
read_failed old new fault r = record { unchanged = λ clean. tt; keeps = r.keeps; mode = r.mode; survives = r.survives }

all_read_failed : {X Y : Type 0} (old new : Files) (fault : CloseFault) → AreRead {T = X} old new (Err fault) → AreRead {T = Y} old new (Err fault)
all_read_failed old new fault read = record {
  store = read_failed old.store new.store fault read.store;
  register = read_failed old.register new.register fault read.register;
  archive = read_failed old.archive new.archive fault read.archive;
  archive_register = read_failed old.archive_register new.archive_register fault read.archive_register;
}

-- whatever came after it
read_on : {X Y E : Type 0} {x : X} (old new : State) (fault : E) → IsRead {E = E} old new (Ok x) → IsRead {T = Y} old new (Err fault)
read_on old new fault r = record { unchanged = λ clean. tt; keeps = r.keeps; mode = r.mode; survives = r.survives }

read_to : {X Y E : Type 0} {x : X} (old new : State) (y : Y) → IsRead {E = E} old new (Ok x) → IsRead {T = Y} {E = E} old new (Ok y)
read_to old new y r = record { unchanged = r.unchanged; keeps = r.keeps; mode = r.mode; survives = r.survives }

pub idle_after : {X : Type 0} (old new : Files) (result : Result X CloseFault) → AreIdle old → AreRead old new result → AreIdle new
idle_after old new result idle read = record {
  store = read.store.mode idle.store;
  register = read.register.mode idle.register;
  archive = read.archive.mode idle.archive;
  archive_register = read.archive_register.mode idle.archive_register;
}

still : (P : Database → Type 0) (old new : State) → IsResting old → KeepsCommit old new → IsTrue new.is_open → P old.now → P new.committed
still P old new rests keeps is_open has = subst P (rests.settled (keeps.was_open is_open) ∙ sym (keeps.committed is_open)) has

quiet : (old new : State) (P : Trees → Type 0) → Survives old new (λ _. ⊥) → Survives old new P
quiet old new P = survives_weaker old new (λ _. ⊥) P (λ _ db none. absurd none)

not_before : (why : CloseFault) → IsOfWriting why → IsBeforehand why → ⊥
not_before (fault.Archive reason) of before = of
not_before (fault.File file) of before = before of
not_before (fault.Comparing table) of before = of
not_before fault.Memory of before = of

-- ---- nothing was written

pub closes_refused : {X Y : Type 0} (names : FileNames) (old new : Files) (fault : CloseFault) → AreResting old → AreIdle old → AreRead {T = X} old new (Err fault) →
    (AreClean new → (held : Held) → AreHeld held old → Tells held names old fault) → Closes {T = Y} names old new (Err fault)
closes_refused names old new fault rests idle read why = record {
  idle = idle_after old new (Err fault) idle read;
  ok = λ clean. tt;
  err = λ clean held has. record {
    store = λ is_open. inl (still (HasRows held.own) old.store new.store rests.store (read.store.keeps clean.store) is_open has.own);
    register = λ is_open. inl (still (HasRegister held.register) old.register new.register rests.register (read.register.keeps clean.register) is_open has.register);
    mark = λ is_open. inl (still (HasRegister held.copied) old.archive_register new.archive_register rests.archive_register (read.archive_register.keeps clean.archive_register) is_open has.copied);
  };
  untouched = λ _. all_read_failed old new fault read;
  tells = why;
  stopped = λ clean held has. inl (all_read_failed old new fault read);
  texts = λ clean held has order. inl (all_read_failed old new fault read);
  store = λ clean. quiet old.store new.store _ read.store.survives;
  register = λ clean. quiet old.register new.register _ read.register.survives;
  mark = λ clean. quiet old.archive_register new.archive_register _ read.archive_register.survives;
  archive = read_failed old.archive new.archive fault read.archive;
}

-- ---- after all four were read

module _ (names : FileNames) (old mid : Files) (plan : Plan) (rests : AreResting old) (idle : AreIdle old) (read : AreRead {E = CloseFault} old mid (Ok plan))
    (judged : AreClean mid → (held : Held) → AreHeld held old → IsJudged held names plan) (texts : AreClean mid → (held : Held) → AreHeld held old → AreInTheirOrder held old → HasItsTexts held) where
  abbrev closing : Closing
  closing = closing_content plan

  abbrev MarkSteps : {X : Type 0} → State → Result X CloseFault → Type 0
  MarkSteps end result = StepsIf (is_unmarked plan.stage) unmarked (marked_for names.store) mid.archive_register end result

  abbrev RaiseSteps : {X : Type 0} → State → Result X CloseFault → Type 0
  RaiseSteps end result = StepsIf (is_unraised plan.stage) unchanged (closed_with (archive_content plan.archive) plan.segments.items (map list_content plan.lists.items) plan.taken.items (map sealed_content plan.sealed.items)) mid.register end result

  mid_idle : AreIdle mid
  mid_idle = idle_after old mid (Ok plan) idle read

  -- the archive could not be marked
  module _ {X : Type 0} (end : State) (why : CloseFault) (marks : MarkSteps {X = X} end (Err why)) (at : IsFileOf file.ArchiveRegister why) where
    abbrev unmarked_files : Files
    unmarked_files = record { store = mid.store; register = mid.register; archive = mid.archive; archive_register = end }

    cleans_unmarked : AreClean unmarked_files → AreClean mid
    cleans_unmarked clean = record {
      store = clean.store;
      register = clean.register;
      archive = clean.archive;
      archive_register = lemma.was_clean mid.archive_register end _ marks.crash clean.archive_register;
    }

    pub closes_unmarked : {Y : Type 0} → Closes {T = Y} names old unmarked_files (Err why)
    closes_unmarked = record {
      idle = record { store = mid_idle.store; register = mid_idle.register; archive = mid_idle.archive; archive_register = marks.idle };
      ok = λ clean. tt;
      err = λ clean held has. record {
        store = λ is_open. inl (lemma.own_committed names old mid plan rests read judged (cleans_unmarked clean) held has);
        register = λ is_open. inl (lemma.register_committed names old mid plan rests read judged (cleans_unmarked clean) held has);
        mark = λ is_open. inl (lemma.mark_undone names old mid plan rests read judged end (Err why) marks clean.archive_register (cleans_unmarked clean) is_open held has);
      };
      untouched = λ before. absurd (not_before why marks.fault before);
      tells = λ clean held has. written_tells held names old why marks.fault;
      stopped = λ clean held has.
          inr (
            file.ArchiveRegister,
            at,
            marks.fault,
            (read.store.keeps (cleans_unmarked clean).store, read.register.keeps (cleans_unmarked clean).register),
          );
      texts = λ clean held has order. inr (texts (cleans_unmarked clean) held has order);
      store = λ clean. quiet old.store mid.store _ read.store.survives;
      register = λ clean. quiet old.register mid.register _ read.register.survives;
      mark = λ clean. lemma.mark_survives names old mid plan rests read judged end (Err why) marks (λ _. cleans_unmarked clean);
      archive = read_on old.archive mid.archive _ read.archive;
    }

  -- the archive is marked
  module _ {Z : Type 0} (z : Z) (marked : State) (marks : MarkSteps marked (Ok z)) where
    -- the store's register could not have the archive
    module _ {X : Type 0} (end : State) (why : CloseFault) (raises : RaiseSteps {X = X} end (Err why)) (at : IsFileOf file.Register why) where
      abbrev unraised_files : Files
      unraised_files = record { store = mid.store; register = end; archive = mid.archive; archive_register = marked }

      cleans_unraised : AreClean unraised_files → AreClean mid
      cleans_unraised clean = record {
        store = clean.store;
        register = lemma.was_clean mid.register end _ raises.crash clean.register;
        archive = clean.archive;
        archive_register = lemma.was_clean mid.archive_register marked _ marks.crash clean.archive_register;
      }

      pub closes_unraised : {Y : Type 0} → Closes {T = Y} names old unraised_files (Err why)
      closes_unraised = record {
        idle = record { store = mid_idle.store; register = raises.idle; archive = mid_idle.archive; archive_register = marks.idle };
        ok = λ clean. tt;
        err = λ clean held has. record {
          store = λ is_open. inl (lemma.own_committed names old mid plan rests read judged (cleans_unraised clean) held has);
          register = λ is_open. inl (lemma.raise_undone names old mid plan rests read judged end (Err why) raises clean.register (cleans_unraised clean) is_open held has);
          mark = λ is_open. inr (lemma.mark_made names old mid plan rests read judged marked z marks clean.archive_register (cleans_unraised clean) held has);
        };
        untouched = λ before. absurd (not_before why raises.fault before);
        tells = λ clean held has. written_tells held names old why raises.fault;
        stopped = λ clean held has.
            inr (
              file.Register,
              at,
              raises.fault,
              (
                read.store.keeps (cleans_unraised clean).store,
                lemma.marked_now names old mid plan rests read judged marked z marks clean.archive_register (cleans_unraised clean) held has,
              ),
            );
        texts = λ clean held has order. inr (texts (cleans_unraised clean) held has order);
        store = λ clean. quiet old.store mid.store _ read.store.survives;
        register = λ clean.
            lemma.raise_survives names old mid plan rests read judged end (Err why) raises unraised_files (λ _. cleans_unraised clean)
            (λ _. lemma.marked_now names old mid plan rests read judged marked z marks clean.archive_register (cleans_unraised clean));
        mark = λ clean. lemma.mark_survives names old mid plan rests read judged marked (Ok z) marks (λ _. cleans_unraised clean);
        archive = read_on old.archive mid.archive _ read.archive;
      }

    -- it has the archive
    module _ {W : Type 0} (w : W) (raised : State) (raises : RaiseSteps raised (Ok w)) (end : State) where
      abbrev raised_files : Files
      raised_files = record { store = end; register = raised; archive = mid.archive; archive_register = marked }

      module _ {X : Type 0} (result : Result X TableFault) (clears : Clears (cleared closing) (IsLeft closing) mid.store end result) where
        cleans : AreClean raised_files → AreClean mid
        cleans clean = record {
          store = clears.ends.clean clean.store;
          register = lemma.was_clean mid.register raised _ raises.crash clean.register;
          archive = clean.archive;
          archive_register = lemma.was_clean mid.archive_register marked _ marks.crash clean.archive_register;
        }

        is_marked : AreClean raised_files → (held : Held) → AreHeld held old → IsMarkedNow held names marked
        is_marked clean = lemma.marked_now names old mid plan rests read judged marked z marks clean.archive_register (cleans clean)

        has_archive : AreClean raised_files → (held : Held) → AreHeld held old → HasArchive held names closing raised_files
        has_archive clean held has =
            lemma.raise_made names old mid plan rests read judged raised_files w raises clean.register (cleans clean) held has (is_marked clean held has)

        all_idle : AreIdle raised_files
        all_idle = record { store = clears.ends.idle; register = raises.idle; archive = mid_idle.archive; archive_register = marks.idle }

        store_crash : AreClean raised_files → Survives old.store end (StoresLeftRows names old raised_files)
        store_crash clean = lemma.store_survives names old mid plan rests read judged raised_files result clears (λ _. has_archive clean) (λ _. cleans clean)

        register_crash : AreClean raised_files → Survives old.register raised (StoresRaised names old raised_files)
        register_crash clean = lemma.raise_survives names old mid plan rests read judged raised (Ok w) raises raised_files (λ _. cleans clean) (λ _. is_marked clean)

        mark_crash : AreClean raised_files → Survives old.archive_register marked (StoresMarked names old)
        mark_crash clean = lemma.mark_survives names old mid plan rests read judged marked (Ok z) marks (λ _. cleans clean)

      -- not all was deleted
      pub closes_uncleared : {X Y : Type 0} (why : TableFault) → Clears {T = X} (cleared closing) (IsLeft closing) mid.store end (Err why) → Closes {T = Y} names old raised_files (Err (fault.File (record { file = file.Store; fault = why })))
      closes_uncleared why clears = record {
        idle = all_idle (Err why) clears;
        ok = λ clean. tt;
        err = λ clean held has. record {
          store = λ is_open.
              let partly = clears.err clean.store is_open in
              let left = partly.rows held.own (lemma.own_committed names old mid plan rests read judged (cleans (Err why) clears clean) held has) in
              inr (closing, left.0, has_archive (Err why) clears clean held has, left.1, left.2);
          register = λ is_open.
              let it = has_archive (Err why) clears clean held has in
              inr (closing, it.is_closing, it.has, it.marked);
          mark = λ is_open. inr (is_marked (Err why) clears clean held has).has;
        };
        untouched = λ no. absurd (no clears.fault);
        tells = λ clean held has. of_store_there held names old file.Store why clears.fault;
        stopped = λ clean held has. inr (file.Store, refl, clears.fault, (closing, has_archive (Err why) clears clean held has));
        texts = λ clean held has order. inr (texts (cleans (Err why) clears clean) held has order);
        store = store_crash (Err why) clears;
        register = register_crash (Err why) clears;
        mark = mark_crash (Err why) clears;
        archive = read_on old.archive mid.archive _ read.archive;
      }

      -- what a plan puts away is what its closing does
      pub away_whole : {X : Type 0} (x : X) → Clears (cleared closing) (IsLeft closing) mid.store end (Ok x) → (away : PutAway) → IsOfClosing closing away → AreClean raised_files → ArePutAway names old away
      away_whole x clears away is clean held has = (closing, (has_archive (Ok x) clears clean held has).is_closing, is)

      -- all is gone that goes
      pub closes_whole : {X Y : Type 0} (x : X) (y : Y) → Clears (cleared closing) (IsLeft closing) mid.store end (Ok x) → Closes names old raised_files (Ok y)
      closes_whole x y clears = record {
        idle = all_idle (Ok x) clears;
        ok = λ clean held has.
            let whole = clears.ok clean.store (lemma.store_open names old mid plan rests read judged raised_files (Ok x) clears (λ _. has_archive (Ok x) clears clean) (cleans (Ok x) clears clean)) in
            let it = has_archive (Ok x) clears clean held has in (
              closing,
              it.is_closing,
              record {
                rows = whole.rows held.own (lemma.own_committed names old mid plan rests read judged (cleans (Ok x) clears clean) held has);
                register = it.has;
                mark = it.marked.has;
                store_settled = record { settled = whole.settled; is_open = whole.is_open; alone = whole.alone };
                register_settled = it.settled;
                mark_settled = it.marked.settled;
              },
            );
        err = λ clean. tt;
        untouched = tt;
        tells = λ clean. tt;
        stopped = λ clean. tt;
        texts = λ clean held has order. texts (cleans (Ok x) clears clean) held has order;
        store = store_crash (Ok x) clears;
        register = register_crash (Ok x) clears;
        mark = mark_crash (Ok x) clears;
        archive = read_to old.archive mid.archive y read.archive;
      }

-- ==== AwayLemmas: Lists that a closing puts away are away.

-- ---- lists by their names

one_named : (lists : List SettledListContent) (list : ListName) → is_one_of lists list ≡ true → (one : SettledListContent) × Contains lists one × (name_of one ≡ list)
one_named lists list e =
    let found = some_has (λ (one : SettledListContent). is_list (name_of one) list) lists e in
    (found.0, contains_had lists found.0 found.1, same_key (name_of found.0) list found.2)

named_one : (lists : List SettledListContent) (one : SettledListContent) → Contains lists one → is_one_of lists (name_of one) ≡ true
named_one lists one inside = some_from (λ (other : SettledListContent). is_list (name_of other) (name_of one)) lists one (has_contained lists one inside) (tied_self (name_of one))

-- what is none of some lists is none of those that are among them
none_of_fewer : (fewer lists : List SettledListContent) → ((one : SettledListContent) → Contains fewer one → Contains lists one) → (list : ListName) → is_one_of lists list ≡ false → is_one_of fewer list ≡ false
none_of_fewer fewer lists among list none = by (is_one_of fewer list) refl
  where
    by : (is : Bool) → is_one_of fewer list ≡ is → is ≡ false
    by true e =
        let found = one_named fewer list e in
        let its : is_one_of lists list ≡ true = subst (λ l. is_one_of lists l ≡ true) found.2 (named_one lists found.0 (among found.0 found.1)) in
        sym its ∙ none
    by false e = refl

-- ---- texts that wait

-- what stands beyond the closed interchanges stands there with them
text_beyond : (closed : ℕ → ℕ) (rows : Rows) (partner number : ℕ) (text : List ℕ) → text_in (rows_beyond closed rows) partner number ≡ Some text → text_in rows partner number ≡ Some text
text_beyond closed rows partner number text kept = by (find (is_pair partner number) (filter (is_beyond closed) rows.interchanges)) refl kept
  where
    by : (o : Option Interchange) → find (is_pair partner number) (filter (is_beyond closed) rows.interchanges) ≡ o → option_map (λ (i : Interchange). i.body) o ≡ Some text → text_in rows partner number ≡ Some text
    by None e there = absurd cc
    by (Some i) e there =
        let found = has_found (is_pair partner number) (filter (is_beyond closed) rows.interchanges) i e in
        let above : closed i.partner < i.number = beyond_is_above closed i (has_filtered (is_beyond closed) rows.interchanges i found.0).1 in
        let pair = pair_of partner number i found.1 in
        let same : closed i.partner ≡ closed partner = ap closed pair.0 in
        sym (told_alike closed rows partner number (omega (arith, above, pair.1, same))).text ∙ kept

-- a list that may go may go without them
may_beyond : (closed : ℕ → ℕ) (setup : SetupContent) (rows : Rows) (list : ListName) → MayGo setup rows list → MayGo setup (rows_beyond closed rows) list
may_beyond closed setup rows list may = record {
  done = may.done;
  free = λ waited. may.free (record {
    partner = waited.partner;
    number = waited.number;
    text = waited.text;
    waits = record {
      account = waited.waits.account;
      has = waited.waits.has;
      is_its = waited.waits.is_its;
      beyond = waited.waits.beyond;
      kept = text_beyond closed rows waited.partner waited.number waited.text waited.waits.kept;
    };
    names = waited.names;
  });
}

-- ---- the set-up

-- a store's own rows show its set-up and its terminal
shown_by_own : (closed : ClosedContent) (rows : OpenedRows) (content : SetupContent) (terminal : TerminalState) → IsOwnOffice closed rows content terminal → ShowsSetupAndTerminal rows content terminal
shown_by_own closed rows content terminal office = record {
  given = office.given;
  settings = office.settings;
  blocks = office.blocks;
  accounts = office.accounts;
  plan = office.plan;
  limit = office.limit;
  whole = office.whole;
  formed = office.formed;
  placed_once = office.placed_once;
  listed_once = office.listed_once;
  terminal = office.terminal;
}

-- in the order of partners and numbers they rise
rising : (count partner number : ℕ) (ns : List NumberKept) → number ≤ 999999999 → AreInOrder count partner number ns → Rises place (place_of partner number) ns
rising count partner number [] most order = tt
rising count partner number (n ∷ ns) most order = (above order.0.0, rising count n.partner n.number ns order.0.2 order.1)
  where
    above : ((n.partner ≡ partner) × (number < n.number)) ⊎ ((partner < n.partner) × (1 ≤ n.number)) → place_of partner number < place n
    above (inl near) = omega (arith, near.0, near.1)
    above (inr far) = omega (arith, far.0, far.1, most)

module _ (content : SetupContent) (es : List Event) (archives : List Archive) (rows : Rows) (register : RegisterContent) (stands : Stands content es archives rows register) where
  of_whole : (i : Interchange) → Contains rows.interchanges i → Contains stands.whole.interchanges i
  of_whole i inside = subst (λ l. Contains l i) (sym stands.parts.parts.interchanges) (by (is_closed stands.archived.last_closed i) refl)
    where
      by : (closed : Bool) → is_closed stands.archived.last_closed i ≡ closed → Contains (stands.archived.interchanges ++ stands.own.interchanges) i
      by true e =
          let here = contains_had _ i (has_kept (is_closed stands.archived.last_closed) rows.interchanges i (has_contained _ i inside) e) in
          contains_had _ i (has_left stands.archived.interchanges stands.own.interchanges i (has_contained _ i (stands.rest i here)))
      by false e =
          let here = contains_had _ i (has_kept (is_beyond stands.archived.last_closed) rows.interchanges i (has_contained _ i inside) (ap not e)) in
          let mine : Contains stands.own.interchanges i = subst (λ l. Contains l i) (ap (λ (r : Rows). r.interchanges) stands.beyond) here in
          contains_had _ i (has_right stands.archived.interchanges stands.own.interchanges i (has_contained _ i mine))

  -- the set-up that the rows open as is the opening one with the accounts so far
  says_now : (setup : SetupContent) → AreOfSetup rows register setup → SaysSame setup (content_after content es)
  says_now setup is =
      let closed : ClosedContent = closed_by register in
      let now : SetupContent = content_after content es in
      let newest : ℕ = newest_visit register.archives in
      let terminal : TerminalState = without_lists stands.away (own_terminal stands.archived.stays (machine_after content es).terminal) in
      let once : AreKeptOnce rows.interchanges = once_if_rising is.db rows is.loads.0 is.has is.loads.1 (rising _ 1 0 is.loads.0.numbers (omega arith) is.loads.2.own_numbers.in_order) in
      let shown = own_office_without content es stands.archived stands.own stands.whole rows stands.away is.db newest stands.given stands.parts stands.beyond once of_whole stands.visits is.has in
      one_setup is.db is.loads.0 shown.0 setup now is.terminal terminal is.loads.1 shown.1
      (shown_by_own closed is.loads.0 setup is.terminal is.loads.2)
      (shown_by_own (record { last_closed = stands.archived.last_closed; newest_closed = newest }) shown.0 now terminal shown.2)

-- ---- the law

module _ (content : SetupContent) (es : List Event) (archives after : List Archive) (held : Held) (closing : Closing) (deleted : ListName → Bool) (stands : Stands content es archives held.own held.register) (puts : PutsAway held closing)
    (named : AreNamedThen held closing archives after) (within : (list : ListName) → deleted list ≡ true → is_one_of closing.gone list ≡ true) where
  abbrev here : Rows
  here = rows_without_lists stands.away stands.own

  may : (list : ListName) → is_one_of closing.gone list ≡ true → MayGo puts.setup here list
  may list e =
      let one = one_named closing.gone list e in
      let of_rows : MayGo puts.setup held.own list = subst (MayGo puts.setup held.own) one.2 (puts.goes one.0 one.1).may in
      subst (λ (r : Rows). MayGo puts.setup r list) stands.beyond (may_beyond stands.archived.last_closed puts.setup held.own list of_rows)

  then_with : (list : ListName) → lines_away after list ≡ option_or (named.one.lists list) (lines_away named.before list)
  then_with list = ap (λ (l : List Archive). lines_away l list) named.are ∙ away_with named.before named.one list

  keep : (list : ListName) → is_one_of closing.gone list ≡ true → KeepLines after here list
  keep list e =
      let one = one_named closing.gone list e in
      let has = named.lists.each one.0 (puts.has one.0 one.1) in
      let goes = puts.goes one.0 one.1 in
      let same : goes.kept ≡ has.lines = one_list one.0.call one.0.side one.0.lines goes.kept has.lines goes.is_text has.is_text in
      let of_it : IsPermutation (lines_on list held.own.lines) has.lines = subst (λ (l : ListName). IsPermutation (lines_on l held.own.lines) has.lines) one.2 (subst (IsPermutation (lines_on (name_of one.0) held.own.lines)) same goes.same) in
      record {
        kept = has.lines;
        are = then_with list ∙ ap (λ o. option_or o (lines_away named.before list)) (ap named.one.lists (sym one.2) ∙ has.are);
        same = subst (λ (r : Rows). IsPermutation (lines_of list r) has.lines) stands.beyond of_it;
      }

  others : (list : ListName) → is_one_of closing.gone list ≡ false → lines_away after list ≡ lines_away archives list
  others list none = elim named.named [
    | inl new ↦
        then_with list
        ∙ ap (λ o. option_or o (lines_away named.before list)) (named.lists.only list (none_of_fewer closing.lists closing.gone (puts.only new.0) list none))
        ∙ ap (λ (l : List Archive). lines_away l list) (sym new.1)
    | inr old ↦ ap (λ (l : List Archive). lines_away l list) (sym old.1)
  ]

  away_then : AreAway after (λ (list : ListName). stands.away list || deleted list) content es stands.own
  away_then =
      put_away content puts.setup es archives after stands.away (is_one_of closing.gone) deleted stands.archived stands.own stands.whole stands.parts stands.lists
      (says_now content es archives held.own held.register stands puts.setup puts.is_setup) may keep others within

pub gone_away : ListsThatGoAreAway
gone_away content es archives after held closing deleted stands puts named within = away_then content es archives after held closing deleted stands puts named within
