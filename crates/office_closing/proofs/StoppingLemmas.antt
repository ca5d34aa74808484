-- What a stop of a closing leaves, and that a closing goes on from there.
use Rattle.std.specs.{Prelude.{◌&&◌, nat_le}, List.{AllByRecursion, list_all}, Ordering.{is_lt, ordering_reverse}}
use Rattle.std.proofs.Common.{◌≡◌, ◌⊎◌, inl, inr, ℕ, ◌+◌, ◌≤◌, ◌==◌, List, [], ◌∷◌, ◌++◌, Bool, true, false, cond, not, filter, length, Option, None, Some, Result, Less, refl, sym, ap, ap₂, subst, ◌∙◌, arith}
use Rattle.std.proofs.lemmas.Bool.{and_parts, eqb-true, eq-eqb, leb-true}
use Rattle.sqlite.specs.{Effect.Database, Tree.Trees}
use Rattle.sqlite_trees.specs.declared.store.Store.{Ghosts}
use Rattle.edi_messages.specs.Texts.{is_name}
use Rattle.terminal_core.specs.State.{last_number}
use Rattle.office_rows.{specs.{Rows.Rows, Stored.{HasRows, StoresRows}}, proofs.Creating.stores}
use Rattle.office_closing.specs.{Changes.{closed_with, marked_for, unmarked}, Files.{AreClean, Files, files}, Seals.seals_of, Tables.whole}
use Rattle.office_closing.specs.Closes.{AreHeld, AreOrderly, Closes, Closing, Held, IsAtStage, IsClosing, IsLeft, raised_register}
use Rattle.office_closing.specs.Copies.{ComesOn, FileNames, HasCome, IsOpened, OfficeContent, archive_in, is_put_away_with, is_sealed_with, is_with, lists_at, numbers_from, numbers_of, raised_by, segments_of}
use Rattle.office_closing.specs.{Lists.{SettledListContent, comes_before, list_cmp, put_list, put_lists}, Stored.{HasRegister, StoresEither}}
use Rattle.office_closing.specs.{Register.{RegisterContent, SealedContent, last_closed}, declared.faults.CloseFault.CloseFault, declared.planning.Stage.Stage}
use Rattle.office_closing.specs.Sound.{are_rising, are_sound_archives, are_sound_lists, are_sound_segments, are_sound_sealed, are_sound_taken, is_sound, is_file_name, is_sound_mark, is_within, may_be_list, may_be_sealed}
use Rattle.office_closing.specs.Stopping.{AreLeft, AreSettled, GoesOnFrom, IsOnItsWay, Left, MayBeLeft, StoppedClosingsGoOn, StopsAreOnTheWay}
use Rattle.office_closing.{specs.declared.register.Segment.Segment, proofs.{NumberLemmas.visits_loaded, WaitingLemmas.one_nexts}}
use Rattle.office_closing.proofs.SoundLemmas.{IsAfter, all_after, list_total, rising, sealed_within, settled, taken_within}
use Rattle.office_closing.specs.declared.planning.Stage.TheVariants as stage

-- ---- what is left

all_stay : {A : Type 0} (p : A → Bool) → ((x : A) → p x ≡ true) → (xs : List A) → xs ≡ filter p xs
all_stay p all [] = refl
all_stay p all (x ∷ xs) = ap (λ l. x ∷ l) (all_stay p all xs) ∙ sym (ap (λ b. cond b (x ∷ filter p xs) (filter p xs)) (all x))

none_gone : (closing : Closing) (rows : Rows) → IsLeft closing rows rows
none_gone closing rows = record {
  deleted = λ i. false;
  only = λ i e. absurd cc;
  kept = λ n. true;
  stay = λ n e. refl;
  away = λ list. false;
  lists = λ list e. absurd cc;
  is = λ j. record rows {
    interchanges = all_stay (λ i. true) (λ i. refl) rows.interchanges j;
    visits = all_stay (λ v. true) (λ v. refl) rows.visits j;
    lines = all_stay (λ l. true) (λ l. refl) rows.lines j;
  };
}

stores_either : (content : RegisterContent) (db : Database) → HasRegister content db → StoresEither content db.trees
stores_either content db has = (
  has.0,
  record { schema = refl; listed = has.1.listed; archives = has.1.archives; segments = has.1.segments; closed_for = has.1.closed_for; lists = has.1.lists; taken = has.1.taken; sealed = has.1.sealed },
)

module _ (names : FileNames) (held : Held) (old new : Files) (has : AreHeld held old) (rest : AreSettled old) (clean : AreClean new) {T : Type 0} (result : Result T CloseFault) (closes : Closes names old new result)
    (left : Left) (may : MayBeLeft new left) where
  copy_left : StoresRows held.copy left.archive
  copy_left = elim ((closes.archive).survives.crash clean.archive left.archive may.archive) [
    | inl before ↦
        let same : left.archive ≡ old.archive.now.trees = rest.archive.alone left.archive before ∙ ap (λ (d : Database). d.trees) (sym rest.archive.settled) in
        subst (StoresRows held.copy) (sym same) (stores held.copy old.archive.now has.copy)
    | inr none ↦ absurd none
  ]

  own_before : old.store.may_leave left.store → StoresRows held.own left.store
  own_before before =
      let same : left.store ≡ old.store.now.trees = rest.store.alone left.store before ∙ ap (λ (d : Database). d.trees) (sym rest.store.settled) in
      subst (StoresRows held.own) (sym same) (stores held.own old.store.now has.own)

  register_before : old.register.may_leave left.register → StoresEither held.register left.register
  register_before before =
      let same : left.register ≡ old.register.now.trees = rest.register.alone left.register before ∙ ap (λ (d : Database). d.trees) (sym rest.register.settled) in
      subst (StoresEither held.register) (sym same) (stores_either held.register old.register.now has.register)

  copied_before : old.archive_register.may_leave left.archive_register → StoresEither held.copied left.archive_register
  copied_before before =
      let same : left.archive_register ≡ old.archive_register.now.trees = rest.archive_register.alone left.archive_register before ∙ ap (λ (d : Database). d.trees) (sym rest.archive_register.settled) in
      subst (StoresEither held.copied) (sym same) (stores_either held.copied old.archive_register.now has.copied)

  -- of a register that is settled only this is left
  settled_left : (content : RegisterContent) (database : Database) (trees : Trees) → trees ≡ database.trees → HasRegister content database → StoresEither content trees
  settled_left content database trees same has_it = subst (StoresEither content) (sym same) (stores_either content database has_it)

  -- the register has the archive
  raised_with : (closing : Closing) (rows : Rows) → IsClosing held names closing → IsLeft closing held.own rows → StoresRows rows left.store → StoresEither (raised_register held closing) left.register
      → StoresEither (marked_for names.store held.copied) left.archive_register → AreLeft held names left
  raised_with closing rows is some of_own of_register of_mark = (
    record { own = rows; register = raised_register held closing; copy = held.copy; copied = marked_for names.store held.copied },
    record { own = of_own; register = of_register; copy = copy_left; copied = of_mark },
    inr (record {
      closing = closing;
      is_closing = is;
      come = stage.Raised;
      at = (refl, refl);
      some = some;
      all = λ due. absurd cc;
      copy = refl;
      copied = refl;
      register_sound = is.sound;
      copied_sound = is.sound_mark;
    }),
  )

  -- the archive is marked, and the register doesn't have it
  marked_with : (closing : Closing) → IsClosing held names closing → IsAtStage held names closing stage.New → StoresRows held.own left.store → StoresEither held.register left.register
      → StoresEither (marked_for names.store held.copied) left.archive_register → AreLeft held names left
  marked_with closing is new of_own of_register of_mark = (
    record { own = held.own; register = held.register; copy = held.copy; copied = marked_for names.store held.copied },
    record { own = of_own; register = of_register; copy = copy_left; copied = of_mark },
    inr (record {
      closing = closing;
      is_closing = is;
      come = stage.Marked;
      at = (new.0, refl);
      some = none_gone closing held.own;
      all = λ due. refl;
      copy = refl;
      copied = refl;
      register_sound = has.register_sound;
      copied_sound = is.sound_mark;
    }),
  )

  are_left : AreLeft held names left
  are_left = elim ((closes.store clean).crash clean.store left.store may.store) [
    | inl before ↦ elim ((closes.register clean).crash clean.register left.register may.register) [
      | inl register_was ↦ elim ((closes.mark clean).crash clean.archive_register left.archive_register may.archive_register) [
        | inl mark_was ↦ (held, record { own = own_before before; register = register_before register_was; copy = copy_left; copied = copied_before mark_was }, inl refl)
        | inr marked ↦
            let it = marked held has in
            marked_with it.0 it.1 it.2 (own_before before) (register_before register_was) (whole, it.3)
      ]
      | inr raised ↦
          let it = raised held has in
          raised_with it.0 held.own it.1 (none_gone it.0 held.own) (own_before before) (whole, it.2)
          (settled_left (marked_for names.store held.copied) new.archive_register.committed left.archive_register (it.3.settled.alone left.archive_register may.archive_register) it.3.has)
    ]
    | inr after ↦
        let it = after held has in
        raised_with it.0 it.1 it.2.is_closing it.3 it.4
        (settled_left (raised_register held it.0) new.register.committed left.register (it.2.settled.alone left.register may.register) it.2.has)
        (settled_left (marked_for names.store held.copied) new.archive_register.committed left.archive_register (it.2.marked.settled.alone left.archive_register may.archive_register) it.2.marked.has)
  ]

pub on_the_way : {S R A M : Type 0} (s : Ghosts S) (r : Ghosts R) (a : Ghosts A) (m : Ghosts M) → StopsAreOnTheWay s r a m
on_the_way s r a m names held store new_store register new_register archive new_archive archive_register new_archive_register result left has rest closes clean may =
    are_left names held (files s r a m store register archive archive_register) (files s r a m new_store new_register new_archive new_archive_register) has rest clean result closes left may

-- ---- lists that were put into a register

abbrev Up : List SettledListContent → Type 0
Up [] = Unit {0}
Up (x ∷ lists) = AllByRecursion (IsAfter x) lists × Up lists

ups : (before : Option SettledListContent) (lists : List SettledListContent) → are_rising before lists ≡ true → Up lists
ups before [] h = tt
ups before (x ∷ lists) h = let parts = and_parts _ _ h in (all_after x lists parts.1, ups (Some x) lists parts.1)

all_kept : {A : Type 0} (P : A → Type 0) (p : A → Bool) (xs : List A) → AllByRecursion P xs → AllByRecursion P (filter p xs)
all_kept P p [] all = tt
all_kept P p (x ∷ xs) all = by (p x) (all_kept P p xs all.1)
  where
    by : (b : Bool) → AllByRecursion P (filter p xs) → AllByRecursion P (cond b (x ∷ filter p xs) (filter p xs))
    by true rest = (all.0, rest)
    by false rest = rest

-- a list comes before those after it
front : (x : SettledListContent) (lists : List SettledListContent) → AllByRecursion (IsAfter x) lists → put_list x lists ≡ x ∷ lists
front x [] all = refl
front x (y ∷ lists) all = ap (λ o. cond (is_lt o) (x ∷ y ∷ lists) (y ∷ put_list x lists)) all.0

-- and those after it come behind
behind : (x : SettledListContent) (more lists : List SettledListContent) → AllByRecursion (IsAfter x) more → put_lists more (x ∷ lists) ≡ x ∷ put_lists more lists
behind x [] lists all = refl
behind x (y ∷ more) lists all =
    let back : list_cmp y x ≡ ordering_reverse Less = list_total.antisymm y x ∙ ap ordering_reverse all.0 in
    ap (put_lists more) (ap (λ o. cond (is_lt o) (y ∷ x ∷ lists) (x ∷ put_list y lists)) back) ∙ behind x more (put_list y lists) all.1

module _ (p : SettledListContent → Bool) where
  abbrev other : SettledListContent → Bool
  other x = not (p x)

  -- some of lists in order, put among the others
  put_back : (lists : List SettledListContent) → Up lists → put_lists (filter p lists) (filter other lists) ≡ lists
  put_back [] up = refl
  put_back (x ∷ lists) up = by (p x) (put_back lists up.1)
    where
      by : (b : Bool) → put_lists (filter p lists) (filter other lists) ≡ lists
          → put_lists (cond b (x ∷ filter p lists) (filter p lists)) (cond (not b) (x ∷ filter other lists) (filter other lists)) ≡ x ∷ lists
      by true rest =
          ap (put_lists (filter p lists)) (front x (filter other lists) (all_kept (IsAfter x) other lists up.0))
          ∙ behind x (filter p lists) (filter other lists) (all_kept (IsAfter x) p lists up.0) ∙ ap (λ l. x ∷ l) rest
      by false rest = behind x (filter p lists) (filter other lists) (all_kept (IsAfter x) p lists up.0) ∙ ap (λ l. x ∷ l) rest

  others_one : (x : SettledListContent) (lists : List SettledListContent) → p x ≡ true → filter other (put_list x lists) ≡ filter other lists
  others_one x [] is = ap (λ b. cond (not b) (x ∷ []) []) is
  others_one x (y ∷ lists) is = by (comes_before x y) (others_one x lists is)
    where
      by : (b : Bool) → filter other (put_list x lists) ≡ filter other lists → filter other (cond b (x ∷ y ∷ lists) (y ∷ put_list x lists)) ≡ filter other (y ∷ lists)
      by true rest = ap (λ c. cond (not c) (x ∷ filter other (y ∷ lists)) (filter other (y ∷ lists))) is
      by false rest = ap (λ l. cond (not (p y)) (y ∷ l) l) rest

  -- the others are as they were
  others_stay : (more lists : List SettledListContent) → AllByRecursion (λ x. p x ≡ true) more → filter other (put_lists more lists) ≡ filter other lists
  others_stay [] lists all = refl
  others_stay (x ∷ more) lists all = others_stay more (put_list x lists) all.1 ∙ others_one x lists all.0

  all_others : (lists : List SettledListContent) → AllByRecursion (λ x. p x ≡ false) lists → filter other lists ≡ lists
  all_others [] all = refl
  all_others (x ∷ lists) all = ap (λ b. cond (not b) (x ∷ filter other lists) (filter other lists)) all.0 ∙ ap (λ l. x ∷ l) (all_others lists all.1)

  -- those that were put there, put there again
  put_again : (more lists : List SettledListContent) → AllByRecursion (λ x. p x ≡ true) more → AllByRecursion (λ x. p x ≡ false) lists → are_rising None (put_lists more lists) ≡ true
      → put_lists (filter p (put_lists more lists)) lists ≡ put_lists more lists
  put_again more lists these those up =
      let rest : filter other (put_lists more lists) ≡ lists = others_stay more lists these ∙ all_others lists those in
      ap (put_lists (filter p (put_lists more lists))) (sym rest) ∙ put_back (put_lists more lists) (ups None (put_lists more lists) up)

-- ---- lists of one archive

placed_at : (place : ℕ) (lists : List SettledListContent) → AllByRecursion (λ (one : SettledListContent). one.archive ≡ place) lists → AllByRecursion (λ x. is_put_away_with place x ≡ true) lists
placed_at place [] all = tt
placed_at place (x ∷ lists) all = (eq-eqb x.archive place all.0, placed_at place lists all.1)

before_it : (most place : ℕ) (lists : List SettledListContent) → place ≡ most + 1 → list_all (may_be_list most) lists ≡ true → AllByRecursion (λ x. is_put_away_with place x ≡ false) lists
before_it most place [] next may = tt
before_it most place (x ∷ lists) next may =
    let all = and_parts (may_be_list most x) (list_all (may_be_list most) lists) may in
    (by (x.archive == place) refl all.0, before_it most place lists next all.1)
  where
    by : (b : Bool) → (x.archive == place) ≡ b → may_be_list most x ≡ true → b ≡ false
    by false e its = refl
    by true e its =
        let within = (and_parts (nat_le 1 x.archive) (nat_le x.archive most) (and_parts (is_name x.call.vessel && is_name x.call.voyage) (nat_le 1 x.archive && nat_le x.archive most) its).1).1 in
        let high : x.archive ≤ most = leb-true x.archive most within in
        let at : x.archive ≡ place = eqb-true x.archive place e in
        absurd (omega (arith, high, at, next))

-- ---- how it goes on

mark_named : (file : List ℕ) (content : RegisterContent) → content.closed_for ≡ Some file → is_sound content ≡ true → is_file_name file ≡ true
mark_named file content is sound =
    let archives : Bool = are_sound_archives content.archives in
    let segments : Bool = are_sound_segments (length content.archives) content.segments in
    let lists : Bool = are_sound_lists (length content.archives) content.lists in
    let taken : Bool = are_sound_taken (length content.archives) content.taken in
    let sealed : Bool = are_sound_sealed (length content.archives) content.sealed in
    let mark : Bool = is_sound_mark content.closed_for in
    let first = and_parts archives (segments && (lists && (taken && (sealed && mark)))) sound in
    let second = and_parts segments (lists && (taken && (sealed && mark))) first.1 in
    let third = and_parts lists (taken && (sealed && mark)) second.1 in
    let fourth = and_parts taken (sealed && mark) third.1 in
    sym (ap is_sound_mark is) ∙ (and_parts sealed mark fourth.1).1

-- ---- what had been taken with an archive

-- of what is with others none is found, and of its own all
found_again : {A : Type 0} (p : A → Bool) (before last : List A) → AllByRecursion (λ s. p s ≡ false) before → AllByRecursion (λ s. p s ≡ true) last → filter p (before ++ last) ≡ last
found_again p [] [] others its = refl
found_again p [] (s ∷ last) others its = ap (λ b. cond b (s ∷ filter p last) (filter p last)) its.0 ∙ ap (λ l. s ∷ l) (found_again p [] last tt its.1)
found_again p (s ∷ before) last others its = ap (λ b. cond b (s ∷ filter p (before ++ last)) (filter p (before ++ last))) others.0 ∙ found_again p before last others.1 its

taken_with : (place : ℕ) (taken : List Segment) → AllByRecursion (λ (one : Segment). one.archive ≡ place) taken → AllByRecursion (λ s. is_with place s ≡ true) taken
taken_with place [] all = tt
taken_with place (s ∷ taken) all = (eq-eqb s.archive place all.0, taken_with place taken all.1)

taken_before : (most place : ℕ) (taken : List Segment) → place ≡ most + 1 → list_all (is_within most) taken ≡ true → AllByRecursion (λ s. is_with place s ≡ false) taken
taken_before most place [] next within = tt
taken_before most place (s ∷ taken) next within =
    let all = and_parts (is_within most s) (list_all (is_within most) taken) within in
    (by (s.archive == place) refl all.0, taken_before most place taken next all.1)
  where
    by : (b : Bool) → (s.archive == place) ≡ b → is_within most s ≡ true → b ≡ false
    by false e its = refl
    by true e its =
        let high : s.archive ≤ most = leb-true s.archive most (and_parts _ _ (and_parts _ _ (and_parts _ _ its).0).1).1 in
        let at : s.archive ≡ place = eqb-true s.archive place e in
        absurd (omega (arith, high, at, next))

-- ---- what was sealed with it

sealed_with : (place : ℕ) (seals : List ℕ) (sealed : List SealedContent) → AllByRecursion (λ (one : SealedContent). (one.archive ≡ place) × (one.seals ≡ seals)) sealed → AllByRecursion (λ s. is_sealed_with place s ≡ true) sealed
sealed_with place seals [] all = tt
sealed_with place seals (s ∷ sealed) all = (eq-eqb s.archive place all.0.0, sealed_with place seals sealed all.1)

sealed_before : (most place : ℕ) (sealed : List SealedContent) → place ≡ most + 1 → list_all (may_be_sealed most) sealed ≡ true → AllByRecursion (λ s. is_sealed_with place s ≡ false) sealed
sealed_before most place [] next within = tt
sealed_before most place (s ∷ sealed) next within =
    let all = and_parts (may_be_sealed most s) (list_all (may_be_sealed most) sealed) within in
    (by (s.archive == place) refl all.0, sealed_before most place sealed next all.1)
  where
    by : (b : Bool) → (s.archive == place) ≡ b → may_be_sealed most s ≡ true → b ≡ false
    by false e its = refl
    by true e its =
        let high : s.archive ≤ most = leb-true s.archive most (and_parts _ _ (and_parts _ _ its).0).1 in
        let at : s.archive ≡ place = eqb-true s.archive place e in
        absurd (omega (arith, high, at, next))

module _ (held left : Held) (names : FileNames) (way : IsOnItsWay held names left) (orderly : AreOrderly held.copy) (store register archive archive_register : Database)
    (has_register : HasRegister left.register register) (has_copy : HasRows left.copy archive) (has_copied : HasRegister left.copied archive_register) (own copy : OfficeContent) (of_own : IsOpened store register own)
    (of_copy : IsOpened archive archive_register copy) (done : List SettledListContent) where
  abbrev closing : Closing
  closing = way.closing

  own_register : own.register ≡ left.register
  own_register = of_own.registered left.register has_register way.register_sound

  copy_register : copy.register ≡ left.copied
  copy_register = of_copy.registered left.copied has_copied way.copied_sound

  same_copied : unmarked copy.register ≡ unmarked held.copied
  same_copied = ap unmarked copy_register ∙ way.copied

  the_copy : HasRows held.copy archive
  the_copy = subst (λ (r : Rows). HasRows r archive) way.copy has_copy

  copy_visits : copy.terminal.visits ≡ held.copy.visits
  copy_visits = visits_loaded _ archive held.copy copy.setup copy.terminal the_copy orderly (of_copy.loaded the_copy.schema)

  copy_nexts : way.is_closing.all.nexts ≡ copy.nexts
  copy_nexts = one_nexts held.copy way.is_closing.all.nexts copy.nexts orderly.accounts way.is_closing.all.are_nexts (of_copy.nexts held.copy the_copy)

  abbrev place : ℕ
  place = (archive_in names.archive copy).place

  same_place : closing.archive.place ≡ place
  same_place = way.is_closing.place ∙ ap (λ (c : RegisterContent). length c.archives + 1) (sym same_copied)

  archive_is : archive_in names.archive copy ≡ closing.archive
  archive_is =
      let file = way.is_closing.file in
      let visits = way.is_closing.newest ∙ ap last_number (sym copy_visits) in
      λ i. record { place = sym same_place i; file = sym file i; visits = sym visits i }

  numbers_are : numbers_of copy ≡ closing.numbers
  numbers_are =
      ap₂ (λ (c : RegisterContent) (l : List ℕ). numbers_from (last_closed c.segments) 1 l) same_copied (sym copy_nexts)
      ∙ sym way.is_closing.all.numbers

  segments_are : segments_of place (numbers_of copy) ≡ closing.segments
  segments_are = ap₂ segments_of (sym same_place) numbers_are ∙ sym way.is_closing.segments

  -- the register with lists that make those which it has
  raised_is : (lists : List SettledListContent) (taken : List Segment) (sealed : List SealedContent) → put_lists lists held.copied.lists ≡ put_lists closing.lists held.copied.lists → taken ≡ closing.taken → sealed ≡ closing.sealed
      → raised_by names.archive lists taken sealed copy ≡ raised_register held closing
  raised_is lists taken sealed same known with_ =
      let lists_are : put_lists lists copy.register.lists ≡ put_lists closing.lists held.copied.lists = ap (λ (c : RegisterContent). put_lists lists c.lists) same_copied ∙ same in
      λ i. record {
        archives = (same_copied i).archives ++ archive_is i ∷ [];
        segments = (same_copied i).segments ++ segments_are i;
        lists = lists_are i;
        taken = (same_copied i).taken ++ known i;
        sealed = (same_copied i).sealed ++ with_ i;
        closed_for = None;
      }

  left_raised : raised_register left closing ≡ raised_register held closing
  left_raised = ap (closed_with closing.archive closing.segments closing.lists closing.taken closing.sealed) way.copied

  module _ (at : IsAtStage left names closing stage.Raised) where
    own_is : own.register ≡ raised_register held closing
    own_is = own_register ∙ at.0 ∙ left_raised

    lists_again : put_lists (filter (is_put_away_with place) own.register.lists) held.copied.lists ≡ put_lists closing.lists held.copied.lists
    lists_again =
        ap (λ (c : RegisterContent). put_lists (filter (is_put_away_with place) c.lists) held.copied.lists) own_is
        ∙ put_again (is_put_away_with place) closing.lists held.copied.lists
        (placed_at place closing.lists (subst (λ n. AllByRecursion (λ (one : SettledListContent). one.archive ≡ n) closing.lists) same_place way.is_closing.lists.placed))
        (before_it (length held.copied.archives) place held.copied.lists (sym same_place ∙ way.is_closing.place) held_within)
        (rising (raised_register held closing) way.is_closing.sound)
      where
        held_within : list_all (may_be_list (length held.copied.archives)) held.copied.lists ≡ true
        held_within = settled (marked_for names.store held.copied) way.is_closing.sound_mark

    taken_again : filter (is_with place) own.register.taken ≡ closing.taken
    taken_again =
        ap (λ (c : RegisterContent). filter (is_with place) c.taken) own_is
        ∙ found_again (is_with place) held.copied.taken closing.taken
        (taken_before (length held.copied.archives) place held.copied.taken (sym same_place ∙ way.is_closing.place) (taken_within (marked_for names.store held.copied) way.is_closing.sound_mark))
        (taken_with place closing.taken (subst (λ n. AllByRecursion (λ (one : Segment). one.archive ≡ n) closing.taken) same_place way.is_closing.taken.placed))

    sealed_again : filter (is_sealed_with place) own.register.sealed ≡ closing.sealed
    sealed_again =
        ap (λ (c : RegisterContent). filter (is_sealed_with place) c.sealed) own_is
        ∙ found_again (is_sealed_with place) held.copied.sealed closing.sealed
        (sealed_before (length held.copied.archives) place held.copied.sealed (sym same_place ∙ way.is_closing.place) (sealed_within (marked_for names.store held.copied) way.is_closing.sound_mark))
        (sealed_with place (seals_of held.copy closing.numbers) closing.sealed (subst (λ n. AllByRecursion (λ (one : SealedContent). (one.archive ≡ n) × (one.seals ≡ seals_of held.copy closing.numbers)) closing.sealed) same_place way.is_closing.sealed.right))

    comes_on : ComesOn own copy names (filter (is_put_away_with place) own.register.lists) stage.Raised
    comes_on =
        let same = raised_is (filter (is_put_away_with place) own.register.lists) (filter (is_with place) own.register.taken) (filter (is_sealed_with place) own.register.sealed) lists_again taken_again sealed_again ∙ sym own_is in
        record {
          has_come = (same, ap (λ (c : RegisterContent). c.closed_for) copy_register ∙ at.1);
          may = record {
            raised = subst (λ (c : RegisterContent). is_sound c ≡ true) (sym same) of_own.sound;
            mark = mark_named names.store copy.register (ap (λ (c : RegisterContent). c.closed_for) copy_register ∙ at.1) of_copy.sound;
          };
        }

  unclosed_by : (s : Stage) → IsAtStage left names closing s → left.register.closed_for ≡ None
  unclosed_by stage.New at = ap (λ (c : RegisterContent). c.closed_for) at.0
  unclosed_by stage.Marked at = ap (λ (c : RegisterContent). c.closed_for) at.0
  unclosed_by stage.Raised at = ap (λ (c : RegisterContent). c.closed_for) at.0

  has_come_by : (s : Stage) → IsAtStage left names closing s → HasCome own copy names (lists_at own place done s) s
  has_come_by stage.New at = (ap unmarked copy_register ∙ sym at.0 ∙ sym own_register, ap (λ (c : RegisterContent). c.closed_for) copy_register ∙ at.1)
  has_come_by stage.Marked at = (ap unmarked copy_register ∙ sym at.0 ∙ sym own_register, ap (λ (c : RegisterContent). c.closed_for) copy_register ∙ at.1)
  has_come_by stage.Raised at = (comes_on at).has_come

  goes_on : GoesOnFrom own copy names done way.come
  goes_on = record {
    unclosed = ap (λ (c : RegisterContent). c.closed_for) own_register ∙ unclosed_by way.come way.at;
    has_come = has_come_by way.come way.at;
    comes = λ is.
        subst (λ s. ComesOn own copy names (lists_at own place done s) s) (sym is)
        (comes_on (subst (IsAtStage left names closing) is way.at));
  }

pub stopped_goes_on : StoppedClosingsGoOn
stopped_goes_on held left names way orderly store register archive archive_register has_register has_copy has_copied own copy of_own of_copy done =
    goes_on held left names way orderly store register archive archive_register has_register has_copy has_copied own copy of_own of_copy done
