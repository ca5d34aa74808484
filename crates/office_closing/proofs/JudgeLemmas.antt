-- What a plan says of the rows and the registers of store and archive.
use Rattle.std.{specs.{Prelude.{slice_index_or, Contains, IsPermutation, IsUtf8}, List.{AllByRecursion, list_all}, Str.bytes_eq}, proofs.{lemmas.List.length-map, lemmas.Slice.Eq.bytes_eq-Decides}}
use Rattle.std.proofs.Common.{suc, zero, nat_lt, ◌≡◌, ◌≢◌, ◌⊎◌, inl, inr, ℕ, ◌+◌, ◌==◌, ◌<◌, ◌≤◌, List, [], ◌∷◌, ◌++◌, ◌&&◌, None, Bool, true, false, cond, if◌then◌else◌, filter, map, length, refl, sym, ap, ap₂, subst, ◌∙◌, arith, Result, Ok, Err}
use Rattle.std.proofs.{lemmas.Bool.{and_parts, cases_Bool, eqb-true}, lemmas.Str.IsUtf8-string_bytes}
use Rattle.std.proofs.lemmas.List.Sorted.{Contains-permutation, IsPermutation-sym}
use Rattle.sqlite_trees.proofs.ListLemmas.{map-map}
use Rattle.terminal_core.specs.{Rows.VisitContent, State.last_number}
use Rattle.office_loading.specs.Tables.{LoadsOwn}
use Rattle.office_closing.specs.{Waiting.AreWaitedFor, declared.register.Segment.Segment, Changes.{closed_with, marked_for, unmarked}, Deleting.is_among}
use Rattle.office_closing.specs.{declared.settled_lists.SettledList.SettledList, Lists.{SettledListContent, comes_before, list_content, put_list, put_lists}}
use Rattle.office_closing.specs.{Register.{ArchiveContent, RegisterContent, SealedContent, closed_by, last_closed, sealed_content}, declared.planning.Plan.Plan}
use Rattle.office_closing.specs.{Seals.{seals_of, with_seals}, declared.comparing.Numbers.Numbers, declared.faults.CloseFault.CloseFault, Going.AreDone}
use Rattle.office_closing.specs.Sound.{IsSound, are_sound_archives, are_sound_lists, are_sound_segments, are_sound_sealed, are_sealed_in_turn, are_sound_taken, is_sound, is_sound_mark, may_be_sealed}
use Rattle.office_closing.specs.{declared.planning.Stage.Stage, Comparing.IsComparedAs, Files.{Files, IsRead, IsReadIfOpen}, Steps.is_unraised, Laws.Raises}
use Rattle.office_closing.specs.Closes.{AreHeld, Closing, ClosesAll, Held, IsAtStage, IsBelowNext, IsClosing, KeepsSeals, KeepsTaken, PutsAway, Tells, closed_after, closed_before, closing_content, raised_register}
use Rattle.office_closing.specs.Copies.{ClosesNone, FileNames, HasCome, IsOpened, OfficeContent, archive_in, closes_some, is_put_away_with, lists_at, numbers_from, numbers_of, raised_by, segment_of, segments_of, GoWith, is_sealed_with, is_with, sealed_at, sealed_by, segments_in, taken_at, taken_of}
use Rattle.office_closing.specs.{Judging.{IsComparedIf, IsJudged, IsOfSealing, IsSealedPlan, WantsAll}, Planning.IsPlan, Visits.AreToGo}
use Rattle.office_closing.proofs.{WaitingLemmas.{accounts_by_id, all_found, goes_as, one_nexts}, ClearLemmas.{done_with, gone_are_done, one_longer}}
use Rattle.office_closing.proofs.PlanLemmas.{compared_held, goes_if_not, may_stay, account_found, numbers_are_from, segments_raise, segments_rise}
use Rattle.office_closing.proofs.NumberLemmas.{lines_loaded, visits_loaded}
use Rattle.office_parts.specs.OwnLists.{ListName}
use Rattle.office_history.proofs.Kept.{head_in, tail_in}
use Rattle.sqlite.{specs.State.{State, HasCleanDisk}, proofs.Callers.unchanged_then}
use Rattle.office_rows.proofs.Creating.{keep_then, on_ok, quiet_then}
use Rattle.office_tables.specs.{DeliveryReading.OnlyReads, Reading.Reads, declared.table_fault.TableFault.TableFault}
use Rattle.office_tables.proofs.WriteLemmas.{nothing_read, same_unchanged}
use Rattle.office_closing.specs.declared.faults.CloseFault.TheVariants as fault
use Rattle.office_closing.specs.declared.faults.Refusal.TheVariants as refusal
use Rattle.office_closing.specs.declared.planning.Stage.TheVariants as stage

-- ---- texts

all_pushed : {A : Type 0} (P : A → Type 0) (xs : List A) (x : A) → AllByRecursion P xs → P x → AllByRecursion P (xs ++ x ∷ [])
all_pushed P [] x all here = (here, tt)
all_pushed P (y ∷ xs) x all here = (all.0, all_pushed P xs x all.1 here)

texts_of_lists : (lists : List SettledList) → AllByRecursion (λ (list : SettledListContent). IsUtf8 list.lines) (map list_content lists)
texts_of_lists [] = tt
texts_of_lists (list ∷ lists) = (IsUtf8-string_bytes list.lines, texts_of_lists lists)

-- ---- lists

module _ (P : SettledListContent → Type 0) where
  all_put_one : (one : SettledListContent) (lists : List SettledListContent) → P one → AllByRecursion P lists → AllByRecursion P (put_list one lists)
  all_put_one one [] here all = (here, tt)
  all_put_one one (other ∷ lists) here all = by (comes_before one other) (all_put_one one lists here all.1)
    where
      by : (b : Bool) → AllByRecursion P (put_list one lists) → AllByRecursion P (if b then one ∷ other ∷ lists else other ∷ put_list one lists)
      by true rest = (here, all)
      by false rest = (all.0, rest)

  all_put : (more lists : List SettledListContent) → AllByRecursion P more → AllByRecursion P lists → AllByRecursion P (put_lists more lists)
  all_put [] lists these all = all
  all_put (one ∷ more) lists these all = all_put more (put_list one lists) these.1 (all_put_one one lists these.0 all)

  -- what each of them is all are
  all_each : (lists : List SettledListContent) → ((one : SettledListContent) → Contains lists one → P one) → AllByRecursion P lists
  all_each [] each = tt
  all_each (one ∷ lists) each = (each one (head_in one lists), all_each lists (λ other inside. each other (tail_in one other lists inside)))

-- those that an archive has are its
those_with : (archive : ℕ) (lists : List SettledListContent) → AllByRecursion (λ (one : SettledListContent). one.archive ≡ archive) (filter (is_put_away_with archive) lists)
those_with archive [] = tt
those_with archive (one ∷ lists) = by (one.archive == archive) refl (those_with archive lists)
  where
    by : (b : Bool) → (one.archive == archive) ≡ b → AllByRecursion (λ (l : SettledListContent). l.archive ≡ archive) (filter (is_put_away_with archive) lists)
        → AllByRecursion (λ (l : SettledListContent). l.archive ≡ archive) (cond b (one ∷ filter (is_put_away_with archive) lists) (filter (is_put_away_with archive) lists))
    by true e rest = (eqb-true one.archive archive e, rest)
    by false e rest = rest

-- segments of an archive are its, and so is what had been taken with it
segments_placed : (archive : ℕ) (all : List Numbers) → AllByRecursion (λ (one : Segment). one.archive ≡ archive) (map (segment_of archive) all)
segments_placed archive [] = tt
segments_placed archive (one ∷ all) = (refl, segments_placed archive all)

taken_with : (archive : ℕ) (taken : List Segment) → AllByRecursion (λ (one : Segment). one.archive ≡ archive) (filter (is_with archive) taken)
taken_with archive [] = tt
taken_with archive (one ∷ taken) = by (one.archive == archive) refl (taken_with archive taken)
  where
    by : (b : Bool) → (one.archive == archive) ≡ b → AllByRecursion (λ (s : Segment). s.archive ≡ archive) (filter (is_with archive) taken)
        → AllByRecursion (λ (s : Segment). s.archive ≡ archive) (cond b (one ∷ filter (is_with archive) taken) (filter (is_with archive) taken))
    by true e rest = (eqb-true one.archive archive e, rest)
    by false e rest = rest

-- what is sealed with an archive is with it
sealed_with : (archive : ℕ) (sealed : List SealedContent) → AllByRecursion (λ (one : SealedContent). one.archive ≡ archive) (filter (is_sealed_with archive) sealed)
sealed_with archive [] = tt
sealed_with archive (one ∷ sealed) = by (one.archive == archive) refl (sealed_with archive sealed)
  where
    by : (b : Bool) → (one.archive == archive) ≡ b → AllByRecursion (λ (s : SealedContent). s.archive ≡ archive) (filter (is_sealed_with archive) sealed)
        → AllByRecursion (λ (s : SealedContent). s.archive ≡ archive) (cond b (one ∷ filter (is_sealed_with archive) sealed) (filter (is_sealed_with archive) sealed))
    by true e rest = (eqb-true one.archive archive e, rest)
    by false e rest = rest

both_all : {A : Type 0} (P Q : A → Type 0) (xs : List A) → AllByRecursion P xs → AllByRecursion Q xs → AllByRecursion (λ x. P x × Q x) xs
both_all P Q [] ps qs = tt
both_all P Q (x ∷ xs) ps qs = ((ps.0, qs.0), both_all P Q xs ps.1 qs.1)

-- whether a register is sound does not depend on seals
module _ (archives archive : ℕ) (terminal seals others : List ℕ) where
  abbrev one_seal : List ℕ → SealedContent
  one_seal s = record { archive = archive; terminal = terminal; seals = s }

  may_be_alike : (sealed : List SealedContent) → list_all (may_be_sealed archives) (sealed ++ one_seal seals ∷ []) ≡ list_all (may_be_sealed archives) (sealed ++ one_seal others ∷ [])
  may_be_alike [] = refl
  may_be_alike (s ∷ sealed) = ap (λ b. may_be_sealed archives s && b) (may_be_alike sealed)

  in_turn_alike : (before : ℕ) (sealed : List SealedContent) → are_sealed_in_turn before (sealed ++ one_seal seals ∷ []) ≡ are_sealed_in_turn before (sealed ++ one_seal others ∷ [])
  in_turn_alike before [] = refl
  in_turn_alike before (s ∷ sealed) = ap (λ b. nat_lt before s.archive && b) (in_turn_alike s.archive sealed)

  sealed_alike : (sealed : List SealedContent) → are_sound_sealed archives (sealed ++ one_seal seals ∷ []) ≡ are_sound_sealed archives (sealed ++ one_seal others ∷ [])
  sealed_alike sealed = ap₂ (λ a b. a && b) (may_be_alike sealed) (in_turn_alike 0 sealed)

abbrev sound_but : RegisterContent → Bool → Bool
sound_but c sealed =
    are_sound_archives c.archives
    && (are_sound_segments (length c.archives) c.segments
    && (are_sound_lists (length c.archives) c.lists && (are_sound_taken (length c.archives) c.taken && (sealed && is_sound_mark c.closed_for))))

any_seals : (own copy : OfficeContent) (file : List ℕ) (lists : List SettledListContent) (taken : List Segment) (place : ℕ) (seals : List ℕ) (come : Stage)
    → is_sound (raised_by file lists taken (sealed_at own place seals come) copy) ≡ is_sound (raised_by file lists taken (sealed_at own place [] come) copy)
any_seals own copy file lists taken place seals stage.New =
    ap (sound_but (raised_by file lists taken [] copy)) (sealed_alike (length (copy.register.archives ++ archive_in file copy ∷ [])) place own.setup.terminal seals [] copy.register.sealed)
any_seals own copy file lists taken place seals stage.Marked =
    ap (sound_but (raised_by file lists taken [] copy)) (sealed_alike (length (copy.register.archives ++ archive_in file copy ∷ [])) place own.setup.terminal seals [] copy.register.sealed)
any_seals own copy file lists taken place seals stage.Raised = refl

none_mapped : {A B : Type 0} (f : A → B) (xs : List A) → map f xs ≡ [] → xs ≡ []
none_mapped f [] e = refl
none_mapped f (x ∷ xs) e = absurd cc

-- ---- the seals of a plan

filled : (own : OfficeContent) (place : ℕ) (seals : List ℕ) (s : Stage) → is_unraised s ≡ true → map (with_seals seals) (sealed_at own place [] s) ≡ sealed_at own place seals s
filled own place seals stage.New due = refl
filled own place seals stage.Marked due = refl
filled own place seals stage.Raised due = absurd cc

unfilled : (own : OfficeContent) (place : ℕ) (seals : List ℕ) (s : Stage) → is_unraised s ≡ false → sealed_at own place [] s ≡ sealed_at own place seals s
unfilled own place seals stage.New off = absurd cc
unfilled own place seals stage.Marked off = absurd cc
unfilled own place seals stage.Raised off = refl

one_due : (own : OfficeContent) (place : ℕ) (s : Stage) → is_unraised s ≡ true → length (sealed_at own place [] s) ≡ 1
one_due own place stage.New due = refl
one_due own place stage.Marked due = refl
one_due own place stage.Raised due = absurd cc

-- all have these seals, or one has others
pub all_with : (seals : List ℕ) (sealed : List SealedContent) → list_all (λ (one : SealedContent). bytes_eq one.seals seals) sealed ≡ true → AllByRecursion (λ (one : SealedContent). one.seals ≡ seals) sealed
all_with seals [] e = tt
all_with seals (one ∷ sealed) e =
    let both = and_parts (bytes_eq one.seals seals) (list_all (λ (one : SealedContent). bytes_eq one.seals seals) sealed) e in
    ((bytes_eq-Decides one.seals seals).0 both.0, all_with seals sealed both.1)

pub one_without : (seals : List ℕ) (sealed : List SealedContent) → list_all (λ (one : SealedContent). bytes_eq one.seals seals) sealed ≡ false → (one : SealedContent) × Contains sealed one × (one.seals ≢ seals)
one_without seals [] e = absurd cc
one_without seals (one ∷ sealed) e = by (bytes_eq one.seals seals) refl e (one_without seals sealed)
  where
    by : (b : Bool) → bytes_eq one.seals seals ≡ b → (b && list_all (λ (one : SealedContent). bytes_eq one.seals seals) sealed) ≡ false
        → (list_all (λ (one : SealedContent). bytes_eq one.seals seals) sealed ≡ false → (other : SealedContent) × Contains sealed other × (other.seals ≢ seals))
        → (other : SealedContent) × Contains (one ∷ sealed) other × (other.seals ≢ seals)
    by true is off more =
        let rest = more off in
        (rest.0, tail_in one rest.0 sealed rest.1, rest.2)
    by false is off more = (
      one,
      head_in one sealed,
      λ same.
          let yes = (bytes_eq-Decides one.seals seals).1 same in
          absurd cc,
    )

-- a plan with its seals
pub plan_sealed : (own copy : OfficeContent) (names : FileNames) (named : List ListName) (seals : List ℕ) (plan sealed : Plan) → IsPlan own copy names named [] plan → IsSealedPlan plan seals sealed → IsPlan own copy names named seals sealed
plan_sealed own copy names named seals plan sealed is with_ =
    let place = (archive_in names.archive copy).place in
    let told : map sealed_content sealed.sealed.items ≡ sealed_at own place seals plan.stage = elim (cases_Bool (is_unraised plan.stage)) [
      | inl due ↦ with_.due due (omega (arith, sym (length-map plan.sealed.items sealed_content) ∙ ap length is.sealed ∙ one_due own place plan.stage due)) ∙ sym (map-map (with_seals seals) sealed_content plan.sealed.items) ∙ ap (map (with_seals seals)) is.sealed ∙ filled own place seals plan.stage due
      | inr off ↦ ap (map sealed_content) (with_.kept off).0 ∙ is.sealed ∙ unfilled own place seals plan.stage off
    ] in
    let same : record plan { sealed = sealed.sealed } ≡ sealed = sym with_.rest in
    subst (IsPlan own copy names named seals) same record {
      is_copy = is.is_copy;
      numbers = is.numbers;
      archive = is.archive;
      segments = is.segments;
      visits = is.visits;
      done = is.done;
      are_done = is.are_done;
      lists = is.lists;
      gone = is.gone;
      taken = is.taken;
      sealed = told;
    }

-- what is compared and what is sealed are of that plan too
pub sealed_compared : (held : Held) (seals : List ℕ) (plan sealed : Plan) → IsSealedPlan plan seals sealed → IsComparedIf plan held → IsComparedIf sealed held
sealed_compared held seals plan sealed with_ compared = subst (λ p. IsComparedIf p held) (sym with_.rest) compared

pub sealed_numbers : (held : Held) (seals : List ℕ) (plan sealed : Plan) → IsSealedPlan plan seals sealed → seals ≡ seals_of held.copy plan.numbers.items → seals ≡ seals_of held.copy sealed.numbers.items
sealed_numbers held seals plan sealed with_ are = are ∙ ap (λ (p : Plan). seals_of held.copy p.numbers.items) (sym with_.rest)

pub sealed_kept : (seals : List ℕ) (plan sealed : Plan) → IsSealedPlan plan seals sealed → is_unraised sealed.stage ≡ false → AllByRecursion (λ (one : SealedContent). one.seals ≡ seals) (map sealed_content sealed.sealed.items)
sealed_kept seals plan sealed with_ off =
    let both = with_.kept (ap (λ (p : Plan). is_unraised p.stage) (sym with_.rest) ∙ off) in
    subst (λ l. AllByRecursion (λ (one : SealedContent). one.seals ≡ seals) (map sealed_content l)) (sym both.0) both.1

-- ---- other seals

filtered_in : {A : Type 0} (p : A → Bool) (xs : List A) (x : A) → Contains (filter p xs) x → Contains xs x × (p x ≡ true)
filtered_in p [] x inside = absurd (omega (arith, inside.1))
filtered_in {A} p (y ∷ xs) x inside = by (filtered_in p xs x) (p y) refl inside.0 inside.1 inside.2
  where
    by : (Contains (filter p xs) x → Contains xs x × (p x ≡ true)) → (b : Bool) → p y ≡ b → (k : ℕ) → k < length (cond b (y ∷ filter p xs) (filter p xs)) → slice_index_or (cond b (y ∷ filter p xs) (filter p xs)) k x ≡ x → Contains (y ∷ xs) x × (p x ≡ true)
    by more true e zero within is = (subst (Contains (y ∷ xs)) is (head_in y xs), subst (λ z. p z ≡ true) is e)
    by more true e (suc k) within is =
        let rest = more (k, omega (arith, within), is) in
        (tail_in y x xs rest.0, rest.1)
    by more false e k within is =
        let rest = more (k, within, is) in
        (tail_in y x xs rest.0, rest.1)

raised_sealed : (own : OfficeContent) (place : ℕ) (s : Stage) → is_unraised s ≡ false → sealed_at own place [] s ≡ filter (is_sealed_with place) own.register.sealed
raised_sealed own place stage.New off = absurd cc
raised_sealed own place stage.Marked off = absurd cc
raised_sealed own place stage.Raised off = refl

-- the seals of the register are not those of what the archive keeps
pub sealing_tells : (held : Held) (old : Files) (has : AreHeld held old) (names : FileNames) (own copy : OfficeContent) (of_own : IsOpened old.store.now old.register.now own)
    (of_copy : IsOpened old.archive.now old.archive_register.now copy) (named : List ListName) (seals : List ℕ) (plan : Plan) (is : IsPlan own copy names named [] plan)
    → seals ≡ seals_of held.copy plan.numbers.items → (why : CloseFault) → IsOfSealing plan seals why → Tells held names old why
sealing_tells held old has names own copy of_own of_copy named seals plan is are (fault.Archive refusal.Seals) other =
    let own_register = of_own.registered held.register has.register has.register_sound in
    let copy_register = of_copy.registered held.copied has.copied has.copied_sound in
    let place = (archive_in names.archive copy).place in
    let one = other.1 in
    let inside = subst (λ l. Contains l one) (is.sealed ∙ raised_sealed own place plan.stage other.0) other.2 in
    let found = filtered_in (is_sealed_with place) own.register.sealed one inside in
    let numbers = is.numbers ∙ ap (λ (c : RegisterContent). numbers_from (last_closed c.segments) 1 copy.nexts) copy_register in (
      one,
      subst (λ (c : RegisterContent). Contains c.sealed one) own_register found.0,
      eqb-true one.archive place found.1 ∙ ap (λ (c : RegisterContent). length c.archives + 1) copy_register,
      copy.nexts,
      of_copy.nexts held.copy has.copy,
      λ e. other.3 (e ∙ sym (are ∙ ap (seals_of held.copy) numbers)),
    )
sealing_tells held old has names own copy of_own of_copy named seals plan is are (fault.Archive refusal.Closed) other = absurd other
sealing_tells held old has names own copy of_own of_copy named seals plan is are (fault.Archive refusal.Office) other = absurd other
sealing_tells held old has names own copy of_own of_copy named seals plan is are (fault.Archive refusal.Later) other = absurd other
sealing_tells held old has names own copy of_own of_copy named seals plan is are (fault.Archive refusal.Register) other = absurd other
sealing_tells held old has names own copy of_own of_copy named seals plan is are (fault.Archive refusal.Order) other = absurd other
sealing_tells held old has names own copy of_own of_copy named seals plan is are (fault.Archive (refusal.Interchange difference)) other = absurd other
sealing_tells held old has names own copy of_own of_copy named seals plan is are (fault.Archive (refusal.Visit number)) other = absurd other
sealing_tells held old has names own copy of_own of_copy named seals plan is are (fault.File of) other = absurd other
sealing_tells held old has names own copy of_own of_copy named seals plan is are (fault.Comparing of) other = absurd other
sealing_tells held old has names own copy of_own of_copy named seals plan is are fault.Memory other = tt

-- ---- a plan

module _ (held : Held) (old : Files) (has : AreHeld held old) (names : FileNames) (own copy : OfficeContent) (of_own : IsOpened old.store.now old.register.now own)
    (of_copy : IsOpened old.archive.now old.archive_register.now copy) (named : List ListName) (waited : AreWaitedFor own.setup held.own named) (seals : List ℕ) (plan : Plan) (is : IsPlan own copy names named seals plan) (text : IsUtf8 names.archive) (store_text : IsUtf8 names.store) where
  own_register : own.register ≡ held.register
  own_register = of_own.registered held.register has.register has.register_sound

  copy_register : copy.register ≡ held.copied
  copy_register = of_copy.registered held.copied has.copied has.copied_sound

  own_visits : own.terminal.visits ≡ held.own.visits
  own_visits = visits_loaded _ old.store.now held.own own.setup own.terminal has.own has.own_orderly (of_own.loaded has.own.schema)

  copy_visits : copy.terminal.visits ≡ held.copy.visits
  copy_visits = visits_loaded _ old.archive.now held.copy copy.setup copy.terminal has.copy has.copy_orderly (of_copy.loaded has.copy.schema)

  abbrev closing : Closing
  closing = closing_content plan

  -- the register with the archive
  raised_is : raised_register held closing ≡ raised_by names.archive closing.lists closing.taken closing.sealed copy
  raised_is =
      let back = sym copy_register in
      λ i. closed_with (is.archive i) (is.segments i) closing.lists closing.taken closing.sealed (unmarked (back i))

  raised_sound : IsSound (raised_register held closing)
  raised_sound = record {
    tested =
        let at = (archive_in names.archive copy).place in
        ap is_sound (raised_is ∙ ap (λ t. raised_by names.archive closing.lists t closing.sealed copy) is.taken
        ∙ ap (λ s. raised_by names.archive closing.lists (taken_at own at plan.stage) s copy) is.sealed)
        ∙ any_seals own copy names.archive closing.lists (taken_at own at plan.stage) at seals plan.stage ∙ is.is_copy.comes.may.raised;
    texts = record {
      files = all_pushed (λ (a : ArchiveContent). IsUtf8 a.file) held.copied.archives closing.archive has.copied_sound.texts.files (subst IsUtf8 (sym (ap (λ (a : ArchiveContent). a.file) is.archive)) text);
      lines = all_put (λ (list : SettledListContent). IsUtf8 list.lines) closing.lists held.copied.lists (texts_of_lists plan.lists.items) has.copied_sound.texts.lines;
      closed_for = tt;
    };
  }

  -- the archive's register with the mark
  marked_sound : IsSound (marked_for names.store held.copied)
  marked_sound =
      let archives : Bool = are_sound_archives held.copied.archives in
      let segments : Bool = are_sound_segments (length held.copied.archives) held.copied.segments in
      let lists : Bool = are_sound_lists (length held.copied.archives) held.copied.lists in
      let taken : Bool = are_sound_taken (length held.copied.archives) held.copied.taken in
      let sealed : Bool = are_sound_sealed (length held.copied.archives) held.copied.sealed in
      let mark : Bool = is_sound_mark held.copied.closed_for in
      let first = and_parts archives (segments && (lists && (taken && (sealed && mark)))) has.copied_sound.tested in
      let second = and_parts segments (lists && (taken && (sealed && mark))) first.1 in
      let third = and_parts lists (taken && (sealed && mark)) second.1 in
      let fourth = and_parts taken (sealed && mark) third.1 in
      let fifth = and_parts sealed mark fourth.1 in
      record {
        tested = λ i. first.0 i && (second.0 i && (third.0 i && (fourth.0 i && (fifth.0 i && is.is_copy.comes.may.mark i))));
        texts = record { files = has.copied_sound.texts.files; lines = has.copied_sound.texts.lines; closed_for = store_text };
      }

  raises : Raises (last_closed held.copied.segments) closing.numbers (closed_after held closing)
  raises =
      let place = (archive_in names.archive copy).place in
      let first = segments_raise copy.register.segments place (numbers_of copy) (numbers_are_from (last_closed copy.register.segments) 1 copy.nexts) in
      let second = subst (λ (c : RegisterContent). Raises (last_closed c.segments) (numbers_of copy) (last_closed (c.segments ++ segments_of place (numbers_of copy)))) copy_register first in
      let third = subst (λ (s : List Segment). Raises (last_closed held.copied.segments) (numbers_of copy) (last_closed (held.copied.segments ++ s))) (sym is.segments) second in
      subst (λ (l : List Numbers). Raises (last_closed held.copied.segments) l (closed_after held closing)) (sym is.numbers) third

  place_is : closing.archive.place ≡ length held.copied.archives + 1
  place_is = ap (λ (a : ArchiveContent). a.place) is.archive ∙ ap (λ (c : RegisterContent). length c.archives + 1) copy_register

  newest_is : closing.archive.visits ≡ last_number held.copy.visits
  newest_is = ap (λ (a : ArchiveContent). a.visits) is.archive ∙ ap last_number copy_visits

  segments_are : closing.segments ≡ segments_of closing.archive.place closing.numbers
  segments_are = is.segments ∙ ap₂ segments_of (sym (ap (λ (a : ArchiveContent). a.place) is.archive)) (sym is.numbers)

  -- how far it has come
  at_by : (s : Stage) → closing.taken ≡ taken_at own (archive_in names.archive copy).place s → closing.sealed ≡ sealed_at own (archive_in names.archive copy).place seals s → HasCome own copy names closing.lists s
      → IsAtStage held names closing s
  at_by stage.New known sealed come = (sym own_register ∙ sym come.0 ∙ ap unmarked copy_register, ap (λ (c : RegisterContent). c.closed_for) (sym copy_register) ∙ come.1)
  at_by stage.Marked known sealed come = (sym own_register ∙ sym come.0 ∙ ap unmarked copy_register, ap (λ (c : RegisterContent). c.closed_for) (sym copy_register) ∙ come.1)
  at_by stage.Raised known sealed come = (
    sym own_register ∙ sym come.0
        ∙ ap (λ t. raised_by names.archive closing.lists t (sealed_at own (archive_in names.archive copy).place seals stage.Raised) copy) (sym known)
        ∙ ap (λ s. raised_by names.archive closing.lists closing.taken s copy) (sym sealed) ∙ sym raised_is,
    ap (λ (c : RegisterContent). c.closed_for) (sym copy_register) ∙ come.1,
  )

  to_go : AreToGo held.own.visits held.copy.visits closing.visits
  to_go =
      subst (λ (l : List VisitContent). AreToGo held.own.visits l closing.visits) copy_visits
      (subst (λ (l : List VisitContent). AreToGo l copy.terminal.visits closing.visits) own_visits is.visits)

  closes_all : ClosesAll held closing
  closes_all = record {
    nexts = copy.nexts;
    are_nexts = of_copy.nexts held.copy has.copy;
    numbers = is.numbers ∙ ap (λ (c : RegisterContent). numbers_from (last_closed c.segments) 1 copy.nexts) copy_register;
    visits = to_go;
  }

  account_of : (partner number : ℕ) → last_closed held.copied.segments partner < number → number ≤ closed_after held closing partner → IsBelowNext held.own partner number
  account_of partner number above within =
      let are = of_own.nexts held.own has.own in
      let by_id = accounts_by_id held.own own.nexts has.own_orderly.accounts are in
      let among = ap (λ l. is_among l partner number) (sym is.numbers) ∙ raises.each partner number above within in
      let found = account_found (last_closed copy.register.segments) 1 copy.nexts own.nexts are.0 is.is_copy.of_store.no_later.nexts by_id.next_numbers by_id.ids partner number among in
      record {
        account = found.0;
        is_one = Contains-permutation are.0 held.own.partners found.0 (IsPermutation-sym held.own.partners are.0 by_id.same) found.1;
        is_its = found.2;
        below = found.3;
      }

  -- ---- the lists

  own_loads : LoadsOwn (closed_by held.register) old.store.now own.setup own.terminal
  own_loads = subst (λ (c : RegisterContent). LoadsOwn (closed_by c) old.store.now own.setup own.terminal) own_register (of_own.loaded has.own.schema)

  own_lines : IsPermutation held.own.lines is.are_done.lines
  own_lines = lines_loaded (closed_by held.register) old.store.now held.own own.setup own.terminal is.are_done.lines has.own own_loads is.are_done.once is.are_done.by_key

  -- until the register has the archive these are the lists that are done
  same_lists : (s : Stage) → IsAtStage held names closing s → held.register ≡ unmarked held.copied → lists_at own (archive_in names.archive copy).place is.done s ≡ is.done
  same_lists stage.New at new = refl
  same_lists stage.Marked at new = refl
  same_lists stage.Raised at new = absurd (one_longer held.copied.archives closing.archive (ap (λ (c : RegisterContent). c.archives) (sym at.0 ∙ new)))

  of_done : (is.done ≡ []) ⊎ AreDone is.are_done.lines named (archive_in names.archive copy).place is.done
  of_done = gone_are_done (segments_in names.archive copy) is.are_done.lines named (archive_in names.archive copy).place is.done is.are_done.are

  -- one of them is done
  done_if : (one : SettledListContent) → Contains is.done one → AreDone is.are_done.lines named (archive_in names.archive copy).place is.done
  done_if one here = elim of_done [
    | inl none ↦ (let inside = subst (λ l. Contains l one) none here in absurd (omega (arith, inside.1)))
    | inr are ↦ are
  ]

  done_placed : AllByRecursion (λ (one : SettledListContent). one.archive ≡ (archive_in names.archive copy).place) is.done
  done_placed = all_each _ is.done (λ one here. (done_if one here).archive_is one here)

  all_placed : (s : Stage) → AllByRecursion (λ (one : SettledListContent). one.archive ≡ (archive_in names.archive copy).place) (lists_at own (archive_in names.archive copy).place is.done s)
  all_placed stage.New = done_placed
  all_placed stage.Marked = done_placed
  all_placed stage.Raised = those_with (archive_in names.archive copy).place own.register.lists

  -- ---- what had been taken

  -- until the register has the archive this is all that the store has taken
  same_taken : (s : Stage) → IsAtStage held names closing s → held.register ≡ unmarked held.copied → taken_at own (archive_in names.archive copy).place s ≡ taken_of (archive_in names.archive copy).place own.nexts
  same_taken stage.New at new = refl
  same_taken stage.Marked at new = refl
  same_taken stage.Raised at new = absurd (one_longer held.copied.archives closing.archive (ap (λ (c : RegisterContent). c.archives) (sym at.0 ∙ new)))

  taken_placed : (s : Stage) → AllByRecursion (λ (one : Segment). one.archive ≡ (archive_in names.archive copy).place) (taken_at own (archive_in names.archive copy).place s)
  taken_placed stage.New = segments_placed (archive_in names.archive copy).place (filter closes_some (numbers_from (λ partner. 0) 1 own.nexts))
  taken_placed stage.Marked = segments_placed (archive_in names.archive copy).place (filter closes_some (numbers_from (λ partner. 0) 1 own.nexts))
  taken_placed stage.Raised = taken_with (archive_in names.archive copy).place own.register.taken

  keeps_taken : IsAtStage held names closing plan.stage → KeepsTaken held closing
  keeps_taken at =
      let here = sym (ap (λ (a : ArchiveContent). a.place) is.archive) in
      record {
        placed =
            subst (λ n. AllByRecursion (λ (one : Segment). one.archive ≡ n) closing.taken) here
            (subst (AllByRecursion (λ (one : Segment). one.archive ≡ (archive_in names.archive copy).place)) (sym is.taken) (taken_placed plan.stage));
        all = λ new. (own.nexts, of_own.nexts held.own has.own, is.taken ∙ same_taken plan.stage at new ∙ ap (λ n. taken_of n own.nexts) here);
      }

  -- ---- what is sealed

  sealed_placed : (s : Stage) → AllByRecursion (λ (one : SealedContent). one.archive ≡ (archive_in names.archive copy).place) (sealed_at own (archive_in names.archive copy).place seals s)
  sealed_placed stage.New = (refl, tt)
  sealed_placed stage.Marked = (refl, tt)
  sealed_placed stage.Raised = sealed_with (archive_in names.archive copy).place own.register.sealed

  abbrev HasSeals : SealedContent → Type 0
  HasSeals one = one.seals ≡ seals

  sealed_right : (s : Stage) → (is_unraised s ≡ false → AllByRecursion HasSeals (sealed_at own (archive_in names.archive copy).place seals s)) → AllByRecursion HasSeals (sealed_at own (archive_in names.archive copy).place seals s)
  sealed_right stage.New kept = (refl, tt)
  sealed_right stage.Marked kept = (refl, tt)
  sealed_right stage.Raised kept = kept refl

  -- until the register has the archive it is to get these seals
  same_sealed : (s : Stage) → IsAtStage held names closing s → held.register ≡ unmarked held.copied → sealed_at own (archive_in names.archive copy).place seals s ≡ sealed_by own (archive_in names.archive copy).place seals
  same_sealed stage.New at new = refl
  same_sealed stage.Marked at new = refl
  same_sealed stage.Raised at new = absurd (one_longer held.copied.archives closing.archive (ap (λ (c : RegisterContent). c.archives) (sym at.0 ∙ new)))

  keeps_seals : seals ≡ seals_of held.copy closing.numbers → (is_unraised plan.stage ≡ false → AllByRecursion HasSeals closing.sealed) → IsAtStage held names closing plan.stage → KeepsSeals held closing
  keeps_seals are kept at =
      let place = (archive_in names.archive copy).place in
      let here : place ≡ closing.archive.place = sym (ap (λ (a : ArchiveContent). a.place) is.archive) in
      let placed = subst (AllByRecursion (λ (one : SealedContent). one.archive ≡ place)) (sym is.sealed) (sealed_placed plan.stage) in
      let sealed = subst (AllByRecursion HasSeals) (sym is.sealed) (sealed_right plan.stage (λ raised. subst (AllByRecursion HasSeals) is.sealed (kept raised))) in
      record {
        setup = own.setup;
        is_setup = record { db = old.store.now; has = has.own; terminal = own.terminal; loads = own_loads };
        right = subst (λ n. AllByRecursion (λ (one : SealedContent). (one.archive ≡ n) × (one.seals ≡ seals_of held.copy closing.numbers)) closing.sealed) here
            (subst (λ s. AllByRecursion (λ (one : SealedContent). (one.archive ≡ place) × (one.seals ≡ s)) closing.sealed) are
            (both_all (λ (one : SealedContent). one.archive ≡ place) HasSeals closing.sealed placed sealed));
        all = λ new. is.sealed ∙ same_sealed plan.stage at new ∙ ap₂ (sealed_by own) here are;
      }

  module _ (at : IsAtStage held names closing plan.stage) where
    are_done : held.register ≡ unmarked held.copied → closing.lists ≡ is.done
    are_done new = is.lists ∙ same_lists plan.stage at new

    puts_away : PutsAway held closing
    puts_away = record {
      setup = own.setup;
      is_setup = record { db = old.store.now; has = has.own; terminal = own.terminal; loads = own_loads };
      placed = subst (λ n. AllByRecursion (λ (one : SettledListContent). one.archive ≡ n) closing.lists) (sym (ap (λ (a : ArchiveContent). a.place) is.archive)) (subst (AllByRecursion (λ (one : SettledListContent). one.archive ≡ (archive_in names.archive copy).place)) (sym is.lists) (all_placed plan.stage));
      has = λ one here. ((is.gone one).0 here).1;
      goes = λ one here. goes_as is.are_done.lines own.terminal is.are_done.once (sym is.are_done.by_key) own_loads.2.formed own.setup held.own named (archive_in names.archive copy).place is.done own_lines waited (done_if one ((is.gone one).0 here).0) one ((is.gone one).0 here).0;
      all = λ new some list may.
          let are = done_with (segments_in names.archive copy) is.are_done.lines named (archive_in names.archive copy).place is.done (λ none. some (is.segments ∙ none)) is.are_done.are in
          let found = all_found own.setup held.own is.are_done.lines named (archive_in names.archive copy).place is.done own_lines waited are list may in
          record { one = found.one; has = (is.gone found.one).1 (found.has, subst (λ l. Contains l found.one) (sym (are_done new)) found.has); named = found.named };
      with_numbers = λ new none. are_done new ∙ subst (λ (s : List Segment). GoWith s is.are_done.lines named (archive_in names.archive copy).place is.done) (sym is.segments ∙ none) is.are_done.are;
      only = λ new one here. (is.gone one).1 (subst (λ l. Contains l one) (are_done new) here, here);
    }

  -- ---- the whole

  -- numbers are closed by this call, or they are closed already
  module _ (new : held.register ≡ unmarked held.copied) (lists : PutsAway held closing) (taken : KeepsTaken held closing) (sealed : KeepsSeals held closing) where
    same_before : closed_before held ≡ last_closed held.copied.segments
    same_before = ap (λ (c : RegisterContent). last_closed c.segments) new

    new_closing : IsComparedAs closing.numbers held.own held.copy None → IsClosing held names closing
    new_closing compared = record {
      file = ap (λ (a : ArchiveContent). a.file) is.archive;
      place = place_is;
      newest = newest_is;
      register = inl new;
      segments = segments_are;
      all = closes_all;
      sound = raised_sound;
      sound_mark = marked_sound;
      numbers = raises;
      rise = λ partner. subst (λ (f : ℕ → ℕ). f partner ≤ closed_after held closing partner) (sym same_before) (segments_rise held.copied.segments closing.segments partner);
      below = λ partner number above within. account_of partner number (subst (λ (f : ℕ → ℕ). f partner < number) same_before above) within;
      holds = λ archived e.
          (compared_held archived held.own held.copy closing.numbers (closed_after held closing) closing.visits
          (subst (λ (f : ℕ → ℕ). Raises f closing.numbers (closed_after held closing)) (sym (e ∙ same_before)) raises) compared has.own_orderly.numbered to_go).0;
      may = may_stay held.own.visits held.copy.visits closing.visits has.own_orderly.numbered to_go;
      lists = lists;
      taken = taken;
      sealed = sealed;
    }

  module _ (raised : held.register ≡ raised_register held closing) (lists : PutsAway held closing) (taken : KeepsTaken held closing) (sealed : KeepsSeals held closing) where
    same_after : closed_before held ≡ closed_after held closing
    same_after = ap (λ (c : RegisterContent). last_closed c.segments) raised

    none_more : (partner number : ℕ) → closed_before held partner < number → number ≤ closed_after held closing partner → ⊥
    none_more partner number above within =
        let low : closed_after held closing partner < number = subst (λ (f : ℕ → ℕ). f partner < number) same_after above in
        omega (arith, low, within)

    old_closing : IsClosing held names closing
    old_closing = record {
      file = ap (λ (a : ArchiveContent). a.file) is.archive;
      place = place_is;
      newest = newest_is;
      register = inr raised;
      segments = segments_are;
      all = closes_all;
      sound = raised_sound;
      sound_mark = marked_sound;
      numbers = raises;
      rise = λ partner. subst (λ (f : ℕ → ℕ). f partner ≤ closed_after held closing partner) (sym same_after) (omega arith);
      below = λ partner number above within. absurd (none_more partner number above within);
      holds = λ archived e. record {
        texts = λ partner number above within. absurd (none_more partner number (subst (λ (f : ℕ → ℕ). f partner < number) e above) within);
        replies = λ partner number above within. absurd (none_more partner number (subst (λ (f : ℕ → ℕ). f partner < number) e above) within);
        visits = λ visit here gone. (goes_if_not held.own.visits held.copy.visits closing.visits has.own_orderly.numbered to_go visit here gone).is_copied;
      };
      may = may_stay held.own.visits held.copy.visits closing.visits has.own_orderly.numbered to_go;
      lists = lists;
      taken = taken;
      sealed = sealed;
    }

  judged_by : (s : Stage) → IsAtStage held names closing s → PutsAway held closing → KeepsTaken held closing → KeepsSeals held closing → (is_unraised s ≡ true → IsComparedAs closing.numbers held.own held.copy None) → IsClosing held names closing
  judged_by stage.New at lists taken sealed compared = new_closing at.0 lists taken sealed (compared refl)
  judged_by stage.Marked at lists taken sealed compared = new_closing at.0 lists taken sealed (compared refl)
  judged_by stage.Raised at lists taken sealed compared = old_closing at.0 lists taken sealed

  pub plan_judged : seals ≡ seals_of held.copy closing.numbers → (is_unraised plan.stage ≡ false → AllByRecursion HasSeals closing.sealed) → IsComparedIf plan held → IsJudged held names plan
  plan_judged are kept compared =
      let at = at_by plan.stage is.taken is.sealed is.is_copy.comes.has_come in
      record { is_closing = judged_by plan.stage at (puts_away at) (keeps_taken at) (keeps_seals are kept at) compared; at = at }

  -- ---- the texts

  begins_by : (s : Stage) → IsAtStage held names closing s → is_unraised s ≡ true → held.register ≡ unmarked held.copied
  begins_by stage.New at e = at.0
  begins_by stage.Marked at e = at.0
  begins_by stage.Raised at e = absurd cc

  unraised_by : (s : Stage) → IsAtStage held names closing s → held.register ≡ unmarked held.copied → is_unraised s ≡ true
  unraised_by stage.New at new = refl
  unraised_by stage.Marked at new = refl
  unraised_by stage.Raised at new = absurd (one_longer held.copied.archives closing.archive (ap (λ (c : RegisterContent). c.archives) (sym at.0 ∙ new)))

  abbrev closed_of : List ℕ → List Numbers
  closed_of nexts = filter closes_some (numbers_from (last_closed held.copied.segments) 1 nexts)

  abbrev place : ℕ
  place = (archive_in names.archive copy).place

  segments_of_closed : plan.segments.items ≡ map (segment_of place) (closed_of copy.nexts)
  segments_of_closed = is.segments ∙ ap (λ (c : RegisterContent). map (segment_of place) (filter closes_some (numbers_from (last_closed c.segments) 1 copy.nexts))) copy_register

  -- all texts are wanted just if the closing begins and closes no number
  pub wants_none : WantsAll plan → ClosesNone held.register held.copied held.copy
  wants_none wants = record {
    begins = begins_by plan.stage (at_by plan.stage is.taken is.sealed is.is_copy.comes.has_come) wants.0;
    nexts = copy.nexts;
    are_nexts = of_copy.nexts held.copy has.copy;
    none = none_mapped (segment_of place) (closed_of copy.nexts) (sym segments_of_closed ∙ wants.1);
  }

  pub none_wants : ClosesNone held.register held.copied held.copy → WantsAll plan
  none_wants none = (
    unraised_by plan.stage (at_by plan.stage is.taken is.sealed is.is_copy.comes.has_come) none.begins,
    segments_of_closed ∙ ap (map (segment_of place)) (ap closed_of (one_nexts held.copy copy.nexts none.nexts has.copy_orderly.accounts (of_copy.nexts held.copy has.copy) none.are_nexts) ∙ none.none),
  )

-- ==== ReadLemmas: Files that are read, one call after the other, whatever comes of it.

-- a call of the office's tables that reads, at Ok
pub read_ok : {X Y E : Type 0} {old new : State} {x : X} (y : Y) → Reads old new (Ok x) → IsRead {E = E} old new (Ok y)
read_ok y r = record { unchanged = r.unchanged; keeps = r.keeps; mode = r.mode; survives = r.survives }

-- at a fault
pub read_err : {X Y E : Type 0} {old new : State} {inner : Result X TableFault} (e : E) → Reads old new inner → IsRead {T = Y} old new (Err e)
read_err e r = record { unchanged = λ clean. tt; keeps = r.keeps; mode = r.mode; survives = r.survives }

-- whatever came of what was read
pub failed : {X Y E F : Type 0} {old new : State} {inner : Result X E} (e : F) → IsRead old new inner → IsRead {T = Y} old new (Err e)
failed e r = record { unchanged = λ clean. tt; keeps = r.keeps; mode = r.mode; survives = r.survives }

-- whatever came of it at Ok
pub passed : {X Y E F : Type 0} {old new : State} {x : X} (y : Y) → IsRead {E = E} old new (Ok x) → IsRead {E = F} old new (Ok y)
passed y r = record { unchanged = r.unchanged; keeps = r.keeps; mode = r.mode; survives = r.survives }

-- nothing was done
pub untouched_err : {Y E : Type 0} (now : State) (e : E) → IsRead {T = Y} now now (Err e)
untouched_err now e = let r = (nothing_read {T = Unit {0}} now (Ok tt)).reads in record { unchanged = λ clean. tt; keeps = r.keeps; mode = r.mode; survives = r.survives }

-- one call, and then another that fails
pub then_failed : {X Y Z E F G : Type 0} {a b c : State} {first : Result X E} {second : Result Y F} (e : G) → IsRead a b first → IsRead b c second → IsRead {T = Z} a c (Err e)
then_failed {a} {b} {c} e p q = record {
  unchanged = λ clean. tt;
  keeps = λ clean. keep_then a b c (p.keeps (omega (arith, q.survives.clean))) (q.keeps clean);
  mode = λ outside. q.mode (p.mode outside);
  survives = quiet_then a b c p.survives q.survives;
}

-- one call, and then another
pub then_ok : {X Y Z E F G : Type 0} {a b c : State} {x : X} {y : Y} (z : Z) → IsRead {E = E} a b (Ok x) → IsRead {E = F} b c (Ok y) → IsRead {E = G} a c (Ok z)
then_ok {a} {b} {c} z p q = record {
  unchanged = λ clean. unchanged_then a b c (p.unchanged (omega (arith, q.survives.clean))) (q.unchanged clean);
  keeps = λ clean. keep_then a b c (p.keeps (omega (arith, q.survives.clean))) (q.keeps clean);
  mode = λ outside. q.mode (p.mode outside);
  survives = quiet_then a b c p.survives q.survives;
}

-- what may have read nothing, after a call that has
pub then_if_open : {X Y Z E F G : Type 0} {a b c : State} {x : X} {y : Y} (z : Z) → IsRead {E = E} a b (Ok x) → IsReadIfOpen {E = F} b c (Ok y) → IsRead {E = G} a c (Ok z)
then_if_open {a} {b} {c} z p q = record {
  unchanged = λ clean.
      let first = p.unchanged (omega (arith, q.survives.clean)) in
      unchanged_then a b c first (q.unchanged clean first.0.is_open);
  keeps = λ clean. keep_then a b c (p.keeps (omega (arith, q.survives.clean))) (q.keeps clean);
  mode = λ outside. q.mode (p.mode outside);
  survives = quiet_then a b c p.survives q.survives;
}

pub then_if_open_failed : {X Y Z E F G : Type 0} {a b c : State} {first : Result X E} {second : Result Y F} (e : G) → IsRead a b first → IsReadIfOpen b c second → IsRead {T = Z} a c (Err e)
then_if_open_failed {a} {b} {c} e p q = record {
  unchanged = λ clean. tt;
  keeps = λ clean. keep_then a b c (p.keeps (omega (arith, q.survives.clean))) (q.keeps clean);
  mode = λ outside. q.mode (p.mode outside);
  survives = quiet_then a b c p.survives q.survives;
}

-- ---- calls that may have nothing to read

pub if_open_ok : {X Y E : Type 0} {old new : State} {x : X} (y : Y) → OnlyReads old new (Ok x) → IsReadIfOpen {E = E} old new (Ok y)
if_open_ok y r = record { same = r.same; unchanged = r.reads.unchanged; keeps = r.reads.keeps; mode = r.reads.mode; survives = r.reads.survives }

pub if_open_err : {X Y E : Type 0} {old new : State} {inner : Result X TableFault} (e : E) → OnlyReads old new inner → IsReadIfOpen {T = Y} old new (Err e)
if_open_err e r = record { same = λ clean. tt; unchanged = λ clean was. tt; keeps = r.reads.keeps; mode = r.reads.mode; survives = r.reads.survives }

pub none_read : {Y E : Type 0} (now : State) (y : Y) → IsReadIfOpen {E = E} now now (Ok y)
none_read now y = if_open_ok y (nothing_read {T = Unit {0}} now (Ok tt))

pub read_if_open : {X E : Type 0} {old new : State} {result : Result X E} → IsRead old new result → IsReadIfOpen old new result
read_if_open {X} {E} {old} {new} {result} r = record {
  same = λ clean. on_ok result (same_unchanged old new) (r.unchanged clean);
  unchanged = λ clean was. r.unchanged clean;
  keeps = r.keeps;
  mode = r.mode;
  survives = r.survives;
}

pub if_open_passed : {X Y E F : Type 0} {old new : State} {x : X} (y : Y) → IsReadIfOpen {E = E} old new (Ok x) → IsReadIfOpen {E = F} old new (Ok y)
if_open_passed y r = record { same = r.same; unchanged = r.unchanged; keeps = r.keeps; mode = r.mode; survives = r.survives }

pub if_open_failed : {X Y E F : Type 0} {old new : State} {inner : Result X E} (e : F) → IsReadIfOpen old new inner → IsReadIfOpen {T = Y} old new (Err e)
if_open_failed e r = record { same = λ clean. tt; unchanged = λ clean was. tt; keeps = r.keeps; mode = r.mode; survives = r.survives }

pub read_clean : {X E : Type 0} {old new : State} {result : Result X E} → IsRead old new result → HasCleanDisk new → HasCleanDisk old
read_clean r clean = omega (arith, r.survives.clean)

pub clean_before : {X E : Type 0} {old new : State} {result : Result X E} → IsReadIfOpen old new result → HasCleanDisk new → HasCleanDisk old
clean_before r clean = omega (arith, r.survives.clean)

-- a file that was not read, whatever came of it
pub unread : {X E : Type 0} (now : State) (result : Result X E) → IsReadIfOpen now now result
unread now (Ok x) = none_read now x
unread now (Err e) = if_open_failed e (none_read {E = Unit {0}} now (tt {0}))

pub if_open_after : {X Y Z E F G : Type 0} {a b c : State} {x : X} {y : Y} (z : Z) → IsReadIfOpen {E = E} a b (Ok x) → IsReadIfOpen {E = F} b c (Ok y) → IsReadIfOpen {E = G} a c (Ok z)
if_open_after {a} {b} {c} z p q = record {
  same = λ clean.
      let first = p.same (clean_before q clean) in
      let next = q.same clean in
      record { now = next.now ∙ first.now; committed = next.committed ∙ first.committed };
  unchanged = λ clean was.
      let first = p.unchanged (clean_before q clean) was in
      unchanged_then a b c first (q.unchanged clean first.0.is_open);
  keeps = λ clean. keep_then a b c (p.keeps (clean_before q clean)) (q.keeps clean);
  mode = λ outside. q.mode (p.mode outside);
  survives = quiet_then a b c p.survives q.survives;
}

pub if_open_after_failed : {X Y Z E F G : Type 0} {a b c : State} {x : X} {second : Result Y F} (e : G) → IsReadIfOpen {E = E} a b (Ok x) → IsReadIfOpen b c second → IsReadIfOpen {T = Z} a c (Err e)
if_open_after_failed {a} {b} {c} e p q = record {
  same = λ clean. tt;
  unchanged = λ clean was. tt;
  keeps = λ clean. keep_then a b c (p.keeps (clean_before q clean)) (q.keeps clean);
  mode = λ outside. q.mode (p.mode outside);
  survives = quiet_then a b c p.survives q.survives;
}
