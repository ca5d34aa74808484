-- What a closing comes to, file by file: after all four were read, a step that changes a register, and a store that is cleared.
use Rattle.std.{specs.{Prelude.{nat_le, nat_lt, String, Contains}, Option.{option_map, option_and_then}}, proofs.lemmas.List.Folds.list_any-append}
use Rattle.std.proofs.Common.{◌≡◌, ◌⊎◌, inl, inr, ℕ, ◌<◌, ◌≤◌, List, [], ◌∷◌, ◌++◌, Bool, true, false, ◌&&◌, ◌||◌, ◌==◌, Option, None, Some, refl, sym, ap, subst, ◌∙◌, string_bytes, zero, suc, get_or, length, arith, Result, Ok, Err, IsTrue, OnErr, map}
use Rattle.std.proofs.lemmas.Bool.{eqb-true, eq-eqb, le-leb, leb-true, lt-ltb, ltb-true, cases_Bool}
use Rattle.std.proofs.lemmas.List.Elements.{Contains-append_cases, Contains-append_left, Contains-append_right}
use Rattle.office_rows.specs.{Rows.{Interchange, Rows}, Stored.HasRows}
use Rattle.office_history.specs.{After.{AreKeptOnce, reply_if_any, reply_in}, Cascade.text_in}
use Rattle.office_tables.specs.{Answers.{HasUnfitReply, IsKept, RepliesAs}, Faults.IsOfStoreOr, declared.interchanges.Kept.Kept, declared.table_fault.TableFault.TableFault}
use Rattle.office_tables.specs.declared.table_fault.TableFault.TheVariants.{Store, Damaged, Version, Memory}
use Rattle.office_tables.proofs.WriteLemmas.{none_kept, one_kept, no_text, text_kept}
use Rattle.office_closing.specs.{declared.faults.File.File, declared.faults.FileFault.FileFault, declared.comparing.Numbers.Numbers, Planning.AreInBoth}
use Rattle.office_closing.specs.Comparing.{kept_text, kept_reply, IsSameKept, IsToldAlike, IsComparedAs, HasUnfitAmong, IsOfEither, IsOfFile}
use Rattle.office_closing.specs.{Deleting.{is_of, is_among, all_but, goes, is_one_of, with_visits_that, without_visits}, Stored.HasRegister, Copies.FileNames}
use Rattle.office_closing.specs.{Lists.{SettledListContent, list_content}, Changes.{closed_with, marked_for, unchanged, unmarked}, Transactions.IsSettled}
use Rattle.office_closing.specs.{Register.{RegisterContent, archive_content, sealed_content}, declared.faults.CloseFault.CloseFault}
use Rattle.office_closing.specs.{declared.planning.Plan.Plan, declared.planning.Stage.Stage, Files.{AreClean, AreRead, Files}, Refusing.HasUnfit}
use Rattle.office_closing.specs.{Clearing.{Clears, IsWithoutSome, IsWithoutSomeLists, IsWithoutSomeVisits}, Judging.{AreResting, IsJudged, IsResting}}
use Rattle.office_closing.specs.Closes.{AreHeld, Closing, HasArchive, Held, IsAtStage, IsLeft, IsMarkedNow, StoresLeftRows, StoresMarked, StoresRaised, cleared, closing_content, raised_register}
use Rattle.office_closing.{specs.Steps.{IsAsBefore, StepsIf, is_unmarked, is_unraised}, proofs.ClearLemmas.{clears_failed, clears_then, clears_weaker}}
use Rattle.office_closing.proofs.NumberLemmas.{lists_none, and_both, deleted_none, deleted_twice, or_parts, whole_is_some, whole_is_some_visits, with_all, with_both}
use Rattle.sqlite.{specs.{Effect.Database, State.{State, HasCleanDisk, IsUnchanged, Survives}, Tree.Trees}, proofs.StateLemmas.survives_then}
use Rattle.office_parts.{specs.{LeftOver.rows_without, OwnLists.rows_without_lists}, proofs.BringingLemmas.more_away}
use Rattle.office_closing.specs.declared.faults.File.TheVariants as file
use Rattle.office_closing.specs.declared.planning.Stage.TheVariants as stage

-- ==== CompareLemmas: What is read of both, and whether it is told alike.

-- ---- one number

reply_is : {Z : Type 0} (reply : Option (String Z)) (text : List ℕ) → RepliesAs reply text → reply_if_any text ≡ option_map (λ (r : String Z). string_bytes r) reply
reply_is None text is = ap reply_if_any is
reply_is (Some reply) [] is = absurd (is.1 refl)
reply_is (Some reply) (byte ∷ bytes) is = ap Some is.0

text_is : (partner number : ℕ) (rows : Rows) (kept : Option Kept) → AreKeptOnce rows.interchanges → IsKept partner number rows kept → text_in rows partner number ≡ kept_text kept
text_is partner number rows None once is = no_text partner number rows is
text_is partner number rows (Some kept) once is = text_kept partner number rows kept once is

told_reply : (partner number : ℕ) (rows : Rows) (kept : Option Kept) → AreKeptOnce rows.interchanges → IsKept partner number rows kept → reply_in rows partner number ≡ kept_reply kept
told_reply partner number rows None once is = ap (option_and_then (λ (i : Interchange). reply_if_any i.reply)) (none_kept partner number rows is)
told_reply partner number rows (Some kept) once is =
    ap (option_and_then (λ (i : Interchange). reply_if_any i.reply)) (one_kept partner number rows is.0 once is.1) ∙ reply_is kept.reply is.0.reply is.3

module _ (partner number : ℕ) (own copy : Rows) (here there : Option Kept) (own_once : AreKeptOnce own.interchanges) (copy_once : AreKeptOnce copy.interchanges)
    (own_is : IsKept partner number own here) (copy_is : IsKept partner number copy there) where
  pub told_alike : IsSameKept here there → IsToldAlike partner number own copy
  told_alike same = record {
    text = text_is partner number copy there copy_once copy_is ∙ same.text ∙ sym (text_is partner number own here own_once own_is);
    reply = told_reply partner number copy there copy_once copy_is ∙ same.reply ∙ sym (told_reply partner number own here own_once own_is);
  }

  pub kept_same : IsToldAlike partner number own copy → IsSameKept here there
  kept_same alike = record {
    text = sym (text_is partner number copy there copy_once copy_is) ∙ alike.text ∙ text_is partner number own here own_once own_is;
    reply = sym (told_reply partner number copy there copy_once copy_is) ∙ alike.reply ∙ told_reply partner number own here own_once own_is;
  }

-- ---- faults

pub fault_of_more : {P Q : Type 0} → (P → Q) → (fault : TableFault) → IsOfStoreOr P fault → IsOfStoreOr Q fault
fault_of_more f (Store e) is = tt
fault_of_more f Memory is = tt
fault_of_more f Damaged is = f is
fault_of_more f Version is = is

pub either_more : {P P' Q Q' : Type 0} → (P → P') → (Q → Q') → (at : File) (fault : TableFault) → IsOfFile P Q at fault → IsOfFile P' Q' at fault
either_more f h file.Store fault is = fault_of_more f fault is
either_more f h file.Archive fault is = fault_of_more h fault is
either_more f h file.Register fault is = absurd is
either_more f h file.ArchiveRegister fault is = absurd is

pub of_own : (P Q : Type 0) (fault : FileFault) → fault.file ≡ file.Store → IsOfStoreOr P fault.fault → IsOfEither P Q fault
of_own P Q fault e is = subst (λ f. IsOfFile P Q f fault.fault) (sym e) is

pub of_copy : (P Q : Type 0) (fault : FileFault) → fault.file ≡ file.Archive → IsOfStoreOr Q fault.fault → IsOfEither P Q fault
of_copy P Q fault e is = subst (λ f. IsOfFile P Q f fault.fault) (sym e) is

-- ---- numbers

-- which numbers were compared so far
among_one : (numbers : Numbers) (partner number : ℕ) → is_among (numbers ∷ []) partner number ≡ is_of partner number numbers
among_one numbers partner number = or_false (is_of partner number numbers)
  where
    or_false : (b : Bool) → (b || false) ≡ b
    or_false true = refl
    or_false false = refl

and_true : (a b : Bool) → (a && b) ≡ true → (a ≡ true) × (b ≡ true)
and_true true b e = (refl, e)
and_true false b e = absurd cc

pub among_parts : (numbers : Numbers) (partner number : ℕ) → is_among (numbers ∷ []) partner number ≡ true → (partner ≡ numbers.partner) × (numbers.from < number) × (number ≤ numbers.to)
among_parts numbers partner number e =
    let both = and_true (partner == numbers.partner) _ (sym (among_one numbers partner number) ∙ e) in
    let within = and_true (nat_lt numbers.from number) (nat_le number numbers.to) both.1 in
    (eqb-true partner numbers.partner both.0, ltb-true numbers.from number within.0, leb-true number numbers.to within.1)

pub is_among_one : (numbers : Numbers) (number : ℕ) → numbers.from < number → number ≤ numbers.to → is_among (numbers ∷ []) numbers.partner number ≡ true
is_among_one numbers number above within = among_one numbers numbers.partner number ∙ by (numbers.partner == numbers.partner) (eq-eqb numbers.partner numbers.partner refl) (nat_lt numbers.from number) (lt-ltb numbers.from number above) (le-leb number numbers.to within)
  where
    by : (a : Bool) → a ≡ true → (b : Bool) → b ≡ true → {c : Bool} → c ≡ true → (a && (b && c)) ≡ true
    by a e b f {c} g = ap (λ x. x && (b && c)) e ∙ ap (λ x. x && c) f ∙ g

or_true : (a b : Bool) → (a || b) ≡ true → (a ≡ true) ⊎ (b ≡ true)
or_true true b e = inl refl
or_true false b e = inr e

or_right : (a b : Bool) → b ≡ true → (a || b) ≡ true
or_right true b e = refl
or_right false b e = e

module _ (before : List Numbers) (one : Numbers) (after : List Numbers) (is : after ≡ before ++ one ∷ []) (partner number : ℕ) where
  after_is : is_among after partner number ≡ (is_among before partner number || is_among (one ∷ []) partner number)
  after_is = ap (λ l. is_among l partner number) is ∙ list_any-append (is_of partner number) before (one ∷ [])

  -- one of the numbers so far, or of the next
  pub among_either : is_among after partner number ≡ true → (is_among before partner number ≡ true) ⊎ (is_among (one ∷ []) partner number ≡ true)
  among_either e = or_true (is_among before partner number) (is_among (one ∷ []) partner number) (sym after_is ∙ e)

  pub among_all : (behind all : List Numbers) → all ≡ after ++ behind → is_among (one ∷ []) partner number ≡ true → is_among all partner number ≡ true
  among_all behind all whole e =
      ap (λ l. is_among l partner number) whole ∙ list_any-append (is_of partner number) after behind
      ∙ ap (λ b. b || is_among behind partner number) (after_is ∙ or_right (is_among before partner number) (is_among (one ∷ []) partner number) e)

pub unfit_one : (numbers : Numbers) (number : ℕ) (rows : Rows) → is_among (numbers ∷ []) numbers.partner number ≡ true → HasUnfitReply numbers.partner number rows → HasUnfitAmong (numbers ∷ []) rows
unfit_one numbers number rows among unfit = record { partner = numbers.partner; number = number; among = among; unfit = unfit }

pub unfit_of_all : (before : List Numbers) (one : Numbers) (after behind all : List Numbers) → after ≡ before ++ one ∷ [] → all ≡ after ++ behind → (rows : Rows) → HasUnfitAmong (one ∷ []) rows → HasUnfitAmong all rows
unfit_of_all before one after behind all is whole rows it = record { partner = it.partner; number = it.number; among = among_all before one after is it.partner it.number behind all whole it.among; unfit = it.unfit }

pub has_unfit : (numbers : List Numbers) (rows : Rows) → HasUnfitAmong numbers rows → HasUnfit rows
has_unfit numbers rows unfit = (unfit.partner, unfit.number, unfit.unfit)

pub compared_more : (before : List Numbers) (one : Numbers) (after : List Numbers) → after ≡ before ++ one ∷ [] → (own copy : Rows) → IsComparedAs before own copy None → IsComparedAs (one ∷ []) own copy None → IsComparedAs after own copy None
compared_more before one after is own copy first second partner number e = elim (among_either before one after is partner number e) [
  | inl earlier ↦ first partner number earlier
  | inr here ↦ second partner number here
]

-- ==== BothLemmas: Lists that two lists of them both have, found one after the other.

only_one : (one list : SettledListContent) → Contains (one ∷ []) list → one ≡ list
only_one one list inside = by inside.0 inside.1 inside.2
  where
    by : (k : ℕ) → k < length (one ∷ []) → get_or (one ∷ []) k list ≡ list → one ≡ list
    by zero within is = is
    by (suc k) within is = absurd (omega (arith, within))

module _ (ones others both : List SettledListContent) (one : SettledListContent) (are : AreInBoth ones others both) where
  pub both_pushed : Contains others one → AreInBoth (ones ++ one ∷ []) others (both ++ one ∷ [])
  both_pushed there list = (
    λ inside. elim (Contains-append_cases both (one ∷ []) list inside) [
      | inl before ↦ (let it = (are list).0 before in (Contains-append_left ones (one ∷ []) list it.0, it.1))
      | inr here ↦ (Contains-append_right ones (one ∷ []) list here, subst (Contains others) (only_one one list here) there)
    ],
    λ inside. elim (Contains-append_cases ones (one ∷ []) list inside.0) [
      | inl before ↦ Contains-append_left both (one ∷ []) list ((are list).1 (before, inside.1))
      | inr here ↦ Contains-append_right both (one ∷ []) list here
    ],
  )

  pub both_passed : ¬ Contains others one → AreInBoth (ones ++ one ∷ []) others both
  both_passed none list = (
    λ inside. (let it = (are list).0 inside in (Contains-append_left ones (one ∷ []) list it.0, it.1)),
    λ inside. elim (Contains-append_cases ones (one ∷ []) list inside.0) [
      | inl before ↦ (are list).1 (before, inside.1)
      | inr here ↦ absurd (none (subst (Contains others) (sym (only_one one list here)) inside.1))
    ],
  )

-- ==== FileLemmas: What a closing comes to, file by file: after all four were read, a step that changes a register, and a store that is cleared.

-- ---- one file

-- what a database was said to have is committed after it was read
there : (P : Database → Type 0) (old mid : State) → IsResting old → IsUnchanged old mid → P old.now → P mid.committed
there P old mid rests is has = subst P (rests.settled is.0.was_open ∙ sym is.0.committed_is) has

pub was_clean : (old new : State) (P : Trees → Type 0) → Survives old new P → HasCleanDisk new → HasCleanDisk old
was_clean old new P s clean = omega (arith, s.clean)

-- a file at rest that is read, and then stays
still_settled : (old mid end : State) → IsResting old → IsUnchanged old mid → IsAsBefore mid end → ((db : Trees) → end.may_leave db → old.may_leave db) → IsSettled end
still_settled old mid end rests is same left = record {
  settled = same.now ∙ is.0.now_is ∙ rests.settled is.0.was_open ∙ sym (same.committed ∙ is.0.committed_is);
  is_open = subst IsTrue (sym same.is_open) is.0.is_open;
  alone = λ db may. rests.alone is.0.was_open db (left db may) ∙ ap (λ (d : Database). d.trees) (sym (same.committed ∙ is.0.committed_is));
}

unmarked_is : (content : RegisterContent) → content.closed_for ≡ None → unmarked content ≡ content
unmarked_is content e = λ i. record content { closed_for = sym e i }

marked_is : (content : RegisterContent) (file : _) → content.closed_for ≡ Some file → content ≡ marked_for file content
marked_is content file e = λ i. record content { closed_for = e i }

is_false : (b : Bool) → b ≡ true → b ≡ false → ⊥
is_false true e f = absurd cc
is_false false e f = absurd cc

-- ---- after all four were read

module _ (names : FileNames) (old mid : Files) (plan : Plan) (rests : AreResting old) (read : AreRead {E = CloseFault} old mid (Ok plan))
    (judged : AreClean mid → (held : Held) → AreHeld held old → IsJudged held names plan) where
  abbrev closing : Closing
  closing = closing_content plan

  module _ (clean : AreClean mid) (held : Held) (has : AreHeld held old) where
    found : IsJudged held names plan
    found = judged clean held has

    own_there : HasRows held.own mid.store.committed
    own_there = there (HasRows held.own) old.store mid.store rests.store (read.store.unchanged clean.store) has.own

    register_there : HasRegister held.register mid.register.committed
    register_there = there (HasRegister held.register) old.register mid.register rests.register (read.register.unchanged clean.register) has.register

    copied_there : HasRegister held.copied mid.archive_register.committed
    copied_there = there (HasRegister held.copied) old.archive_register mid.archive_register rests.archive_register (read.archive_register.unchanged clean.archive_register) has.copied

    -- ---- by stage

    unmarked_by : (s : Stage) → IsAtStage held names closing s → is_unmarked s ≡ true → held.copied.closed_for ≡ None
    unmarked_by stage.New at due = at.1
    unmarked_by stage.Marked at due = absurd cc
    unmarked_by stage.Raised at due = absurd cc

    new_by : (s : Stage) → IsAtStage held names closing s → is_unmarked s ≡ true → IsAtStage held names closing stage.New
    new_by stage.New at due = at
    new_by stage.Marked at due = absurd cc
    new_by stage.Raised at due = absurd cc

    marked_by : (s : Stage) → IsAtStage held names closing s → is_unmarked s ≡ false → held.copied.closed_for ≡ Some names.store
    marked_by stage.New at due = absurd cc
    marked_by stage.Marked at due = at.1
    marked_by stage.Raised at due = at.1

    unraised_by : (s : Stage) → IsAtStage held names closing s → is_unraised s ≡ true → held.register ≡ unmarked held.copied
    unraised_by stage.New at due = at.0
    unraised_by stage.Marked at due = at.0
    unraised_by stage.Raised at due = absurd cc

    raised_by : (s : Stage) → IsAtStage held names closing s → is_unraised s ≡ false → held.register ≡ raised_register held closing
    raised_by stage.New at due = absurd cc
    raised_by stage.Marked at due = absurd cc
    raised_by stage.Raised at due = at.0

    -- ---- the archive's register

    unmarked_there : is_unmarked plan.stage ≡ true → HasRegister (unmarked held.copied) mid.archive_register.committed
    unmarked_there due = subst (λ (c : RegisterContent). HasRegister c mid.archive_register.committed) (sym (unmarked_is held.copied (unmarked_by plan.stage found.at due))) copied_there

    marked_there : is_unmarked plan.stage ≡ false → HasRegister (marked_for names.store held.copied) mid.archive_register.committed
    marked_there due = subst (λ (c : RegisterContent). HasRegister c mid.archive_register.committed) (marked_is held.copied names.store (marked_by plan.stage found.at due)) copied_there

    unraised_there : is_unraised plan.stage ≡ true → HasRegister (unmarked held.copied) mid.register.committed
    unraised_there due = subst (λ (c : RegisterContent). HasRegister c mid.register.committed) (unraised_by plan.stage found.at due) register_there

    raised_there : is_unraised plan.stage ≡ false → HasRegister (raised_register held closing) mid.register.committed
    raised_there due = subst (λ (c : RegisterContent). HasRegister c mid.register.committed) (raised_by plan.stage found.at due) register_there

  -- what was left before any of it
  left_before : (a b e : State) (due : Bool) (P : Trees → Type 0) → due ≡ false → Survives a b (λ _. ⊥) → Survives b e (λ db. (due ≡ true) × P db) → HasCleanDisk e → (db : Trees) → e.may_leave db → a.may_leave db
  left_before a b e due P off first second clean db may = elim (second.crash clean db may) [
    | inl before ↦ elim (first.crash (was_clean b e _ second clean) db before) [
      | inl was ↦ was
      | inr none ↦ absurd none
    ]
    | inr it ↦ absurd (is_false due it.0 off)
  ]

  -- ---- the archive's register

  module _ {X : Type 0} (end : State) (result : Result X CloseFault) (steps : StepsIf (is_unmarked plan.stage) unmarked (marked_for names.store) mid.archive_register end result) where
    pub mark_survives : (HasCleanDisk end → AreClean mid) → Survives old.archive_register end (StoresMarked names old)
    mark_survives cleans =
        survives_then old.archive_register mid.archive_register end _ _ (StoresMarked names old) (λ _ db none. absurd none)
        (λ clean db it held has.
        let judged = found (cleans clean) held has in
        (closing, judged.is_closing, new_by (cleans clean) held has plan.stage judged.at it.0, it.1 held.copied (unmarked_there (cleans clean) held has it.0))) read.archive_register.survives steps.crash

    pub mark_undone : HasCleanDisk end → AreClean mid → IsTrue end.is_open → OnErr result ((held : Held) → AreHeld held old → HasRegister held.copied end.committed)
    mark_undone clean cleans is_open = failed result (steps.undone clean is_open)
      where
        failed : (r : Result X CloseFault) → OnErr r (end.committed ≡ mid.archive_register.committed) → OnErr r ((held : Held) → AreHeld held old → HasRegister held.copied end.committed)
        failed (Ok x) e = tt
        failed (Err fault) e = λ held has. subst (HasRegister held.copied) (sym e) (copied_there cleans held has)

  module _ {X : Type 0} (end : State) (x : X) (steps : StepsIf {T = X} (is_unmarked plan.stage) unmarked (marked_for names.store) mid.archive_register end (Ok x)) where
    pub mark_made : HasCleanDisk end → AreClean mid → (held : Held) → AreHeld held old → HasRegister (marked_for names.store held.copied) end.committed
    mark_made clean cleans held has = elim (cases_Bool (is_unmarked plan.stage)) [
      | inl due ↦ (steps.made clean due).register held.copied (unmarked_there cleans held has due)
      | inr off ↦ subst (HasRegister (marked_for names.store held.copied)) (sym (steps.kept off).committed) (marked_there cleans held has off)
    ]

    pub mark_settled : HasCleanDisk end → AreClean mid → IsSettled end
    mark_settled clean cleans = elim (cases_Bool (is_unmarked plan.stage)) [
      | inl due ↦ (steps.made clean due).is_settled
      | inr off ↦ still_settled old.archive_register mid.archive_register end rests.archive_register (read.archive_register.unchanged cleans.archive_register) (steps.kept off)
          (left_before old.archive_register mid.archive_register end (is_unmarked plan.stage) _ off read.archive_register.survives steps.crash clean)
    ]

    pub marked_now : HasCleanDisk end → AreClean mid → (held : Held) → AreHeld held old → IsMarkedNow held names end
    marked_now clean cleans held has = record { has = mark_made clean cleans held has; settled = mark_settled clean cleans }

  -- ---- the store's register

  abbrev RaiseSteps : {X : Type 0} → State → Result X CloseFault → Type 0
  RaiseSteps end result = StepsIf (is_unraised plan.stage) unchanged (closed_with (archive_content plan.archive) plan.segments.items (map list_content plan.lists.items) plan.taken.items (map sealed_content plan.sealed.items)) mid.register end result

  module _ {X : Type 0} (end : State) (result : Result X CloseFault) (steps : RaiseSteps end result) where
    pub raise_survives : (new : Files) → (HasCleanDisk end → AreClean mid) → (HasCleanDisk end → (held : Held) → AreHeld held old → IsMarkedNow held names new.archive_register) → Survives old.register end (StoresRaised names old new)
    raise_survives new cleans marked =
        survives_then old.register mid.register end _ _ (StoresRaised names old new) (λ _ db none. absurd none)
        (λ clean db it held has. (closing, (found (cleans clean) held has).is_closing, it.1 (unmarked held.copied) (unraised_there (cleans clean) held has it.0), marked clean held has)) read.register.survives steps.crash

    pub raise_undone : HasCleanDisk end → AreClean mid → IsTrue end.is_open → OnErr result ((held : Held) → AreHeld held old → HasRegister held.register end.committed)
    raise_undone clean cleans is_open = failed result (steps.undone clean is_open)
      where
        failed : (r : Result X CloseFault) → OnErr r (end.committed ≡ mid.register.committed) → OnErr r ((held : Held) → AreHeld held old → HasRegister held.register end.committed)
        failed (Ok x) e = tt
        failed (Err fault) e = λ held has. subst (HasRegister held.register) (sym e) (register_there cleans held has)

  module _ {X : Type 0} (new : Files) (x : X) (steps : RaiseSteps {X = X} new.register (Ok x)) where
    abbrev end : State
    end = new.register

    raise_settled : HasCleanDisk end → AreClean mid → IsSettled end
    raise_settled clean cleans = elim (cases_Bool (is_unraised plan.stage)) [
      | inl due ↦ (steps.made clean due).is_settled
      | inr off ↦ still_settled old.register mid.register end rests.register (read.register.unchanged cleans.register) (steps.kept off)
          (left_before old.register mid.register end (is_unraised plan.stage) _ off read.register.survives steps.crash clean)
    ]

    pub raise_made : HasCleanDisk end → AreClean mid → (held : Held) → AreHeld held old → IsMarkedNow held names new.archive_register → HasArchive held names closing new
    raise_made clean cleans held has marked = record {
      is_closing = (found cleans held has).is_closing;
      has = elim (cases_Bool (is_unraised plan.stage)) [
        | inl due ↦ (steps.made clean due).register (unmarked held.copied) (unraised_there cleans held has due)
        | inr off ↦ subst (HasRegister (raised_register held closing)) (sym (steps.kept off).committed) (raised_there cleans held has off)
      ];
      settled = raise_settled clean cleans;
      marked = marked;
    }

  -- ---- the store

  module _ {X : Type 0} (new : Files) (result : Result X TableFault) (clears : Clears (cleared closing) (IsLeft closing) mid.store new.store result)
      (has_archive : HasCleanDisk new.store → (held : Held) → AreHeld held old → HasArchive held names closing new) where
    pub store_survives : (HasCleanDisk new.store → AreClean mid) → Survives old.store new.store (StoresLeftRows names old new)
    store_survives cleans =
        survives_then old.store mid.store new.store _ _ (StoresLeftRows names old new) (λ _ db none. absurd none)
        (λ clean db it held has.
        let left = it (read.store.unchanged (cleans clean).store).0.is_open held.own (own_there (cleans clean) held has) in
        (closing, left.0, has_archive clean held has, left.1, left.2)) read.store.survives clears.crash

    pub store_open : AreClean mid → IsTrue mid.store.is_open
    store_open cleans = (read.store.unchanged cleans.store).0.is_open

  pub own_committed : AreClean mid → (held : Held) → AreHeld held old → HasRows held.own mid.store.committed
  own_committed = own_there

  pub register_committed : AreClean mid → (held : Held) → AreHeld held old → HasRegister held.register mid.register.committed
  register_committed = register_there

-- ==== LeftLemmas: What is left of a store that is cleared of interchanges, then of visits, and then of lists.

module _ (closing : Closing) where
  left_of_numbers : (rows left : Rows) → IsWithoutSome (goes closing.numbers) rows left → IsLeft closing rows left
  left_of_numbers rows left it = record {
    deleted = it.deleted;
    only = it.only;
    kept = λ n. true;
    stay = λ n e. refl;
    away = λ list. false;
    lists = λ list e. absurd cc;
    is =
        it.is
        ∙ sym (with_all (λ n. true) (λ n. refl) (rows_without it.deleted rows))
        ∙ sym (lists_none (λ list. false) (λ list. refl) (with_visits_that (λ n. true) (rows_without it.deleted rows)));
  }

  left_of_visits : (rows left : Rows) → IsWithoutSomeVisits (all_but closing.visits) rows left → IsLeft closing rows left
  left_of_visits rows left it = record {
    deleted = λ i. false;
    only = λ i e. absurd cc;
    kept = it.kept;
    stay = it.only;
    away = λ list. false;
    lists = λ list e. absurd cc;
    is =
        it.is
        ∙ ap (with_visits_that it.kept) (sym (deleted_none (λ i. false) (λ i. refl) rows))
        ∙ sym (lists_none (λ list. false) (λ list. refl) (with_visits_that it.kept (rows_without (λ i. false) rows)));
  }

  left_of_lists : (rows left : Rows) → IsWithoutSomeLists (is_one_of closing.gone) rows left → IsLeft closing rows left
  left_of_lists rows left it = record {
    deleted = λ i. false;
    only = λ i e. absurd cc;
    kept = λ n. true;
    stay = λ n e. refl;
    away = it.deleted;
    lists = it.only;
    is = it.is ∙ ap (rows_without_lists it.deleted) (sym (with_all (λ n. true) (λ n. refl) (rows_without (λ i. false) rows) ∙ deleted_none (λ i. false) (λ i. refl) rows));
  }

  left_then : (a b c : Rows) → IsLeft closing a b → IsLeft closing b c → IsLeft closing a c
  left_then a b c p q = record {
    deleted = λ i. p.deleted i || q.deleted i;
    only = λ i e. or_parts (goes closing.numbers i) (p.deleted i) (q.deleted i) (p.only i) (q.only i) e;
    kept = λ n. p.kept n && q.kept n;
    stay = λ n e. and_both (all_but closing.visits n) (p.kept n) (q.kept n) (p.stay n) (q.stay n) e;
    away = λ list. p.away list || q.away list;
    lists = λ list e. or_parts (is_one_of closing.gone list) (p.away list) (q.away list) (p.lists list) (q.lists list) e;
    is =
        q.is
        ∙ ap (λ r. rows_without_lists q.away (with_visits_that q.kept (rows_without q.deleted r))) p.is
        ∙ more_away p.away q.away (with_visits_that q.kept (with_visits_that p.kept (rows_without q.deleted (rows_without p.deleted a))))
        ∙ ap (rows_without_lists (λ list. p.away list || q.away list))
        (with_both p.kept q.kept (rows_without q.deleted (rows_without p.deleted a))
        ∙ ap (with_visits_that (λ n. p.kept n && q.kept n)) (deleted_twice p.deleted q.deleted a));
  }

  abbrev cleared_two : Rows → Rows
  cleared_two rows = without_visits closing.visits (rows_without (goes closing.numbers) rows)

  -- the interchanges, and then the visits
  cleared_both : {X Y : Type 0} (a b c : State) (x : X) (result : Result Y TableFault) → Clears (rows_without (goes closing.numbers)) (IsWithoutSome (goes closing.numbers)) a b (Ok x)
      → Clears (without_visits closing.visits) (IsWithoutSomeVisits (all_but closing.visits)) b c result → Clears cleared_two (IsLeft closing) a c result
  cleared_both a b c x result p q =
      clears_then (IsLeft closing) left_then (rows_without (goes closing.numbers)) (without_visits closing.visits) (λ rows. left_of_numbers rows _ (whole_is_some (goes closing.numbers) rows)) a b c x result
      (clears_weaker (rows_without (goes closing.numbers)) (IsWithoutSome (goes closing.numbers)) (IsLeft closing) a b (Ok x) left_of_numbers p)
      (clears_weaker (without_visits closing.visits) (IsWithoutSomeVisits (all_but closing.visits)) (IsLeft closing) b c result left_of_visits q)

  -- and then the lists
  pub cleared_all : {X Y Z : Type 0} (a b c d : State) (x : X) (y : Y) (result : Result Z TableFault) → Clears (rows_without (goes closing.numbers)) (IsWithoutSome (goes closing.numbers)) a b (Ok x)
      → Clears (without_visits closing.visits) (IsWithoutSomeVisits (all_but closing.visits)) b c (Ok y)
      → Clears (rows_without_lists (is_one_of closing.gone)) (IsWithoutSomeLists (is_one_of closing.gone)) c d result → Clears (cleared closing) (IsLeft closing) a d result
  cleared_all a b c d x y result p q r =
      clears_then (IsLeft closing) left_then cleared_two (rows_without_lists (is_one_of closing.gone))
      (λ rows. left_then rows (rows_without (goes closing.numbers) rows) (cleared_two rows) (left_of_numbers rows _ (whole_is_some (goes closing.numbers) rows))
      (left_of_visits (rows_without (goes closing.numbers) rows) _ (whole_is_some_visits (all_but closing.visits) (rows_without (goes closing.numbers) rows))))
      a c d y result (cleared_both a b c x (Ok y) p q)
      (clears_weaker (rows_without_lists (is_one_of closing.gone)) (IsWithoutSomeLists (is_one_of closing.gone)) (IsLeft closing) c d result left_of_lists r)

  pub cleared_more : {X Y : Type 0} (a b c : State) (x : X) (fault : TableFault) → Clears (rows_without (goes closing.numbers)) (IsWithoutSome (goes closing.numbers)) a b (Ok x)
      → Clears {T = Y} (without_visits closing.visits) (IsWithoutSomeVisits (all_but closing.visits)) b c (Err fault) → Clears {T = Y} (cleared closing) (IsLeft closing) a c (Err fault)
  cleared_more a b c x fault p q = clears_failed cleared_two (cleared closing) (IsLeft closing) a c fault (cleared_both a b c x (Err fault) p q)

  pub cleared_some : {X : Type 0} (a b : State) (fault : TableFault) → Clears {T = X} (rows_without (goes closing.numbers)) (IsWithoutSome (goes closing.numbers)) a b (Err fault) → Clears {T = X} (cleared closing) (IsLeft closing) a b (Err fault)
  cleared_some a b fault p =
      clears_failed (rows_without (goes closing.numbers)) (cleared closing) (IsLeft closing) a b fault
      (clears_weaker (rows_without (goes closing.numbers)) (IsWithoutSome (goes closing.numbers)) (IsLeft closing) a b (Err fault) left_of_numbers p)
