use Rattle.std.{specs.Prelude.{◌↔◌, string_bytes}, proofs.Common.{◌≡◌, ℕ, Bool, true, List, [], None, Some, map, refl, sym, ap, subst, ◌∙◌}}
use Rattle.std.proofs.lemmas.Bool.{false≢true}
use Rattle.office_closing.specs.{declared.register.Segment.Segment, Changes.{closed_with, unmarked}, Lists.{SettledListContent, list_content}}
use Rattle.office_closing.specs.Register.{ArchiveContent, RegisterContent, SealedContent, archive_content, register_content, sealed_content}
use Rattle.office_closing.specs.{declared.planning.Mark.Mark, declared.planning.Stage.Stage, Planning.{AreFor, IsMarkedAs, IsSealedFor, IsTakenFor, IsToldBy}}
use Rattle.office_closing.specs.Copies.{ComesOn, FileNames, HasCome, OfficeContent, archive_in, lists_at, numbers_of, office_content, raised_by, sealed_at, segments_of, taken_at}
use Rattle.office_closing.proofs.ClearLemmas.{lists_come, one_longer, sealed_come, taken_come}
use Rattle.office_closing.proofs.planning.stage_of.Goals.{else-branch, in_default, in_default-2, then-branch}
use Rattle.office_closing.specs.Sound as sound
use Rattle.office_closing.specs.declared.planning.Mark.TheVariants as mark
use Rattle.office_closing.specs.declared.planning.Stage.TheVariants as stage
use Rattle.office_closing.proofs.planning.stage_of.Goals as goal

-- the register with this archive, these lists and what had been taken
raised_is : (copy : OfficeContent) (archive : ArchiveContent) (segments : List Segment) (lists : List SettledListContent) (taken : List Segment) (sealed : List SealedContent) (file : List ℕ) → archive ≡ archive_in archive.file copy → segments ≡ segments_of archive.place (numbers_of copy) → file ≡ archive.file
    → closed_with archive segments lists taken sealed (unmarked copy.register) ≡ raised_by file lists taken sealed copy
raised_is copy archive segments lists taken sealed file is those here =
    let same : archive ≡ archive_in file copy = is ∙ ap (λ f. archive_in f copy) (sym here) in
    let all : segments ≡ segments_of (archive_in file copy).place (numbers_of copy) = those ∙ ap (λ (a : ArchiveContent). segments_of a.place (numbers_of copy)) same in
    λ i. closed_with (same i) (all i) lists taken sealed (unmarked copy.register)

module _ (own copy : OfficeContent) (names : FileNames) (lists : List SettledListContent) (taken : List Segment) (for : IsTakenFor own copy (archive_in names.archive copy).place taken) (sealed : List SealedContent) (with_ : IsSealedFor own copy (archive_in names.archive copy).place sealed) (is_same has_archive : Bool) (found : Mark) (raised : RegisterContent) (unclosed : own.register.closed_for ≡ None)
    (same : (is_same ≡ true) ↔ (unmarked copy.register ≡ unmarked own.register)) (is_raised : raised ≡ raised_by names.archive lists taken sealed copy) (has : (has_archive ≡ true) ↔ (unmarked raised ≡ unmarked own.register))
    (marked : IsMarkedAs copy.register.closed_for names.store found) where
  own_is : own.register ≡ unmarked own.register
  own_is = λ i. record own.register { closed_for = unclosed i }

  -- the mark of an archive that is marked for this store
  own_found : copy.register.closed_for ≡ Some names.store → (m : Mark) → IsMarkedAs copy.register.closed_for names.store m → m ≡ mark.Own
  own_found own_mark mark.Absent is = cc (own_mark, is)
  own_found own_mark mark.Own is = refl
  own_found own_mark mark.Other is = absurd (is.1 own_mark)

  none_found : copy.register.closed_for ≡ None → (m : Mark) → IsMarkedAs copy.register.closed_for names.store m → m ≡ mark.Absent
  none_found no_mark mark.Absent is = refl
  none_found no_mark mark.Own is = cc (no_mark, is)
  none_found no_mark mark.Other is = absurd (is.0 no_mark)

  -- a stage that the closing has come to is reported
  told : (come : Stage) → HasCome own copy names lists come → IsToldBy is_same has_archive found come
  told stage.New come = (same.1 (come.0 ∙ own_is), none_found come.1 found marked)
  told stage.Marked come = (same.1 (come.0 ∙ own_is), own_found come.1 found marked)
  told stage.Raised come = (
    has.1 (ap unmarked is_raised ∙ ap (λ t. raised_by names.archive lists t sealed copy) (taken_come own copy names (archive_in names.archive copy).place taken unclosed for lists stage.Raised come)
        ∙ ap (λ s. raised_by names.archive lists (taken_at own (archive_in names.archive copy).place stage.Raised) s copy) (sealed_come own copy names (archive_in names.archive copy).place sealed unclosed with_ lists stage.Raised come) ∙ come.0 ∙ own_is),
    own_found come.1 found marked,
  )

  -- a register that has the archive is another than the archive's own
  taken_told : (come : Stage) → IsToldBy is_same has_archive found come → taken ≡ taken_at own (archive_in names.archive copy).place come
  taken_told stage.New is = for.same (same.0 is.0)
  taken_told stage.Marked is = for.same (same.0 is.0)
  taken_told stage.Raised is =
      for.other (λ e. one_longer copy.register.archives (archive_in names.archive copy) (ap (λ (c : RegisterContent). c.archives) (sym (ap unmarked is_raised) ∙ has.0 is.0) ∙ sym (ap (λ (c : RegisterContent). c.archives) e)))

  sealed_told : (come : Stage) → IsToldBy is_same has_archive found come → sealed ≡ sealed_at own (archive_in names.archive copy).place [] come
  sealed_told stage.New is = with_.same (same.0 is.0)
  sealed_told stage.Marked is = with_.same (same.0 is.0)
  sealed_told stage.Raised is =
      with_.other (λ e. one_longer copy.register.archives (archive_in names.archive copy) (ap (λ (c : RegisterContent). c.archives) (sym (ap unmarked is_raised) ∙ has.0 is.0) ∙ sym (ap (λ (c : RegisterContent). c.archives) e)))

  -- and a stage that is reported has come
  has_come : (come : Stage) → IsToldBy is_same has_archive found come → HasCome own copy names lists come
  has_come stage.New is = (same.0 is.0 ∙ sym own_is, subst (IsMarkedAs copy.register.closed_for names.store) is.1 marked)
  has_come stage.Marked is = (same.0 is.0 ∙ sym own_is, subst (IsMarkedAs copy.register.closed_for names.store) is.1 marked)
  has_come stage.Raised is = (
    ap (λ t. raised_by names.archive lists t (sealed_at own (archive_in names.archive copy).place [] stage.Raised) copy) (sym (taken_told stage.Raised is))
        ∙ ap (λ s. raised_by names.archive lists taken s copy) (sym (sealed_told stage.Raised is)) ∙ sym (ap unmarked is_raised) ∙ has.0 is.0 ∙ sym own_is,
    subst (IsMarkedAs copy.register.closed_for names.store) is.1 marked,
  )

  -- and may go on, if the register with the archive is sound and the store's file has a name
  comes_on : sound.is_sound raised ≡ true → sound.is_file_name names.store ≡ true → (come : Stage) → IsToldBy is_same has_archive found come → ComesOn own copy names lists come
  comes_on tested is_named come is = record {
    has_come = has_come come is;
    may = record {
      raised =
          subst (λ s. sound.is_sound (raised_by names.archive lists (taken_at own (archive_in names.archive copy).place come) s copy) ≡ true) (sealed_told come is)
          (subst (λ t. sound.is_sound (raised_by names.archive lists t sealed copy) ≡ true) (taken_told come is) (subst (λ (c : RegisterContent). sound.is_sound c ≡ true) is_raised tested));
      mark = is_named;
    };
  }

-- with the lists that are done it comes on as with those that the register is to get
comes_with : (own copy : OfficeContent) (names : FileNames) (place at : ℕ) (done lists : List SettledListContent) → own.register.closed_for ≡ None → AreFor own copy place done lists → place ≡ at → (come : Stage)
    → ComesOn own copy names (lists_at own at done come) come → ComesOn own copy names lists come
comes_with own copy names place at done lists unclosed for here come it =
    let those : lists ≡ lists_at own at done come = lists_come own copy names place done lists unclosed for (lists_at own at done come) come it.has_come ∙ ap (λ n. lists_at own n done come) here in
    subst (λ l. ComesOn own copy names l come) (sym those) it

pub returns-in-Some-clause-ok : goal.returns-in-Some-clause-ok
returns-in-Some-clause-ok c names store archive =
    let own = office_content c.args.own.now in
    let copy = office_content c.args.copy in
    let lists = map list_content c.args.lists.now in
    let taken = c.args.taken.now in
    let sealed = map sealed_content c.args.sealed.now in
    let place = ap (λ (a : ArchiveContent). a.place) c.requires.archive in
    let for = subst (λ n. IsTakenFor own copy n taken) place c.requires.taken in
    let with_ = subst (λ n. IsSealedFor own copy n sealed) place c.requires.sealed in
    let is_raised = c.in_ok-raised.ensures ∙ raised_is copy (archive_content c.args.archive.now) c.args.segments.now lists taken sealed names.archive c.requires.archive c.requires.segments archive in
    let marked = subst (λ s. IsMarkedAs copy.register.closed_for s c.mark_of-mark.result) (sym store) c.mark_of-mark.ensures in
    let may : (sound.is_sound (register_content c.in_ok-raised.raised) ≡ true) × (sound.is_file_name names.store ≡ true) = elim c.if-branch.branch [
      | then-branch v ↦ (
        sym c.in_ok-may.ensures ∙ v.if-branch.true,
        ap sound.is_file_name (store ∙ sym v.as_bytes.ensures.value) ∙ sym v.is_file_name-may.ensures ∙ sym v.may-is ∙ c.if-may.true,
      )
      | else-branch v ↦ absurd (false≢true (sym v.if-branch.false ∙ sym v.may-is ∙ c.if-may.true))
    ] in
    comes_on own copy names lists taken for sealed with_ c.tells_same-is_same.result c.tells_same-has_archive.result c.mark_of-mark.result (register_content c.in_ok-raised.raised) c.requires.unclosed c.tells_same-is_same.ensures is_raised c.tells_same-has_archive.ensures marked may.0 may.1 c.in-Some.stage c.in-Some.ensures

pub returns-clause-err : goal.returns-clause-err
returns-clause-err c =
    let own = office_content c.args.own.now in
    let copy = office_content c.args.copy in
    let raised = register_content c.in_ok-raised.raised in
    let lists = map list_content c.args.lists.now in
    let taken = c.args.taken.now in
    let sealed = map sealed_content c.args.sealed.now in
    let place = ap (λ (a : ArchiveContent). a.place) c.requires.archive in
    let is_raised = λ (names : FileNames) (here : names.archive ≡ string_bytes c.args.archive.now.file). c.in_ok-raised.ensures ∙ raised_is copy (archive_content c.args.archive.now) c.args.segments.now lists taken sealed names.archive c.requires.archive c.requires.segments here in
    let of_taken = λ (names : FileNames). subst (λ n. IsTakenFor own copy n taken) place c.requires.taken in
    let of_sealed = λ (names : FileNames). subst (λ n. IsSealedFor own copy n sealed) place c.requires.sealed in
    elim c.match-come_so_far.branch [
      | in_default-2 w ↦ rw w.result-is (λ names done store archive for come comes.
          let it = comes_with own copy names c.args.archive.now.place (archive_in names.archive copy).place done lists c.requires.unclosed for place come comes in
          let known = taken_come own copy names (archive_in names.archive copy).place taken c.requires.unclosed (of_taken names) lists come it.has_come in
          let its = sealed_come own copy names (archive_in names.archive copy).place sealed c.requires.unclosed (of_sealed names) lists come it.has_come in
          let is = is_raised names archive ∙ ap (λ t. raised_by names.archive lists t sealed copy) known
          ∙ ap (λ s. raised_by names.archive lists (taken_at own (archive_in names.archive copy).place come) s copy) its in
          let may : c.if-branch.may ≡ true = elim c.if-branch.branch [
            | then-branch v ↦ v.may-is ∙ v.is_file_name-may.ensures ∙ ap sound.is_file_name (v.as_bytes.ensures.value ∙ sym store) ∙ it.may.mark
            | else-branch v ↦ absurd (false≢true (sym v.if-branch.false ∙ c.in_ok-may.ensures ∙ ap sound.is_sound is ∙ it.may.raised))
          ] in
          false≢true (sym w.if-may.false ∙ may))
      | in_default w ↦ rw w.result-is (λ names done store archive for come comes.
          let it = comes_with own copy names c.args.archive.now.place (archive_in names.archive copy).place done lists c.requires.unclosed for place come comes in
          let marked = subst (λ s. IsMarkedAs copy.register.closed_for s c.mark_of-mark.result) (sym store) c.mark_of-mark.ensures in
          w.in_default.ensures come (told own copy names lists taken (of_taken names) sealed (of_sealed names) c.tells_same-is_same.result c.tells_same-has_archive.result c.mark_of-mark.result raised c.requires.unclosed c.tells_same-is_same.ensures (is_raised names archive) c.tells_same-has_archive.ensures marked come it.has_come))
    ]
