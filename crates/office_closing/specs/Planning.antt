-- What a closing is to do, as the opened offices and their registers tell.
use Rattle.std.specs.Prelude.{◌≡◌, ◌≢◌, ◌↔◌, ℕ, Bool, true, Option, None, Some, List, [], Contains, filter, map}
use Rattle.office_parts.specs.OwnLists.{ListName}
use Rattle.office_closing.specs.{Changes.unmarked, Lists.{SettledListContent, list_content}, Register.{SealedContent, archive_content, sealed_content}}
use Rattle.office_closing.specs.{declared.register.Segment.Segment, declared.faults.CloseFault.CloseFault, declared.planning.ClosingLists.ClosingLists}
use Rattle.office_closing.specs.{declared.planning.History.History, declared.planning.Mark.Mark, declared.planning.Plan.Plan, declared.planning.Stage.Stage}
use Rattle.office_closing.specs.Copies.{AreDoneIn, ComesOn, FileNames, IsCopy, IsReason, OfficeContent, archive_in, is_put_away_with, is_sealed_with, is_with, lists_at, numbers_of, segments_in, segments_of, sealed_at, sealed_by, taken_at, taken_of}
use Rattle.office_closing.specs.Visits.{AreToGo}
use Rattle.office_closing.specs.declared.faults.CloseFault.TheVariants as fault
use Rattle.office_closing.specs.declared.faults.Refusal.TheVariants as refusal
use Rattle.office_closing.specs.declared.planning.Mark.TheVariants as mark
use Rattle.office_closing.specs.declared.planning.Stage.TheVariants as stage

-- these are the lists that are done, if the registers name the same archives, and else those that the store's has with this one
pub record AreFor (own copy : OfficeContent) (archive : ℕ) (done lists : List SettledListContent) : Type 0 where
  pub same : unmarked copy.register ≡ unmarked own.register → lists ≡ done
  pub other : unmarked copy.register ≢ unmarked own.register
      → lists ≡ filter (is_put_away_with archive) own.register.lists

-- this is all that the store has taken, if the registers name the same archives, and else what the store's has with this one
pub record IsTakenFor (own copy : OfficeContent) (archive : ℕ) (taken : List Segment) : Type 0 where
  pub same : unmarked copy.register ≡ unmarked own.register → taken ≡ taken_of archive own.nexts
  pub other : unmarked copy.register ≢ unmarked own.register → taken ≡ filter (is_with archive) own.register.taken

-- this is what is sealed with it, as yet without seals, if the registers name the same archives, and else what the store's has
-- with this one
pub record IsSealedFor (own copy : OfficeContent) (archive : ℕ) (sealed : List SealedContent) : Type 0 where
  pub same : unmarked copy.register ≡ unmarked own.register → sealed ≡ sealed_by own archive []
  pub other : unmarked copy.register ≢ unmarked own.register
      → sealed ≡ filter (is_sealed_with archive) own.register.sealed

-- these are what both have
abbrev pub AreInBoth : (ones others both : List SettledListContent) → Type 0
AreInBoth ones others both =
    (list : SettledListContent) → Contains both list ↔ (Contains ones list × Contains others list)

-- The archive is a copy, and this is what it closes, which visits go and which lists: those that are done, if the register has
-- them so. These are the seals that it gets.
pub record IsPlan (own copy : OfficeContent) (names : FileNames) (named : List ListName) (seals : List ℕ) (plan : Plan)
    : Type 0 where
  pub is_copy : IsCopy own copy names (map list_content plan.lists.items) plan.stage
  pub numbers : plan.numbers.items ≡ numbers_of copy
  pub archive : archive_content plan.archive ≡ archive_in names.archive copy
  pub segments : plan.segments.items ≡ segments_of (archive_in names.archive copy).place (numbers_of copy)
  pub visits : AreToGo own.terminal.visits copy.terminal.visits plan.visits.items
  pub done : List SettledListContent
  pub are_done :
      AreDoneIn own.terminal named (segments_in names.archive copy) (archive_in names.archive copy).place done
  pub lists : map list_content plan.lists.items
      ≡ lists_at own (archive_in names.archive copy).place done plan.stage
  pub gone : AreInBoth done (map list_content plan.lists.items) (map list_content plan.gone.items)
  pub taken : plan.taken.items ≡ taken_at own (archive_in names.archive copy).place plan.stage
  pub sealed : map sealed_content plan.sealed.items
      ≡ sealed_at own (archive_in names.archive copy).place seals plan.stage

-- ---- its parts

-- what the archive closes, which visits go, and what had been taken
pub record IsHistory (own copy : OfficeContent) (file : List ℕ) (history : History) : Type 0 where
  pub numbers : history.numbers.items ≡ numbers_of copy
  pub archive : archive_content history.archive ≡ archive_in file copy
  pub segments : history.segments.items ≡ segments_of (archive_in file copy).place (numbers_of copy)
  pub visits : AreToGo own.terminal.visits copy.terminal.visits history.visits.items
  pub taken : IsTakenFor own copy (archive_in file copy).place history.taken.items
  pub sealed : IsSealedFor own copy (archive_in file copy).place (map sealed_content history.sealed.items)

-- the lists that the register has with the archive, and those of them that are done
pub record AreClosingLists (own copy : OfficeContent) (named : List ListName) (segments : List Segment) (archive : ℕ)
    (lists : ClosingLists) : Type 0 where
  pub done : List SettledListContent
  pub are_done : AreDoneIn own.terminal named segments archive done
  pub all : AreFor own copy archive done (map list_content lists.all.items)
  pub gone : AreInBoth done (map list_content lists.all.items) (map list_content lists.gone.items)

-- the plan has these, and that stage
pub record IsPlanOf (history : History) (closed : ClosingLists) (come : Stage) (plan : Plan) : Type 0 where
  pub numbers : plan.numbers.items ≡ history.numbers.items
  pub visits : plan.visits.items ≡ history.visits.items
  pub archive : archive_content plan.archive ≡ archive_content history.archive
  pub segments : plan.segments.items ≡ history.segments.items
  pub taken : plan.taken.items ≡ history.taken.items
  pub sealed : plan.sealed.items ≡ history.sealed.items
  pub lists : plan.lists.items ≡ closed.all.items
  pub gone : plan.gone.items ≡ closed.gone.items
  pub stage : plan.stage ≡ come

-- ---- refusals

-- there is a reason to refuse the archive; or memory was refused
abbrev pub IsRefused : OfficeContent → OfficeContent → FileNames → CloseFault → Type 0
IsRefused own copy names (fault.Archive why) = IsReason own copy names why
IsRefused own copy names fault.Memory = Unit {0}
IsRefused own copy names (fault.File of) = ⊥
IsRefused own copy names (fault.Comparing of) = ⊥

-- the closing has come to no stage with these lists that are done; or memory was refused
abbrev pub IsRefusedWith : (own copy : OfficeContent) → FileNames → (done : List SettledListContent) → CloseFault → Type 0
IsRefusedWith own copy names done (fault.Archive refusal.Register) =
    (come : Stage) → ¬ ComesOn own copy names (lists_at own (archive_in names.archive copy).place done come) come
IsRefusedWith own copy names done (fault.Archive why) = ⊥
IsRefusedWith own copy names done fault.Memory = Unit {0}
IsRefusedWith own copy names done (fault.File of) = ⊥
IsRefusedWith own copy names done (fault.Comparing of) = ⊥

-- whether a register is marked, and for this store
abbrev pub IsMarkedAs : Option (List ℕ) → List ℕ → Mark → Type 0
IsMarkedAs closed_for store mark.Absent = closed_for ≡ None
IsMarkedAs closed_for store mark.Own = closed_for ≡ Some store
IsMarkedAs closed_for store mark.Other = (closed_for ≢ None) × (closed_for ≢ Some store)

-- the marks and the registers tell this stage: whether the archive's names the same archives as the store's, and whether
-- the store's has this archive besides
abbrev pub IsToldBy : (is_same has_archive : Bool) → Mark → Stage → Type 0
IsToldBy is_same has_archive found stage.New = (is_same ≡ true) × (found ≡ mark.Absent)
IsToldBy is_same has_archive found stage.Marked = (is_same ≡ true) × (found ≡ mark.Own)
IsToldBy is_same has_archive found stage.Raised = (has_archive ≡ true) × (found ≡ mark.Own)
