-- What is found of the four files before anything is written.
use Rattle.std.specs.{Prelude.{◌≡◌, ◌≢◌, ◌≤◌, length, ℕ, false, true, Contains, List, [], None, IsTrue, map}, List.AllByRecursion}
use Rattle.sqlite.specs.{State.State, Tree.Trees}
use Rattle.office_closing.specs.{declared.faults.CloseFault.CloseFault, declared.planning.Plan.Plan, Register.{SealedContent, sealed_content}, Seals.with_seals}
use Rattle.office_closing.specs.{Closes.{Held, IsAtStage, IsClosing, closing_content}, Comparing.IsComparedAs, Copies.FileNames, Files.Files, Steps.is_unraised}
use Rattle.office_closing.specs.declared.faults.CloseFault.TheVariants as fault
use Rattle.office_closing.specs.declared.faults.Refusal.TheVariants as refusal

-- the archive is a copy and holds what goes, and the closing has come so far
pub record IsJudged (held : Held) (names : FileNames) (plan : Plan) : Type 0 where
  pub is_closing : IsClosing held names (closing_content plan)
  pub at : IsAtStage held names (closing_content plan) plan.stage

-- The plan has these seals with what is sealed, if the store's register is still to have the archive; and else the register has
-- those, if any.
pub record IsSealedPlan (plan : Plan) (seals : List ℕ) (sealed : Plan) : Type 0 where
  pub due : is_unraised plan.stage ≡ true → length plan.sealed.items ≤ 1 → map sealed_content sealed.sealed.items
      ≡ map (λ one. with_seals seals (sealed_content one)) plan.sealed.items
  pub kept : is_unraised plan.stage ≡ false → (sealed.sealed.items ≡ plan.sealed.items)
      × AllByRecursion (λ (one : SealedContent). one.seals ≡ seals) (map sealed_content plan.sealed.items)
  pub rest : sealed ≡ record plan { sealed = sealed.sealed }

-- the store's register has the archive, with other seals; or memory was refused
abbrev pub IsOfSealing : Plan → (seals : List ℕ) → CloseFault → Type 0
IsOfSealing plan seals (fault.Archive refusal.Seals) =
    (is_unraised plan.stage ≡ false)
    × (one : SealedContent) × Contains (map sealed_content plan.sealed.items) one × (one.seals ≢ seals)
IsOfSealing plan seals (fault.Archive why) = ⊥
IsOfSealing plan seals (fault.File of) = ⊥
IsOfSealing plan seals (fault.Comparing of) = ⊥
IsOfSealing plan seals fault.Memory = Unit {0}

-- if the store's register is still to have the archive, each of the numbers is told alike by store and archive
abbrev pub IsComparedIf : Plan → Held → Type 0
IsComparedIf plan held =
    is_unraised plan.stage ≡ true → IsComparedAs plan.numbers.items held.own held.copy None

-- the archive's texts have to be all of the store's: the closing begins, and closes no number
abbrev pub WantsAll : Plan → Type 0
WantsAll plan = (is_unraised plan.stage ≡ true) × (plan.segments.items ≡ [])

-- outside a transaction, while the connection is open: what was committed is in memory, and a crash leaves only that
pub record IsResting (state : State) : Type 0 where
  pub settled : IsTrue state.is_open → state.now ≡ state.committed
  pub alone : IsTrue state.is_open → (db : Trees) → state.may_leave db → db ≡ state.committed.trees

pub record AreResting (files : Files) : Type 0 where
  pub store : IsResting files.store
  pub register : IsResting files.register
  pub archive : IsResting files.archive
  pub archive_register : IsResting files.archive_register
