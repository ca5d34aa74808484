-- Which visits go at a closing.
use Rattle.std.specs.Prelude.{◌≡◌, ◌≢◌, ◌↔◌, ℕ, ◌<◌, true, List, Contains, is_some}
use Rattle.terminal_core.specs.{Rows.VisitContent, State.last_number}
use Rattle.office_closing.specs.{declared.faults.CloseFault.CloseFault, declared.visits.VisitFault.VisitFault, declared.visits.VisitFault.TheVariants.{Differs, Memory}}
use Rattle.office_closing.specs.declared.faults.CloseFault.TheVariants as fault
use Rattle.office_closing.specs.declared.faults.Refusal.TheVariants as refusal

-- the visit goes: the copy has it as the store does, it is over, and its number is below the store's newest
pub record GoesBelow (newest : ℕ) (copy : List VisitContent) (visit : VisitContent) : Type 0 where
  pub is_copied : Contains copy visit
  pub over : is_some visit.departure ≡ true
  pub not_newest : visit.number < newest

-- these are the numbers of the store's visits that go, and no others
abbrev pub AreToGo : (own copy : List VisitContent) → List ℕ → Type 0
AreToGo own copy numbers =
    (number : ℕ) →
    Contains numbers number
    ↔ ((visit : VisitContent) × (visit.number ≡ number) × Contains own visit × GoesBelow (last_number own) copy visit)

-- the copy has another visit under this one's number, which is over there
pub record IsOtherwiseOver (copy : List VisitContent) (visit : VisitContent) : Type 0 where
  pub there : VisitContent
  pub is_copied : Contains copy there
  pub numbered : there.number ≡ visit.number
  pub over : is_some there.departure ≡ true
  pub differs : there ≢ visit

-- no visit of the store is another one in the copy, and over there
abbrev pub AreAlike : (own copy : List VisitContent) → Type 0
AreAlike own copy = (visit : VisitContent) → Contains own visit → ¬ IsOtherwiseOver copy visit

-- why it is not said which visits go: the store has a visit under that number, and the copy another that is over
abbrev pub IsCauseOf : (own copy : List VisitContent) → VisitFault → Type 0
IsCauseOf own copy (Differs number) =
    (visit : VisitContent) × (visit.number ≡ number) × Contains own visit × IsOtherwiseOver copy visit
IsCauseOf own copy Memory = Unit {0}

-- why nothing is put away then: the archive is refused for that visit, or memory was refused
abbrev pub fault_of_visit : VisitFault → CloseFault
fault_of_visit (Differs number) = fault.Archive (refusal.Visit number)
fault_of_visit Memory = fault.Memory
