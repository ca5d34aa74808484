-- What an office keeps of what is delivered: the first delivery under each number, in the order of arrival.
use Rattle.std.specs.Prelude.{◌≡◌, ℕ, List, [], ◌∷◌, ◌++◌, All, Some, if◌then◌else◌}
use Rattle.partner_core.specs.{Machine.Taking, Deliveries.{Delivery, first_text, is_used}, Answers.answer_of, Growth.ComesToSame}

-- of deliveries that come after others, those under a number that was free when they came
abbrev pub kept_after : List Delivery → List Delivery → List Delivery
kept_after before [] = []
kept_after before (d ∷ ds) =
    if is_used before d.partner d.number
    then kept_after (before ++ d ∷ []) ds
    else d ∷ kept_after (before ++ d ∷ []) ds

-- the first delivery under each number, in the order of arrival
unfoldable pub kept : List Delivery → List Delivery
kept ds = kept_after [] ds

-- ---- the laws

-- one delivery more is kept if its number was free, and nothing else changes
abbrev pub KeptAdds : Type 0
KeptAdds =
    (ds : List Delivery) (d : Delivery) →
    kept (ds ++ d ∷ []) ≡ kept ds ++ (if is_used ds d.partner d.number then [] else d ∷ [])

-- the delivery is the first under its number
abbrev pub IsFirst : List Delivery → Delivery → Type 0
IsFirst ds d = first_text ds d.partner d.number ≡ Some d.text

-- each that is kept is the first under its number
abbrev pub KeptAreFirst : Type 0
KeptAreFirst = (ds : List Delivery) → All (IsFirst ds) (kept ds)

-- two lists of deliveries have the same first texts, come to the same, and answer each delivery the same
pub record DecidesSame {S : Type 0} (taken : Taking S) (opening : S) (ds es : List Delivery) : Type 0 where
  pub firsts : (partner number : ℕ) → first_text ds partner number ≡ first_text es partner number
  pub comes : ComesToSame taken opening ds es
  pub answers : (d : Delivery) → answer_of taken opening ds d ≡ answer_of taken opening es d

-- what is kept decides all, now and after whatever comes later
abbrev pub KeptDecides : {S : Type 0} → Taking S → Type 0
KeptDecides {S} taken =
    (opening : S) (ds later : List Delivery) → DecidesSame taken opening (kept ds ++ later) (ds ++ later)
