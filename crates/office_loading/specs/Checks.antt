-- What interchanges and visits are checked for, where some were put away.
use Rattle.std.specs.{Prelude.{◌≡◌, ℕ, ◌+◌, ◌-◌, Bool, nat_le, not, List, [], ◌∷◌, ◌++◌, map, filter, true}, List.range_with_len}
use Rattle.terminal_core.specs.{OneByOne.GoOneByOne, Rows.VisitContent, State.AreNumbered}
use Rattle.office_rows.specs.{Rows.Partner, Opened.NumberKept, Office.AreWaiting}

-- each number beyond what is closed and below the partner's next was taken
abbrev pub taken_beyond : (last_closed : ℕ → ℕ) → Partner → List NumberKept
taken_beyond last_closed partner =
    map (λ number. record { partner = partner.id; number = number; is_taken = true })
    (range_with_len (last_closed partner.id + 1) (partner.next - 1 - last_closed partner.id))

-- what is kept for a partner: the numbers beyond what is closed and below its next, and those that wait for it
pub record IsKeptBeyond (last_closed : ℕ → ℕ) (partner : Partner) (numbers : List NumberKept) : Type 0 where
  pub waiting : List NumberKept
  pub wait : AreWaiting partner.id partner.next waiting
  pub are : numbers ≡ taken_beyond last_closed partner ++ waiting

-- the interchanges of the partners, one partner's after the other's
abbrev pub AreKeptBeyond : (last_closed : ℕ → ℕ) → List Partner → List NumberKept → Type 0
AreKeptBeyond last_closed [] numbers = numbers ≡ []
AreKeptBeyond last_closed (partner ∷ partners) numbers =
    (own : List NumberKept) × (others : List NumberKept) × (numbers ≡ own ++ others)
    × IsKeptBeyond last_closed partner own
    × AreKeptBeyond last_closed partners others

-- the numbers beyond what is closed
abbrev pub numbers_beyond : (last_closed : ℕ → ℕ) → List NumberKept → List NumberKept
numbers_beyond last_closed numbers =
    filter (λ (n : NumberKept). not (nat_le n.number (last_closed n.partner))) numbers

abbrev pub is_after : ℕ → VisitContent → Bool
is_after number visit = not (nat_le visit.number number)

-- the visits with numbers above that one
abbrev pub visits_after : ℕ → List VisitContent → List VisitContent
visits_after number visits = filter (is_after number) visits

-- the numbers of visits rise, and after that one they go on one by one: up to the newest closing there may be gaps
pub record AreOwnVisits (newest_closed : ℕ) (visits : List VisitContent) : Type 0 where
  pub rise : AreNumbered 0 visits
  pub one_by_one : GoOneByOne (newest_closed + 1) (visits_after newest_closed visits)
