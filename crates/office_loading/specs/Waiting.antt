-- Which interchanges wait, and why their numbers can't be read.
use Rattle.std.specs.Prelude.{ℕ, ◌<◌, ◌^◌, ◌==◌, ◌&&◌, nat_lt, Bool, List, [], ◌∷◌, Contains, map, filter}
use Rattle.sqlite.specs.Order.{Row}
use Rattle.office_rows.specs.{Rows.{Interchange, Rows}, Values.number_value}

-- it is kept for that partner, beyond the number that is next
abbrev pub is_waiting : ℕ → ℕ → Interchange → Bool
is_waiting partner next i = (i.partner == partner) && nat_lt next i.number

-- a partner's interchanges beyond that number
abbrev pub waiting_in : ℕ → ℕ → Rows → List Interchange
waiting_in partner next rows = filter (is_waiting partner next) rows.interchanges

-- their numbers
abbrev pub waiting_numbers : ℕ → ℕ → Rows → List ℕ
waiting_numbers partner next rows = map (λ (i : Interchange). i.number) (waiting_in partner next rows)

-- what a query of their numbers shows of each
abbrev pub waiting_values : Interchange → Row
waiting_values i = number_value i.number ∷ []

-- one of them has a number of more than 32 bits
abbrev pub HasHighWaiting : ℕ → ℕ → Rows → Type 0
HasHighWaiting partner next rows = (n : ℕ) × Contains (waiting_numbers partner next rows) n × ¬ (n < 2 ^ 32)
