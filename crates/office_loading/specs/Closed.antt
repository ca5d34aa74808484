-- What is closed of a store: interchanges and visits that were put away, whether or not their rows are gone.
use Rattle.std.specs.Prelude.{ℕ, ◌∷◌, get_or}
use Rattle.office_loading.specs.declared.closed.Closed.{Closed}

-- of each partner the last number that is closed, 0 if none is; and the number of visits up to which there may be gaps
pub record ClosedContent : Type 0 where
  pub last_closed : ℕ → ℕ
  pub newest_closed : ℕ

-- no number is closed, and no visit was put away
abbrev pub nothing_closed : ClosedContent
nothing_closed = record { last_closed = λ partner. 0; newest_closed = 0 }

-- partners are counted from 1
abbrev pub last_closed : Closed → ℕ → ℕ
last_closed closed partner = get_or (0 ∷ closed.last.items) partner 0

abbrev pub closed_content : Closed → ClosedContent
closed_content closed = record { last_closed = last_closed closed; newest_closed = closed.newest_visit }
