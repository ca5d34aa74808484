-- What is held for the connections at the keys so far.
use Rattle.std.proofs.{Common.{◌≡◌, ℕ, ◌+◌, ◌≤◌, List, length, take, get_or, Option, None, inl, inr, refl, arith}, lemmas.{Bool.cases_order, List.get_or_past, List.take_all, List.Sums.sum_by_more}}
use Rattle.std.specs.List.{sum_by}
use Rattle.office_http.specs.{Lines.held_at, declared.line.Line.Line}

past : (slots : List (Option Line)) (key : ℕ) → length slots ≤ key →
    sum_by held_at (take (key + 1) slots) ≡ sum_by held_at (take key slots) + held_at (get_or slots key None)
past slots key beyond =
    rw (take_all (key + 1) slots (omega (arith, beyond))) (rw (take_all key slots beyond) (rw (get_or_past slots key None beyond) (omega arith)))

-- one key more, whether it is one of theirs or beyond them
pub held_more : (slots : List (Option Line)) (key : ℕ) →
    sum_by held_at (take (key + 1) slots) ≡ sum_by held_at (take key slots) + held_at (get_or slots key None)
held_more slots key = elim (cases_order key (length slots)) [
  | inl end ↦ past slots key (omega (arith, end))
  | inr apart ↦ elim apart [
    | inl within ↦ sum_by_more held_at slots key None within
    | inr beyond ↦ past slots key (omega (arith, beyond))
  ]
]

-- all keys
pub held_all : (slots : List (Option Line)) (keys : ℕ) → length slots ≤ keys → sum_by held_at (take keys slots) ≡ sum_by held_at slots
held_all slots keys within = rw (take_all keys slots within) refl
