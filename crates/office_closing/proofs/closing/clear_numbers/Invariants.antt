use Rattle.std.proofs.Common.{◌≡◌, ◌≤◌, ◌-◌, ◌⊎◌, [], ◌∷◌, Ok}
use Rattle.sqlite.specs.Held.{state}
use Rattle.office_parts.specs.LeftOver.{rows_without}
use Rattle.office_closing.{specs.{Clearing.{Clears, IsWithoutSome}, Deleting.goes}, proofs.NumberLemmas.numbers_to}
use Rattle.office_closing.proofs.closing.clear_numbers.Given as goal

abbrev pub invariant-loop-from : goal.invariant-loop-from
invariant-loop-from g l = record {
  above : l.numbers.from ≤ l.from;
  within : (l.from ≤ l.numbers.to) ⊎ (l.from ≡ l.numbers.from);
  clears : Clears {T = Unit {0}} (rows_without (goes (numbers_to l.numbers l.from ∷ []))) (IsWithoutSome (goes (l.numbers ∷ []))) (state g.S.Store l.fn.conn) (state g.S.Store l.conn) (Ok tt);
}

abbrev pub decreases-loop-from : goal.decreases-loop-from
decreases-loop-from g l = l.numbers.to - l.from
