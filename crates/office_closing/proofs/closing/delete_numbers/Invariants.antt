use Rattle.std.proofs.Common.{◌≡◌, ◌≤◌, ◌-◌, ◌⊎◌, [], ◌∷◌, Ok}
use Rattle.sqlite.specs.Held.{state}
use Rattle.office_parts.specs.LeftOver.{rows_without}
use Rattle.office_closing.{specs.Deleting.{Deletes, goes}, proofs.NumberLemmas.numbers_to}
use Rattle.office_closing.proofs.closing.delete_numbers.Given as goal

abbrev pub invariant-loop-number : goal.invariant-loop-number
invariant-loop-number g l = record {
  same : l.tx.conn.ghost_name ≡ l.fn.tx.conn.ghost_name;
  above : l.numbers.from ≤ l.number;
  within : (l.number ≤ l.numbers.to) ⊎ (l.number ≡ l.numbers.from);
  deletes : Deletes {T = Unit {0}} (rows_without (goes (numbers_to l.numbers l.number ∷ []))) (state g.S.Store l.fn.tx.conn.now) (state g.S.Store l.tx.conn.now) (Ok tt);
}

abbrev pub decreases-loop-number : goal.decreases-loop-number
decreases-loop-number g l = l.numbers.to - l.number
