use Rattle.std.proofs.Common.{Ok, take}
use Rattle.sqlite.specs.Held.{state}
use Rattle.office_parts.specs.LeftOver.{rows_without}
use Rattle.office_closing.specs.{Clearing.{Clears, IsWithoutSome}, Deleting.goes}
use Rattle.office_closing.proofs.closing.clear.Given as goal

abbrev pub invariant-loop-numbers : goal.invariant-loop-numbers
invariant-loop-numbers g l =
    Clears {T = Unit {0}} (rows_without (goes (take l.numbers-index l.closing))) (IsWithoutSome (goes l.closing)) (state g.S.Store l.fn.conn) (state g.S.Store l.conn) (Ok tt)
