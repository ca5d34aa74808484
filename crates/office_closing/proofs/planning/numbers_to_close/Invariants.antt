use Rattle.std.proofs.Common.{◌≡◌, ◌+◌, ◌++◌, drop}
use Rattle.office_loading.specs.Closed.{last_closed}
use Rattle.office_closing.specs.Copies.{numbers_from}
use Rattle.office_closing.proofs.planning.numbers_to_close.Given as goal

abbrev pub invariant-loop-index : goal.invariant-loop-index
invariant-loop-index l =
    l.numbers.items ++ numbers_from (last_closed l.closed) (l.index + 1) (drop l.index l.nexts) ≡ numbers_from (last_closed l.closed) 1 l.nexts
