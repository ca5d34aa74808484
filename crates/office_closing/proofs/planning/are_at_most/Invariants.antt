use Rattle.std.{specs.Prelude.◌↔◌, proofs.Common.drop}
use Rattle.office_closing.specs.Copies.{AreAtMost}
use Rattle.office_closing.proofs.planning.are_at_most.Given as goal

abbrev pub invariant-loop-index : goal.invariant-loop-index
invariant-loop-index l = AreAtMost l.numbers l.others ↔ AreAtMost (drop l.index l.numbers) (drop l.index l.others)
