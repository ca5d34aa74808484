-- The blocks so far go up to where the last one ends.
use Rattle.std.proofs.Common.{◌-◌, ◌≤◌, length}
use Rattle.office_explain.proofs.SendingLemmas.{GoUpTo}
use Rattle.office_explain.proofs.explanation.blocks_of.Given as goal

abbrev pub invariant-all : goal.invariant-all
invariant-all l = (l.from ≤ length l.file) × GoUpTo l.partners l.file l.from l.blocks.items

abbrev pub decreases-all : goal.decreases-all
decreases-all l = length l.file - l.from
