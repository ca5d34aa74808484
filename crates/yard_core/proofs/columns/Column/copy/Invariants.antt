use Rattle.std.proofs.Common.{◌≡◌, take}
use Rattle.yard_core.proofs.columns.Column.copy.Given as goal

abbrev pub invariant-loop-level : goal.invariant-loop-level
invariant-loop-level l = l.copy ≡ take l.level l.self
