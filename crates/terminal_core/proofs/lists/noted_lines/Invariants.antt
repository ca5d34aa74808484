use Rattle.std.proofs.Common.{take}
use Rattle.terminal_core.specs.{LineIndexes.AreNoted, Restoring.AreOnce}
use Rattle.terminal_core.proofs.lists.noted_lines.Given as goal

abbrev pub invariant-loop-i : goal.invariant-loop-i
invariant-loop-i l = record { once : AreOnce (take l.i l.rows); noted : AreNoted (take l.i l.rows) l.indexes }
