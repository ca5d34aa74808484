use Rattle.std.proofs.Common.{◌≡◌, drop}
use Rattle.office_admission.specs.Tallies.{with_lines}
use Rattle.office_admission.proofs.tally.Tally.count_lines.Given as goal

abbrev pub invariant-loop-line : goal.invariant-loop-line
invariant-loop-line l = with_lines l.self (drop l.line-index l.lines) ≡ with_lines l.fn.self l.lines
