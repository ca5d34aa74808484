use Rattle.std.{specs.Map.values_of, proofs.Common.{◌≡◌, ◌++◌}}
use Rattle.office_reports.proofs.drawing.standings_of.Given as goal

abbrev pub invariant-loop-standing : goal.invariant-loop-standing
invariant-loop-standing l = l.standings.items ++ values_of l.standing-iterator ≡ values_of l.initial.standing-iterator
