use Rattle.std.proofs.Common.{take, map}
use Rattle.office_reports.proofs.Standings.{Holds, shown}
use Rattle.office_reports.proofs.yard.standings.Given as goal

abbrev pub invariant-loop-visit : goal.invariant-loop-visit
invariant-loop-visit l = Holds l.terminal (map shown (take l.visit-index l.visit-items)) l.yard.entries
