use Rattle.std.proofs.Common.{◌≡◌, drop, fold, min}
use Rattle.office_reports.proofs.partners.least.Given as goal

abbrev pub invariant-loop-number : goal.invariant-loop-number
invariant-loop-number l = fold min l.least (drop l.number-index l.others) ≡ fold min l.first l.others
