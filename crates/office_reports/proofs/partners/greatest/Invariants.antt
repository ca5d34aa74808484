use Rattle.std.proofs.Common.{◌≡◌, drop, fold, max}
use Rattle.office_reports.proofs.partners.greatest.Given as goal

abbrev pub invariant-loop-number : goal.invariant-loop-number
invariant-loop-number l = fold max l.greatest (drop l.number-index l.others) ≡ fold max l.first l.others
