use Rattle.std.proofs.Common.{◌≡◌, map, take}
use Rattle.office_replies.specs.Messages.{report_content}
use Rattle.office_admission.specs.Taking.{verdicts_of}
use Rattle.office_admission.proofs.taking.verdicts_of.Given as goal

abbrev pub invariant-loop-report : goal.invariant-loop-report
invariant-loop-report l = l.verdicts.items ≡ verdicts_of (map report_content (take l.report-index l.reports))
