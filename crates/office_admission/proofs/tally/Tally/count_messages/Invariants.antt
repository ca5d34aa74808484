use Rattle.std.proofs.Common.{◌≡◌, drop, map}
use Rattle.office_replies.specs.Messages.{report_content}
use Rattle.office_admission.specs.Tallies.{with_reports}
use Rattle.office_admission.proofs.tally.Tally.count_messages.Given as goal

abbrev pub invariant-loop-report : goal.invariant-loop-report
invariant-loop-report l =
    with_reports l.self (map report_content (drop l.report-index l.reports)) ≡ with_reports l.fn.self (map report_content l.reports)
