use Rattle.std.proofs.Common.{drop, map}
use Rattle.serde.specs.Event.{Log}
use Rattle.serde_json.specs.{Events.SendsItems, View.items_of}
use Rattle.office_replies.specs.Messages.{report_data, report_content}
use Rattle.office_replies.proofs.message_report.send_messages.Given as goal

-- whatever messages end it well from here end it well from the start
abbrev pub invariant-loop-report : goal.invariant-loop-report
invariant-loop-report g l =
    (end : Log) → SendsItems (items_of (map report_data (map report_content (drop l.report-index l.reports)))) (g.S.Serializer.written l.out) end → SendsItems (items_of (map report_data (map report_content l.reports))) (g.S.Serializer.written l.initial.out) end
