use Rattle.std.proofs.Common.{◌≡◌, ◌+◌, drop}
use Rattle.serde.specs.Event.{Log}
use Rattle.serde_json.specs.{Events.SendsItems, View.items_of}
use Rattle.office_replies.specs.Lines.{lines_from}
use Rattle.office_replies.proofs.message_report.send_lines.Given as goal

-- whatever lines end it well from here end it well from the start
abbrev pub invariant-loop-report : goal.invariant-loop-report
invariant-loop-report g l = record {
  counted : l.line ≡ l.report-index + 1;
  sent : (end : Log) → SendsItems (items_of (lines_from l.line (drop l.report-index l.lines))) (g.S.Serializer.written l.out) end → SendsItems (items_of (lines_from 1 l.lines)) (g.S.Serializer.written l.initial.out) end;
}
