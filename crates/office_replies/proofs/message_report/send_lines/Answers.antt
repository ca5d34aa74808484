use Rattle.std.proofs.{Common.{◌≡◌, [], drop, Some, sym, subst, arith}, lemmas.List.drop_all, lemmas.Result.on_ok_weaker}
use Rattle.serde.specs.Event.{Logs, seq_begins}
use Rattle.serde_json.specs.{View.items_of, Events.SendsItems}
use Rattle.office_replies.{specs.Lines.lines_from, proofs.Floats.lines_len}
use Rattle.office_replies.proofs.message_report.send_lines.Goals as goal

pub returns : goal.returns
returns g c =
    let all = c.args.lines.now in
    let first = g.S.Serializer.written c.begin_seq.new.self in
    let end = g.S.Serializer.written c.end_seq.new.self in
    let last = g.S.Serializer.written c.loop-report.out in
    let begun = subst (λ n. Logs (g.S.Serializer.written c.args.out.now) first (seq_begins (Some n))) (sym (lines_len 1 all)) c.in_ok-begin_seq.ensures in
    let none : drop c.loop-report.report-index all ≡ [] = drop_all c.loop-report.report-index all (omega arith) in
    on_ok_weaker c.end_seq.result (λ ended. (
      first,
      begun,
      c.loop-report.invariant.sent end (subst (λ reports. SendsItems (items_of (lines_from c.loop-report.line reports)) last end) (sym none) ended),
    )) c.end_seq.ensures
