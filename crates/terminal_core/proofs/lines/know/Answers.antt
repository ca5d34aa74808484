use Rattle.std.proofs.Common.{Some, cond, ap, ◌∙◌, sym}
use Rattle.edi_messages.specs.{Purposes.CallContent, Owned.call_content}
use Rattle.terminal_core.{specs.LineIndexes.{is_call, indexes_of}, proofs.{Indexed.none_of, Noted.known_now}}
use Rattle.terminal_core.proofs.lines.know.Goals as goal

pub returns-clause-same : goal.returns-clause-same
returns-clause-same c = known_now (call_content c.args.call.now) c.args.indexes.now c.insert.new.self c.new.result c.new.result
    (λ q. c.in_ok-insert.ensures.updates.0 q ∙ ap (λ (k : CallContent). cond (is_call k q) (Some c.new.result) (indexes_of c.args.indexes.now (call_content q))) c.in_ok-copied_call.ensures)
    (none_of (indexes_of c.args.indexes.now (call_content c.args.call.now)) (sym c.contains_key.ensures ∙ c.if-contains_key.false)) c.new.ensures.empty
