use Rattle.std.{specs.{Prelude.{◌==◌, ◌&&◌}, Str.bytes_eq, Map.lookup}, proofs.Common.{Some, cond, ap, ◌∙◌, sym}}
use Rattle.edi_messages.specs.Owned.{call_content}
use Rattle.terminal_core.{specs.{State.side_code, LineIndexes.is_key}, proofs.Noted.{notes_index, stays_noted, always}}
use Rattle.terminal_core.proofs.lines.put.Goals as goal

pub returns-in_err-insert-clause-err : goal.returns-in_err-insert-clause-err
returns-in_err-insert-clause-err c = always c.from_residual.result
    (stays_noted (call_content c.args.call.now) c.args.indexes.now (c.get_mut.follows.lender c.insert.new.self) c.in-Some.of_call.now c.insert.new.self
    (λ q. ((c.get_mut.follows.holds c.insert.new.self).3 c.requires).0 q) (sym c.in-Some.ensures.value) c.in_err-insert.ensures.err)

pub returns-in_ok-insert-clause-ok : goal.returns-in_ok-insert-clause-ok
returns-in_ok-insert-clause-ok c =
    notes_index (call_content c.args.call.now) c.args.indexes.now (c.get_mut.follows.lender c.insert.new.self) c.in-Some.of_call.now c.insert.new.self
    (λ q. ((c.get_mut.follows.holds c.insert.new.self).3 c.requires).0 q) c.args.side c.args.container c.args.row_index (sym c.in-Some.ensures.value)
    (λ s b. c.in_ok-insert.ensures.updates.0 (side_code s, b)
    ∙ ap (λ t. cond (t == side_code s && bytes_eq c.text.result b) (Some c.args.row_index) (lookup (is_key s b) c.in-Some.of_call.now.entries)) c.side_code.ensures
    ∙ ap (λ t. cond (side_code c.args.side == side_code s && bytes_eq t b) (Some c.args.row_index) (lookup (is_key s b) c.in-Some.of_call.now.entries)) c.text.ensures.same)
