use Rattle.std.{specs.{Prelude.{◌==◌, ◌&&◌, IsSome}, Str.bytes_eq, Map.lookup}, proofs.Common.{Some, cond, ap, ◌∙◌, sym, subst, refl}}
use Rattle.edi_messages.specs.Owned.{call_content}
use Rattle.terminal_core.{specs.{State.side_code, LineIndexes.is_key}, proofs.Noted.notes_index}
use Rattle.terminal_core.proofs.lines.renote.Goals as goal

pub returns-in-Some-get_mut : goal.returns-in-Some-get_mut
returns-in-Some-get_mut c =
    notes_index (call_content c.args.call.now) c.args.indexes.now (c.get_mut.follows.lender (c.get_mut-in-Some.follows.lender c.args.row_index)) c.in-Some.of_call.now (c.get_mut-in-Some.follows.lender c.args.row_index)
    (λ q. ((c.get_mut.follows.holds (c.get_mut-in-Some.follows.lender c.args.row_index)).3 (subst IsSome c.in-Some.ensures.value refl)).0 q) c.args.side c.args.container c.args.row_index (sym c.in-Some.ensures.value)
    (λ s b. ((c.get_mut-in-Some.follows.holds c.args.row_index).3 (subst IsSome c.in-Some-get_mut.ensures.value refl)).0 (side_code s, b)
    ∙ ap (λ t. cond (t == side_code s && bytes_eq c.text.result b) (Some c.args.row_index) (lookup (is_key s b) c.in-Some.of_call.now.entries)) c.side_code.ensures
    ∙ ap (λ t. cond (side_code c.args.side == side_code s && bytes_eq t b) (Some c.args.row_index) (lookup (is_key s b) c.in-Some.of_call.now.entries)) c.text.ensures.same)
