use Rattle.edi_messages.specs.Owned.{call_content}
use Rattle.terminal_core.{specs.State.line_key, proofs.{Lined.none_told, Removed.{line_removed, none_removed}}}
use Rattle.terminal_core.proofs.lists.Lists.remove.Goals as goal

pub returns-in-Some : goal.returns-in-Some
returns-in-Some c =
    line_removed (call_content c.args.call.now) c.args.side c.args.container c.self.inside.rows.items c.deref.result.now c.remove_at.new.rows.items c.self.inside.indexes c.in-Some.row_index c.args.self.now
    c.self.invariant c.deref.ensures.value c.in-Some.ensures c.remove_at.ensures.moved c.self.view_is

pub returns-in_default : goal.returns-in_default
returns-in_default c =
    none_removed c.args.self.now (line_key (call_content c.args.call.now) c.args.side c.args.container)
    (none_told (call_content c.args.call.now) c.args.side c.args.container c.self.inside.rows.items c.deref.result.now c.args.self.now c.deref.ensures.value c.in_default.ensures c.self.view_is)
