use Rattle.std.proofs.Common.{refl}
use Rattle.edi_messages.specs.Owned.{call_content}
use Rattle.terminal_core.proofs.Lined.{line_finished, none_told, not_there}
use Rattle.terminal_core.proofs.lists.Lists.finish.Goals as goal

pub returns-in-Some : goal.returns-in-Some
returns-in-Some c line there =
    line_finished (call_content c.args.call.now) c.args.side c.args.container c.self.inside.rows.items c.deref.result.now c.in-Some.row_index c.index_mut-row.result.now _ c.args.self.now line
    c.deref.ensures.value c.in-Some.ensures c.index_mut-row.ensures.value c.self.view_is refl refl there

pub returns-in_default : goal.returns-in_default
returns-in_default c line there =
    not_there _ _ line (none_told (call_content c.args.call.now) c.args.side c.args.container c.self.inside.rows.items c.deref.result.now c.args.self.now c.deref.ensures.value c.in_default.ensures c.self.view_is) there
