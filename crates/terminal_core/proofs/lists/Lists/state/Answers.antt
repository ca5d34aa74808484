use Rattle.std.{specs.Option.option_map, proofs.Common.{sym, ap}}
use Rattle.edi_messages.specs.Owned.{call_content}
use Rattle.terminal_core.proofs.Lined.{state_told, none_told}
use Rattle.terminal_core.proofs.lists.Lists.state.Goals as goal

pub returns-in-Some : goal.returns-in-Some
returns-in-Some c =
    state_told (call_content c.args.call.now) c.args.side c.args.container c.self.inside.rows.items c.deref.result.now c.in-Some.row_index c.index.result.now c.args.self.now c.deref.ensures.value c.in-Some.ensures c.index.ensures c.self.view_is

pub returns-in-None : goal.returns-in-None
returns-in-None c =
    sym (ap (option_map (λ l. l.state)) (none_told (call_content c.args.call.now) c.args.side c.args.container c.self.inside.rows.items c.deref.result.now c.args.self.now c.deref.ensures.value c.in-None.ensures c.self.view_is))
