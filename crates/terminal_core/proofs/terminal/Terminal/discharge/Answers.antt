use Rattle.std.proofs.Common.{◌∙◌, Some, sym, ap}
use Rattle.edi_messages.specs.Owned.{call_content, entry_content}
use Rattle.terminal_core.specs.{declared.lines.LineState.TheVariants.Pending, declared.lines.Side.TheVariants.Discharge, declared.visits.Way.TheVariants.Ship}
use Rattle.terminal_core.{specs.{State.{Lines, line_of, line_key}, Versions.newest, Step.after_entry}, proofs.Lined.{mapped_some, line_closed, came_off}}
use Rattle.std.specs.FinMap as finite_map
use Rattle.terminal_core.proofs.terminal.Terminal.discharge.Goals as goal

pub returns-else-is_refused-clause-ok : goal.returns-else-is_refused-clause-ok
returns-else-is_refused-clause-ok c =
    let call = call_content c.args.call.now in
    let entry = entry_content c.args.entry.now in
    let found = mapped_some (line_of c.args.self.now call Discharge entry.number) Pending (sym c.in-Some-Pending.ensures.told ∙ ap Some c.in-Some-Pending.field-0-is) in
    let still = ap (λ (l : Lines). finite_map.get l (line_key call Discharge entry.number)) c.in_ok-outcome-in-Some-Pending.ensures.lines ∙ found.1 in
    came_off c.args.self.now c.args.source call entry _ _ _ _ (sym c.is_in.ensures ∙ c.if-is_in.false)
    (line_closed c.args.self.now call Discharge entry.number found.0 (after_entry newest c.args.self.now Ship c.args.source entry) c.enter.new.self c.finish.new.self _ _ _ _ found.1 found.2
    c.in_ok-outcome-in-Some-Pending.ensures.ok (sym c.is_refused.ensures ∙ c.if-is_refused.false) (c.finish.ensures.done found.0 still) c.finish.ensures.changes)
