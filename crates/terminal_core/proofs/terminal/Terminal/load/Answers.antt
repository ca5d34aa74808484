use Rattle.std.proofs.Common.{◌≡◌, ◌∙◌, Some, sym, ap, true}
use Rattle.edi_messages.specs.Owned.{call_content}
use Rattle.terminal_core.specs.{declared.lines.LineState.TheVariants.Pending, declared.lines.Side.TheVariants.Load, declared.visits.Way.TheVariants.Ship}
use Rattle.terminal_core.{specs.{State.{Lines, line_of, line_key, is_in}, Step.after_departure}, proofs.Lined.{mapped_some, line_kept, line_closed, went_on}}
use Rattle.std.specs.FinMap as finite_map
use Rattle.terminal_core.proofs.terminal.Terminal.load.Goals as goal

pub returns-then-is_refused-clause-ok : goal.returns-then-is_refused-clause-ok
returns-then-is_refused-clause-ok c =
    let call = call_content c.args.call.now in
    let found = mapped_some (line_of c.args.self.now call Load c.args.container) Pending (sym c.in-Some-Pending.ensures.told ∙ ap Some c.in-Some-Pending.field-0-is) in
    let here : is_in c.args.self.now c.args.container ≡ true = sym c.is_in.ensures ∙ c.if-not-is_in.false in
    went_on c.args.self.now c.args.source call c.args.container c.args.moment _ _ _ _ here
    (line_kept c.args.self.now call Load c.args.container found.0 (after_departure c.args.self.now Ship c.args.source c.args.container c.args.moment) _ _ _ _ found.1 found.2
    c.depart-outcome.ensures.step (sym c.is_refused.ensures ∙ c.if-is_refused.true))

pub returns-else-is_refused-clause-ok : goal.returns-else-is_refused-clause-ok
returns-else-is_refused-clause-ok c =
    let call = call_content c.args.call.now in
    let found = mapped_some (line_of c.args.self.now call Load c.args.container) Pending (sym c.in-Some-Pending.ensures.told ∙ ap Some c.in-Some-Pending.field-0-is) in
    let still = ap (λ (l : Lines). finite_map.get l (line_key call Load c.args.container)) c.depart-outcome.ensures.lines ∙ found.1 in
    let here : is_in c.args.self.now c.args.container ≡ true = sym c.is_in.ensures ∙ c.if-not-is_in.false in
    went_on c.args.self.now c.args.source call c.args.container c.args.moment _ _ _ _ here
    (line_closed c.args.self.now call Load c.args.container found.0 (after_departure c.args.self.now Ship c.args.source c.args.container c.args.moment) c.depart-outcome.new.self c.finish.new.self _ _ _ _ found.1 found.2
    c.depart-outcome.ensures.step (sym c.is_refused.ensures ∙ c.if-is_refused.false) (c.finish.ensures.done found.0 still) c.finish.ensures.changes)
