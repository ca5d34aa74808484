use Rattle.std.proofs.Common.{refl}
use Rattle.yard_core.specs.YardMap.{placement}
use Rattle.terminal_core.{specs.{Rows.change_content, Step.departure_by}, proofs.{Whole.{whole_departed, whole_with}, Open.two_more}}
use Rattle.terminal_core.proofs.Lined.{has_departed, has_not_departed}
use Rattle.terminal_core.proofs.terminal.Terminal.depart.Goals as goal

pub invariant_of-self : goal.invariant_of-self
invariant_of-self c =
    whole_with (record { yard = c.self.inside.yard; limit = c.self.inside.limit; visits = c.self.inside.visits.visits; lines = c.self.inside.lists }) c.remove.new.self _ _ c.close-visit.ensures.closed
    (whole_departed _ c.remove.new.self c.args.container (departure_by c.args.way c.args.source c.args.moment) (placement c.in-Ok.field-0.0 c.in-Ok.field-0.1) c.self.invariant c.in-Ok.ensures.answer c.in-Ok.ensures.sound)

pub returns-in-Ok-clause-step : goal.returns-in-Ok-clause-step
returns-in-Ok-clause-step c = rw (← c.self.view_is)
    (has_departed _ c.args.way c.args.source c.args.container c.args.moment c.remove.new.self (placement c.in-Ok.field-0.0 c.in-Ok.field-0.1) _ c.close-visit.result _ _ c.self.invariant c.in-Ok.ensures.answer
    c.close-visit.ensures.closed c.close-visit.ensures.number
    (two_more change_content c.args.changes.now.items c.append.new.rows.items c.append-in-Ok.new.rows.items _ c.visit_closed.result _ _ c.append.ensures.rows c.append-in-Ok.ensures.rows refl c.visit_closed.ensures))

pub returns-in-Err-clause-step : goal.returns-in-Err-clause-step
returns-in-Err-clause-step c = rw (← c.self.view_is)
    (has_not_departed _ c.args.way c.args.source c.args.container c.args.moment c.in-Err.fault _ c.remove.new.self _ c.self.invariant c.in-Err.ensures.answer c.reason_of.ensures c.in-Err.ensures.err)
