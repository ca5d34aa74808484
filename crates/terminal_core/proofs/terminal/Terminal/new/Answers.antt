use Rattle.std.proofs.Common.{List, subst}
use Rattle.yard_core.specs.{declared.plan.Block.Block, Plan.IsPlan}
use Rattle.terminal_core.proofs.Whole.{whole_empty}
use Rattle.terminal_core.proofs.terminal.Terminal.new.Goals as goal

pub invariant_of-result : goal.invariant_of-result
invariant_of-result c =
    let P : List Block → Type 0 = IsPlan in
    whole_empty c.args.plan c.in_ok-yard.yard c.args.visit_limit _ c.new-3.result (subst P c.in_ok-yard.ensures.empty.0 c.in_ok-yard.ensures.plan) c.in_ok-yard.ensures.empty.0 c.in_ok-yard.ensures.empty.1 c.in_ok-yard.ensures.sound c.new-2.ensures

pub returns-clause-whole : goal.returns-clause-whole
returns-clause-whole c =
    let P : List Block → Type 0 = IsPlan in
    whole_empty c.args.plan c.in_ok-yard.yard c.args.visit_limit _ c.new-3.result (subst P c.in_ok-yard.ensures.empty.0 c.in_ok-yard.ensures.plan) c.in_ok-yard.ensures.empty.0 c.in_ok-yard.ensures.empty.1 c.in_ok-yard.ensures.sound c.new-2.ensures
