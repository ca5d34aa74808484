use Rattle.std.proofs.Common.{sym, ap, ◌∙◌, arith}
use Rattle.yard_core.specs.YardMap.{placement_if_any}
use Rattle.yard_core.specs.Decisions.{blocker_on}
use Rattle.yard_core.proofs.Exact.{blocker_seen}
use Rattle.yard_core.proofs.Placings.{tier_low}
use Rattle.yard_core.proofs.support.blocker_on.Goals as goal

pub site_of-site-requires-clause-in_plan : goal.site_of-site-requires-clause-in_plan
site_of-site-requires-clause-in_plan c = c.requires.sound.in_plan c.args.number c.in-Some.stowed.placement (ap placement_if_any (sym c.in-Some.ensures))

pub site_of-site-requires-clause-kind : goal.site_of-site-requires-clause-kind
site_of-site-requires-clause-kind c = c.requires.sound.of_kind c.args.number c.in-Some.stowed.placement (ap placement_if_any (sym c.in-Some.ensures))

pub blocker-requires-clause-low : goal.blocker-requires-clause-low
blocker-requires-clause-low c =
    omega (arith, tier_low c.args.plan.now c.args.columns.now c.args.placements.now c.args.number c.in-Some.stowed.placement c.requires (ap placement_if_any (sym c.in-Some.ensures)), c.site_of-site.ensures.site.height_is)

pub returns : goal.returns
returns c =
    let here = ap placement_if_any (sym c.in-Some.ensures) in
    blocker_seen c.args.plan.now c.args.columns.now c.args.placements.now c.args.number c.in-Some.stowed.placement _ _ _ c.requires here c.site_of-site.ensures.site c.blocker.result c.blocker.ensures
    ∙ ap (blocker_on c.args.placements.now) (sym here)
