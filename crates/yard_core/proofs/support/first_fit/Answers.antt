use Rattle.yard_core.proofs.Placings.{no_tier_after}
use Rattle.std.proofs.Common.{arith}
use Rattle.yard_core.proofs.support.first_fit.Goals as goal

pub returns : goal.returns
returns c = no_tier_after c.args.yard.now c.args.size c.args.is_laden c.requires c.loop-tier.tier (omega arith) c.loop-tier.invariant
