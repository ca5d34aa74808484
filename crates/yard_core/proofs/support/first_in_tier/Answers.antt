use Rattle.yard_core.proofs.Placings.{no_letter_below, no_letter_after}
use Rattle.std.proofs.Common.{arith}
use Rattle.yard_core.proofs.support.first_in_tier.Goals as goal

pub loop-letter-init : goal.loop-letter-init
loop-letter-init c = no_letter_below c.args.yard.now c.args.size c.args.is_laden c.requires c.args.corner

pub returns : goal.returns
returns c = no_letter_after c.args.yard.now c.args.size c.args.is_laden c.requires c.args.corner c.loop-letter.letter (omega arith) c.loop-letter.invariant
