use Rattle.std.proofs.Common.{arith}
use Rattle.box6346.proofs.Weights.{share_added}
use Rattle.box6346.proofs.box_number.sum_of.Goals as goal

pub loop-position-preserved : goal.loop-position-preserved
loop-position-preserved c =
    share_added c.args.text.now c.loop-position.position c.loop-position.sum c.value_of.result (omega arith) (omega arith)
    c.value_of.ensures.small c.value_of.ensures.value c.loop-position.invariant
