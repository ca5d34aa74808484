use Rattle.std.proofs.Common.{refl}
use Rattle.office_loading.proofs.Kept.{own_more}
use Rattle.office_loading.proofs.numbers.own_count.Goals as goal

pub loop-index-preserved : goal.loop-index-preserved
loop-index-preserved c = own_more c.args.partner c.args.numbers.now c.loop-index.index _ _ c.loop-index-test.true refl c.if-row-partner.false c.loop-index.invariant
