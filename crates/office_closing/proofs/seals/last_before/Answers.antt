use Rattle.std.proofs.Common.{max, sym, ap, ◌∙◌}
use Rattle.office_closing.proofs.SealLemmas.{before_more}
use Rattle.office_closing.proofs.seals.last_before.Goals as goal

pub loop-segment-preserved : goal.loop-segment-preserved
loop-segment-preserved c =
    c.larger-last.ensures ∙ ap (max c.loop-segment.last) c.last_if_before.ensures
    ∙ before_more c.args.place c.args.partner c.args.segments.now c.loop-segment.segment-index _ c.loop-segment.last c.loop-segment-test.true c.loop-segment.invariant
