use Rattle.std.proofs.{Common.{refl, rules}, lemmas.List.take_more}
use Rattle.sqlite.specs.Held.{state}
use Rattle.office_closing.{specs.Changes.with_segments, proofs.Committing.{none_written, one_more_written, no_segments, one_more_segment}}
use Rattle.office_closing.proofs.register_closing.insert_segments.Goals as goal

pub loop-segment-init : goal.loop-segment-init
loop-segment-init g c = (refl, none_written with_segments no_segments (state g.S.Store c.args.tx.now.conn.now))

pub loop-segment-preserved : goal.loop-segment-preserved
loop-segment-preserved g c =
    let i = c.loop-segment.segment-index in
    (search rules, one_more_written with_segments _ _ _ (one_more_segment _ _ _ (take_more c.args.segments.now i _ c.loop-segment-test.true)) _ _ _ c.loop-segment.invariant.1 c.in_ok-insert_segment.ensures.writes)
