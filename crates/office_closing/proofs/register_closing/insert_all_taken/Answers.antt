use Rattle.std.proofs.{Common.{refl, rules}, lemmas.List.take_more}
use Rattle.sqlite.specs.Held.{state}
use Rattle.office_closing.{specs.Changes.with_taken, proofs.Committing.{none_written, one_more_written, none_taken, one_more_taken}}
use Rattle.office_closing.proofs.register_closing.insert_all_taken.Goals as goal

pub loop-one-init : goal.loop-one-init
loop-one-init g c = (refl, none_written with_taken none_taken (state g.S.Store c.args.tx.now.conn.now))

pub loop-one-preserved : goal.loop-one-preserved
loop-one-preserved g c =
    let i = c.loop-one.one-index in
    (search rules, one_more_written with_taken _ _ _ (one_more_taken _ _ _ (take_more c.args.taken.now i _ c.loop-one-test.true)) _ _ _ c.loop-one.invariant.1 c.in_ok-insert_taken.ensures.writes)
