use Rattle.std.proofs.{Common.{◌+◌, refl, rules, take, []}, lemmas.List.take_more}
use Rattle.sqlite.specs.Held.{state}
use Rattle.office_closing.{specs.Deleting.without_visits, proofs.{ClearLemmas.deletes_none, NumberLemmas.{visit_deleted, without_none}}}
use Rattle.office_closing.proofs.closing.delete_visits.Goals as goal

pub loop-visit-init : goal.loop-visit-init
loop-visit-init g c = (refl, deletes_none (without_visits []) (state g.S.Store c.args.tx.now.conn.now) without_none)

pub loop-visit-preserved : goal.loop-visit-preserved
loop-visit-preserved g c =
    let i = c.loop-visit.visit-index in
    let all = c.args.visits.now in
    (search rules, visit_deleted (take i all) _ (take (i + 1) all) _ _ _ _ (take_more all i _ c.loop-visit-test.true) c.loop-visit.invariant.1 c.in_ok-delete_visit.ensures.deletes)
