use Rattle.std.{specs.Prelude.{slice_get, map}, proofs.{Common.{◌≡◌, ◌<◌, Some, refl, sym, ap, subst, ◌∙◌, arith, length, take}, lemmas.List.take_all}}
use Rattle.std.proofs.lemmas.Option.{slice_get_read}
use Rattle.terminal_core.{specs.{Rows.visit_content, State.{AreNumbered, last_number}}, proofs.Open.{numbered_one_more, last_pushed}}
use Rattle.terminal_core.proofs.Whole.{next_above, one_row_more}
use Rattle.terminal_core.proofs.restoring.are_numbered.Goals as goal

pub returns-then-visit-last : goal.returns-then-visit-last
returns-then-visit-last c = (
  λ f. absurd (cc),
  λ are. (let at : slice_get c.args.visits.now c.loop-visit.visit-index ≡ Some c.visit-item.result = slice_get_read c.args.visits.now (length c.args.visits.now) _ c.visit-item.result refl c.loop-visit-test.true c.visit-item.is in
      let above : last_number (map visit_content (take c.loop-visit.visit-index c.args.visits.now)) < c.visit-item.result.number = next_above 0 c.args.visits.now c.loop-visit.visit-index c.visit-item.result are at in
      absurd (omega (arith, above, c.loop-visit.invariant.last, c.if-visit-last.true))),
)

pub loop-visit-preserved : goal.loop-visit-preserved
loop-visit-preserved c =
    let before = map visit_content (take c.loop-visit.visit-index c.args.visits.now) in
    let more = one_row_more c.args.visits.now c.loop-visit.visit-index c.visit-item.result c.loop-visit-test.true c.visit-item.is in
    let beyond : last_number before < c.visit-item.result.number = omega (arith, c.loop-visit.invariant.last, c.if-visit-last.false) in
    record {
      so_far = subst (AreNumbered 0) (sym more) (numbered_one_more 0 before (visit_content c.visit-item.result) c.loop-visit.invariant.so_far beyond);
      last = sym (ap last_number more ∙ last_pushed 0 before (visit_content c.visit-item.result));
    }

pub returns : goal.returns
returns c = (
  λ t. subst (AreNumbered 0) (ap (map visit_content) (take_all c.loop-visit.visit-index c.args.visits.now c.loop-visit-test.false)) c.loop-visit.invariant.so_far,
  λ are. refl,
)
