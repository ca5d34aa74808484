use Rattle.std.{specs.Prelude.map, proofs.{Common.{List, ◌∙◌, arith, subst}, lemmas.Result.err_from_is_err_and}}
use Rattle.yard_core.specs.{declared.plan.Block.Block, Plan.IsPlan}
use Rattle.terminal_core.{specs.Rows.visit_content, proofs.Placing.{none_taken, one_more_taken, refuses_places}}
use Rattle.terminal_core.proofs.restoring.settled_yard.Goals as goal

pub loop-place-init : goal.loop-place-init
loop-place-init c = record {
  plan_is = c.in_ok-yard.ensures.empty.0;
  valid = let P : List Block → Type 0 = IsPlan in subst P c.in_ok-yard.ensures.empty.0 c.in_ok-yard.ensures.plan;
  sound = c.in_ok-yard.ensures.sound;
  places = none_taken (map visit_content c.args.visits.now) c.in_ok-yard.yard.boxes c.in_ok-yard.ensures.empty.1;
}

pub returns-in_err-put-clause-unsound : goal.returns-in_err-put-clause-unsound
returns-in_err-put-clause-unsound c =
    let p = err_from_is_err_and c.from_residual-in_err-put.result c.from_residual-in_err-put.ensures.1 in
    rw (p.1, p.2) (refuses_places c.args.plan (map visit_content c.args.visits.now) c.args.places.now c.loop-place.yard c.loop-place.place-index c.place-item.result c.in_err-put.field-0.0 c.loop-place.invariant.valid c.requires.numbered c.requires.sorted
    c.loop-place.invariant.plan_is (omega arith) c.place-item.is c.loop-place.invariant.places c.in_err-put.ensures.answer)

pub loop-place-preserved : goal.loop-place-preserved
loop-place-preserved c = record {
  plan_is = c.in_ok-put.ensures.answer.puts.adds.plan ∙ c.loop-place.invariant.plan_is;
  valid = c.loop-place.invariant.valid;
  sound = c.in_ok-put.ensures.sound;
  places = one_more_taken (map visit_content c.args.visits.now) c.loop-place.yard c.put.new.yard c.args.places.now c.loop-place.place-index c.place-item.result (omega arith) c.place-item.is c.loop-place.invariant.places c.in_ok-put.ensures.answer;
}
