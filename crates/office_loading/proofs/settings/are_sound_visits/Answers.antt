use Rattle.std.proofs.Common.{refl}
use Rattle.terminal_core.specs.{declared.visits.Visit.Visit, Rows.visit_content}
use Rattle.office_loading.{specs.Formed.IsSoundVisit, proofs.Kept.{each_more, each_of}}
use Rattle.office_loading.proofs.settings.are_sound_visits.Goals as goal

pub loop-visit-preserved : goal.loop-visit-preserved
loop-visit-preserved c =
    let P : Visit → Type 0 = λ visit. IsSoundVisit c.args.count (visit_content visit) in
    each_more P c.args.visits.now c.loop-visit.visit-index c.visit-item.result c.visit-item.result c.loop-visit-test.true c.visit-item.is (c.is_sound_visit.ensures.0 c.if-not-is_sound_visit.false) c.loop-visit.invariant

pub returns : goal.returns
returns c = (λ t. (let P : Visit → Type 0 = λ visit. IsSoundVisit c.args.count (visit_content visit) in each_of P c.args.visits.now c.loop-visit.visit-index c.loop-visit-test.false c.loop-visit.invariant), λ all. refl)
