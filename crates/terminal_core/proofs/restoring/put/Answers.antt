use Rattle.std.{specs.Prelude.map, proofs.Common.{sym, subst}}
use Rattle.box6346.specs.declared.size_type.Length.{Length}
use Rattle.yard_core.specs.{Calls.RefusesPutBack, YardMap.{placement, stowed}}
use Rattle.terminal_core.{specs.{declared.restoring.RestoreFault.RestoreFault, Rows.visit_content, Restoring.RefusesPut}, proofs.Placing.refused_put}
use Rattle.terminal_core.proofs.restoring.put.Goals as goal

pub returns-in-Err : goal.returns-in-Err
returns-in-Err c =
    let visit = c.in-Some.visit.now in
    let P : Length → Type 0 = λ length. RefusesPutBack c.args.yard.now c.args.place.now.container (stowed (placement length c.args.place.now.slot) visit.is_laden) c.in-Err.fault in
    let Q : RestoreFault → Type 0 = RefusesPut (map visit_content c.args.visits.now) c.args.yard.now c.args.place.now in
    record {
      answer = subst Q (sym c.cause.ensures) (refused_put (map visit_content c.args.visits.now) c.requires.numbered c.args.yard.now c.args.place.now (visit_content visit) c.in-Some.ensures c.in-Err.fault (subst P c.length-length.ensures c.in-Err.ensures.answer));
      sound = c.in-Err.ensures.sound;
    }
