use Rattle.std.{specs.Prelude.map, proofs.Common.{◌≡◌, take}}
use Rattle.yard_core.specs.{Plan.IsPlan, SoundYard.IsSound, YardMap.placement_of}
use Rattle.terminal_core.specs.{Rows.visit_content, Restoring.ArePlacesOf}
use Rattle.terminal_core.proofs.restoring.settled_yard.Given as goal

abbrev pub invariant-loop-place : goal.invariant-loop-place
invariant-loop-place l = record {
  plan_is : l.yard.plan ≡ l.fn.plan;
  valid : IsPlan l.fn.plan;
  sound : IsSound l.yard.plan (placement_of l.yard.boxes);
  places : ArePlacesOf (map visit_content l.visits) l.yard.boxes (take l.place-index l.places);
}
