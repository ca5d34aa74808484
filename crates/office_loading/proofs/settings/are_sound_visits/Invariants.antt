use Rattle.std.proofs.Common.{take}
use Rattle.office_loading.specs.Formed.{AreSoundVisits}
use Rattle.office_loading.proofs.settings.are_sound_visits.Given as goal

abbrev pub invariant-loop-visit : goal.invariant-loop-visit
invariant-loop-visit l = AreSoundVisits l.count (take l.visit-index l.visits)
