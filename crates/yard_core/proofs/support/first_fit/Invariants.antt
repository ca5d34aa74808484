use Rattle.std.proofs.Common.{◌<◌}
use Rattle.box6346.specs.declared.slot.Slot.{Slot}
use Rattle.yard_core.specs.Search.{NoneOpen}
use Rattle.yard_core.proofs.support.first_fit.Given as goal

abbrev pub invariant-loop-tier : goal.invariant-loop-tier
invariant-loop-tier l = NoneOpen l.yard l.size l.is_laden (λ (s : Slot). s.tier < l.tier)
