use Rattle.std.proofs.Common.{◌<◌}
use Rattle.box6346.specs.declared.slot.Slot.{Slot}
use Rattle.yard_core.specs.Search.{IsInTier, NoneOpen}
use Rattle.yard_core.proofs.support.first_in_tier.Given as goal

abbrev pub invariant-loop-letter : goal.invariant-loop-letter
invariant-loop-letter l = NoneOpen l.yard l.size l.is_laden (λ (s : Slot). IsInTier l.corner s × (s.block < l.letter))
