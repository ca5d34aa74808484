use Rattle.std.proofs.Common.{◌<◌}
use Rattle.box6346.specs.declared.slot.Slot.{Slot}
use Rattle.yard_core.specs.Search.{IsInBlock, NoneOpen}
use Rattle.yard_core.proofs.support.first_in_block.Given as goal

abbrev pub invariant-loop-bay : goal.invariant-loop-bay
invariant-loop-bay l = NoneOpen l.yard l.size l.is_laden (λ (s : Slot). IsInBlock l.corner s × (s.bay < l.bay))
