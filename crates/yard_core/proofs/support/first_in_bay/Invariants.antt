use Rattle.std.proofs.Common.{◌<◌}
use Rattle.box6346.specs.declared.slot.Slot.{Slot}
use Rattle.yard_core.specs.Search.{IsInBay, NoneOpen}
use Rattle.yard_core.proofs.support.first_in_bay.Given as goal

abbrev pub invariant-loop-row : goal.invariant-loop-row
invariant-loop-row l = NoneOpen l.yard l.size l.is_laden (λ (s : Slot). IsInBay l.corner s × (s.row < l.row))
