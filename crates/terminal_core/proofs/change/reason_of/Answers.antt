use Rattle.std.proofs.Common.{refl}
use Rattle.yard_core.specs.Decisions.{present, absent, buried, no_slot, slot_kind, taken, on_air, on_empty, no_room}
use Rattle.terminal_core.proofs.change.reason_of.Goals as goal

pub returns-in-Present : goal.returns-in-Present
returns-in-Present c = record { refusal = present; fault_is = c.in-Present.is; reason_is = refl }

pub returns-in-Absent : goal.returns-in-Absent
returns-in-Absent c = record { refusal = absent; fault_is = c.in-Absent.is; reason_is = refl }

pub returns-in-Buried : goal.returns-in-Buried
returns-in-Buried c = record { refusal = (buried c.in-Buried.blocker); fault_is = c.in-Buried.is; reason_is = refl }

pub returns-in-NoSlot : goal.returns-in-NoSlot
returns-in-NoSlot c = record { refusal = no_slot; fault_is = c.in-NoSlot.is; reason_is = refl }

pub returns-in-SlotKind : goal.returns-in-SlotKind
returns-in-SlotKind c = record { refusal = slot_kind; fault_is = c.in-SlotKind.is; reason_is = refl }

pub returns-in-Taken : goal.returns-in-Taken
returns-in-Taken c = record { refusal = taken; fault_is = c.in-Taken.is; reason_is = refl }

pub returns-in-OnAir : goal.returns-in-OnAir
returns-in-OnAir c = record { refusal = on_air; fault_is = c.in-OnAir.is; reason_is = refl }

pub returns-in-OnEmpty : goal.returns-in-OnEmpty
returns-in-OnEmpty c = record { refusal = on_empty; fault_is = c.in-OnEmpty.is; reason_is = refl }

pub returns-in-NoRoom : goal.returns-in-NoRoom
returns-in-NoRoom c = record { refusal = no_room; fault_is = c.in-NoRoom.is; reason_is = refl }
