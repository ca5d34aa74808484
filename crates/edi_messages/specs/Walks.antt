-- What a walk over the segments of a message has found, and what it will find in those that are left.
use Rattle.std.specs.{Prelude.{ℕ, ◌+◌, Bool, List, [], ◌∷◌, Option, Some, None, if◌then◌else◌}, List.{fold, find}}
use Rattle.edi_syntax.specs.{Text.Content, Messages.Message}
use Rattle.edi_messages.specs.{Parts.ends_group, Faults.{applies, lacks_equipment, miscounts_equipment, has_too_many}, declared.codes.Codes.Codes}
use Rattle.edi_messages.specs.declared.message.MessageFault.{MessageFault}
use Rattle.edi_messages.specs.declared.message.MessageFault.TheVariants.{OtherType, NoBgm, Code, Function, NoTransport, NoEquipment, EquipmentCount, TooMany}

-- so many, and those in the segments
abbrev pub counted_on : ℕ → (Content → Bool) → List Content → ℕ
counted_on n counted segments = fold (λ (a : ℕ) (x : Content). a + (if counted x then 1 else 0)) n segments

-- the segments after a group: from the first on that ends it
abbrev pub from_end : List Content → List Content
from_end [] = []
from_end (segment ∷ segments) = if ends_group segment then segment ∷ segments else from_end segments

-- the lowest fault of the heading
abbrev pub heading_fault_of : Codes → Message → Option MessageFault
heading_fault_of codes message =
    find (applies codes message) (OtherType ∷ NoBgm ∷ Code ∷ Function ∷ NoTransport ∷ [])

-- the lowest fault of the equipments
abbrev pub equipment_fault_of : Message → Option MessageFault
equipment_fault_of message =
    if lacks_equipment message then Some NoEquipment
    else if miscounts_equipment message then Some EquipmentCount
    else if has_too_many message then Some TooMany
    else None
