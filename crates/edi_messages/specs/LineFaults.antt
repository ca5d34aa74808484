-- Why a line gives no order: each fault by its own definition, and the first that applies.
use Rattle.std.specs.{Prelude.{ℕ, Bool, true, false, not, ◌&&◌, List, [], ◌∷◌, codes, Option}, Option.{is_none, option_map_or}, List.find}
use Rattle.box6346.specs.{NumberText.{has_form, is_checked}, SlotName.slot_of}
use Rattle.edi_messages.specs.{Parts.{EquipmentGroup, states_moment}, Orders.{number_text, size_text, location, names_slot, moment_stated}}
use Rattle.edi_messages.specs.{declared.order.OrderKind.OrderKind, declared.line.LineFault.LineFault}
use Rattle.edi_messages.specs.declared.order.OrderKind.TheVariants.{GateIn, GateOut, Move, ListDischarge, ListLoad, Discharge, Load}
use Rattle.edi_messages.specs.declared.line.LineFault.TheVariants.{Form, CheckDigit, Size, Moment, SlotText}
use Rattle.box6346.specs.SizeText as size

-- ---- what each kind of order reads, beside the number

-- the size-type
abbrev pub reads_size : OrderKind → Bool
reads_size GateIn = true
reads_size GateOut = false
reads_size Move = false
reads_size ListDischarge = false
reads_size ListLoad = false
reads_size Discharge = true
reads_size Load = false

-- the moment
abbrev pub reads_moment : OrderKind → Bool
reads_moment GateIn = true
reads_moment GateOut = true
reads_moment Move = false
reads_moment ListDischarge = false
reads_moment ListLoad = false
reads_moment Discharge = true
reads_moment Load = true

-- the slot, if the group names one: a move has to name it
abbrev pub reads_slot : OrderKind → EquipmentGroup → Bool
reads_slot GateIn group = names_slot group
reads_slot GateOut group = false
reads_slot Move group = true
reads_slot ListDischarge group = false
reads_slot ListLoad group = false
reads_slot Discharge group = names_slot group
reads_slot Load group = false

-- ---- the faults

-- 8155 is a size-type that can be placed
abbrev pub is_size : List ℕ → Bool
is_size text = size.has_form text && size.has_length text

-- the group states a moment (2380) that is none
abbrev pub has_bad_moment : EquipmentGroup → Bool
has_bad_moment group =
    option_map_or (λ segment. is_none (moment_stated segment)) (find states_moment group.details) false

abbrev pub has_bad_slot : EquipmentGroup → Bool
has_bad_slot group = is_none (slot_of (location (codes "ZZZ") group))

-- whether the fault applies to a line of such an order
abbrev pub applies : OrderKind → EquipmentGroup → LineFault → Bool
applies kind group Form = not (has_form (number_text group))
applies kind group CheckDigit = not (is_checked (number_text group))
applies kind group Size = reads_size kind && not (is_size (size_text group))
applies kind group Moment = reads_moment kind && has_bad_moment group
applies kind group SlotText = reads_slot kind group && has_bad_slot group

abbrev pub line_faults : List LineFault
line_faults = Form ∷ CheckDigit ∷ Size ∷ Moment ∷ SlotText ∷ []

-- the lowest fault that applies
abbrev pub line_fault_in : OrderKind → EquipmentGroup → Option LineFault
line_fault_in kind group = find (applies kind group) line_faults
