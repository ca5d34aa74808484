-- What a message orders for each of its containers, in the terms of directory D.95B.
use Rattle.std.specs.{Prelude.{ℕ, Bool, not, ◌==◌, List, [], length, codes, Option, None, Some, unwrap_or, Result, Ok, Err, if◌then◌else◌}, List.find}
use Rattle.std.specs.{Option.{option_map_or, ok_or}, Result.result_map_both, Str.bytes_eq}
use Rattle.box6346.specs.{ContainerNumber.number_of, SizeCode.size_of, SlotName.slot_of, declared.box_number.BoxNumber.BoxNumber, declared.slot.Slot.Slot}
use Rattle.box6346.specs.{declared.size_type.SizeType.SizeType, declared.box_number.NumberFault.NumberFault}
use Rattle.edi_syntax.specs.{Moments.{CivilMoment, moment_of}, Text.{Content, component_of}}
use Rattle.edi_messages.specs.{Parts.{EquipmentGroup, is_qualified, states_moment, states_weight}, Texts.is_name, Purposes.{CallContent, Purpose}}
use Rattle.edi_messages.specs.declared.line.LineFault.{LineFault}
use Rattle.box6346.specs.declared.box_number.NumberFault as number_fault
use Rattle.edi_syntax.specs.Numbers as numbers
use Rattle.edi_messages.specs.Purposes as purpose
use Rattle.edi_messages.specs.declared.line.LineFault as line_fault

-- a container that comes into the yard
pub record EntryContent : Type 0 where
  pub number : BoxNumber
  pub size_type : SizeType
  pub is_laden : Bool
  pub booking : List ℕ
  pub moment : CivilMoment
  pub slot : Option Slot
  pub kilos : ℕ

-- what is ordered for a container
pub data OrderContent : Type 0 where
  gate_in : EntryContent → OrderContent
  gate_out : BoxNumber → CivilMoment → OrderContent
  move : BoxNumber → Slot → OrderContent
  list_discharge : CallContent → BoxNumber → OrderContent
  list_load : CallContent → BoxNumber → List ℕ → OrderContent
  discharge : CallContent → EntryContent → OrderContent
  load : CallContent → BoxNumber → CivilMoment → OrderContent

-- ---- what the segments of a group say

-- EQD: 8260 number, 8155 size and type, 8169 full or empty
abbrev pub number_text : EquipmentGroup → List ℕ
number_text group = component_of group.equipment 2 1

abbrev pub size_text : EquipmentGroup → List ℕ
size_text group = component_of group.equipment 3 1

-- 4 is empty, anything else is full
abbrev pub is_laden : EquipmentGroup → Bool
is_laden group = not (bytes_eq (component_of group.equipment 6 1) (codes "4"))

-- the first location (LOC) with the qualifier (3227), empty if there is none; ZZZ is a slot of the yard
abbrev pub location : List ℕ → EquipmentGroup → List ℕ
location qualifier group =
    option_map_or (λ segment. component_of segment 2 1) (find (is_qualified (codes "LOC") qualifier) group.details) []

-- a text that is no name is kept as empty
abbrev pub name_kept : List ℕ → List ℕ
name_kept text = if is_name text then text else []

-- the first RFF with 1153 BN; 1154 booking
abbrev pub booking : EquipmentGroup → List ℕ
booking group =
    option_map_or (λ segment. name_kept (component_of segment 1 2))
    (find (is_qualified (codes "RFF") (codes "BN")) group.details) []

-- the gross weight in kilograms: what the first MEA that states one gives in 1 to 6 digits (6314), or else 0
abbrev pub weight : EquipmentGroup → ℕ
weight group =
    option_map_or (λ segment. unwrap_or (numbers.number_of 6 (component_of segment 3 2)) 0)
    (find states_weight group.details) 0

-- the first LOC with 3227 11, port of discharge
abbrev pub port : EquipmentGroup → List ℕ
port group =
    option_map_or (λ segment. name_kept (component_of segment 2 1))
    (find (is_qualified (codes "LOC") (codes "11")) group.details) []

-- the digits that a format (2379) wants
abbrev pub digits_wanted : List ℕ → ℕ
digits_wanted format = if bytes_eq format (codes "203") then 12 else 8

-- the moment of a text of that length
abbrev pub moment_of_length : ℕ → List ℕ → Option CivilMoment
moment_of_length wanted text = if length text == wanted then moment_of text else None

-- the moment (2380) that a DTM states in its format (2379), if there is one
abbrev pub moment_stated : Content → Option CivilMoment
moment_stated segment = moment_of_length (digits_wanted (component_of segment 1 3)) (component_of segment 1 2)

-- ---- what is read of a group, or the line's fault

abbrev pub then_read : {T U : Type 0} → Result T LineFault → (T → Result U LineFault) → Result U LineFault
then_read (Ok x) f = f x
then_read (Err e) f = Err e

abbrev pub line_fault_of : NumberFault → LineFault
line_fault_of number_fault.TheVariants.Form = line_fault.TheVariants.Form
line_fault_of number_fault.TheVariants.CheckDigit = line_fault.TheVariants.CheckDigit

abbrev pub read_number : EquipmentGroup → Result BoxNumber LineFault
read_number group = result_map_both (λ number. number) line_fault_of (number_of (number_text group))

abbrev pub read_size : EquipmentGroup → Result SizeType LineFault
read_size group = result_map_both (λ size. size) (λ fault. line_fault.TheVariants.Size) (size_of (size_text group))

-- the moment that the group states, or else that of the interchange
abbrev pub read_moment : CivilMoment → EquipmentGroup → Result CivilMoment LineFault
read_moment opened group =
    option_map_or (λ segment. ok_or (moment_stated segment) line_fault.TheVariants.Moment)
    (find states_moment group.details) (Ok opened)

abbrev pub read_slot : EquipmentGroup → Result Slot LineFault
read_slot group = ok_or (slot_of (location (codes "ZZZ") group)) line_fault.TheVariants.SlotText

abbrev pub names_slot : EquipmentGroup → Bool
names_slot group = not (length (location (codes "ZZZ") group) == 0)

-- the slot, if the group names one
abbrev pub read_slot_if_named : EquipmentGroup → Result (Option Slot) LineFault
read_slot_if_named group = if names_slot group then then_read (read_slot group) (λ slot. Ok (Some slot)) else Ok None

abbrev pub read_entry : CivilMoment → EquipmentGroup → Result EntryContent LineFault
read_entry opened group =
    then_read (read_number group) (λ number.
    then_read (read_size group) (λ size_type.
    then_read (read_moment opened group) (λ moment.
    then_read (read_slot_if_named group) (λ slot.
    Ok (record {
      number = number;
      size_type = size_type;
      is_laden = is_laden group;
      booking = booking group;
      moment = moment;
      slot = slot;
      kilos = weight group;
    })))))

abbrev pub read_gate_in : CivilMoment → EquipmentGroup → Result OrderContent LineFault
read_gate_in opened group = then_read (read_entry opened group) (λ entry. Ok (gate_in entry))

abbrev pub read_gate_out : CivilMoment → EquipmentGroup → Result OrderContent LineFault
read_gate_out opened group =
    then_read (read_number group)
    (λ number. then_read (read_moment opened group) (λ moment. Ok (gate_out number moment)))

abbrev pub read_yard_move : EquipmentGroup → Result OrderContent LineFault
read_yard_move group =
    then_read (read_number group) (λ number. then_read (read_slot group) (λ slot. Ok (move number slot)))

abbrev pub read_discharge_line : CallContent → EquipmentGroup → Result OrderContent LineFault
read_discharge_line call group = then_read (read_number group) (λ number. Ok (list_discharge call number))

abbrev pub read_load_line : CallContent → EquipmentGroup → Result OrderContent LineFault
read_load_line call group = then_read (read_number group) (λ number. Ok (list_load call number (port group)))

abbrev pub read_discharge : CallContent → CivilMoment → EquipmentGroup → Result OrderContent LineFault
read_discharge call opened group = then_read (read_entry opened group) (λ entry. Ok (discharge call entry))

abbrev pub read_load : CallContent → CivilMoment → EquipmentGroup → Result OrderContent LineFault
read_load call opened group =
    then_read (read_number group)
    (λ number. then_read (read_moment opened group) (λ moment. Ok (load call number moment)))

-- the order of a group in a message for that purpose, in an interchange of that moment, or the first fault of its line
abbrev pub order_of : Purpose → CivilMoment → EquipmentGroup → Result OrderContent LineFault
order_of purpose.gate_in opened group = read_gate_in opened group
order_of purpose.gate_out opened group = read_gate_out opened group
order_of purpose.yard_move opened group = read_yard_move group
order_of (purpose.discharge_list call) opened group = read_discharge_line call group
order_of (purpose.load_list call) opened group = read_load_line call group
order_of (purpose.discharge_report call) opened group = read_discharge call opened group
order_of (purpose.load_report call) opened group = read_load call opened group
