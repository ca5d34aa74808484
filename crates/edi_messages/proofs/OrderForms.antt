-- What a message orders has its form.
use Rattle.std.specs.{Prelude.{if◌then◌else◌, ◌||◌, ◌==◌, filter, is_some}, Option.{ok_or, option_map_or, option_and_then}, Result.result_map_both, List.find}
use Rattle.std.{specs.{Str.bytes_eq, Cmp.Lexicographic.same_text}, proofs.{lemmas.Bool.and_parts, lemmas.List.Elements.All-map}}
use Rattle.std.proofs.Common.{◌≡◌, ℕ, Bool, true, false, cond, ◌&&◌, List, [], length, codes, Option, None, Some, Result, Ok, Err, IsTrue, All, refl, ap, subst, ◌∙◌, not, sym}
use Rattle.box6346.specs.{ContainerNumber.number_of, NumberText.{has_form, is_checked, is_number}, SizeCode.size_of, SizeText.is_size, SlotName.slot_of}
use Rattle.box6346.specs.{declared.box_number.BoxNumber.BoxNumber, declared.size_type.SizeFault.SizeFault, declared.size_type.SizeType.SizeType}
use Rattle.box6346.specs.declared.slot.Slot.{Slot}
use Rattle.edi_syntax.specs.{Moments.{CivilMoment, is_moment, are_moment_digits, moment_written, moment_of}, Text.{Content, component_of}, Messages.Message}
use Rattle.edi_messages.specs.Faults.{voyage_of, vessel_of, names_call, call_named, call_if_named, call_in, transport, order_kind_of, purpose_of, fault_of, message_function, beginning, is_original, is_replacement, is_list, names_list, replaces_list, applies}
use Rattle.edi_messages.specs.{Forms.{is_name_if_any, IsFormedCall, IsFormedEntry, IsFormedOrder, OrdersWell, OrdersAreFormed}, Texts.is_name}
use Rattle.edi_messages.specs.{Message.{line_read, line_of, is_container_group, lines_of, MessageContent, message_of, judged_message}, Laws.ReplacingIsOfAList}
use Rattle.edi_messages.specs.Orders.{OrderContent, number_text, size_text, location, names_slot, name_kept, booking, port, digits_wanted, moment_stated, then_read, line_fault_of, read_number, read_size, read_moment, read_entry, order_of}
use Rattle.edi_messages.specs.{Parts.{EquipmentGroup, groups_of, is_qualified, states_moment}, Purposes.{CallContent, Purpose, purpose_with, kind_of, call_of}}
use Rattle.edi_messages.specs.{declared.line.LineFault.LineFault, declared.line.LineFault.TheVariants.{Moment, Size, SlotText}, declared.codes.Codes.Codes}
use Rattle.edi_messages.specs.{declared.message.MessageFault.MessageFault, declared.message.MessageFault.TheVariants.{Code, OtherType, NoBgm, Function}}
use Rattle.edi_messages.{specs.declared.order.OrderKind.OrderKind, proofs.{SameSegments.weight_short, SurveyLemmas.past_first}}
use Rattle.edi_messages.specs.declared.order.OrderKind.TheVariants.{GateIn, GateOut, Move, ListDischarge, ListLoad, Discharge, Load}
use Rattle.box6346.specs.SizeText as size
use Rattle.box6346.specs.declared.box_number.NumberFault as number_fault
use Rattle.box6346.specs.declared.size_type.SizeFault as size_fault
use Rattle.edi_messages.specs.Orders as order
use Rattle.edi_messages.specs.Purposes as purpose

-- what is read, if it is, is such
abbrev Gives : {T : Type 0} → (T → Type 0) → Result T LineFault → Type 0
Gives P (Ok x) = P x
Gives P (Err fault) = Unit {0}

-- what is there, if it is, is such
abbrev pub IfThere : {T : Type 0} → (T → Type 0) → Option T → Type 0
IfThere P None = Unit {0}
IfThere P (Some x) = P x

abbrev pub IsCivil : CivilMoment → Type 0
IsCivil m = IsTrue (is_moment m)

-- ---- names

or_true : (b : Bool) → (b || true) ≡ true
or_true true = refl
or_true false = refl

kept_named : (text : List ℕ) (is : Bool) → is_name text ≡ is → IsTrue (is_name_if_any (cond is text []))
kept_named text true e = ap (λ v. (length text == 0) || v) e ∙ or_true (length text == 0)
kept_named text false e = refl

found_named : (text : Content → List ℕ) (found : Option Content) → IsTrue (is_name_if_any (option_map_or (λ segment. name_kept (text segment)) found []))
found_named text None = refl
found_named text (Some segment) = kept_named (text segment) (is_name (text segment)) refl

booking_named : (group : EquipmentGroup) → IsTrue (is_name_if_any (booking group))
booking_named group = found_named (λ segment. component_of segment 1 2) (find (is_qualified (codes "RFF") (codes "BN")) group.details)

port_named : (group : EquipmentGroup) → IsTrue (is_name_if_any (port group))
port_named group = found_named (λ segment. component_of segment 2 1) (find (is_qualified (codes "LOC") (codes "11")) group.details)

-- ---- a step of a line: what is read has its form

number_step : {T : Type 0} (P : T → Type 0) (a b : Bool) (n : BoxNumber) (rest : BoxNumber → Result T LineFault) → (a ≡ true → b ≡ true → Gives P (rest n)) →
    Gives P (then_read (result_map_both (λ (n : BoxNumber). n) line_fault_of (if a then (if b then Ok n else Err number_fault.TheVariants.CheckDigit) else Err number_fault.TheVariants.Form)) rest)
number_step P true true n rest h = h refl refl
number_step P true false n rest h = tt
number_step P false b n rest h = tt

after_number : {T : Type 0} (P : T → Type 0) (group : EquipmentGroup) (rest : BoxNumber → Result T LineFault) → ((n : BoxNumber) → IsTrue (is_number n) → Gives P (rest n)) → Gives P (then_read (read_number group) rest)
unfolding number_of is_number
after_number P group rest h =
    number_step P (has_form (number_text group)) (is_checked (number_text group)) (number_text group) rest (λ a b. h (number_text group) (ap (λ v. v && is_checked (number_text group)) a ∙ b))

size_step : {T : Type 0} (P : T → Type 0) (a b : Bool) (s : SizeType) (rest : SizeType → Result T LineFault) → (a ≡ true → b ≡ true → Gives P (rest s)) →
    Gives P (then_read (result_map_both (λ (s : SizeType). s) (λ (fault : SizeFault). Size) (if a then (if b then Ok s else Err size_fault.TheVariants.Length) else Err size_fault.TheVariants.Form)) rest)
size_step P true true s rest h = h refl refl
size_step P true false s rest h = tt
size_step P false b s rest h = tt

after_size : {T : Type 0} (P : T → Type 0) (group : EquipmentGroup) (rest : SizeType → Result T LineFault) → ((s : SizeType) → IsTrue (is_size s) → Gives P (rest s)) → Gives P (then_read (read_size group) rest)
unfolding size_of is_size
after_size P group rest h =
    size_step P (size.has_form (size_text group)) (size.has_length (size_text group)) (size_text group) rest (λ a b. h (size_text group) (ap (λ v. v && size.has_length (size_text group)) a ∙ b))

written_civil : (digits : Bool) (m : CivilMoment) (is : Bool) → is_moment m ≡ is → IfThere IsCivil (cond (digits && is) (Some m) None)
written_civil true m true e = e
written_civil true m false e = tt
written_civil false m is e = tt

pub text_civil : (text : List ℕ) → IfThere IsCivil (moment_of text)
text_civil text = written_civil (are_moment_digits text) (moment_written text) (is_moment (moment_written text)) refl

pub if_civil : (is : Bool) (o : Option CivilMoment) → IfThere IsCivil o → IfThere IsCivil (cond is o None)
if_civil true o its = its
if_civil false o its = tt

stated_civil : (segment : Content) → IfThere IsCivil (moment_stated segment)
stated_civil segment =
    if_civil (length (component_of segment 1 2) == digits_wanted (component_of segment 1 3)) (moment_of (component_of segment 1 2)) (text_civil (component_of segment 1 2))

present : {T : Type 0} (P : T → Type 0) (o : Option CivilMoment) (rest : CivilMoment → Result T LineFault) → IfThere IsCivil o → ((m : CivilMoment) → IsCivil m → Gives P (rest m)) → Gives P (then_read (ok_or o Moment) rest)
present P None rest its h = tt
present P (Some m) rest its h = h m its

moment_step : {T : Type 0} (P : T → Type 0) (found : Option Content) (opened : CivilMoment) (rest : CivilMoment → Result T LineFault) → IsCivil opened → ((m : CivilMoment) → IsCivil m → Gives P (rest m)) →
    Gives P (then_read (option_map_or (λ segment. ok_or (moment_stated segment) Moment) found (Ok opened)) rest)
moment_step P None opened rest its h = h opened its
moment_step P (Some segment) opened rest its h = present P (moment_stated segment) rest (stated_civil segment) h

after_moment : {T : Type 0} (P : T → Type 0) (opened : CivilMoment) (group : EquipmentGroup) (rest : CivilMoment → Result T LineFault) → IsCivil opened → ((m : CivilMoment) → IsCivil m → Gives P (rest m)) →
    Gives P (then_read (read_moment opened group) rest)
after_moment P opened group rest its h = moment_step P (find states_moment group.details) opened rest its h

slot_step : {T : Type 0} (P : T → Type 0) (named : Bool) (slot : Option Slot) (rest : Option Slot → Result T LineFault) → ((s : Option Slot) → Gives P (rest s)) →
    Gives P (then_read (cond named (then_read (ok_or slot SlotText) (λ (slot : Slot). Ok (Some slot))) (Ok None)) rest)
slot_step P true None rest h = tt
slot_step P true (Some slot) rest h = h (Some slot)
slot_step P false slot rest h = h None

moved_there : (slot : Option Slot) (n : BoxNumber) → Gives IsFormedOrder (then_read (ok_or slot SlotText) (λ (slot : Slot). Ok (order.move n slot)))
moved_there None n = tt
moved_there (Some slot) n = tt

-- ---- the orders

made : {T U : Type 0} (P : T → Type 0) (Q : U → Type 0) (f : T → U) (r : Result T LineFault) → ((x : T) → P x → Q (f x)) → Gives P r → Gives Q (then_read r (λ (x : T). Ok (f x)))
made P Q f (Ok x) h its = h x its
made P Q f (Err fault) h its = tt

entry_formed : (opened : CivilMoment) (group : EquipmentGroup) → IsCivil opened → Gives IsFormedEntry (read_entry opened group)
entry_formed opened group its =
    after_number IsFormedEntry group _ (λ number number_is.
    after_size IsFormedEntry group _ (λ size_type size_is.
    after_moment IsFormedEntry opened group _ its (λ moment moment_is.
    slot_step IsFormedEntry (names_slot group) (slot_of (location (codes "ZZZ") group)) _ (λ slot.
    record { container = number_is; size_type = size_is; booking = booking_named group; moment = moment_is; kilos = weight_short group }))))

moment_formed : (opened : CivilMoment) (group : EquipmentGroup) (f : BoxNumber → CivilMoment → OrderContent) → IsCivil opened → ((n : BoxNumber) (m : CivilMoment) → IsCivil m → IsFormedOrder (f n m)) →
    Gives IsFormedOrder (then_read (read_number group) (λ number. then_read (read_moment opened group) (λ moment. Ok (f number moment))))
moment_formed opened group f its h = after_number IsFormedOrder group _ (λ number number_is. after_moment IsFormedOrder opened group _ its (λ moment moment_is. h number moment moment_is))

-- the call of a purpose has its form
abbrev IsFormedPurpose : Purpose → Type 0
IsFormedPurpose purpose.gate_in = Unit {0}
IsFormedPurpose purpose.gate_out = Unit {0}
IsFormedPurpose purpose.yard_move = Unit {0}
IsFormedPurpose (purpose.discharge_list call) = IsFormedCall call
IsFormedPurpose (purpose.load_list call) = IsFormedCall call
IsFormedPurpose (purpose.discharge_report call) = IsFormedCall call
IsFormedPurpose (purpose.load_report call) = IsFormedCall call

order_formed : (p : Purpose) (opened : CivilMoment) (group : EquipmentGroup) → IsFormedPurpose p → IsCivil opened → Gives IsFormedOrder (order_of p opened group)
order_formed purpose.gate_in opened group named its = made IsFormedEntry IsFormedOrder order.gate_in (read_entry opened group) (λ entry formed. formed) (entry_formed opened group its)
order_formed purpose.gate_out opened group named its = moment_formed opened group order.gate_out its (λ n m civil. civil)
order_formed purpose.yard_move opened group named its = after_number IsFormedOrder group _ (λ number number_is. moved_there (slot_of (location (codes "ZZZ") group)) number)
order_formed (purpose.discharge_list call) opened group named its = after_number IsFormedOrder group _ (λ number number_is. record { call_formed = named; container_formed = number_is; port_formed = refl })
order_formed (purpose.load_list call) opened group named its = after_number IsFormedOrder group _ (λ number number_is. record { call_formed = named; container_formed = number_is; port_formed = port_named group })
order_formed (purpose.discharge_report call) opened group named its =
    made IsFormedEntry IsFormedOrder (order.discharge call) (read_entry opened group) (λ entry formed. formed) (entry_formed opened group its)
order_formed (purpose.load_report call) opened group named its = moment_formed opened group (order.load call) its (λ n m civil. civil)

-- ---- messages

line_formed : (number : Option BoxNumber) (r : Result OrderContent LineFault) → Gives IsFormedOrder r → OrdersWell (line_read number r)
line_formed number (Ok order) its = its
line_formed number (Err fault) its = tt

lines_formed : (p : Purpose) (opened : CivilMoment) (segments : List Content) → IsFormedPurpose p → IsCivil opened → All OrdersWell (lines_of p opened segments)
lines_formed p opened segments named its =
    All-map OrdersWell (line_of p opened) (filter is_container_group (groups_of segments)) (λ k d within. line_formed _ (order_of p opened _) (order_formed p opened _ named its))

named_formed : (segment : Content) (is : Bool) → names_call segment ≡ is → IfThere IsFormedCall (cond is (Some (call_named segment)) None)
named_formed segment true e = let parts = and_parts (is_name (voyage_of segment)) (is_name (vessel_of segment)) e in record { vessel = parts.1; voyage = parts.0 }
named_formed segment false e = tt

call_formed : (found : Option Content) → IfThere IsFormedCall (option_and_then call_if_named found)
call_formed None = tt
call_formed (Some segment) = named_formed segment (names_call segment) refl

purpose_formed : (kind : OrderKind) (call : Option CallContent) → IfThere IsFormedCall call → IfThere IsFormedPurpose (purpose_with kind call)
purpose_formed GateIn call its = tt
purpose_formed GateOut call its = tt
purpose_formed Move call its = tt
purpose_formed ListDischarge None its = tt
purpose_formed ListDischarge (Some call) its = its
purpose_formed ListLoad None its = tt
purpose_formed ListLoad (Some call) its = its
purpose_formed Discharge None its = tt
purpose_formed Discharge (Some call) its = its
purpose_formed Load None its = tt
purpose_formed Load (Some call) its = its

meant_formed : (kind : Option OrderKind) (call : Option CallContent) → IfThere IsFormedCall call → IfThere IsFormedPurpose (option_and_then (λ kind. purpose_with kind call) kind)
meant_formed None call its = tt
meant_formed (Some kind) call its = purpose_formed kind call its

abbrev ReadsWell : Result MessageContent MessageFault → Type 0
ReadsWell (Ok content) = All OrdersWell content.lines
ReadsWell (Err fault) = Unit {0}

read_formed : (fault : Option MessageFault) (p : Option Purpose) (opened : CivilMoment) (message : Message) → IfThere IsFormedPurpose p → IsCivil opened
    → ReadsWell (judged_message fault (option_map_or (λ purpose. Ok (message_of purpose opened message)) p (Err Code)))
read_formed (Some fault) p opened message named its = tt
read_formed None None opened message named its = tt
read_formed None (Some p) opened message named its = lines_formed p opened message.segments named its

pub orders_are_formed : OrdersAreFormed
orders_are_formed codes opened message content its e =
    subst ReadsWell e (read_formed (fault_of codes message) (purpose_of codes message) opened message (meant_formed (order_kind_of codes message) (call_in message) (call_formed (transport message))) its)

-- ==== Replacing: A message that replaces is of a list.

-- ---- the purpose

-- the purpose, if there is one, is a list's, with its call
abbrev IsOfList : Option Purpose → Type 0
IsOfList None = Unit {0}
IsOfList (Some purpose) = (is_list (kind_of purpose) ≡ true) × (is_some (call_of purpose) ≡ true)

kind_listed : (kind : OrderKind) (call : Option CallContent) → is_list kind ≡ true → IsOfList (purpose_with kind call)
kind_listed ListDischarge None is = tt
kind_listed ListDischarge (Some call) is = (refl, refl)
kind_listed ListLoad None is = tt
kind_listed ListLoad (Some call) is = (refl, refl)
kind_listed GateIn call is = cc
kind_listed GateOut call is = cc
kind_listed Move call is = cc
kind_listed Discharge call is = cc
kind_listed Load call is = cc

listed : (kind : Option OrderKind) (call : Option CallContent) → option_map_or is_list kind false ≡ true → IsOfList (option_and_then (λ kind. purpose_with kind call) kind)
listed None call is = cc
listed (Some kind) call is = kind_listed kind call is

-- ---- the function

not_original : (text : List ℕ) → bytes_eq text (codes "5") ≡ true → (bytes_eq text [] || bytes_eq text (codes "9")) ≡ false
not_original text is = ap (λ (t : List ℕ). bytes_eq t [] || bytes_eq t (codes "9")) (same_text text (codes "5") (sym is))

functioned : (original replacing list : Bool) → original ≡ false → replacing ≡ true → not (original || (replacing && list)) ≡ false → list ≡ true
functioned true replacing list a b e = cc
functioned false false list a b e = cc
functioned false true true a b e = refl
functioned false true false a b e = cc

begun : (segment : Option Content) (list : Bool) → option_map_or is_replacement segment false ≡ true
    → not (option_map_or (λ s. is_original s || (is_replacement s && list)) segment true) ≡ false → list ≡ true
begun None list is e = cc
begun (Some segment) list is e = functioned (is_original segment) (is_replacement segment) list (not_original (message_function segment) is) is e

named : (table : Codes) (message : Message) → fault_of table message ≡ None → replaces_list message ≡ true → names_list table message ≡ true
named table message none replaces =
    let one = past_first (applies table message OtherType) OtherType _ none in
    let two = past_first (applies table message NoBgm) NoBgm _ one.1 in
    let three = past_first (applies table message Code) Code _ two.1 in
    let four = past_first (applies table message Function) Function _ three.1 in
    begun (beginning message) (names_list table message) replaces four.0

-- ---- the message

abbrev ReadsList : Result MessageContent MessageFault → Type 0
ReadsList (Ok content) = content.replaces ≡ true → (is_list content.kind ≡ true) × (is_some content.call ≡ true)
ReadsList (Err fault) = Unit {0}

read : (fault : Option MessageFault) (purpose : Option Purpose) (opened : CivilMoment) (message : Message) → (fault ≡ None → replaces_list message ≡ true → IsOfList purpose)
    → ReadsList (judged_message fault (option_map_or (λ purpose. Ok (message_of purpose opened message)) purpose (Err Code)))
read (Some fault) purpose opened message its = tt
read None None opened message its = tt
read None (Some purpose) opened message its = its refl

pub replacing_is_of_a_list : ReplacingIsOfAList
replacing_is_of_a_list table opened message content e =
    subst ReadsList e
    (read (fault_of table message) (purpose_of table message) opened message
    (λ none replaces. listed (order_kind_of table message) (call_in message) (named table message none replaces)))
