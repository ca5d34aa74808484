-- The orders of a message are all of the list that it names.
use Rattle.std.specs.{Option.{option_map_or, option_map, option_and_then}, List.{flat_map, find}, Prelude.{◌&&◌, ◌||◌, not}, Str.bytes_eq}
use Rattle.std.proofs.Common.{◌≡◌, ℕ, List, [], ◌∷◌, ◌++◌, map, Bool, true, false, cond, Option, None, Some, Result, Ok, Err, refl, sym, subst, ◌<◌, is_none, ap, ◌∙◌}
use Rattle.box6346.specs.{declared.box_number.BoxNumber.BoxNumber, declared.slot.Slot.Slot}
use Rattle.edi_syntax.specs.{Moments.CivilMoment, Messages.Message, Interchange.segments_in, Envelope.{header_of, messages_of}, Header.preparation}
use Rattle.edi_messages.specs.Faults.{purpose_of, fault_of, replaces_list, beginning, is_original, is_replacement, is_list, document_name, order_kind_of, call_in, applies, message_faults}
use Rattle.edi_messages.specs.Message.{LineContent, ordered, refused, line_read, line_of, MessageContent, message_of, judged_message, reading}
use Rattle.edi_messages.specs.Orders.{EntryContent, OrderContent, gate_in, gate_out, move, list_discharge, list_load, discharge, load, then_read, read_number, read_moment, read_slot, read_entry, order_of, port}
use Rattle.edi_messages.specs.{Parts.EquipmentGroup, Purposes.{CallContent, Purpose, purpose_with}, declared.codes.Codes.Codes, Types.message_type_of}
use Rattle.edi_messages.specs.{declared.line.LineFault.LineFault, declared.message.MessageFault.MessageFault, declared.code.CodeTable.CodeTable}
use Rattle.edi_messages.specs.{declared.message.MessageFault.TheVariants.{Function, Code}, Codes.{code_text, table_texts, meanings, order_meant}}
use Rattle.edi_messages.specs.{declared.codes.PartnerKind.PartnerKind, declared.codes.PartnerKind.TheVariants.{Gate, Line, Quay, Yard}}
use Rattle.edi_messages.specs.{declared.message.MessageType.MessageType, declared.message.MessageType.TheVariants.{Codeco, Coprar, Coarri}}
use Rattle.edi_messages.specs.declared.order.OrderKind.{OrderKind}
use Rattle.terminal_core.specs.{declared.change.Version.Version, declared.change.Version.TheVariants.{First, Second, Third}, State.TerminalState}
use Rattle.terminal_core.specs.{declared.lines.Side.TheVariants.{Load, Discharge}, Versions.newest}
use Rattle.office_admission.specs.{Readings.{is_list_replaced, reading_by, unweighed_order, unweighed_line, unweighed_reading}, Accounts.content_after}
use Rattle.office_admission.specs.{Taking.{list_of, list_replaced, side_listed, MachineState}, Deliveries.deliveries_of, Setups.SetupContent}
use Rattle.office_admission.proofs.Forming.{runs_alone}
use Rattle.office_parts.specs.{OwnLists.{ListName, list_name}, Archives.Archive, Alike.AwayIsAlike, Away.{AreAway, HasDoneLine, lists_after}}
use Rattle.office_parts.specs.Naming.{lists_in_order, side_named, list_if_any, list_read, AreHere, interchange_lists, lists_named_by, lists_opened}
use Rattle.partner_core.specs.{Deliveries.{Delivery, run}, Numbered.with_number, Order.state}
use Rattle.office_replies.specs.Events.{Event}
use Rattle.office_rows.specs.Rows.{Rows}
use Rattle.office_history.{specs.After.{machine_after, machine_with, opening_of, taking_in}, proofs.Places.alone_in}
use Rattle.office_history.proofs.Alike.{codes_after, delivered_with_codes, now_with_codes, opening_like, state_like, taking_with_codes, with_codes}
use Rattle.edi_messages.specs.Purposes as purpose
use Rattle.edi_messages.specs.declared.message.MessageFault.TheVariants as fault
use Rattle.edi_messages.specs.declared.order.OrderKind.TheVariants as order

pub here_parts : (away : ListName → Bool) (xs ys : List ListName) → AreHere away (xs ++ ys) → AreHere away xs × AreHere away ys
here_parts away [] ys here = (tt, here)
here_parts away (x ∷ xs) ys here = let rest = here_parts away xs ys here.1 in ((here.0, rest.0), rest.1)

-- ---- what the lines of a message order

abbrev pub lists_in_line : LineContent → List ListName
lists_in_line (ordered order) = lists_in_order order
lists_in_line (refused fault number) = []

-- the list that the message replaces, and those of its orders
abbrev pub lists_ordered : Result MessageContent MessageFault → List ListName
lists_ordered (Ok content) = list_if_any (list_replaced content) ++ flat_map lists_in_line content.lines
lists_ordered (Err fault) = []

module _ (away : ListName → Bool) where
  joined : (xs ys : List ListName) → AreHere away xs → AreHere away ys → AreHere away (xs ++ ys)
  joined [] ys a b = b
  joined (x ∷ xs) ys a b = (a.0, joined xs ys a.1 b)

  -- the list that a purpose is about
  abbrev list_about : Purpose → List ListName
  list_about p = list_if_any (list_of (purpose.call_of p) (side_named (purpose.kind_of p)))

  -- ---- a line

  abbrev LineHere : Option BoxNumber → Result OrderContent LineFault → Type 0
  LineHere number read = AreHere away (lists_in_line (line_read number read))

  gate_in_here : (number : Option BoxNumber) (entry : Result EntryContent LineFault) → LineHere number (then_read entry (λ e. Ok (gate_in e)))
  gate_in_here number (Ok e) = tt
  gate_in_here number (Err fault) = tt

  gate_out_here : (number : Option BoxNumber) (box_ : Result BoxNumber LineFault) (moment : Result CivilMoment LineFault) → LineHere number (then_read box_ (λ n. then_read moment (λ m. Ok (gate_out n m))))
  gate_out_here number (Ok n) (Ok m) = tt
  gate_out_here number (Ok n) (Err fault) = tt
  gate_out_here number (Err fault) moment = tt

  move_here : (number : Option BoxNumber) (box_ : Result BoxNumber LineFault) (slot : Result Slot LineFault) → LineHere number (then_read box_ (λ n. then_read slot (λ s. Ok (move n s))))
  move_here number (Ok n) (Ok s) = tt
  move_here number (Ok n) (Err fault) = tt
  move_here number (Err fault) slot = tt

  list_discharge_here : (number : Option BoxNumber) (call : CallContent) (box_ : Result BoxNumber LineFault) → AreHere away (list_name call Discharge ∷ []) → LineHere number (then_read box_ (λ n. Ok (list_discharge call n)))
  list_discharge_here number call (Ok n) here = here
  list_discharge_here number call (Err fault) here = tt

  list_load_here : (number : Option BoxNumber) (call : CallContent) (p : List ℕ) (box_ : Result BoxNumber LineFault) → AreHere away (list_name call Load ∷ []) → LineHere number (then_read box_ (λ n. Ok (list_load call n p)))
  list_load_here number call p (Ok n) here = here
  list_load_here number call p (Err fault) here = tt

  discharge_here : (number : Option BoxNumber) (call : CallContent) (entry : Result EntryContent LineFault) → AreHere away (list_name call Discharge ∷ []) → LineHere number (then_read entry (λ e. Ok (discharge call e)))
  discharge_here number call (Ok e) here = here
  discharge_here number call (Err fault) here = tt

  load_here : (number : Option BoxNumber) (call : CallContent) (box_ : Result BoxNumber LineFault) (moment : Result CivilMoment LineFault) → AreHere away (list_name call Load ∷ []) → LineHere number (then_read box_ (λ n. then_read moment (λ m. Ok (load call n m))))
  load_here number call (Ok n) (Ok m) here = here
  load_here number call (Ok n) (Err fault) here = tt
  load_here number call (Err fault) moment here = tt

  order_here : (p : Purpose) (opened : CivilMoment) (group : EquipmentGroup) (number : Option BoxNumber) → AreHere away (list_about p) → LineHere number (order_of p opened group)
  order_here purpose.gate_in opened group number here = gate_in_here number (read_entry opened group)
  order_here purpose.gate_out opened group number here = gate_out_here number (read_number group) (read_moment opened group)
  order_here purpose.yard_move opened group number here = move_here number (read_number group) (read_slot group)
  order_here (purpose.discharge_list call) opened group number here = list_discharge_here number call (read_number group) here
  order_here (purpose.load_list call) opened group number here = list_load_here number call (port group) (read_number group) here
  order_here (purpose.discharge_report call) opened group number here = discharge_here number call (read_entry opened group) here
  order_here (purpose.load_report call) opened group number here = load_here number call (read_number group) (read_moment opened group) here

  lines_here : (p : Purpose) (opened : CivilMoment) (groups : List EquipmentGroup) → AreHere away (list_about p) → AreHere away (flat_map lists_in_line (map (line_of p opened) groups))
  lines_here p opened [] here = tt
  lines_here p opened (group ∷ groups) here = joined (lists_in_line (line_of p opened group)) _ (order_here p opened group _ here) (lines_here p opened groups here)

  -- ---- a message

  replaced_here : (p : Purpose) (opened : CivilMoment) (message : Message) (is : Bool) → replaces_list message ≡ is → AreHere away (list_about p) → AreHere away (list_if_any (list_replaced (message_of p opened message)))
  replaced_here p opened message is e here = subst (λ b. AreHere away (list_if_any (cond b (list_of (purpose.call_of p) (side_listed (purpose.kind_of p))) None))) (sym e) (by p is here)
    where
      by : (q : Purpose) (b : Bool) → AreHere away (list_about q) → AreHere away (list_if_any (cond b (list_of (purpose.call_of q) (side_listed (purpose.kind_of q))) None))
      by purpose.gate_in true at = tt
      by purpose.gate_out true at = tt
      by purpose.yard_move true at = tt
      by (purpose.discharge_list call) true at = at
      by (purpose.load_list call) true at = at
      by (purpose.discharge_report call) true at = tt
      by (purpose.load_report call) true at = tt
      by q false at = tt

  abbrev Orders : Result MessageContent MessageFault → Type 0
  Orders read = AreHere away (list_read read) → AreHere away (lists_ordered read)

  judged_here : (opened : CivilMoment) (message : Message) (fault : Option MessageFault) (p : Option Purpose) → Orders (judged_message fault (option_map_or (λ q. Ok (message_of q opened message)) p (Err Code)))
  judged_here opened message (Some fault) p here = tt
  judged_here opened message None None here = tt
  judged_here opened message None (Some p) here = joined (list_if_any (list_replaced (message_of p opened message))) _ (replaced_here p opened message (replaces_list message) refl here) (lines_here p opened _ here)

  -- ---- without weights

  unweighed_named : (order : OrderContent) → lists_in_order (unweighed_order order) ≡ lists_in_order order
  unweighed_named (gate_in entry) = refl
  unweighed_named (gate_out number moment) = refl
  unweighed_named (move number slot) = refl
  unweighed_named (list_discharge call number) = refl
  unweighed_named (list_load call number p) = refl
  unweighed_named (discharge call entry) = refl
  unweighed_named (load call number moment) = refl

  unweighed_line_named : (line : LineContent) → lists_in_line (unweighed_line line) ≡ lists_in_line line
  unweighed_line_named (ordered order) = unweighed_named order
  unweighed_line_named (refused fault number) = refl

  unweighed_lines : (lines : List LineContent) → flat_map lists_in_line (map unweighed_line lines) ≡ flat_map lists_in_line lines
  unweighed_lines [] = refl
  unweighed_lines (line ∷ lines) = λ i. unweighed_line_named line i ++ unweighed_lines lines i

  unweighed_here : (read : Result MessageContent MessageFault) → Orders read → Orders (unweighed_reading read)
  unweighed_here (Ok content) from here = subst (λ l. AreHere away (list_if_any (list_replaced content) ++ l)) (sym (unweighed_lines content.lines)) (from here)
  unweighed_here (Err fault) from here = tt

  either_here : (b : Bool) (x y : Result MessageContent MessageFault) → Orders x → Orders y → Orders (cond b x y)
  either_here true x y e f = e
  either_here false x y e f = f

  pub ordered_here : (version : Version) (codes : Codes) (opened : CivilMoment) (message : Message) → Orders (reading_by version codes opened message)
  ordered_here First codes opened message =
      either_here (is_list_replaced codes message) (Err Function) (unweighed_reading (reading codes opened message)) (λ here. tt)
      (unweighed_here (reading codes opened message) (judged_here opened message (fault_of codes message) (purpose_of codes message)))
  ordered_here Second codes opened message = unweighed_here (reading codes opened message) (judged_here opened message (fault_of codes message) (purpose_of codes message))
  ordered_here Third codes opened message = judged_here opened message (fault_of codes message) (purpose_of codes message)

-- ==== AlikeLemmas: Set-ups that say the same name the same lists, whatever memory holds their codes.

-- ---- codes

abbrev SameTexts : CodeTable → CodeTable → Type 0
SameTexts t u = table_texts t ≡ table_texts u

meant_same : (t u : CodeTable) → SameTexts t u → (kind : PartnerKind) (type : MessageType) → meanings t kind type ≡ meanings u kind type
meant_same t u same Gate Codeco =
    let one : code_text t.gate_in ≡ code_text u.gate_in = cc in
    let two : code_text t.gate_out ≡ code_text u.gate_out = cc in
    λ i. (one i, order.GateIn) ∷ (two i, order.GateOut) ∷ []
meant_same t u same Yard Codeco = let one : code_text t.yard_move ≡ code_text u.yard_move = cc in λ i. (one i, order.Move) ∷ []
meant_same t u same Line Coprar =
    let one : code_text t.discharge_list ≡ code_text u.discharge_list = cc in
    let two : code_text t.load_list ≡ code_text u.load_list = cc in
    λ i. (one i, order.ListDischarge) ∷ (two i, order.ListLoad) ∷ []
meant_same t u same Quay Coarri =
    let one : code_text t.discharge_report ≡ code_text u.discharge_report = cc in
    let two : code_text t.load_report ≡ code_text u.load_report = cc in
    λ i. (one i, order.Discharge) ∷ (two i, order.Load) ∷ []
meant_same t u same kind type = refl

-- ---- what a text names

module _ (t u : CodeTable) (same : SameTexts t u) (text : List ℕ) where
  module _ (kind : PartnerKind) where
    abbrev one : Codes
    one = record { kind = kind; table = t }

    abbrev two : Codes
    two = record { kind = kind; table = u }

    order_same : (type : MessageType) (name : List ℕ) → order_meant one type name ≡ order_meant two type name
    order_same type name =
        ap (λ l. option_map (λ (meaning : List ℕ × OrderKind). meaning.1) (find (λ (meaning : List ℕ × OrderKind). bytes_eq name meaning.0) l)) (meant_same t u same kind type)

    kind_same : (message : Message) → order_kind_of one message ≡ order_kind_of two message
    kind_same message i = option_and_then (λ type. option_and_then (λ segment. order_same type (document_name segment) i) (beginning message)) (message_type_of message.header)

    applies_same : (message : Message) (f : MessageFault) → applies one message f ≡ applies two message f
    applies_same message fault.Code = ap is_none (kind_same message)
    applies_same message fault.Function = λ i.
        not (option_map_or (λ segment. is_original segment || (is_replacement segment && option_map_or is_list (kind_same message i) false)) (beginning message) true)
    applies_same message f = refl

    reading_same : (opened : CivilMoment) (message : Message) → reading one opened message ≡ reading two opened message
    reading_same opened message i =
        judged_message (find (λ f. applies_same message f i) message_faults)
        (option_map_or (λ purpose. Ok (message_of purpose opened message)) (option_and_then (λ kind. purpose_with kind (call_in message)) (kind_same message i)) (Err fault.Code))

    opened_same : (messages : List Message) (opened : Option CivilMoment) → lists_opened newest one messages opened ≡ lists_opened newest two messages opened
    opened_same messages None = refl
    opened_same messages (Some opened) = λ i. flat_map (λ (message : Message). list_read (reading_same opened message i)) messages

  pub named_same : (kind : Option PartnerKind) → lists_named_by newest t text kind ≡ lists_named_by newest u text kind
  named_same None = refl
  named_same (Some kind) = opened_same kind (messages_of (segments_in text)) (preparation (header_of (segments_in text)))

-- ---- after some events

-- by the accounts so far
abbrev pub named_in : SetupContent → ℕ → List ℕ → List ListName
named_in now partner text = interchange_lists newest now.codes (opening_of now).kinds partner text

pub lists_are : (content : SetupContent) (es : List Event) (partner : ℕ) (text : List ℕ) → lists_after content es partner text ≡ named_in (content_after content es) partner text
lists_are content es partner text =
    let machine : machine_after content es ≡ machine_with (content_after content es) (machine_after content es).terminal =
    runs_alone (taking_in newest content es) (opening_of (content_after content es)) (deliveries_of content es) (alone_in newest content es) in
    ap (λ (m : MachineState). interchange_lists newest m.codes m.kinds partner text) machine

module _ (content : SetupContent) (table : CodeTable) (same : SameTexts table content.codes) (es : List Event) where
  abbrev now : SetupContent
  now = content_after content es

  abbrev other : SetupContent
  other = with_codes table content

  same_now : SameTexts table now.codes
  same_now = same ∙ ap table_texts (sym (codes_after es content))

  terminal_same : (machine_after other es).terminal ≡ (machine_after content es).terminal
  terminal_same =
      (λ i. (state (taking_with_codes newest content es table i) (opening_of (now_with_codes es content table i)) (delivered_with_codes es content table i)).terminal)
      ∙ state_like newest content es (opening_of (with_codes table now)) (opening_of now) (deliveries_of content es)
      (opening_like (with_codes table now) now (record { terminal = refl; codes = same_now; partners = refl; blocks = refl; limit = refl }))

  lists_same : (partner : ℕ) (text : List ℕ) → lists_after other es partner text ≡ lists_after content es partner text
  lists_same partner text =
      lists_are other es partner text
      ∙ ap (λ (k : SetupContent). named_in k partner text) (now_with_codes es content table)
      ∙ named_same table now.codes same_now text (with_number (opening_of now).kinds partner)
      ∙ sym (lists_are content es partner text)

  module _ (archives : List Archive) (away : ListName → Bool) (own : Rows) where
    with_other_codes : AreAway archives away other es own → AreAway archives away content es own
    with_other_codes are = record {
      kept = are.kept;
      done = λ list kept had. subst (λ (terminal : TerminalState). HasDoneLine list terminal.lines) terminal_same (are.done list kept had);
      waits = λ partner number text far has.
          let above : run (deliveries_of other es) partner < number = subst (λ (ds : List Delivery). run ds partner < number) (sym (delivered_with_codes es content table)) far in
          subst (AreHere away) (lists_same partner text) (are.waits partner number text above has);
    }

-- set-ups that say the same differ in codes that say the same
pub away_alike : AwayIsAlike
away_alike content other es archives away own says are =
    let but_codes : content ≡ with_codes content.codes other =
    λ i. record { terminal = says.terminal i; codes = content.codes; partners = says.partners i; blocks = says.blocks i; visit_limit = says.limit i } in
    with_other_codes other content.codes says.codes es archives away own (subst (λ (k : SetupContent). AreAway archives away k es own) but_codes are)
