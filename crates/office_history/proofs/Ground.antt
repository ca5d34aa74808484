-- The plan of the yard and the limit of visits, which no delivery changes.
use Rattle.std.{specs.Prelude.nat_le, proofs.lemmas.List.{map-append, length-map}}
use Rattle.std.proofs.Common.{◌≡◌, ℕ, ◌+◌, List, [], ◌∷◌, ◌++◌, length, Bool, true, false, cond, Some, Ok, refl, sym, ap, subst, ◌∙◌, arith, ◌&&◌, not, Option, None, is_some, Result, Err}
use Rattle.edi_messages.specs.{declared.codes.PartnerKind.PartnerKind, declared.codes.Codes.Codes, declared.message.MessageFault.MessageFault}
use Rattle.edi_messages.specs.{Message.{LineContent as ReadLine, ordered, refused as refused_line, MessageContent}, Purposes.CallContent}
use Rattle.edi_messages.specs.Orders.{EntryContent, OrderContent, gate_in, gate_out, move, list_discharge, list_load, discharge, load}
use Rattle.partner_core.specs.{ByPlace.taken_by_place, Deliveries.{Delivery, first_text, run}, Machine.Taking, Order.{state, order}, Numbered.with_number}
use Rattle.terminal_core.specs.{Changes.rows_of, Versions.{newest, spares_empty}, declared.change.Version.Version, declared.visits.Departure.Departure}
use Rattle.terminal_core.specs.{declared.lines.LineState.LineState, declared.lines.LineState.TheVariants.{Pending, Done as LineIsDone}, declared.visits.Way.Way}
use Rattle.terminal_core.specs.{declared.change.Outcome.Outcome, declared.change.Outcome.TheVariants.Refused, declared.lines.Side.Side}
use Rattle.terminal_core.specs.{declared.change.Reason.TheVariants.{AlreadyIn, NotIn, VisitLimit}, declared.lines.Side.TheVariants.{Load, Discharge}}
use Rattle.terminal_core.specs.{declared.change.Source.Source, declared.visits.Way.TheVariants.{Gate, Ship}, State.{TerminalState, LineContent, line_of, is_in}}
use Rattle.terminal_core.specs.Step.{StepResult, with_refusal, step_by, yard_with_entry, yard_with_entry_in, with_slot, is_full, after_entry, after_entry_at, after_departure, after_departure_at, departure_by, after_move_at, after_listing_at, then_line_done_at, by_line, by_state}
use Rattle.terminal_core.proofs.Changing.{either}
use Rattle.office_replies.specs.Events.{Event, added}
use Rattle.office_admission.specs.{Kinds.kind_named, Setups.{SetupContent, parties_in, setup_with_account}, Accounts.{content_after, account_answer, added_as}}
use Rattle.office_admission.specs.{Admission.{admission, number_said, is_for}, Deliveries.deliveries_of, Growth.with_account, TakingLaws.ChangesTerminalAlone}
use Rattle.office_admission.specs.Taking.{MachineState, interchange_taken_by, clearing_of, clearing_for, list_replaced, line_taken_by, lines_taken_by, verdict_on_by, messages_taken_by, codes_for, source_in, nothing_taken, taken_at_by, taken_of_by}
use Rattle.office_admission.{specs.Readings.reading_by, proofs.Adding.{added_last, parties_grown, content_on, account_adds, first_admitted, no_run_beyond}}
use Rattle.office_admission.proofs.Takings.{taken_with_account}
use Rattle.office_rows.specs.{Rows.Rows, Effects.with_partner}
use Rattle.office_history.specs.{After.{opening_of, taking_in, accounts_from, AreRowsOf, AreAfter}, Laws.{AddsAccount, AccountAddsRow}}
use Rattle.office_history.proofs.Places.{TakesAlike, state_alike, reply_alike, alone_in, in_force, taking_added, moved, kept_over, placed}
use Rattle.box6346.specs.{SizeCode.length_of, declared.box_number.BoxNumber.BoxNumber, declared.size_type.Length.Length, declared.slot.Slot.Slot}
use Rattle.edi_syntax.specs.{Moments.CivilMoment, Text.Content, Interchange.segments_in, Envelope.{header_of, messages_of}, Header.preparation}
use Rattle.edi_syntax.specs.Messages.{Message}
use Rattle.yard_core.specs.{declared.placements.Placement.Placement, declared.placements.Stowed.Stowed}
use Rattle.yard_core.specs.Decisions.{Refusal, present, is_same_slot, misfit_of, first_fit, blocker_of, unless_buried, with_misfit, with_slot as with_first_slot, yard_with, yard_without, yard_without_at, yard_with_move, yard_with_move_at}
use Rattle.yard_core.specs.YardMap.{Boxes, YardMap, yard_map, placement, placement_of, stowed}
use Rattle.std.specs.FinMap as finite_map

-- ==== Growing: The rows after an account more.

-- ---- accounts

accounts_pushed : (id : ℕ) (next : ℕ → ℕ) (accounts : List (List ℕ × PartnerKind)) (code : List ℕ) (kind : PartnerKind) (last : ℕ) → last ≡ id + length accounts
    → accounts_from id next (accounts ++ (code, kind) ∷ []) ≡ accounts_from id next accounts ++ (record { id = last; code = code; kind = kind; next = next last }) ∷ []
accounts_pushed id next [] code kind last is =
    let own : id ≡ last = omega (arith, is) in
    λ i. (record { id = own i; code = code; kind = kind; next = next (own i) }) ∷ []
accounts_pushed id next (account ∷ accounts) code kind last is =
    ap (λ l. (record { id = id; code = account.0; kind = account.1; next = next id }) ∷ l) (accounts_pushed (id + 1) next accounts code kind last (omega (arith, is)))

-- ---- what was admitted is taken as before

module _ (parties_are : SetupContent) (code : List ℕ) (kind : PartnerKind) where
  -- the machine has the partners of the set-up
  record IsOf (machine : MachineState) : Type 0 where
    parties : machine.parties ≡ parties_in parties_are
    even : length machine.kinds ≡ length machine.parties.partners

  abbrev grown : MachineState × List ℕ → MachineState × List ℕ
  grown taken = (with_account code kind taken.0, taken.1)

  abbrev TakesGrown : Taking MachineState → Type 0
  TakesGrown taking = (machine : MachineState) (p k : ℕ) (text : List ℕ) → IsOf machine → admission (parties_in parties_are) text ≡ Ok (p, k) → taking (with_account code kind machine) p text ≡ grown (taking machine p text)

  each_grown : (version : Version) → TakesGrown (interchange_taken_by version)
  each_grown version machine p k text is admitted = taken_with_account version machine code kind p k text is.even (ap (λ parties. admission parties text) is.parties ∙ admitted)

  either_grown : (before : List Delivery) (old new : Taking MachineState) → TakesGrown old → TakesGrown new → TakesGrown (taken_by_place number_said before old new)
  either_grown before old new one two machine p k text is admitted = by (nat_le (number_said text) (run before p))
    where
      by : (is_old : Bool) → cond is_old (old (with_account code kind machine) p text) (new (with_account code kind machine) p text) ≡ grown (cond is_old (old machine p text) (new machine p text))
      by true = one machine p k text is admitted
      by false = two machine p k text is admitted

  -- one machine is the other with the account
  abbrev Like : MachineState → MachineState → Type 0
  Like one other = (one ≡ with_account code kind other) × IsOf other

  still_of : (taking : Taking MachineState) (machine : MachineState) (p : ℕ) (text : List ℕ) → ChangesTerminalAlone taking → IsOf machine → IsOf (taking machine p text).0
  still_of taking machine p text alone is = subst IsOf (sym (alone machine p text)) (record { parties = is.parties; even = is.even })

  grown_alike : (taking : Taking MachineState) (D : List Delivery) → TakesGrown taking → ChangesTerminalAlone taking → ((p k : ℕ) (text : List ℕ) → first_text D p k ≡ Some text → admission (parties_in parties_are) text ≡ Ok (p, k))
      → TakesAlike taking Like D
  grown_alike taking D takes alone admitted one other p k text like first =
      let step = ap (λ machine. taking machine p text) like.0 ∙ takes other p k text like.1 (admitted p k text first) in
      ((ap (λ (taken : MachineState × List ℕ). taken.0) step, still_of taking other p text alone like.1), ap (λ (taken : MachineState × List ℕ). taken.1) step)

  opening_grown : opening_of (setup_with_account parties_are code kind) ≡ with_account code kind (opening_of parties_are)
  opening_grown i = record (opening_of parties_are) {
    parties = parties_grown parties_are code kind i;
    kinds = map-append (λ (account : List ℕ × PartnerKind). account.1) parties_are.partners ((code, kind) ∷ []) i;
  }

  opening_is : Like (opening_of (setup_with_account parties_are code kind)) (opening_of parties_are)
  opening_is = (opening_grown, record { parties = refl; even = length-map parties_are.partners _ ∙ sym (length-map parties_are.partners _) })

-- ---- an account more

module _ (content : SetupContent) (es : List Event) (rows : Rows) (code kind : List ℕ) (own : PartnerKind) (id : ℕ)
    (are : AreAfter content es rows) (named : kind_named kind ≡ Some own) (answered : account_answer (content_after content es).partners code kind ≡ added_as id) where
  abbrev now : SetupContent
  now = content_after content es

  abbrev D : List Delivery
  D = deliveries_of content es

  abbrev taking : Taking MachineState
  taking = taking_in newest content es

  abbrev more : List Event
  more = es ++ added code kind ∷ []

  takes : TakesAlike taking (Like now code own) D
  takes = grown_alike now code own taking D
      (in_force (TakesGrown now code own) (each_grown now code own) (either_grown now code own) newest content es)
      (alone_in newest content es)
      (λ p k text first. first_admitted es content p k text first)

  now_more : content_after content more ≡ setup_with_account now code own
  now_more = content_on es (added code kind ∷ []) content ∙ (added_last now code kind id own named answered).content_is

  machine_grown : state taking (opening_of (setup_with_account now code own)) D ≡ with_account code own (state taking (opening_of now) D)
  machine_grown = (state_alike taking (Like now code own) D takes (opening_of (setup_with_account now code own)) (opening_of now) (opening_is now code own)).0

  last_next : run D id + 1 ≡ 1
  last_next = ap (λ n. run D n + 1) (added_last now code kind id own named answered).id_is ∙ ap (λ n. n + 1) (no_run_beyond es content)

  partners_grown : rows.partners ++ (record { id = id; code = code; kind = own; next = 1 }) ∷ [] ≡ accounts_from 1 (λ p. run D p + 1) (now.partners ++ (code, own) ∷ [])
  partners_grown =
      let last = (added_last now code kind id own named answered).id_is in
      ap (λ l. l ++ (record { id = id; code = code; kind = own; next = 1 }) ∷ []) are.partners
      ∙ (λ i. accounts_from 1 (λ p. run D p + 1) now.partners ++ (record { id = id; code = code; kind = own; next = sym last_next i }) ∷ [])
      ∙ sym (accounts_pushed 1 (λ p. run D p + 1) now.partners code own id (omega (arith, last)))

  rows_grown : AreRowsOf newest taking (setup_with_account now code own) D (with_partner id code own rows)
  rows_grown = record {
    partners = partners_grown;
    texts = are.texts;
    replies = λ p k. are.replies p k ∙ sym (reply_alike taking (Like now code own) D takes (opening_of (setup_with_account now code own)) (opening_of now) p k (opening_is now code own));
    kept_once = are.kept_once;
    terminal = are.terminal ∙ ap (λ (m : MachineState). rows_of m.terminal) (sym machine_grown);
    placed_once = are.placed_once;
    listed_once = are.listed_once;
    settings = are.settings;
    blocks = are.blocks;
  }

  account_row : AddsAccount content es code kind own (with_partner id code own rows)
  account_row = record {
    rows_are = moved newest taking (taking_in newest content more) (setup_with_account now code own) (content_after content more) D (deliveries_of content more) (with_partner id code own rows)
        (taking_added newest content es code kind) now_more (account_adds es content code kind) rows_grown;
    machine = (λ i. state (taking_added newest content es code kind i) (opening_of (now_more i)) (account_adds es content code kind i)) ∙ machine_grown;
    deliveries = account_adds es content code kind;
  }

pub account_adds_row : AccountAddsRow
account_adds_row content es rows code kind own id are named answered = account_row content es rows code kind own id are named answered

-- ==== Ground: The plan of the yard and the limit of visits, which no delivery changes.

-- ---- plan and limit

-- the new state stands on the plan and the limit of the old
pub record OnGround (old new : TerminalState) : Type 0 where
  pub plan : new.yard.plan ≡ old.yard.plan
  pub limit : new.limit ≡ old.limit

still : (state : TerminalState) → OnGround state state
still state = record { plan = refl; limit = refl }

on : (a b c : TerminalState) → OnGround a b → OnGround b c → OnGround a c
on a b c one two = record { plan = two.plan ∙ one.plan; limit = two.limit ∙ one.limit }

-- ---- the yard

abbrev IfYard : YardMap → Result YardMap Refusal → Type 0
IfYard y (Ok new) = new.plan ≡ y.plan
IfYard y (Err refusal) = Unit {0}

abbrev IfSlot : YardMap → Result (YardMap × Slot) Refusal → Type 0
IfSlot y (Ok new) = new.0.plan ≡ y.plan
IfSlot y (Err refusal) = Unit {0}

abbrev IfStood : YardMap → Result (YardMap × Placement) Refusal → Type 0
IfStood y (Ok new) = new.0.plan ≡ y.plan
IfStood y (Err refusal) = Unit {0}

misfit_plan : (y : YardMap) (o : Option Refusal) (boxes : Boxes) → IfYard y (with_misfit o (yard_map y.plan boxes))
misfit_plan y None boxes = refl
misfit_plan y (Some refusal) boxes = tt

slot_plan : (y : YardMap) (slot : Slot) (r : Result YardMap Refusal) → IfYard y r → IfSlot y (with_slot slot r)
slot_plan y slot (Ok new) h = h
slot_plan y slot (Err refusal) h = tt

first_plan : (y : YardMap) (o : Option Slot) (b : BoxNumber) (length : Length) (is_laden : Bool) → IfSlot y (with_first_slot o y b length is_laden)
first_plan y None b length is_laden = tt
first_plan y (Some slot) b length is_laden = refl

module _ (version : Version) where
  settled_plan : (y : YardMap) (entry : EntryContent) (o : Option Slot) → IfSlot y (yard_with_entry_in version y entry o)
  settled_plan y entry (Some slot) =
      let s = placement (length_of entry.size_type) slot in
      let misfit = misfit_of (spares_empty version && entry.is_laden) y.plan y.boxes s in
      slot_plan y slot (yard_with (spares_empty version) y entry.number (length_of entry.size_type) entry.is_laden slot)
      (either (IfYard y) (is_some (finite_map.get y.boxes entry.number)) (Err present) (with_misfit misfit (yard_map y.plan (finite_map.insert y.boxes entry.number (stowed s entry.is_laden)))) tt
      (misfit_plan y misfit (finite_map.insert y.boxes entry.number (stowed s entry.is_laden))))
  settled_plan y entry None =
      let first = first_fit (spares_empty version && entry.is_laden) y.plan y.boxes (length_of entry.size_type) in
      either (IfSlot y) (is_some (finite_map.get y.boxes entry.number)) (Err present) (with_first_slot first y entry.number (length_of entry.size_type) entry.is_laden) tt
      (first_plan y first entry.number (length_of entry.size_type) entry.is_laden)

  unburied : (y : YardMap) (o : Option BoxNumber) (r : Result (YardMap × Placement) Refusal) → IfStood y r → IfStood y (unless_buried o r)
  unburied y None r h = h
  unburied y (Some blocker) r h = tt

  unburied_yard : (y : YardMap) (o : Option BoxNumber) (r : Result YardMap Refusal) → IfYard y r → IfYard y (unless_buried o r)
  unburied_yard y None r h = h
  unburied_yard y (Some blocker) r h = tt

  removed_plan : (y : YardMap) (b : BoxNumber) (o : Option Placement) → IfStood y (yard_without_at o y b)
  removed_plan y b None = tt
  removed_plan y b (Some s) = unburied y (blocker_of y.boxes s) (Ok (yard_map y.plan (finite_map.remove y.boxes b), s)) refl

  shifted_plan : (y : YardMap) (b : BoxNumber) (slot : Slot) (o : Option Stowed) → IfYard y (yard_with_move_at (spares_empty version) o y b slot)
  shifted_plan y b slot None = tt
  shifted_plan y b slot (Some w) =
      let moved = placement w.placement.length slot in
      let misfit = misfit_of (spares_empty version && (w.is_laden && not (is_same_slot slot w.placement.slot))) y.plan (finite_map.remove y.boxes b) moved in
      unburied_yard y (blocker_of y.boxes w.placement) (with_misfit misfit (yard_map y.plan (finite_map.insert y.boxes b (stowed moved w.is_laden))))
      (misfit_plan y misfit (finite_map.insert y.boxes b (stowed moved w.is_laden)))

  -- ---- an order

  abbrev Stays : TerminalState → StepResult → Type 0
  Stays old after = OnGround old after.state

  entered_stays : (state : TerminalState) (way : Way) (source : Source) (entry : EntryContent) (r : Result (YardMap × Slot) Refusal) → IfSlot state.yard r → Stays state (after_entry_at state way source entry r)
  entered_stays state way source entry (Ok (y, slot)) h = record { plan = h; limit = refl }
  entered_stays state way source entry (Err refusal) h = still state

  enters_stays : (state : TerminalState) (way : Way) (source : Source) (entry : EntryContent) → Stays state (after_entry version state way source entry)
  enters_stays state way source entry =
      either (Stays state) (is_full state) (with_refusal state VisitLimit) (after_entry_at state way source entry (yard_with_entry version state.yard entry)) (still state)
      (entered_stays state way source entry (yard_with_entry version state.yard entry) (settled_plan state.yard entry entry.slot))

  departed_stays : (state : TerminalState) (b : BoxNumber) (departure : Departure) (r : Result (YardMap × Placement) Refusal) → IfStood state.yard r → Stays state (after_departure_at state b departure r)
  departed_stays state b departure (Ok (y, s)) h = record { plan = h; limit = refl }
  departed_stays state b departure (Err refusal) h = still state

  departs_stays : (state : TerminalState) (way : Way) (source : Source) (b : BoxNumber) (moment : CivilMoment) → Stays state (after_departure state way source b moment)
  departs_stays state way source b moment = departed_stays state b (departure_by way source moment) (yard_without state.yard b) (removed_plan state.yard b (placement_of state.yard.boxes b))

  moved_stays : (state : TerminalState) (b : BoxNumber) (slot : Slot) (r : Result YardMap Refusal) → IfYard state.yard r → Stays state (after_move_at state b slot r)
  moved_stays state b slot (Ok y) h = record { plan = h; limit = refl }
  moved_stays state b slot (Err refusal) h = still state

  listed_stays : (state : TerminalState) (call : CallContent) (side : Side) (b : BoxNumber) (port : List ℕ) (o : Option LineContent) → Stays state (after_listing_at state call side b port o)
  listed_stays state call side b port (Some line) = still state
  listed_stays state call side b port None = record { plan = refl; limit = refl }

  then_stays : (state : TerminalState) (call : CallContent) (side : Side) (b : BoxNumber) (line : LineContent) (after : StepResult) (o : Outcome) → Stays state after → Stays state (then_line_done_at call side b line after o)
  then_stays state call side b line after (Refused reason) h = h
  then_stays state call side b line after o h = record { plan = h.plan; limit = h.limit }

  state_stays : (state : TerminalState) (call : CallContent) (side : Side) (b : BoxNumber) (line : LineContent) (after : StepResult) (s : LineState) → Stays state after → Stays state (by_state state call side b line after s)
  state_stays state call side b line after LineIsDone h = still state
  state_stays state call side b line after Pending h = then_stays state call side b line after after.outcome h

  line_stays : (state : TerminalState) (call : CallContent) (side : Side) (b : BoxNumber) (o : Option LineContent) (after : StepResult) → Stays state after → Stays state (by_line state call side b o after)
  line_stays state call side b None after h = still state
  line_stays state call side b (Some line) after h = state_stays state call side b line after line.state h

  step_stays : (state : TerminalState) (source : Source) (order : OrderContent) → Stays state (step_by version state source order)
  step_stays state source (gate_in entry) = either (Stays state) (is_in state entry.number) (with_refusal state AlreadyIn) (after_entry version state Gate source entry) (still state) (enters_stays state Gate source entry)
  step_stays state source (gate_out b moment) = departs_stays state Gate source b moment
  step_stays state source (move b slot) = moved_stays state b slot (yard_with_move (spares_empty version) state.yard b slot) (shifted_plan state.yard b slot (finite_map.get state.yard.boxes b))
  step_stays state source (list_discharge call b) = listed_stays state call Discharge b [] (line_of state call Discharge b)
  step_stays state source (list_load call b port) = listed_stays state call Load b port (line_of state call Load b)
  step_stays state source (discharge call entry) =
      either (Stays state) (is_in state entry.number) (with_refusal state AlreadyIn) (by_line state call Discharge entry.number (line_of state call Discharge entry.number) (after_entry version state Ship source entry)) (still state)
      (line_stays state call Discharge entry.number (line_of state call Discharge entry.number) (after_entry version state Ship source entry) (enters_stays state Ship source entry))
  step_stays state source (load call b moment) =
      either (Stays state) (is_in state b) (by_line state call Load b (line_of state call Load b) (after_departure state Ship source b moment)) (with_refusal state NotIn)
      (line_stays state call Load b (line_of state call Load b) (after_departure state Ship source b moment) (departs_stays state Ship source b moment)) (still state)

  -- ---- an interchange

  read_stays : (state : TerminalState) (source : Source) (line : ReadLine) → OnGround state (line_taken_by version state source line).0
  read_stays state source (ordered order) = step_stays state source order
  read_stays state source (refused_line fault number) = still state

  lines_stay : (state : TerminalState) (source : Source) (lines : List ReadLine) → OnGround state (lines_taken_by version state source lines).0
  lines_stay state source [] = still state
  lines_stay state source (line ∷ lines) =
      let next : TerminalState = (line_taken_by version state source line).0 in
      on state next (lines_taken_by version next source lines).0 (read_stays state source line) (lines_stay next source lines)

  cleared_stays : (state : TerminalState) (list : Option (CallContent × Side)) → OnGround state (clearing_of state list).state
  cleared_stays state None = still state
  cleared_stays state (Some list) = record { plan = refl; limit = refl }

  verdict_stays : (state : TerminalState) (source : Source) (read : Result MessageContent MessageFault) → OnGround state (verdict_on_by version state source read).0
  verdict_stays state source (Ok content) =
      let next : TerminalState = (clearing_for state content).state in
      on state next (lines_taken_by version next source content.lines).0 (cleared_stays state (list_replaced content)) (lines_stay next source content.lines)
  verdict_stays state source (Err fault) = still state

  messages_stay : (state : TerminalState) (codes : Codes) (source : Source) (opened : CivilMoment) (messages : List Message) → OnGround state (messages_taken_by version state codes source opened messages).0
  messages_stay state codes source opened [] = still state
  messages_stay state codes source opened (message ∷ messages) =
      let next : TerminalState = (verdict_on_by version state source (reading_by version codes opened message)).0 in
      on state next (messages_taken_by version next codes source opened messages).0 (verdict_stays state source (reading_by version codes opened message)) (messages_stay next codes source opened messages)

  at_stays : (machine : MachineState) (partner : ℕ) (kind : PartnerKind) (segments : List Content) (opened : Option CivilMoment) → OnGround machine.terminal (taken_at_by version machine partner kind segments opened).0.terminal
  at_stays machine partner kind segments None = still machine.terminal
  at_stays machine partner kind segments (Some opened) = messages_stay machine.terminal (codes_for machine kind) (source_in partner (header_of segments)) opened (messages_of segments)

  of_stays : (machine : MachineState) (partner : ℕ) (segments : List Content) (kind : Option PartnerKind) → OnGround machine.terminal (taken_of_by version machine partner segments kind).0.terminal
  of_stays machine partner segments None = still machine.terminal
  of_stays machine partner segments (Some kind) = at_stays machine partner kind segments (preparation (header_of segments))

  pub interchange_stays : (machine : MachineState) (partner : ℕ) (text : List ℕ) → OnGround machine.terminal (interchange_taken_by version machine partner text).0.terminal
  interchange_stays machine partner text =
      either (λ (taken : MachineState × List ℕ). OnGround machine.terminal taken.0.terminal) (is_for partner (admission machine.parties text)) (taken_of_by version machine partner (segments_in text) (with_number machine.kinds partner)) (nothing_taken machine)
      (of_stays machine partner (segments_in text) (with_number machine.kinds partner)) (still machine.terminal)

-- ---- a run

abbrev StaysOnGround : Taking MachineState → Type 0
StaysOnGround taken = (machine : MachineState) (partner : ℕ) (text : List ℕ) → OnGround machine.terminal (taken machine partner text).0.terminal

pub state_on_ground : (version : Version) (content : SetupContent) (es : List Event) (opening : MachineState) (ds : List Delivery) → OnGround opening.terminal (state (taking_in version content es) opening ds).terminal
state_on_ground version content es opening ds =
    let each : StaysOnGround (taking_in version content es) =
    in_force StaysOnGround interchange_stays
    (λ before old new one two machine p text. placed (λ taken. OnGround machine.terminal taken.0.terminal) before old new machine p text (one machine p text) (two machine p text)) version content es in
    kept_over (taking_in version content es) (λ machine. OnGround opening.terminal machine.terminal)
    (λ machine p text is. on opening.terminal machine.terminal (taking_in version content es machine p text).0.terminal is (each machine p text)) opening ds (still opening.terminal)
