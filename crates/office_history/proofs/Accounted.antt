-- The partners by whose interchanges visits were opened and closed have accounts.
use Rattle.std.{specs.{Prelude.{slice_index_or, Contains}, Str.bytes_eq, Cmp.Lexicographic.bytes_decides}, proofs.lemmas.Bool.{le-ltb, lt-ltb, eqb-true}}
use Rattle.std.proofs.Common.{◌≡◌, ℕ, zero, suc, ◌+◌, ◌<◌, ◌≤◌, List, [], ◌∷◌, ◌++◌, length, Bool, true, false, cond, Option, None, Some, Result, Ok, Err, refl, sym, ap, subst, ◌∙◌, arith, inl, inr, map}
use Rattle.std.proofs.{lemmas.List.length-map, lemmas.List.Elements.Contains-push_cases}
use Rattle.edi_messages.specs.{declared.codes.PartnerKind.PartnerKind, declared.codes.Codes.Codes, declared.message.MessageFault.MessageFault}
use Rattle.edi_messages.specs.{Message.{LineContent as ReadLine, ordered, refused as refused_line, MessageContent}, Purposes.CallContent}
use Rattle.edi_messages.specs.Orders.{EntryContent, OrderContent, gate_in, gate_out, move, list_discharge, list_load, discharge, load}
use Rattle.edi_syntax.specs.{Interchange.{interchange_of, segments_in}, declared.interchange.SyntaxFault.SyntaxFault, Envelope.{header_of, messages_of}}
use Rattle.edi_syntax.specs.{Faults.fault_of, Header.{recipient, preparation}, Moments.CivilMoment, Text.Content, Messages.Message}
use Rattle.partner_core.specs.{Deliveries.{Delivery, delivery, first_text, run}, Order.{reply_of, state, order}, Answers.{answer_by, Taken}, Machine.Taking}
use Rattle.partner_core.specs.{Standings.{standing_of, is_same_text}, declared.runs.Standing.Standing, Numbered.with_number}
use Rattle.partner_core.specs.declared.runs.Standing.TheVariants.{Known, Other, Early, Next}
use Rattle.office_admission.specs.{Admission.{admission, by_header, by_recipient, sender_of, number_in, is_for}, Accounts.content_after, Parties.Parties}
use Rattle.office_admission.specs.{Deliveries.deliveries_of, Setups.{SetupContent, parties_in}, Given.IsGiven, Readings.reading_by}
use Rattle.office_admission.specs.Taking.{MachineState, clearing_of, clearing_for, list_replaced, line_taken_by, lines_taken_by, verdict_on_by, messages_taken_by, codes_for, source_in, nothing_taken, taken_at_by, taken_of_by, interchange_taken_by}
use Rattle.office_admission.proofs.{Adding.{first_admitted, given_after, found_low}, Forming.{number_within, terminal_alone}}
use Rattle.office_replies.specs.{Events.Event, declared.deliver.Fault.Fault, declared.deliver.Fault.TheVariants.WrongRecipient}
use Rattle.terminal_core.specs.{Versions.{newest, spares_empty}, declared.change.Version.Version, declared.visits.Departure.Departure, declared.lines.Side.Side}
use Rattle.terminal_core.specs.{declared.lines.LineState.LineState, declared.lines.LineState.TheVariants.{Pending, Done as LineIsDone}, declared.visits.Way.Way}
use Rattle.terminal_core.specs.{declared.change.Outcome.Outcome, declared.change.Outcome.TheVariants.Refused, declared.lines.Side.TheVariants.{Load, Discharge}}
use Rattle.terminal_core.specs.{declared.change.Reason.TheVariants.{AlreadyIn, NotIn, VisitLimit}, declared.change.Source.Source, Rows.VisitContent}
use Rattle.terminal_core.specs.{declared.visits.Way.TheVariants.{Gate, Ship}, State.{TerminalState, LineContent, line_of, is_in, is_open_visit}}
use Rattle.terminal_core.specs.Step.{StepResult, with_refusal, step_by, yard_with_entry, is_full, visit_of, after_entry, after_entry_at, closed_visit, after_departure, after_departure_at, departure_by, after_move_at, after_listing_at, then_line_done_at, by_line, by_state}
use Rattle.terminal_core.proofs.{Changing.either, Indexed.mapped_at, Whole.{contained, found_at}}
use Rattle.office_rows.specs.{Rows.{Partner, Rows}, Office.HasAccounts}
use Rattle.office_history.specs.{After.{opening_of, taking_in, machine_after, accounts_from, reply_in, AreAfter}, Laws.{IsFor, answer_model_of, AnswersBy}}
use Rattle.office_history.{specs.Cascade.{text_in, TakenContent, texts_with, AreTakenFrom}, proofs.Afters.{answered, first_reply}}
use Rattle.office_history.proofs.Places.{sound_in, goes_on, numbered_more, kept_over, placed, in_force}
use Rattle.box6346.specs.{declared.box_number.BoxNumber.BoxNumber, declared.slot.Slot.Slot}
use Rattle.yard_core.specs.{declared.placements.Placement.Placement, Decisions.{Refusal, yard_without, yard_with_move}, YardMap.YardMap}

-- ==== Telling: What the rows tell: of the numbers, and of the next answer.

-- ---- what is admitted

abbrev IsWithin : ℕ → ℕ → ℕ → Type 0
IsWithin count p k = (1 ≤ p) × (p ≤ count) × (1 ≤ k) × (k ≤ 999999999)

addressed_within : (P : Parties) (text : List ℕ) (found : Option ℕ) (is : Bool) (p k : ℕ) → fault_of text ≡ None → sender_of P (header_of (segments_in text)) ≡ found
    → bytes_eq (recipient (header_of (segments_in text)) 1) P.terminal ≡ is → by_recipient P (header_of (segments_in text)) found ≡ Ok (p, k) → IsWithin (length P.partners) p k
addressed_within P text None is p k faultless sender to e = cc
addressed_within P text (Some partner) is p k faultless sender to e = at is to
  where
    at : (is : Bool) → bytes_eq (recipient (header_of (segments_in text)) 1) P.terminal ≡ is → IsWithin (length P.partners) p k
    at true to =
        let both : ◌≡◌ {A = Result (ℕ × ℕ) Fault} (Ok (partner, number_in (header_of (segments_in text)))) (Ok (p, k)) =
        sym (ap (λ b. cond b (Ok (partner, number_in (header_of (segments_in text)))) (Err WrongRecipient)) to) ∙ e in
        let pair : (partner, number_in (header_of (segments_in text))) ≡ (p, k) = cc in
        let own : partner ≡ p = ap (λ (q : ℕ × ℕ). q.0) pair in
        let its : number_in (header_of (segments_in text)) ≡ k = ap (λ (q : ℕ × ℕ). q.1) pair in
        let low = found_low 1 _ P.partners partner sender in
        let range = number_within text faultless in
        (omega (arith, low.0, own), omega (arith, low.1, own), omega (arith, range.0, its), omega (arith, range.1, its))
    at false to =
        let never : ◌≡◌ {A = Result (ℕ × ℕ) Fault} (Err WrongRecipient) (Ok (p, k)) =
        sym (ap (λ b. cond b (Ok (partner, number_in (header_of (segments_in text)))) (Err WrongRecipient)) to) ∙ e in
        cc

admitted_within : (P : Parties) (text : List ℕ) (fault : Option SyntaxFault) (p k : ℕ) → fault_of text ≡ fault → by_header P (header_of (segments_in text)) fault ≡ Ok (p, k) → IsWithin (length P.partners) p k
admitted_within P text (Some fault) p k is e = cc
admitted_within P text None p k is e = addressed_within P text (sender_of P (header_of (segments_in text))) (bytes_eq (recipient (header_of (segments_in text)) 1) P.terminal) p k is refl refl e

pub within : (P : Parties) (text : List ℕ) (p k : ℕ) → admission P text ≡ Ok (p, k) → IsWithin (length P.partners) p k
within P text p k e = admitted_within P text (fault_of text) p k refl e

-- ---- what was delivered

pub delivered_within : (content : SetupContent) (es : List Event) (p k : ℕ) (t : List ℕ) → first_text (deliveries_of content es) p k ≡ Some t → IsWithin (length (content_after content es).partners) p k
delivered_within content es p k t e =
    let now = content_after content es in
    subst (λ n. IsWithin n p k) (length-map now.partners _) (within (parties_in now) t p k (first_admitted es content p k t e))

pub text_within : (content : SetupContent) (es : List Event) (rows : Rows) (p k : ℕ) (t : List ℕ) → AreAfter content es rows → text_in rows p k ≡ Some t → IsWithin (length (content_after content es).partners) p k
text_within content es rows p k t are e = delivered_within content es p k t (sym (are.texts p k) ∙ e)

-- ---- accounts

pub next_in : (id : ℕ) (f : ℕ → ℕ) (accounts : List (List ℕ × PartnerKind)) (account : Partner) (i : ℕ) → i < length (accounts_from id f accounts) → slice_index_or (accounts_from id f accounts) i account ≡ account
    → account.next ≡ f account.id
next_in id f [] account i low e = absurd (omega arith)
next_in id f (a ∷ accounts) account zero low e = ap (λ (p : Partner). p.next) (sym e) ∙ ap (λ (p : Partner). f p.id) e
next_in id f (a ∷ accounts) account (suc i) low e = next_in (id + 1) f accounts account i (omega arith) e

pub next_follows : (content : SetupContent) (es : List Event) (rows : Rows) (account : Partner) → AreAfter content es rows → Contains rows.partners account → account.next ≡ run (deliveries_of content es) account.id + 1
next_follows content es rows account are there =
    let f : ℕ → ℕ = λ p. run (deliveries_of content es) p + 1 in
    let here : Contains (accounts_from 1 f (content_after content es).partners) account = subst (λ l. Contains l account) are.partners there in
    next_in 1 f (content_after content es).partners account here.0 here.1 here.2

-- ---- answers

other_bytes : (kept text : List ℕ) → (kept ≡ text → ⊥) → is_same_text kept text ≡ false
other_bytes kept text apart = at (is_same_text kept text) refl
  where
    at : (b : Bool) → is_same_text kept text ≡ b → is_same_text kept text ≡ false
    at true e = absurd (apart ((bytes_decides kept text).0 e))
    at false e = e

stands_other : (next k : ℕ) (kept text : List ℕ) → (kept ≡ text → ⊥) → standing_of next k (Some kept) text ≡ Other
stands_other next k kept text apart = ap (λ b. cond b Known Other) (other_bytes kept text apart)

stands_known : (next k : ℕ) (text : List ℕ) → standing_of next k (Some text) text ≡ Known
stands_known next k text = ap (λ b. cond b Known Other) ((bytes_decides text text).1 refl)

stands_early : (next k : ℕ) (text : List ℕ) → next < k → standing_of next k None text ≡ Early
stands_early next k text later = ap (λ b. cond b Early Next) (lt-ltb next k later)

stands_next : (next k : ℕ) (text : List ℕ) → k ≡ next → standing_of next k None text ≡ Next
stands_next next k text is = ap (λ b. cond b Early Next) (le-ltb next k (omega (arith, is)))

module _ (content : SetupContent) (es : List Event) (rows : Rows) (sent : List ℕ) (p k : ℕ) (are : AreAfter content es rows) (for : IsFor content es sent p k) where
  abbrev D : List Delivery
  D = deliveries_of content es

  abbrev text : List ℕ
  text = interchange_of sent

  abbrev after : Option (List ℕ)
  after = reply_of (taking_in newest content es) (opening_of (content_after content es)) (D ++ delivery p k text ∷ []) p k

  told : answer_model_of content es p k sent ≡ answer_by (standing_of (run D p + 1) k (text_in rows p k) text) (run D p + 1) (reply_in rows p k) after
  told = answered newest (taking_in newest content es) (content_after content es) D p k text rows are (within (parties_in (content_after content es)) text p k for).2

  by_standing : (o : Option (List ℕ)) (standing : Standing) → text_in rows p k ≡ o → standing_of (run D p + 1) k o text ≡ standing
      → answer_model_of content es p k sent ≡ answer_by standing (run D p + 1) (reply_in rows p k) after
  by_standing o standing is stands =
      told ∙ ap (λ o. answer_by (standing_of (run D p + 1) k o text) (run D p + 1) (reply_in rows p k) after) is ∙ ap (λ s. answer_by s (run D p + 1) (reply_in rows p k) after) stands

  pub answers : AnswersBy content es rows sent p k
  answers = record {
    clash = λ kept is apart. by_standing (Some kept) Other is (stands_other (run D p + 1) k kept text apart);
    repeat = λ reply is has. by_standing (Some text) Known is (stands_known (run D p + 1) k text) ∙ ap (λ o. answer_by Known (run D p + 1) o after) has;
    waits = λ is has. by_standing (Some text) Known is (stands_known (run D p + 1) k text) ∙ ap (λ o. answer_by Known (run D p + 1) o after) has;
    early = λ is later. by_standing None Early is (stands_early (run D p + 1) k text later);
    next = λ first later machine given is next from.
        by_standing None Next is (stands_next (run D p + 1) k text next)
        ∙ ap Taken (replied first later machine given is next from);
  }
    where
      replied : (first : TakenContent) (later : List TakenContent) (machine : MachineState) → IsGiven content → text_in rows p k ≡ None → k ≡ run D p + 1
          → AreTakenFrom p (texts_with rows p k text) k (machine_after content es) (first ∷ later) machine → after ≡ Some first.reply
      replied first later machine given is next from =
          first_reply newest (taking_in newest content es) (content_after content es) D p k text rows first later machine (sound_in newest content es) (goes_on content (content_after content es) es (delivery p k text) (numbered_more content es sent p k for))
          (given_after es content given) are is next from

-- ==== Accounted: The partners by whose interchanges visits were opened and closed have accounts.

-- ---- an order

abbrev pub AreAccounted : ℕ → TerminalState → Type 0
AreAccounted count state = (visit : VisitContent) → Contains state.visits visit → HasAccounts count visit

module _ (version : Version) (count : ℕ) where
  abbrev Keeps : StepResult → Type 0
  Keeps after = AreAccounted count after.state

  entered_keeps : (state : TerminalState) (way : Way) (source : Source) (entry : EntryContent) (r : Result (YardMap × Slot) Refusal) → source.partner ≤ count → AreAccounted count state → Keeps (after_entry_at state way source entry r)
  entered_keeps state way source entry (Err refusal) has are = are
  entered_keeps state way source entry (Ok (y, slot)) has are = λ visit inside. elim (Contains-push_cases state.visits (visit_of state way source entry slot) visit inside) [
    | inl old ↦ are visit old
    | inr same ↦ subst (HasAccounts count) same (record { came = has; left = tt })
  ]

  enters_keeps : (state : TerminalState) (way : Way) (source : Source) (entry : EntryContent) → source.partner ≤ count → AreAccounted count state → Keeps (after_entry version state way source entry)
  enters_keeps state way source entry has are =
      either Keeps (is_full state) (with_refusal state VisitLimit) (after_entry_at state way source entry (yard_with_entry version state.yard entry)) are (entered_keeps state way source entry (yard_with_entry version state.yard entry) has are)

  closed_has : (departure : Departure) (v : VisitContent) (is : Bool) → departure.source.partner ≤ count → HasAccounts count v → HasAccounts count (cond is (record v { departure = Some departure }) v)
  closed_has departure v true has old = record { came = old.came; left = has }
  closed_has departure v false has old = old

  departed_keeps : (state : TerminalState) (b : BoxNumber) (departure : Departure) (r : Result (YardMap × Placement) Refusal) → departure.source.partner ≤ count → AreAccounted count state → Keeps (after_departure_at state b departure r)
  departed_keeps state b departure (Err refusal) has are = are
  departed_keeps state b departure (Ok (y, s)) has are = λ visit inside.
      let row = mapped_at (closed_visit departure b) state.visits inside.0 visit (found_at (map (closed_visit departure b) state.visits) visit inside) in
      subst (HasAccounts count) row.2 (closed_has departure row.0 (is_open_visit b row.0) has (are row.0 (contained state.visits inside.0 row.0 row.1)))

  departs_keeps : (state : TerminalState) (way : Way) (source : Source) (b : BoxNumber) (moment : CivilMoment) → source.partner ≤ count → AreAccounted count state → Keeps (after_departure state way source b moment)
  departs_keeps state way source b moment has are = departed_keeps state b (departure_by way source moment) (yard_without state.yard b) has are

  moved_keeps : (state : TerminalState) (b : BoxNumber) (slot : Slot) (r : Result YardMap Refusal) → AreAccounted count state → Keeps (after_move_at state b slot r)
  moved_keeps state b slot (Ok y) are = are
  moved_keeps state b slot (Err refusal) are = are

  listed_keeps : (state : TerminalState) (call : CallContent) (side : Side) (b : BoxNumber) (port : List ℕ) (o : Option LineContent) → AreAccounted count state → Keeps (after_listing_at state call side b port o)
  listed_keeps state call side b port (Some line) are = are
  listed_keeps state call side b port None are = are

  then_keeps : (call : CallContent) (side : Side) (b : BoxNumber) (line : LineContent) (after : StepResult) (o : Outcome) → Keeps after → Keeps (then_line_done_at call side b line after o)
  then_keeps call side b line after (Refused reason) are = are
  then_keeps call side b line after o are = are

  state_keeps : (state : TerminalState) (call : CallContent) (side : Side) (b : BoxNumber) (line : LineContent) (after : StepResult) (s : LineState) → AreAccounted count state → Keeps after → Keeps (by_state state call side b line after s)
  state_keeps state call side b line after LineIsDone are then = are
  state_keeps state call side b line after Pending are then = then_keeps call side b line after after.outcome then

  line_keeps : (state : TerminalState) (call : CallContent) (side : Side) (b : BoxNumber) (o : Option LineContent) (after : StepResult) → AreAccounted count state → Keeps after → Keeps (by_line state call side b o after)
  line_keeps state call side b None after are then = are
  line_keeps state call side b (Some line) after are then = state_keeps state call side b line after line.state are then

  step_keeps : (state : TerminalState) (source : Source) (order : OrderContent) → source.partner ≤ count → AreAccounted count state → Keeps (step_by version state source order)
  step_keeps state source (gate_in entry) has are = either Keeps (is_in state entry.number) (with_refusal state AlreadyIn) (after_entry version state Gate source entry) are (enters_keeps state Gate source entry has are)
  step_keeps state source (gate_out b moment) has are = departs_keeps state Gate source b moment has are
  step_keeps state source (move b slot) has are = moved_keeps state b slot (yard_with_move (spares_empty version) state.yard b slot) are
  step_keeps state source (list_discharge call b) has are = listed_keeps state call Discharge b [] (line_of state call Discharge b) are
  step_keeps state source (list_load call b port) has are = listed_keeps state call Load b port (line_of state call Load b) are
  step_keeps state source (discharge call entry) has are =
      either Keeps (is_in state entry.number) (with_refusal state AlreadyIn) (by_line state call Discharge entry.number (line_of state call Discharge entry.number) (after_entry version state Ship source entry)) are
      (line_keeps state call Discharge entry.number (line_of state call Discharge entry.number) (after_entry version state Ship source entry) are (enters_keeps state Ship source entry has are))
  step_keeps state source (load call b moment) has are =
      either Keeps (is_in state b) (by_line state call Load b (line_of state call Load b) (after_departure state Ship source b moment)) (with_refusal state NotIn)
      (line_keeps state call Load b (line_of state call Load b) (after_departure state Ship source b moment) are (departs_keeps state Ship source b moment has are)) are

  -- ---- an interchange

  read_keeps : (state : TerminalState) (source : Source) (line : ReadLine) → source.partner ≤ count → AreAccounted count state → AreAccounted count (line_taken_by version state source line).0
  read_keeps state source (ordered order) has are = step_keeps state source order has are
  read_keeps state source (refused_line fault number) has are = are

  lines_keep : (state : TerminalState) (source : Source) (lines : List ReadLine) → source.partner ≤ count → AreAccounted count state → AreAccounted count (lines_taken_by version state source lines).0
  lines_keep state source [] has are = are
  lines_keep state source (line ∷ lines) has are = lines_keep (line_taken_by version state source line).0 source lines has (read_keeps state source line has are)

  cleared_keeps : (state : TerminalState) (list : Option (CallContent × Side)) → AreAccounted count state → AreAccounted count (clearing_of state list).state
  cleared_keeps state None are = are
  cleared_keeps state (Some list) are = are

  verdict_keeps : (state : TerminalState) (source : Source) (read : Result MessageContent MessageFault) → source.partner ≤ count → AreAccounted count state → AreAccounted count (verdict_on_by version state source read).0
  verdict_keeps state source (Ok content) has are = lines_keep (clearing_for state content).state source content.lines has (cleared_keeps state (list_replaced content) are)
  verdict_keeps state source (Err fault) has are = are

  messages_keep : (state : TerminalState) (codes : Codes) (source : Source) (opened : CivilMoment) (messages : List Message) → source.partner ≤ count → AreAccounted count state → AreAccounted count (messages_taken_by version state codes source opened messages).0
  messages_keep state codes source opened [] has are = are
  messages_keep state codes source opened (message ∷ messages) has are =
      messages_keep (verdict_on_by version state source (reading_by version codes opened message)).0 codes source opened messages has (verdict_keeps state source (reading_by version codes opened message) has are)

  at_keeps : (machine : MachineState) (partner : ℕ) (kind : PartnerKind) (segments : List Content) (opened : Option CivilMoment) → partner ≤ count → AreAccounted count machine.terminal → AreAccounted count (taken_at_by version machine partner kind segments opened).0.terminal
  at_keeps machine partner kind segments None has are = are
  at_keeps machine partner kind segments (Some opened) has are = messages_keep machine.terminal (codes_for machine kind) (source_in partner (header_of segments)) opened (messages_of segments) has are

  of_keeps : (machine : MachineState) (partner : ℕ) (segments : List Content) (kind : Option PartnerKind) → partner ≤ count → AreAccounted count machine.terminal → AreAccounted count (taken_of_by version machine partner segments kind).0.terminal
  of_keeps machine partner segments None has are = are
  of_keeps machine partner segments (Some kind) has are = at_keeps machine partner kind segments (preparation (header_of segments)) has are

-- ---- a machine

-- the same parties, whose accounts the visits have
pub record IsAccounted (parties : Parties) (machine : MachineState) : Type 0 where
  pub own : machine.parties ≡ parties
  pub visits : AreAccounted (length parties.partners) machine.terminal

admitted_partner : (parties : Parties) (text : List ℕ) (partner : ℕ) (found : Result (ℕ × ℕ) Fault) → admission parties text ≡ found → is_for partner found ≡ true → partner ≤ length parties.partners
admitted_partner parties text partner (Ok place) e is =
    let own : place.0 ≡ partner = eqb-true place.0 partner is in
    let range = within parties text place.0 place.1 e in
    omega (arith, own, range.1)
admitted_partner parties text partner (Err fault) e is = absurd cc

if_keeps : (count : ℕ) (machine : MachineState) (is : Bool) (taken : MachineState × List ℕ) → AreAccounted count machine.terminal → (is ≡ true → AreAccounted count taken.0.terminal) → AreAccounted count (cond is taken (nothing_taken machine)).0.terminal
if_keeps count machine true taken are then = then refl
if_keeps count machine false taken are then = are

pub interchange_keeps : (version : Version) (parties : Parties) (machine : MachineState) (partner : ℕ) (text : List ℕ) → IsAccounted parties machine → IsAccounted parties (interchange_taken_by version machine partner text).0
interchange_keeps version parties machine partner text are = record {
  own = ap (λ (m : MachineState). m.parties) (terminal_alone version machine partner text) ∙ are.own;
  visits = if_keeps (length parties.partners) machine (is_for partner (admission machine.parties text)) (taken_of_by version machine partner (segments_in text) (with_number machine.kinds partner)) are.visits
      (λ is.
      let has : partner ≤ length machine.parties.partners = admitted_partner machine.parties text partner (admission machine.parties text) refl is in
      of_keeps version (length parties.partners) machine partner (segments_in text) (with_number machine.kinds partner) (subst (λ (p : Parties). partner ≤ length p.partners) are.own has) are.visits);
}

-- ---- a run

abbrev KeepsAccounts : Taking MachineState → Type 0
KeepsAccounts taken = (parties : Parties) (machine : MachineState) (partner : ℕ) (text : List ℕ) → IsAccounted parties machine → IsAccounted parties (taken machine partner text).0

opening_accounted : (content : SetupContent) → IsAccounted (parties_in content) (opening_of content)
opening_accounted content = record { own = refl; visits = λ visit inside. (let bad : inside.0 < 0 = inside.1 in absurd (omega arith)) }

-- whatever was delivered, each partner by whose interchanges a visit was opened and closed has an account
pub state_accounted : (version : Version) (content : SetupContent) (es : List Event) (now : SetupContent) (D : List Delivery) (visit : VisitContent) → Contains (state (taking_in version content es) (opening_of now) D).terminal.visits visit
    → HasAccounts (length now.partners) visit
state_accounted version content es now D visit inside =
    let each : KeepsAccounts (taking_in version content es) =
    in_force KeepsAccounts interchange_keeps
    (λ before old new one two parties machine p text are. placed (λ taken. IsAccounted parties taken.0) before old new machine p text (one parties machine p text are) (two parties machine p text are)) version content es in
    subst (λ n. HasAccounts n visit) (length-map now.partners _) ((kept_over (taking_in version content es) (IsAccounted (parties_in now)) (each (parties_in now)) (opening_of now) D (opening_accounted now)).visits visit inside)
