-- What is taken, where it is known what partner it is of and that it is an interchange.
use Rattle.std.specs.{Result.{MatchResult, result_err}, Prelude.{◌&&◌, ◌||◌, slice_get}, List.find, Option.{option_and_then, option_map_or}, Str.bytes_eq}
use Rattle.std.proofs.Common.{◌≡◌, ℕ, suc, ◌==◌, true, false, cond, List, [], ◌∷◌, length, Some, Result, Ok, Err, OnOk, IfOk, eq-eqb, refl, sym, ap, subst, ◌∙◌, ◌≤◌, ◌++◌, Bool, Option, None, All, arith, not, codes, is_none, zero, ◌<◌}
use Rattle.std.proofs.{lemmas.List.{append-nil, length-map}, lemmas.Option.none-some, lemmas.List.Elements.{All-map, All-weaker}, lemmas.Bool.and_parts}
use Rattle.std.proofs.lemmas.Slice.Eq.{bytes_eq-Decides}
use Rattle.edi_syntax.specs.{Moments.CivilMoment, Text.Content, Interchange.segments_in, Envelope.{header_of, messages_of}, Header.preparation}
use Rattle.edi_syntax.specs.{Messages.Message, Envelopes.envelope_segments}
use Rattle.edi_messages.specs.{ErrorCodes.message_error, Message.{MessageContent, reading, LineContent, ordered, refused, judged_message, message_of}}
use Rattle.edi_messages.specs.{declared.codes.Codes.Codes, declared.message.MessageFault.MessageFault, Purposes.CallContent, Types.message_type_of}
use Rattle.edi_messages.{specs.{declared.codes.PartnerKind.PartnerKind, Forms.{IsFormedEntry, IsFormedOrder, OrdersWell}}, proofs.SurveyLemmas.purpose_there}
use Rattle.edi_messages.specs.Orders.{EntryContent, OrderContent, gate_in, gate_out, move, list_discharge, list_load, discharge, load}
use Rattle.edi_messages.specs.declared.message.MessageFault.TheVariants.{Function, OtherType, NoBgm, Code, NoTransport, NoEquipment, EquipmentCount, TooMany}
use Rattle.edi_messages.specs.Faults.{beginning, message_function, is_original, is_replacement, is_list, names_list, replaces_list, order_kind_of, purpose_of, applies, fault_of}
use Rattle.edi_messages.proofs.{OrderForms.{IsCivil, orders_are_formed}, WalkLemmas.heading_faultless}
use Rattle.partner_core.specs.Numbered.{with_number}
use Rattle.terminal_core.specs.{State.{TerminalState, IsWhole}, declared.change.Source.Source, Rows.ChangeContent, Versions.newest, declared.lines.Side.Side}
use Rattle.terminal_core.specs.{OneByOne.GoOneByOne, Changes.{TerminalRows, rows_of, rows_with_all, AreApplicable}, declared.change.Version.Version}
use Rattle.terminal_core.{specs.declared.change.Version.TheVariants.{First, Second, Third}, proofs.{Changing.turned_step, Removed.whole_step}}
use Rattle.terminal_core.proofs.{Applying.{all_appended, applicable_joined, applicable_step, goes_on}, Dropping.{drop_turned, drop_applicable, drop_whole}}
use Rattle.office_replies.specs.Messages.{rejected, ReportContent}
use Rattle.office_admission.specs.{declared.setup.Account.Account, declared.setup.Setup.Setup, Parties.{partner_kinds, parties_of}, Outcomes.IsAdmitted}
use Rattle.office_admission.specs.{Setups.{setup_content, account_contents}, Admission.{admission, is_for}, declared.admission.Admitted.Admitted}
use Rattle.office_admission.specs.{Tallies.{interchange_reports, reports_at, reports_of}, Grown.with_party, Growth.{with_account, TakenWithAccount}}
use Rattle.office_admission.specs.Taking.{MachineState, machine_of, rejection_by, verdict_on, messages_taken, verdict_changes, messages_changes, verdicts_of, with_messages, nothing_taken, reply_to, codes_for, source_in, taken_at, taken_of, changes_at_by, changes_of_by, interchange_taken, interchange_changes, clearing_of, clearing_for, list_replaced, line_taken_by, line_changes_by, lines_taken_by, lines_changes_by, verdict_on_by, verdict_changes_by, messages_taken_by, messages_changes_by, taken_at_by, taken_of_by, interchange_taken_by, interchange_changes_by}
use Rattle.office_admission.specs.Readings.{reading_by, unweighed_entry, unweighed_order, unweighed_line, unweighed_reading, is_list_replaced, applies_first, FirstVersionRejectsByItsFaults}
use Rattle.office_admission.proofs.{Contents.{same_parties, same_kinds}, Adding.{admitted_still, admitted_told}}
use Rattle.edi_messages.specs.declared.message.MessageFault.TheVariants as message

-- ---- a machine and its set-up

-- an equal set-up over the same terminal
pub copied_machine : (copy setup : Setup) (left terminal : TerminalState) → setup_content copy ≡ setup_content setup → left ≡ terminal → machine_of copy left ≡ machine_of setup terminal
copied_machine copy setup left terminal same same_terminal =
    ap (λ parties. record { parties = parties; codes = copy.codes; kinds = partner_kinds copy.partners.items; blocks = copy.blocks.items; visit_limit = copy.visit_limit; terminal = left }) (same_parties copy setup same)
    ∙ ap (λ codes. record { parties = parties_of setup; codes = codes; kinds = partner_kinds copy.partners.items; blocks = copy.blocks.items; visit_limit = copy.visit_limit; terminal = left }) (ap (λ content. content.codes) same)
    ∙ ap (λ kinds. record { parties = parties_of setup; codes = setup.codes; kinds = kinds; blocks = copy.blocks.items; visit_limit = copy.visit_limit; terminal = left }) (same_kinds copy.partners.items setup.partners.items (ap (λ content. content.partners) same))
    ∙ ap (λ blocks. record { parties = parties_of setup; codes = setup.codes; kinds = partner_kinds setup.partners.items; blocks = blocks; visit_limit = copy.visit_limit; terminal = left }) (ap (λ content. content.blocks) same)
    ∙ ap (λ limit. record { parties = parties_of setup; codes = setup.codes; kinds = partner_kinds setup.partners.items; blocks = setup.blocks.items; visit_limit = limit; terminal = left }) (ap (λ content. content.visit_limit) same)
    ∙ ap (machine_of setup) same_terminal

memory_has_none : (fault : MessageFault) (code : ℕ) → fault ≡ message.Memory → message_error fault ≡ Some code → ⊥
memory_has_none fault code is told = none-some code (sym (ap message_error is) ∙ told)

-- a fault that has a code is that of the message
pub rejected_on : (state : TerminalState) (source : Source) (read : Result MessageContent MessageFault) (fault : MessageFault) (code : ℕ) →
    MatchResult read (λ content. fault ≡ message.Memory) (λ lowest. fault ≡ lowest) → message_error fault ≡ Some code →
    (state ≡ (verdict_on state source read).0) × (rejected fault code ≡ (verdict_on state source read).1)
rejected_on state source (Ok content) fault code is told = absurd (memory_has_none fault code is told)
rejected_on state source (Err lowest) fault code is told = (refl, ap (rejection_by fault) (sym told) ∙ ap (λ f. rejection_by f (message_error f)) is)

-- a report for each message
pub reports_count : (state : TerminalState) (codes : Codes) (source : Source) (opened : CivilMoment) (messages : List Message) →
    length (messages_taken state codes source opened messages).1 ≡ length messages
reports_count state codes source opened [] = refl
reports_count state codes source opened (first ∷ messages) =
    ap suc (reports_count (verdict_on state source (reading codes opened first)).0 codes source opened messages)

pub verdicts_count : (reports : List ReportContent) → length (verdicts_of reports) ≡ length reports
verdicts_count [] = refl
verdicts_count (report ∷ reports) = ap suc (verdicts_count reports)

-- as many partners
pub same_count : (a b : List Account) → account_contents a ≡ account_contents b → length b ≤ 999 → length a ≤ 999
same_count a b same few = subst (λ n. n ≤ 999) (sym (length-map b _) ∙ ap length (sym same) ∙ length-map a _) few

-- a message that is rejected changes nothing
pub rejected_changes : (state : TerminalState) (source : Source) (read : Result MessageContent MessageFault) (fault : MessageFault) (code : ℕ) (changes : List ChangeContent) →
    MatchResult read (λ content. fault ≡ message.Memory) (λ lowest. fault ≡ lowest) → message_error fault ≡ Some code →
    changes ≡ changes ++ verdict_changes state source read
rejected_changes state source (Ok content) fault code changes is told = absurd (memory_has_none fault code is told)
rejected_changes state source (Err lowest) fault code changes is told = sym (append-nil changes)

-- ---- what is not taken

pub not_for : (machine : MachineState) (partner : ℕ) (text : List ℕ) → is_for partner (admission machine.parties text) ≡ false → interchange_taken machine partner text ≡ nothing_taken machine
not_for machine partner text other =
    ap (λ b. cond b (taken_of machine partner (segments_in text) (with_number machine.kinds partner)) (nothing_taken machine)) other

-- ---- what is taken

-- what is admitted is for its partner
for_itself : (setup : Setup) (text : List ℕ) (admitted : Admitted) → IsAdmitted setup text admitted → is_for admitted.partner (admission (parties_of setup) text) ≡ true
for_itself setup text admitted is = ap (is_for admitted.partner) is.admits ∙ eq-eqb admitted.partner admitted.partner refl

pub taken_is : (setup : Setup) (terminal : TerminalState) (text : List ℕ) (admitted : Admitted) (codes : Codes) (opened : CivilMoment) → IsAdmitted setup text admitted →
    codes.kind ≡ admitted.kind → codes.table ≡ setup.codes → preparation (header_of (envelope_segments admitted.envelope)) ≡ Some opened →
    interchange_taken (machine_of setup terminal) admitted.partner text
    ≡ with_messages (machine_of setup terminal) (envelope_segments admitted.envelope)
    (messages_taken terminal codes (source_in admitted.partner (header_of (envelope_segments admitted.envelope))) opened (messages_of (envelope_segments admitted.envelope)))
taken_is setup terminal text admitted codes opened is same_kind same_table prepared =
    let machine = machine_of setup terminal in
    let partner = admitted.partner in
    let segments = envelope_segments admitted.envelope in
    let same_codes : codes_for machine admitted.kind ≡ codes = sym (ap (λ k. record { kind = k; table = codes.table }) same_kind ∙ ap (λ t. record { kind = admitted.kind; table = t }) same_table) in
    ap (λ b. cond b (taken_of machine partner (segments_in text) (with_number machine.kinds partner)) (nothing_taken machine)) (for_itself setup text admitted is)
    ∙ ap (taken_of machine partner (segments_in text)) is.kind
    ∙ ap (λ (others : List Content). taken_at machine partner admitted.kind others (preparation (header_of others))) (sym is.segments)
    ∙ ap (taken_at machine partner admitted.kind segments) prepared
    ∙ ap (λ others. with_messages machine segments (messages_taken terminal others (source_in partner (header_of segments)) opened (messages_of segments))) same_codes

pub changes_are : (setup : Setup) (terminal : TerminalState) (text : List ℕ) (admitted : Admitted) (codes : Codes) (opened : CivilMoment) → IsAdmitted setup text admitted →
    codes.kind ≡ admitted.kind → codes.table ≡ setup.codes → preparation (header_of (envelope_segments admitted.envelope)) ≡ Some opened →
    interchange_changes (machine_of setup terminal) admitted.partner text
    ≡ messages_changes terminal codes (source_in admitted.partner (header_of (envelope_segments admitted.envelope))) opened (messages_of (envelope_segments admitted.envelope))
changes_are setup terminal text admitted codes opened is same_kind same_table prepared =
    let machine = machine_of setup terminal in
    let partner = admitted.partner in
    let segments = envelope_segments admitted.envelope in
    let same_codes : codes_for machine admitted.kind ≡ codes = sym (ap (λ k. record { kind = k; table = codes.table }) same_kind ∙ ap (λ t. record { kind = admitted.kind; table = t }) same_table) in
    ap (λ b. cond b (changes_of_by newest machine partner (segments_in text) (with_number machine.kinds partner)) []) (for_itself setup text admitted is)
    ∙ ap (changes_of_by newest machine partner (segments_in text)) is.kind
    ∙ ap (λ (others : List Content). changes_at_by newest machine partner admitted.kind others (preparation (header_of others))) (sym is.segments)
    ∙ ap (changes_at_by newest machine partner admitted.kind segments) prepared
    ∙ ap (λ others. messages_changes terminal others (source_in partner (header_of segments)) opened (messages_of segments)) same_codes

pub reports_are : (setup : Setup) (terminal : TerminalState) (text : List ℕ) (admitted : Admitted) (codes : Codes) (opened : CivilMoment) → IsAdmitted setup text admitted →
    codes.kind ≡ admitted.kind → codes.table ≡ setup.codes → preparation (header_of (envelope_segments admitted.envelope)) ≡ Some opened →
    interchange_reports (machine_of setup terminal) admitted.partner text
    ≡ (messages_taken terminal codes (source_in admitted.partner (header_of (envelope_segments admitted.envelope))) opened (messages_of (envelope_segments admitted.envelope))).1
reports_are setup terminal text admitted codes opened is same_kind same_table prepared =
    let machine = machine_of setup terminal in
    let partner = admitted.partner in
    let segments = envelope_segments admitted.envelope in
    let same_codes : codes_for machine admitted.kind ≡ codes = sym (ap (λ k. record { kind = k; table = codes.table }) same_kind ∙ ap (λ t. record { kind = admitted.kind; table = t }) same_table) in
    ap (λ b. cond b (reports_of machine partner (segments_in text) (with_number machine.kinds partner)) []) (for_itself setup text admitted is)
    ∙ ap (reports_of machine partner (segments_in text)) is.kind
    ∙ ap (λ (others : List Content). reports_at machine partner admitted.kind others (preparation (header_of others))) (sym is.segments)
    ∙ ap (reports_at machine partner admitted.kind segments) prepared
    ∙ ap (λ others. (messages_taken terminal others (source_in partner (header_of segments)) opened (messages_of segments)).1) same_codes

-- The machine as it is left, and the reply.
pub left_by : (setup : Setup) (old new : TerminalState) (segments : List Content) (taken : TerminalState × List ReportContent) (reply : List ℕ) →
    new ≡ taken.0 → reply ≡ reply_to segments taken.1 → with_messages (machine_of setup old) segments taken ≡ (machine_of setup new, reply)
left_by setup old new segments taken reply is_left is_reply =
    ap (λ t. (machine_of setup t, reply_to segments taken.1)) (sym is_left) ∙ ap (λ r. (machine_of setup new, r)) (sym is_reply)

-- The machine and the reply after a step on a copy of the terminal.
pub step_is : (setup : Setup) (copied terminal left : TerminalState) (now : MachineState) (partner other : ℕ) (text reply : List ℕ) →
    copied ≡ terminal → machine_of setup terminal ≡ now → other ≡ partner → interchange_taken (machine_of setup copied) other text ≡ (machine_of setup left, reply) →
    interchange_taken now partner text ≡ (machine_of setup left, reply)
step_is setup copied terminal left now partner other text reply is_copy is_now same taken =
    ap (λ m. interchange_taken m partner text) (sym is_now ∙ ap (machine_of setup) (sym is_copy))
    ∙ ap (λ p. interchange_taken (machine_of setup copied) p text) (sym same) ∙ taken

-- where nothing is taken
pub nothing_now : (setup : Setup) (terminal : TerminalState) (now : MachineState) (partner : ℕ) (text : List ℕ) → machine_of setup terminal ≡ now →
    interchange_taken (machine_of setup terminal) partner text ≡ nothing_taken (machine_of setup terminal) → interchange_taken now partner text ≡ nothing_taken now
nothing_now setup terminal now partner text is_now nothing = subst (λ m. interchange_taken m partner text ≡ nothing_taken m) is_now nothing

-- ---- results

pub on_ok : {T E : Type 0} (r : Result T E) (P : Type 0) → P → OnOk r P
on_ok (Ok value) P holds = holds
on_ok (Err error) P holds = tt

pub ok_both : {T E : Type 0} (r : Result T E) (P Q R : T → Type 0) → ((value : T) → P value → Q value → R value) → IfOk r P → IfOk r Q → IfOk r R
ok_both (Ok value) P Q R on holds more = on value holds more
ok_both (Err error) P Q R on holds more = tt

-- ==== Turning: What the changes of an interchange make of the rows.

-- the terminal that is left is whole, and the changes lead to it, each finding its row
pub record Leads (before : TerminalState) (changes : List ChangeContent) (after : TerminalState) : Type 0 where
  pub whole : IsWhole after
  pub turned : rows_with_all (rows_of before) changes ≡ rows_of after
  pub applicable : AreApplicable (rows_of before) changes

pub stays : (state : TerminalState) → IsWhole state → Leads state [] state
stays state whole = record { whole = whole; turned = refl; applicable = tt }

pub leads_on : (a b c : TerminalState) (first second : List ChangeContent) → Leads a first b → Leads b second c → Leads a (first ++ second) c
leads_on a b c first second one two = record {
  whole = two.whole;
  turned = all_appended (rows_of a) first second ∙ ap (λ (rows : TerminalRows). rows_with_all rows second) one.turned ∙ two.turned;
  applicable = (let P : TerminalRows → Type 0 = λ rows. AreApplicable rows second in applicable_joined (rows_of a) first second one.applicable (subst P (sym one.turned) two.applicable));
}

-- ---- a line, a message

pub line_leads : (version : Version) (state : TerminalState) (source : Source) (line : LineContent) → IsWhole state → Leads state (line_changes_by version state source line) (line_taken_by version state source line).0
line_leads version state source (ordered order) whole = record { whole = whole_step version state source order whole; turned = turned_step version state source order whole; applicable = applicable_step version state source order whole }
line_leads version state source (refused fault number) whole = stays state whole

lines_lead : (version : Version) (state : TerminalState) (source : Source) (lines : List LineContent) → IsWhole state → Leads state (lines_changes_by version state source lines) (lines_taken_by version state source lines).0
lines_lead version state source [] whole = stays state whole
lines_lead version state source (line ∷ lines) whole =
    let next : TerminalState = (line_taken_by version state source line).0 in
    let one = line_leads version state source line whole in
    leads_on state next (lines_taken_by version next source lines).0 (line_changes_by version state source line) (lines_changes_by version next source lines) one (lines_lead version next source lines one.whole)

cleared_leads : (state : TerminalState) (list : Option (CallContent × Side)) → IsWhole state → Leads state (clearing_of state list).changes (clearing_of state list).state
cleared_leads state None whole = stays state whole
cleared_leads state (Some list) whole = record { whole = drop_whole state list.0 list.1 whole; turned = drop_turned state list.0 list.1; applicable = drop_applicable state list.0 list.1 }

pub clearing_leads : (state : TerminalState) (content : MessageContent) → IsWhole state → Leads state (clearing_for state content).changes (clearing_for state content).state
clearing_leads state content whole = cleared_leads state (list_replaced content) whole

pub verdict_leads : (version : Version) (state : TerminalState) (source : Source) (read : Result MessageContent MessageFault) → IsWhole state → Leads state (verdict_changes_by version state source read) (verdict_on_by version state source read).0
verdict_leads version state source (Ok content) whole =
    let next : TerminalState = (clearing_for state content).state in
    let one = clearing_leads state content whole in
    leads_on state next (lines_taken_by version next source content.lines).0 (clearing_for state content).changes (lines_changes_by version next source content.lines) one (lines_lead version next source content.lines one.whole)
verdict_leads version state source (Err fault) whole = stays state whole

-- ---- an interchange

messages_lead : (version : Version) (state : TerminalState) (codes : Codes) (source : Source) (opened : CivilMoment) (messages : List Message) → IsWhole state
    → Leads state (messages_changes_by version state codes source opened messages) (messages_taken_by version state codes source opened messages).0
messages_lead version state codes source opened [] whole = stays state whole
messages_lead version state codes source opened (message ∷ messages) whole =
    let next : TerminalState = (verdict_on_by version state source (reading_by version codes opened message)).0 in
    let one = verdict_leads version state source (reading_by version codes opened message) whole in
    leads_on state next (messages_taken_by version next codes source opened messages).0 (verdict_changes_by version state source (reading_by version codes opened message)) (messages_changes_by version next codes source opened messages) one
    (messages_lead version next codes source opened messages one.whole)

abbrev LeadsTo : MachineState → List ChangeContent → MachineState × List ℕ → Type 0
LeadsTo machine changes taken = Leads machine.terminal changes taken.0.terminal

leads_at : (version : Version) (machine : MachineState) (partner : ℕ) (kind : PartnerKind) (segments : List Content) (opened : Option CivilMoment) → IsWhole machine.terminal
    → LeadsTo machine (changes_at_by version machine partner kind segments opened) (taken_at_by version machine partner kind segments opened)
leads_at version machine partner kind segments None whole = stays machine.terminal whole
leads_at version machine partner kind segments (Some opened) whole =
    messages_lead version machine.terminal (codes_for machine kind) (source_in partner (header_of segments)) opened (messages_of segments) whole

leads_of : (version : Version) (machine : MachineState) (partner : ℕ) (segments : List Content) (kind : Option PartnerKind) → IsWhole machine.terminal
    → LeadsTo machine (changes_of_by version machine partner segments kind) (taken_of_by version machine partner segments kind)
leads_of version machine partner segments None whole = stays machine.terminal whole
leads_of version machine partner segments (Some kind) whole = leads_at version machine partner kind segments (preparation (header_of segments)) whole

leads_if : (machine : MachineState) (is : Bool) (changes : List ChangeContent) (taken : MachineState × List ℕ) → IsWhole machine.terminal → LeadsTo machine changes taken
    → LeadsTo machine (cond is changes []) (cond is taken (nothing_taken machine))
leads_if machine true changes taken whole leads = leads
leads_if machine false changes taken whole leads = stays machine.terminal whole

pub interchange_leads_by : (version : Version) (machine : MachineState) (partner : ℕ) (text : List ℕ) → IsWhole machine.terminal → LeadsTo machine (interchange_changes_by version machine partner text) (interchange_taken_by version machine partner text)
interchange_leads_by version machine partner text whole =
    leads_if machine (is_for partner (admission machine.parties text)) (changes_of_by version machine partner (segments_in text) (with_number machine.kinds partner))
    (taken_of_by version machine partner (segments_in text) (with_number machine.kinds partner)) whole (leads_of version machine partner (segments_in text) (with_number machine.kinds partner) whole)

-- the numbers of visits go on one by one
pub interchange_goes_on : (version : Version) (machine : MachineState) (partner : ℕ) (text : List ℕ) → IsWhole machine.terminal → GoOneByOne 1 machine.terminal.visits → GoOneByOne 1 (interchange_taken_by version machine partner text).0.terminal.visits
interchange_goes_on version machine partner text whole go =
    let leads = interchange_leads_by version machine partner text whole in
    goes_on machine.terminal (interchange_taken_by version machine partner text).0.terminal (interchange_changes_by version machine partner text) leads.turned leads.applicable go

pub interchange_leads : (machine : MachineState) (partner : ℕ) (text : List ℕ) → IsWhole machine.terminal → LeadsTo machine (interchange_changes machine partner text) (interchange_taken machine partner text)
interchange_leads = interchange_leads_by newest

-- ==== Read: What a message orders by the rules of any version has its form.

entry_formed : (entry : EntryContent) → IsFormedEntry entry → IsFormedEntry (unweighed_entry entry)
entry_formed entry is = record { container = is.container; size_type = is.size_type; booking = is.booking; moment = is.moment; kilos = omega arith }

order_formed : (order : OrderContent) → IsFormedOrder order → IsFormedOrder (unweighed_order order)
order_formed (gate_in entry) is = entry_formed entry is
order_formed (gate_out number moment) is = is
order_formed (move number slot) is = is
order_formed (list_discharge call number) is = is
order_formed (list_load call number port) is = is
order_formed (discharge call entry) is = entry_formed entry is
order_formed (load call number moment) is = is

line_well : (line : LineContent) → OrdersWell line → OrdersWell (unweighed_line line)
line_well (ordered order) is = order_formed order is
line_well (refused fault number) is = is

abbrev ReadsWell : Result MessageContent MessageFault → Type 0
ReadsWell (Ok content) = All OrdersWell content.lines
ReadsWell (Err fault) = Unit {0}

unweighed_well : (read : Result MessageContent MessageFault) → ReadsWell read → ReadsWell (unweighed_reading read)
unweighed_well (Ok content) is = All-map OrdersWell unweighed_line content.lines (All-weaker OrdersWell (λ line. OrdersWell (unweighed_line line)) line_well content.lines is)
unweighed_well (Err fault) is = tt

unless_replaced : (is_list : Bool) (read : Result MessageContent MessageFault) → ReadsWell read → ReadsWell (cond is_list (Err Function) read)
unless_replaced true read is = tt
unless_replaced false read is = is

now_well : (codes : Codes) (opened : CivilMoment) (message : Message) (read : Result MessageContent MessageFault) → reading codes opened message ≡ read → IsCivil opened → ReadsWell read
now_well codes opened message (Ok content) e civil = orders_are_formed codes opened message content civil e
now_well codes opened message (Err fault) e civil = tt

read_well : (version : Version) (codes : Codes) (opened : CivilMoment) (message : Message) → ReadsWell (reading codes opened message) → ReadsWell (reading_by version codes opened message)
read_well First codes opened message is = unless_replaced (is_list_replaced codes message) (unweighed_reading (reading codes opened message)) (unweighed_well (reading codes opened message) is)
read_well Second codes opened message is = unweighed_well (reading codes opened message) is
read_well Third codes opened message is = is

pub orders_formed_by : (version : Version) (codes : Codes) (opened : CivilMoment) (message : Message) (content : MessageContent) → IsCivil opened → reading_by version codes opened message ≡ Ok content → All OrdersWell content.lines
orders_formed_by version codes opened message content civil e =
    subst ReadsWell e (read_well version codes opened message (now_well codes opened message (reading codes opened message) refl civil))

-- ==== FirstFaults: What the first version rejects a message for is the lowest of its faults.

-- ---- what is read, and its fault

read_fault : (codes : Codes) (opened : CivilMoment) (message : Message) (fault : Option MessageFault) → fault_of codes message ≡ fault → result_err (reading codes opened message) ≡ fault
read_fault codes opened message (Some fault) e =
    ap (λ f. result_err (judged_message f (option_map_or (λ purpose. Ok (message_of purpose opened message)) (purpose_of codes message) (Err Code)))) e
read_fault codes opened message None e =
    let found = purpose_there codes message (heading_faultless codes message e) in
    let is : reading codes opened message ≡ Ok (message_of found.0 opened message) = rw (e, found.1) refl in
    ap result_err is

unweighed_fault : (read : Result MessageContent MessageFault) → result_err (unweighed_reading read) ≡ result_err read
unweighed_fault (Ok content) = refl
unweighed_fault (Err fault) = refl

-- ---- a message that replaces a list

not_original : (text : List _) → bytes_eq text (codes "5") ≡ true → (bytes_eq text [] || bytes_eq text (codes "9")) ≡ false
not_original text e =
    let is : text ≡ codes "5" = (bytes_eq-Decides text (codes "5")).0 e in
    subst (λ t. (bytes_eq t [] || bytes_eq t (codes "9")) ≡ false) (sym is) refl

begins : (b : Option Content) → option_map_or is_replacement b false ≡ true → (is_none b ≡ false) × (not (option_map_or is_original b true) ≡ true)
begins None e = cc
begins (Some segment) e = (refl, ap not (not_original (message_function segment) e))

named : {A : Type 0} (p : A → Bool) (o : Option A) → option_map_or p o false ≡ true → is_none o ≡ false
named p None e = cc
named p (Some x) e = refl

typed : {A B : Type 0} (f : A → Option B) (o : Option A) → is_none (option_and_then f o) ≡ false → is_none o ≡ false
typed f None e = e
typed f (Some x) e = refl

-- the lowest of the faults, by whether each of the first four applies
abbrev lowest_with : Codes → Message → Bool → Bool → Bool → Bool → Option MessageFault
lowest_with codes message type begin code function =
    cond type (Some OtherType) (cond begin (Some NoBgm) (cond code (Some Code) (cond function (Some Function)
    (find (applies codes message) (NoTransport ∷ NoEquipment ∷ EquipmentCount ∷ TooMany ∷ [])))))

at_function : (codes : Codes) (message : Message) (type begin code function : Bool) → type ≡ false → begin ≡ false → code ≡ false → function ≡ true → lowest_with codes message type begin code function ≡ Some Function
at_function codes message true begin code function a b c d = cc
at_function codes message false true code function a b c d = cc
at_function codes message false false true function a b c d = cc
at_function codes message false false false true a b c d = refl
at_function codes message false false false false a b c d = cc

replaced : (codes : Codes) (message : Message) → is_list_replaced codes message ≡ true → find (applies_first codes message) (OtherType ∷ NoBgm ∷ Code ∷ Function ∷ NoTransport ∷ NoEquipment ∷ EquipmentCount ∷ TooMany ∷ []) ≡ Some Function
replaced codes message e =
    let parts = and_parts (replaces_list message) (names_list codes message) e in
    let begin = begins (beginning message) parts.0 in
    let code = named is_list (order_kind_of codes message) parts.1 in
    let type = typed _ (message_type_of message.header) code in
    at_function codes message _ _ _ _ type begin.0 code begin.1

or_false : (b : Bool) → (b || false) ≡ b
or_false true = refl
or_false false = refl

same_function : (b : Option Content) (names : Bool) → (option_map_or is_replacement b false && names) ≡ false
    → not (option_map_or (λ segment. is_original segment || (is_replacement segment && names)) b true) ≡ not (option_map_or is_original b true)
same_function None names e = refl
same_function (Some segment) names e = ap (λ more. not (is_original segment || more)) e ∙ ap not (or_false (is_original segment))

same_lowest : (codes : Codes) (message : Message) → is_list_replaced codes message ≡ false
    → fault_of codes message ≡ find (applies_first codes message) (OtherType ∷ NoBgm ∷ Code ∷ Function ∷ NoTransport ∷ NoEquipment ∷ EquipmentCount ∷ TooMany ∷ [])
same_lowest codes message e =
    ap (lowest_with codes message (applies codes message OtherType) (applies codes message NoBgm) (applies codes message Code)) (same_function (beginning message) (names_list codes message) e)

by_replaced : (codes : Codes) (opened : CivilMoment) (message : Message) (is : Bool) → is_list_replaced codes message ≡ is
    → result_err (cond is (Err Function) (unweighed_reading (reading codes opened message))) ≡ find (applies_first codes message) (OtherType ∷ NoBgm ∷ Code ∷ Function ∷ NoTransport ∷ NoEquipment ∷ EquipmentCount ∷ TooMany ∷ [])
by_replaced codes opened message true e = sym (replaced codes message e)
by_replaced codes opened message false e = unweighed_fault (reading codes opened message) ∙ read_fault codes opened message (fault_of codes message) refl ∙ same_lowest codes message e

pub first_version_faults : FirstVersionRejectsByItsFaults
first_version_faults codes opened message = by_replaced codes opened message (is_list_replaced codes message) refl

-- ==== Growing: An account more changes nothing of what is taken.

-- ---- the partner's kind

pub at_front : {A : Type 0} (xs ys : List A) (i : ℕ) → i < length xs → slice_get (xs ++ ys) i ≡ slice_get xs i
at_front [] ys i low = absurd (omega arith)
at_front (x ∷ xs) ys zero low = refl
at_front (x ∷ xs) ys (suc i) low = at_front xs ys i (omega arith)

pub kind_still : (kinds : List PartnerKind) (kind : PartnerKind) (partner : ℕ) → 1 ≤ partner → partner ≤ length kinds → with_number (kinds ++ kind ∷ []) partner ≡ with_number kinds partner
kind_still kinds kind zero low high = absurd (omega arith)
kind_still kinds kind (suc i) low high = at_front kinds (kind ∷ []) i (omega arith)

-- ---- taking

module _ (version : Version) (code : List ℕ) (kind : PartnerKind) where
  abbrev beside : MachineState × List ℕ → MachineState × List ℕ
  beside taken = (with_account code kind taken.0, taken.1)

  at_beside : (machine : MachineState) (partner : ℕ) (own : PartnerKind) (segments : List Content) (opened : Option CivilMoment)
      → taken_at_by version (with_account code kind machine) partner own segments opened ≡ beside (taken_at_by version machine partner own segments opened)
  at_beside machine partner own segments None = refl
  at_beside machine partner own segments (Some opened) = refl

  of_beside : (machine : MachineState) (partner : ℕ) (segments : List Content) (own : Option PartnerKind)
      → taken_of_by version (with_account code kind machine) partner segments own ≡ beside (taken_of_by version machine partner segments own)
  of_beside machine partner segments None = refl
  of_beside machine partner segments (Some own) = at_beside machine partner own segments (preparation (header_of segments))

  both_taken : (now before : Bool) (machine : MachineState) (x y : MachineState × List ℕ) → now ≡ true → before ≡ true → x ≡ beside y
      → cond now x (nothing_taken (with_account code kind machine)) ≡ beside (cond before y (nothing_taken machine))
  both_taken true true machine x y e f same = same
  both_taken true false machine x y e f same = cc
  both_taken false before machine x y e f same = cc

  taken_beside : (machine : MachineState) (partner number : ℕ) (text : List ℕ) → length machine.kinds ≡ length machine.parties.partners → admission machine.parties text ≡ Ok (partner, number)
      → interchange_taken_by version (with_account code kind machine) partner text ≡ beside (interchange_taken_by version machine partner text)
  taken_beside machine partner number text even is =
      let own : is_for partner (Ok (partner, number)) ≡ true = eq-eqb partner partner refl in
      let told = admitted_told machine.parties text (partner, number) is in
      both_taken (is_for partner (admission (with_party machine.parties code) text)) (is_for partner (admission machine.parties text)) machine _ _
      (ap (is_for partner) (admitted_still machine.parties code text (partner, number) is) ∙ own) (ap (is_for partner) is ∙ own)
      (ap (taken_of_by version (with_account code kind machine) partner (segments_in text)) (kind_still machine.kinds kind partner told.0 (omega (arith, told.1, even)))
      ∙ of_beside machine partner (segments_in text) (with_number machine.kinds partner))

pub taken_with_account : TakenWithAccount
taken_with_account version machine code kind partner number text even is = taken_beside version code kind machine partner number text even is
