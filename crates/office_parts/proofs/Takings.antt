-- Interchanges at the store's own machine, beside the visits that were put away; and a run of them.
use Rattle.std.specs.{Prelude.◌==◌, List.AllByRecursion, Option.option_map}
use Rattle.std.proofs.Common.{◌≡◌, ℕ, ◌+◌, ◌<◌, ◌≤◌, List, [], ◌∷◌, ◌++◌, length, true, cond, None, Some, refl, sym, ap, subst, ◌∙◌, arith, Bool, false, Option, Result, Ok, Err, ap₂}
use Rattle.edi_syntax.specs.{Interchange.{interchange_of, segments_in}, Moments.CivilMoment, Text.Content, Envelope.{header_of, messages_of}, Messages.Message}
use Rattle.edi_syntax.specs.Header.{preparation}
use Rattle.partner_core.specs.{Deliveries.run, Numbered.with_number}
use Rattle.terminal_core.specs.{Rows.{VisitContent, ChangeContent}, State.{last_number, TerminalState, IsWhole}, Versions.newest, declared.lines.Side.Side}
use Rattle.terminal_core.specs.{Changes.{TerminalRows, standing_in, standing_of, rows_of}, declared.change.Source.Source, declared.change.Version.Version}
use Rattle.terminal_core.specs.Step.{number_of_visit}
use Rattle.office_admission.specs.{Accounts.content_after, Deliveries.deliveries_of, Given.IsGiven, Setups.SetupContent, Admission.{admission, is_for}}
use Rattle.office_admission.specs.Taking.{MachineState, number_ordered, before_report, clearing_of, clearing_for, ListClearing, list_replaced, line_taken_by, line_changes_by, lines_taken_by, lines_changes_by, verdict_on_by, verdict_changes_by, report_on, before_message, messages_taken_by, messages_changes_by, with_messages, codes_for, source_in, nothing_taken, taken_at_by, taken_of_by, interchange_taken_by, changes_at_by, changes_of_by, interchange_changes_by, interchange_taken}
use Rattle.office_admission.{specs.Readings.reading_by, proofs.Adding.given_after}
use Rattle.office_admission.proofs.Takings.{Leads, line_leads, clearing_leads, verdict_leads, interchange_leads_by}
use Rattle.office_replies.specs.{Events.{Event, delivered}, Messages.accepted}
use Rattle.office_rows.specs.{Effects.with_waiting, Rows.Rows, ByKey.{standing_by, lines_by}}
use Rattle.office_history.specs.{After.{machine_after, taking_in, AreAfter}, Cascade.{text_in, TakenContent, texts_with, with_run, AreTakenFrom}}
use Rattle.office_history.{specs.Laws.{IsFor, AddsRun}, proofs.{Afters.state_sound, Ground.account_adds_row, Lawful.{early_adds, next_adds}, Places.sound_in}}
use Rattle.office_parts.specs.{OwnTerminal.{own_visits, IsOverOrStays, MayStay, own_terminal, own_machine}, Archives.Hold}
use Rattle.office_parts.{specs.Parts.{Archived, nothing_archived, AreClosed, AreParts, ArePartsAfter}, proofs.Splits.{has_contained, open_kept, changes_spared}}
use Rattle.office_parts.specs.Laws.{RowsAreParts, EarlyAddsToParts, AccountAddsToParts, InterchangesAreTakenAlike, NextAddsToParts, OwnRowsGiveOwnTerminal}
use Rattle.office_parts.proofs.{Orders.{body_there, found_beyond, closed_within, steps_beside}, Moving.{differ, waiting_parts, account_parts, runs_parts}}
use Rattle.box6346.specs.declared.box_number.BoxNumber.{BoxNumber}
use Rattle.edi_messages.specs.{Message.{LineContent, ordered, refused, MessageContent}, Purposes.CallContent, declared.codes.Codes.Codes}
use Rattle.edi_messages.specs.{declared.message.MessageFault.MessageFault, declared.codes.PartnerKind.PartnerKind}
use Rattle.yard_core.specs.YardMap.{placement_of}

-- ==== Events: The parts after one event more.

-- ---- never closed

pub all_own : (visits : List VisitContent) → visits ≡ own_visits (λ number. true) visits
all_own [] = refl
all_own (v ∷ visits) = ap (λ l. v ∷ l) (all_own visits)

all_over : (visits : List VisitContent) → AllByRecursion (IsOverOrStays (λ number. true)) visits
all_over [] = tt
all_over (v ∷ visits) = ((λ gone. absurd (differ gone)), all_over visits)

all_stay : (visits : List VisitContent) → MayStay (λ number. true) visits
all_stay visits = record { over = all_over visits; later = λ number far. refl; newest = ap last_number (sym (all_own visits)) }

none_closed : AreClosed nothing_archived
none_closed = record { none_beyond = λ p n far. refl; replied = λ p n low high. absurd (omega (arith, low, high)) }

all_parts : (rows : Rows) → AreParts nothing_archived rows rows
all_parts rows = record {
  partners = refl;
  interchanges = refl;
  visits = all_own rows.visits;
  others = λ visit. ((λ has. absurd (has_contained [] visit has)), (λ both. absurd (differ both.1)));
  places = refl;
  lines = refl;
  settings = refl;
  blocks = refl;
}

none_held : Hold [] nothing_archived
none_held = record {
  texts = λ p n low high. absurd (omega (arith, low, high));
  replies = λ p n low high. absurd (omega (arith, low, high));
  none_beyond = λ p n far. refl;
  visits = λ visit has. absurd (has_contained [] visit has);
}

pub rows_are_parts : RowsAreParts
rows_are_parts content es rows after = (record { after = after; closed = none_closed; parts = all_parts rows; stay = all_stay rows.visits }, none_held)

-- ---- a text before its time, an account

-- beyond its partner's run a number is the store's
pub free_in_whole : (content : SetupContent) (es : List Event) (archived : Archived) (own whole : Rows) (p n : ℕ) → ArePartsAfter content es archived own whole → run (deliveries_of content es) p < n
    → text_in whole p n ≡ text_in own p n
free_in_whole content es archived own whole p n are far =
    let last = closed_within content es archived own whole p are in
    ap body_there (found_beyond archived own whole p n are.closed are.parts (omega (arith, far, last)))

pub early_parts : EarlyAddsToParts
early_parts content es archived own whole sent p n are for free early = record {
  after = (early_adds content es whole sent p n are.after for (free_in_whole content es archived own whole p n are (omega (arith, early)) ∙ free) early).rows_are;
  closed = are.closed;
  parts = waiting_parts archived own whole p n (interchange_of sent) are.parts;
  stay = are.stay;
}

pub account_more : AccountAddsToParts
account_more content es archived own whole code kind named id are is answer = record {
  after = (account_adds_row content es whole code kind named id are.after is answer).rows_are;
  closed = are.closed;
  parts = account_parts archived own whole id code named are.parts;
  stay = are.stay;
}

-- ---- a text that is next

-- the visits of rows are those of the terminal
pub visits_same : (content : SetupContent) (es : List Event) (rows : Rows) → AreAfter content es rows → rows.visits ≡ (machine_after content es).terminal.visits
visits_same content es rows after = ap (λ (r : TerminalRows). r.visits) after.terminal

pub record AddsAll (content : SetupContent) (es : List Event) (archived : Archived) (own whole : Rows) (sent : List ℕ) (p n : ℕ) (taken : List TakenContent) (machine : MachineState) : Type 0 where
  pub on_whole : AreTakenFrom p (texts_with whole p n (interchange_of sent)) n (machine_after content es) taken machine
  pub adds : AddsRun content es sent p (length taken) (with_run p n (interchange_of sent) taken whole) machine
  pub parts : ArePartsAfter content (es ++ delivered sent ∷ []) archived (with_run p n (interchange_of sent) taken own) (with_run p n (interchange_of sent) taken whole)

-- it is taken at the whole machine, and each that becomes next by it, by the texts of the store
pub next_parts : (content : SetupContent) (es : List Event) (archived : Archived) (own whole : Rows) (sent : List ℕ) (p n : ℕ) (taken : List TakenContent) (machine : MachineState) → IsGiven content → ArePartsAfter content es archived own whole →
    IsFor content es sent p n → text_in own p n ≡ None → n ≡ run (deliveries_of content es) p + 1 → AreTakenFrom p (texts_with own p n (interchange_of sent)) n (machine_after content es) taken machine
    → AddsAll content es archived own whole sent p n taken machine
next_parts content es archived own whole sent p n taken machine given are for free is from =
    let text = interchange_of sent in
    let last = closed_within content es archived own whole p are in
    let same : (k : ℕ) → n ≤ k → texts_with own p n text k ≡ texts_with whole p n text k =
    λ k beyond. ap (cond (n == k) (Some text)) (sym (free_in_whole content es archived own whole p k are (omega (arith, is, beyond)))) in
    let sound = state_sound (taking_in newest content es) (content_after content es) (deliveries_of content es) (sound_in newest content es) (given_after es content given) in
    let may : MayStay archived.stays (machine_after content es).terminal.visits = subst (MayStay archived.stays) (visits_same content es whole are.after) are.stay in
    let left = runs_parts archived p (texts_with own p n text) (texts_with whole p n text) n taken (machine_after content es) machine (with_waiting p n text own) (with_waiting p n text whole) same are.closed (omega (arith, is, last)) sound.whole may
    (waiting_parts archived own whole p n text are.parts) from in
    let adds = next_adds content es whole sent p n taken machine given are.after for (free_in_whole content es archived own whole p n are (omega (arith, is)) ∙ free) is left.from in
    record {
      on_whole = left.from;
      adds = adds;
      parts = record {
        after = adds.rows_are;
        closed = are.closed;
        parts = left.parts;
        stay = subst (MayStay archived.stays) (ap (λ (m : MachineState). m.terminal.visits) adds.machine_is ∙ sym (visits_same content (es ++ delivered sent ∷ []) (with_run p n text taken whole) adds.rows_are)) left.stays;
      };
    }

-- ==== Takings: Interchanges at the store's own machine, beside the visits that were put away; and a run of them.

module _ (stays : ℕ → Bool) (version : Version) where
  abbrev kept : TerminalState → TerminalState
  kept = own_terminal stays

  abbrev beside : {A : Type 0} → TerminalState × A → TerminalState × A
  beside taken = (kept taken.0, taken.1)

  -- what changes lead to may stay so
  may_led : (before after : TerminalState) (changes : List ChangeContent) → IsWhole before → MayStay stays before.visits → Leads before changes after → MayStay stays after.visits
  may_led before after changes whole may leads =
      let spares = changes_spared stays (rows_of before) changes may leads.applicable in
      subst (λ (r : TerminalRows). MayStay stays r.visits) leads.turned spares.1

  -- ---- a line, a message

  line_beside : (state : TerminalState) (source : Source) (line : LineContent) → IsWhole state → MayStay stays state.visits
      → (line_taken_by version (kept state) source line ≡ beside (line_taken_by version state source line)) × (line_changes_by version (kept state) source line ≡ line_changes_by version state source line)
  line_beside state source (ordered order) whole may =
      let same = steps_beside stays version state source order may in
      (ap (λ step. (step.state, record { number = Some (number_ordered order); outcome = step.outcome })) same, ap (λ step. step.changes) same)
  line_beside state source (refused fault number) whole may = (refl, refl)

  lines_beside : (state : TerminalState) (source : Source) (lines : List LineContent) → IsWhole state → MayStay stays state.visits
      → (lines_taken_by version (kept state) source lines ≡ beside (lines_taken_by version state source lines)) × (lines_changes_by version (kept state) source lines ≡ lines_changes_by version state source lines)
  lines_beside state source [] whole may = (refl, refl)
  lines_beside state source (line ∷ lines) whole may =
      let one = line_beside state source line whole may in
      let leads = line_leads version state source line whole in
      let rest = lines_beside (line_taken_by version state source line).0 source lines leads.whole (may_led state (line_taken_by version state source line).0 (line_changes_by version state source line) whole may leads) in (
        ap (λ t. before_report (lines_taken_by version t.0 source lines) t.1) one.0 ∙ ap (λ later. before_report later (line_taken_by version state source line).1) rest.0,
        ap₂ ◌++◌ one.1 (ap (λ t. lines_changes_by version t.0 source lines) one.0 ∙ rest.1),
      )

  abbrev cleared_beside : ListClearing → ListClearing
  cleared_beside left = record { state = kept left.state; dropped = left.dropped; changes = left.changes }

  clears_beside : (state : TerminalState) (list : Option (CallContent × Side)) → clearing_of (kept state) list ≡ cleared_beside (clearing_of state list)
  clears_beside state None = refl
  clears_beside state (Some list) = refl

  verdict_beside : (state : TerminalState) (source : Source) (read : Result MessageContent MessageFault) → IsWhole state → MayStay stays state.visits
      → (verdict_on_by version (kept state) source read ≡ beside (verdict_on_by version state source read)) × (verdict_changes_by version (kept state) source read ≡ verdict_changes_by version state source read)
  verdict_beside state source (Err fault) whole may = (refl, refl)
  verdict_beside state source (Ok content) whole may =
      let left : ListClearing = clearing_for state content in
      let clears = clears_beside state (list_replaced content) in
      let leads = clearing_leads state content whole in
      let rest = lines_beside left.state source content.lines leads.whole (may_led state left.state left.changes whole may leads) in (
        ap (λ (c : ListClearing). ((lines_taken_by version c.state source content.lines).0, accepted c.dropped (lines_taken_by version c.state source content.lines).1)) clears
            ∙ ap (λ t. (t.0, accepted left.dropped t.1)) rest.0,
        ap (λ (c : ListClearing). c.changes ++ lines_changes_by version c.state source content.lines) clears ∙ ap (λ l. left.changes ++ l) rest.1,
      )

  -- ---- an interchange

  messages_beside : (state : TerminalState) (codes : Codes) (source : Source) (opened : CivilMoment) (messages : List Message) → IsWhole state → MayStay stays state.visits
      → (messages_taken_by version (kept state) codes source opened messages ≡ beside (messages_taken_by version state codes source opened messages))
      × (messages_changes_by version (kept state) codes source opened messages ≡ messages_changes_by version state codes source opened messages)
  messages_beside state codes source opened [] whole may = (refl, refl)
  messages_beside state codes source opened (message ∷ messages) whole may =
      let read = reading_by version codes opened message in
      let one = verdict_beside state source read whole may in
      let leads = verdict_leads version state source read whole in
      let rest = messages_beside (verdict_on_by version state source read).0 codes source opened messages leads.whole (may_led state (verdict_on_by version state source read).0 (verdict_changes_by version state source read) whole may leads) in (
        ap (λ t. before_message (messages_taken_by version t.0 codes source opened messages) (report_on message t.1)) one.0
            ∙ ap (λ later. before_message later (report_on message (verdict_on_by version state source read).1)) rest.0,
        ap₂ ◌++◌ one.1 (ap (λ t. messages_changes_by version t.0 codes source opened messages) one.0 ∙ rest.1),
      )

  abbrev machine_beside : MachineState × List ℕ → MachineState × List ℕ
  machine_beside taken = (own_machine stays taken.0, taken.1)

  at_beside : (machine : MachineState) (partner : ℕ) (kind : PartnerKind) (segments : List Content) (opened : Option CivilMoment) → IsWhole machine.terminal → MayStay stays machine.terminal.visits
      → (taken_at_by version (own_machine stays machine) partner kind segments opened ≡ machine_beside (taken_at_by version machine partner kind segments opened))
      × (changes_at_by version (own_machine stays machine) partner kind segments opened ≡ changes_at_by version machine partner kind segments opened)
  at_beside machine partner kind segments None whole may = (refl, refl)
  at_beside machine partner kind segments (Some opened) whole may =
      let all = messages_beside machine.terminal (codes_for machine kind) (source_in partner (header_of segments)) opened (messages_of segments) whole may in
      (ap (with_messages (own_machine stays machine) segments) all.0, all.1)

  of_beside : (machine : MachineState) (partner : ℕ) (segments : List Content) (kind : Option PartnerKind) → IsWhole machine.terminal → MayStay stays machine.terminal.visits
      → (taken_of_by version (own_machine stays machine) partner segments kind ≡ machine_beside (taken_of_by version machine partner segments kind))
      × (changes_of_by version (own_machine stays machine) partner segments kind ≡ changes_of_by version machine partner segments kind)
  of_beside machine partner segments None whole may = (refl, refl)
  of_beside machine partner segments (Some kind) whole may = at_beside machine partner kind segments (preparation (header_of segments)) whole may

  if_beside : (is : Bool) (machine : MachineState) (x y : MachineState × List ℕ) → x ≡ machine_beside y → cond is x (nothing_taken (own_machine stays machine)) ≡ machine_beside (cond is y (nothing_taken machine))
  if_beside true machine x y e = e
  if_beside false machine x y e = refl

pub goes_beside : InterchangesAreTakenAlike
goes_beside stays version machine partner text whole may =
    let all = of_beside stays version machine partner (segments_in text) (with_number machine.kinds partner) whole may in
    let is : Bool = is_for partner (admission machine.parties text) in
    record {
      taken = if_beside stays version is machine _ _ all.0;
      changes = ap (λ l. cond is l []) all.1;
      stay = may_led stays version machine.terminal (interchange_taken_by version machine partner text).0.terminal (interchange_changes_by version machine partner text) whole may (interchange_leads_by version machine partner text whole);
    }

-- ---- a run

record Led (stays : ℕ → Bool) (p : ℕ) (texts : ℕ → Option (List ℕ)) (number : ℕ) (machine : MachineState) (taken : List TakenContent) (there : MachineState) : Type 0 where
  machine' : MachineState
  from : AreTakenFrom p texts number machine taken machine'
  beside : there ≡ own_machine stays machine'

led : (stays : ℕ → Bool) (p : ℕ) (texts : ℕ → Option (List ℕ)) (number : ℕ) (machine : MachineState) (taken : List TakenContent) (there : MachineState) → IsWhole machine.terminal → MayStay stays machine.terminal.visits
    → AreTakenFrom p texts number (own_machine stays machine) taken there → Led stays p texts number machine taken there
led stays p texts number machine [] there whole may from = record { machine' = machine; from = (from.0, refl); beside = from.1 }
led stays p texts number machine (t ∷ taken) there whole may from =
    let text : List ℕ = from.0 in
    let one = goes_beside stays newest machine p text whole may in
    let next : MachineState = (interchange_taken machine p text).0 in
    let on : AreTakenFrom p texts (number + 1) (own_machine stays next) taken there =
    subst (λ (m : MachineState × List ℕ). AreTakenFrom p texts (number + 1) m.0 taken there) one.taken from.5 in
    let rest = led stays p texts (number + 1) next taken there (interchange_leads_by newest machine p text whole).whole one.stay on in
    record {
      machine' = rest.machine';
      from = (text, from.1, from.2, from.3 ∙ ap (λ (m : MachineState × List ℕ). m.1) one.taken, from.4 ∙ one.changes, rest.from);
      beside = rest.beside;
    }

pub next_adds_to_parts : NextAddsToParts
next_adds_to_parts content es archived own whole sent p n taken there given are for free is from =
    let sound = state_sound (taking_in newest content es) (content_after content es) (deliveries_of content es) (sound_in newest content es) (given_after es content given) in
    let may : MayStay archived.stays (machine_after content es).terminal.visits = subst (MayStay archived.stays) (visits_same content es whole are.after) are.stay in
    let run = led archived.stays p (texts_with own p n (interchange_of sent)) n (machine_after content es) taken there sound.whole may from in
    let all = next_parts content es archived own whole sent p n taken run.machine' given are for free is run.from in
    record { machine = run.machine'; on_whole = all.on_whole; adds = all.adds; parts = all.parts; beside = run.beside }

-- ---- an opening

pub own_rows : OwnRowsGiveOwnTerminal
own_rows content es archived own whole are =
    let state : TerminalState = (machine_after content es).terminal in
    let parts = are.parts in
    let after = are.after in
    let may : MayStay archived.stays state.visits = subst (MayStay archived.stays) (visits_same content es whole after) are.stay in
    let visits : own.visits ≡ (own_terminal archived.stays state).visits = parts.visits ∙ ap (λ (r : TerminalRows). (own_terminal archived.stays (record state { visits = r.visits })).visits) after.terminal in
    let places : (container : BoxNumber) → standing_by own.places container ≡ standing_of (own_terminal archived.stays state) container =
    λ container. ap (λ l. standing_by l container) (sym parts.places) ∙ ap (λ (r : TerminalRows). r.places container) after.terminal
    ∙ ap (λ o. option_map (λ s. standing_in (number_of_visit o) s.slot) (placement_of state.yard.boxes container)) (sym (open_kept archived.stays container state.visits may.over)) in
    let lines : lines_by own.lines ≡ state.lines = ap lines_by (sym parts.lines) ∙ ap (λ (r : TerminalRows). r.lines) after.terminal in
    λ i. record { visits = visits i; places = λ container. places container i; lines = lines i }
