-- What interchanges make of the visits: each goes on in its place, and earlier ones of a container are over.
use Rattle.std.proofs.{Common.{◌≡◌, ℕ, List, [], ◌∷◌, ◌++◌, Option, None, Some, Result, Ok, Err, refl, sym, subst, append_assoc}, lemmas.List.append-nil}
use Rattle.edi_syntax.specs.{Moments.CivilMoment, Text.Content, Interchange.segments_in, Envelope.{header_of, messages_of}, Header.preparation}
use Rattle.edi_syntax.specs.Messages.{Message}
use Rattle.edi_messages.specs.{declared.codes.Codes.Codes, declared.message.MessageFault.MessageFault, declared.codes.PartnerKind.PartnerKind}
use Rattle.edi_messages.specs.{Message.{LineContent, ordered, refused, MessageContent}, Purposes.CallContent}
use Rattle.partner_core.specs.{Deliveries.Delivery, Machine.Taking, Numbered.with_number, Order.{numbers_made_next, state, state_after, text_under}}
use Rattle.partner_core.proofs.Orders.{state-append}
use Rattle.terminal_core.specs.{declared.change.Source.Source, declared.change.Version.Version, declared.lines.Side.Side, State.{TerminalState, IsWhole}}
use Rattle.terminal_core.{specs.Versions.newest, proofs.{Changing.either, Removed.empty_whole}}
use Rattle.office_admission.specs.{Accounts.content_after, Admission.{admission, is_for}, Deliveries.deliveries_of, Given.IsGiven, Setups.SetupContent}
use Rattle.office_admission.{specs.Readings.reading_by, proofs.{Adding.{content_on, deliveries_on, given_after}, Takings.{clearing_leads, line_leads}}}
use Rattle.office_admission.specs.Taking.{MachineState, clearing_of, clearing_for, list_replaced, line_taken_by, lines_taken_by, verdict_on_by, messages_taken_by, codes_for, source_in, nothing_taken, taken_at_by, taken_of_by, interchange_taken_by}
use Rattle.office_replies.specs.Events.{Event}
use Rattle.office_history.{specs.{After.{empty_yard, machine_after, opening_of, taking_in}, Laws.HasNoMigration}, proofs.Places.{kept_over, placed, in_force}}
use Rattle.office_archives.proofs.Later.{same_terminal, taking_on}
use Rattle.office_archives.proofs.Moves.{AreOverBefore, GoOn, go_on_after, go_on_further, go_on_same, over_after, step_moves}

-- the terminal is whole, and of each container's visits the earlier ones are over
pub record IsOrdered (state : TerminalState) : Type 0 where
  pub whole : IsWhole state
  pub over : AreOverBefore state.visits

-- and so is what is left, in which each visit goes on
pub record Goes (old new : TerminalState) : Type 0 where
  pub ordered : IsOrdered new
  pub on : GoOn old.visits new.visits

stays : (state : TerminalState) → IsOrdered state → Goes state state
stays state is = record { ordered = is; on = go_on_same state.visits }

further : (a b c : TerminalState) → Goes a b → Goes b c → Goes a c
further a b c one two = record { ordered = two.ordered; on = go_on_further a.visits b.visits c.visits one.on two.on }

module _ (version : Version) (source : Source) where
  line_goes : (state : TerminalState) (line : LineContent) → IsOrdered state → Goes state (line_taken_by version state source line).0
  line_goes state (ordered order) is =
      let moves = step_moves version source state order in
      let leads = line_leads version state source (ordered order) is.whole in
      record {
        ordered = record { whole = leads.whole; over = over_after state.visits _ moves is.over (λ b. leads.whole.one_visit b) };
        on = go_on_after state.visits _ moves;
      }
  line_goes state (refused fault number) is = stays state is

  lines_go : (state : TerminalState) (lines : List LineContent) → IsOrdered state → Goes state (lines_taken_by version state source lines).0
  lines_go state [] is = stays state is
  lines_go state (line ∷ lines) is =
      let next : TerminalState = (line_taken_by version state source line).0 in
      let one = line_goes state line is in
      further state next (lines_taken_by version next source lines).0 one (lines_go next lines one.ordered)

  cleared_same : (state : TerminalState) (list : Option (CallContent × Side)) → (clearing_of state list).state.visits ≡ state.visits
  cleared_same state None = refl
  cleared_same state (Some list) = refl

  cleared_goes : (state : TerminalState) (content : MessageContent) → IsOrdered state → Goes state (clearing_for state content).state
  cleared_goes state content is =
      let visits = cleared_same state (list_replaced content) in
      record {
        ordered = record { whole = (clearing_leads state content is.whole).whole; over = subst AreOverBefore (sym visits) is.over };
        on = subst (GoOn state.visits) (sym visits) (go_on_same state.visits);
      }

  verdict_goes : (state : TerminalState) (read : Result MessageContent MessageFault) → IsOrdered state → Goes state (verdict_on_by version state source read).0
  verdict_goes state (Ok content) is =
      let next : TerminalState = (clearing_for state content).state in
      let one = cleared_goes state content is in
      further state next (lines_taken_by version next source content.lines).0 one (lines_go next content.lines one.ordered)
  verdict_goes state (Err fault) is = stays state is

  messages_go : (state : TerminalState) (codes : Codes) (opened : CivilMoment) (messages : List Message) → IsOrdered state → Goes state (messages_taken_by version state codes source opened messages).0
  messages_go state codes opened [] is = stays state is
  messages_go state codes opened (message ∷ messages) is =
      let next : TerminalState = (verdict_on_by version state source (reading_by version codes opened message)).0 in
      let one = verdict_goes state (reading_by version codes opened message) is in
      further state next (messages_taken_by version next codes source opened messages).0 one (messages_go next codes opened messages one.ordered)

module _ (version : Version) where
  at_goes : (machine : MachineState) (partner : ℕ) (kind : PartnerKind) (segments : List Content) (opened : Option CivilMoment) → IsOrdered machine.terminal → Goes machine.terminal (taken_at_by version machine partner kind segments opened).0.terminal
  at_goes machine partner kind segments None is = stays machine.terminal is
  at_goes machine partner kind segments (Some opened) is = messages_go version (source_in partner (header_of segments)) machine.terminal (codes_for machine kind) opened (messages_of segments) is

  of_goes : (machine : MachineState) (partner : ℕ) (segments : List Content) (kind : Option PartnerKind) → IsOrdered machine.terminal → Goes machine.terminal (taken_of_by version machine partner segments kind).0.terminal
  of_goes machine partner segments None is = stays machine.terminal is
  of_goes machine partner segments (Some kind) is = at_goes machine partner kind segments (preparation (header_of segments)) is

  interchange_goes : (machine : MachineState) (partner : ℕ) (text : List ℕ) → IsOrdered machine.terminal → Goes machine.terminal (interchange_taken_by version machine partner text).0.terminal
  interchange_goes machine partner text is =
      either (λ (taken : MachineState × List ℕ). Goes machine.terminal taken.0.terminal)
      (is_for partner (admission machine.parties text)) (taken_of_by version machine partner (segments_in text) (with_number machine.kinds partner)) (nothing_taken machine)
      (of_goes machine partner (segments_in text) (with_number machine.kinds partner) is) (stays machine.terminal is)

-- ---- runs

abbrev KeepsGoing : Taking MachineState → Type 0
KeepsGoing taken = (machine : MachineState) (partner : ℕ) (text : List ℕ) → IsOrdered machine.terminal → Goes machine.terminal (taken machine partner text).0.terminal

rules_go : (content : SetupContent) (es : List Event) → KeepsGoing (taking_in newest content es)
rules_go content es =
    in_force KeepsGoing interchange_goes
    (λ before old new one two machine p text is. placed (λ taken. Goes machine.terminal taken.0.terminal) before old new machine p text (one machine p text is) (two machine p text is)) newest content es

module _ (taken : Taking MachineState) (goes : KeepsGoing taken) where
  numbers_go : (texts : ℕ → ℕ → List ℕ) (numbers : List (ℕ × ℕ)) (machine : MachineState) → IsOrdered machine.terminal → Goes machine.terminal (state_after taken texts numbers machine).terminal
  numbers_go texts [] machine is = stays machine.terminal is
  numbers_go texts (e ∷ numbers) machine is =
      let next : MachineState = (taken machine e.0 (texts e.0 e.1)).0 in
      let one = goes machine e.0 (texts e.0 e.1) is in
      further machine.terminal next.terminal (state_after taken texts numbers next).terminal one (numbers_go texts numbers next one.ordered)

  deliveries_go : (opening : MachineState) (before later : List Delivery) → IsOrdered (state taken opening before).terminal → Goes (state taken opening before).terminal (state taken opening (before ++ later)).terminal
  deliveries_go opening before [] is = subst (λ l. Goes (state taken opening before).terminal (state taken opening l).terminal) (sym (append-nil before)) (stays (state taken opening before).terminal is)
  deliveries_go opening before (d ∷ later) is =
      let one : List Delivery = before ++ d ∷ [] in
      let step : Goes (state taken opening before).terminal (state taken opening one).terminal =
      subst (λ (m : MachineState). Goes (state taken opening before).terminal m.terminal) (sym (state-append taken opening before d)) (numbers_go (text_under one) (numbers_made_next before d) (state taken opening before) is) in
      subst (λ l. Goes (state taken opening before).terminal (state taken opening l).terminal) (append_assoc before (d ∷ []) later)
      (further (state taken opening before).terminal (state taken opening one).terminal (state taken opening (one ++ later)).terminal step (deliveries_go opening one later step.ordered))

-- ---- events

opening_ordered : (now : SetupContent) → IsGiven now → IsOrdered (opening_of now).terminal
opening_ordered now given = record { whole = empty_whole (empty_yard now) now.visit_limit given.plan refl; over = tt }

state_ordered : (content : SetupContent) (es : List Event) (now : SetupContent) (D : List Delivery) → IsGiven now → IsOrdered (state (taking_in newest content es) (opening_of now) D).terminal
state_ordered content es now D given =
    kept_over (taking_in newest content es) (λ machine. IsOrdered machine.terminal) (λ machine p text is. (rules_go content es machine p text is).ordered) (opening_of now) D (opening_ordered now given)

pub after_ordered : (content : SetupContent) (es : List Event) → IsGiven content → IsOrdered (machine_after content es).terminal
after_ordered content es given = state_ordered content es (content_after content es) (deliveries_of content es) (given_after es content given)

pub later_go_on : (content : SetupContent) (earlier later : List Event) → IsGiven content → HasNoMigration later → GoOn (machine_after content earlier).terminal.visits (machine_after content (earlier ++ later)).terminal.visits
later_go_on content earlier later given none =
    let now : SetupContent = content_after (content_after content earlier) later in
    let D : List Delivery = deliveries_of content earlier in
    let E : List Delivery = deliveries_of (content_after content earlier) later in
    let taking : Taking MachineState = taking_in newest content earlier in
    let goes = deliveries_go taking (rules_go content earlier) (opening_of now) D E (state_ordered content earlier now D (given_after later (content_after content earlier) (given_after earlier content given))) in
    let first : (state taking (opening_of now) D).terminal ≡ (machine_after content earlier).terminal = same_terminal content earlier later in
    let last : machine_after content (earlier ++ later) ≡ state taking (opening_of now) (D ++ E) = λ i. state (taking_on content earlier later none i) (opening_of (content_on earlier later content i)) (deliveries_on earlier later content i) in
    subst (λ (m : MachineState). GoOn (machine_after content earlier).terminal.visits m.terminal.visits) (sym last)
    (subst (λ (t : TerminalState). GoOn t.visits (state taking (opening_of now) (D ++ E)).terminal.visits) first goes.on)
