-- What an interchange leaves is well formed.
use Rattle.std.{specs.{Prelude.{codes, ◌++◌, ◌==◌}, Option.{option_and_then, unwrap_or}}, proofs.{lemmas.Bool.{and_parts, leb-true}, lemmas.List.length-map}}
use Rattle.std.proofs.Common.{◌≡◌, ℕ, zero, suc, ◌<◌, ◌≤◌, nat_le, List, [], ◌∷◌, length, Bool, true, false, cond, ◌&&◌, Option, None, Some, is_none, Result, Ok, Err, All, refl, arith, sym, ap, subst, ◌∙◌}
use Rattle.std.proofs.{lemmas.List.Elements.{All-head, All-tail}, lemmas.Option.slice_get_within}
use Rattle.edi_syntax.specs.{Moments.{CivilMoment, moment_of}, Text.Content, Interchange.segments_in, Envelope.{header_of, messages_of}, Messages.Message}
use Rattle.edi_syntax.specs.{Faults.{applies, fault_of}, Header.{control_reference, control_number, preparation, preparation_date, preparation_time}}
use Rattle.edi_syntax.specs.{Numbers.{number_of, as_control_number}, declared.interchange.SyntaxFault.SyntaxFault}
use Rattle.edi_messages.specs.{Forms.OrdersWell, Message.{LineContent, ordered, refused, MessageContent}, Purposes.CallContent, declared.codes.Codes.Codes}
use Rattle.edi_messages.specs.{declared.message.MessageFault.MessageFault, declared.codes.PartnerKind.PartnerKind}
use Rattle.edi_messages.proofs.OrderForms.{IfThere, IsCivil, text_civil, if_civil}
use Rattle.partner_core.specs.{Numbered.with_number, ByPlace.taken_by_place, Deliveries.{Delivery, run}, Machine.Taking}
use Rattle.partner_core.specs.Order.{text_under, order, state_after, state}
use Rattle.terminal_core.specs.{Versions.newest, declared.lines.Side.Side, declared.change.Source.Source, Forms.{IsSource, IsWellFormed}}
use Rattle.terminal_core.{specs.{State.{TerminalState, IsWhole, empty_state}, declared.change.Version.Version}, proofs.Applying.{formed_step, empty_formed}}
use Rattle.terminal_core.proofs.{Dropping.drop_formed, Removed.empty_whole}
use Rattle.office_admission.specs.{Parties.Parties, Admission.{admission, by_header, is_for}, Readings.reading_by, declared.setup.Setup.Setup}
use Rattle.office_admission.specs.Taking.{MachineState, clearing_of, clearing_for, list_replaced, line_taken_by, lines_taken_by, verdict_on_by, messages_taken_by, codes_for, source_in, nothing_taken, taken_at_by, taken_of_by, interchange_taken_by, interchange_taken, machine_of, interchange_changes}
use Rattle.office_admission.specs.TakingLaws.{cascade_changes, IsSoundMachine, KeepsSound, ChangesTerminalAlone}
use Rattle.office_admission.proofs.Takings.{orders_formed_by, line_leads, clearing_leads, verdict_leads, Leads, stays, leads_on, interchange_leads_by, interchange_leads, interchange_goes_on}
use Rattle.yard_core.specs.{Plan.IsPlan, YardMap.YardMap}
use Rattle.edi_syntax.specs.declared.interchange.SyntaxFault.TheVariants as syntax
use Rattle.std.specs.FinMap as finite_map

-- ---- the header

abbrev IsControl : ℕ → Type 0
IsControl number = (1 ≤ number) × (number ≤ 999999999)

in_range : (n : ℕ) (is : Bool) → (nat_le 1 n && nat_le n 999999999) ≡ is → IfThere IsControl (cond is (Some n) None)
in_range n true e = let parts = and_parts (nat_le 1 n) (nat_le n 999999999) e in (leb-true 1 n parts.0, leb-true n 999999999 parts.1)
in_range n false e = tt

as_control : (o : Option ℕ) → IfThere IsControl (option_and_then as_control_number o)
as_control None = tt
as_control (Some n) = in_range n (nat_le 1 n && nat_le n 999999999) refl

control_in_range : (header : Content) → IfThere IsControl (control_number header)
control_in_range header = as_control (number_of 14 (control_reference header))

unwrapped : (o : Option ℕ) → is_none o ≡ false → IfThere IsControl o → IsControl (unwrap_or o 0)
unwrapped None there its = cc
unwrapped (Some n) there its = its

preparation_civil : (header : Content) → IfThere IsCivil (preparation header)
preparation_civil header =
    if_civil (length (preparation_date header) == 6 && length (preparation_time header) == 4) (moment_of (codes "20" ++ preparation_date header ++ preparation_time header))
    (text_civil (codes "20" ++ preparation_date header ++ preparation_time header))

past_first : (b : Bool) (fault : SyntaxFault) (o : Option SyntaxFault) → cond b (Some fault) o ≡ None → (b ≡ false) × (o ≡ None)
past_first true fault o e = absurd cc
past_first false fault o e = (refl, e)

-- a text without fault has a number
has_number : (text : List ℕ) → fault_of text ≡ None → is_none (control_number (header_of (segments_in text))) ≡ false
has_number text none =
    let one = past_first (applies text syntax.TooLong) syntax.TooLong _ none in
    let two = past_first (applies text syntax.Service) syntax.Service _ one.1 in
    let three = past_first (applies text syntax.Segment) syntax.Segment _ two.1 in
    let four = past_first (applies text syntax.NoEnvelope) syntax.NoEnvelope _ three.1 in
    let five = past_first (applies text syntax.Group) syntax.Group _ four.1 in
    let six = past_first (applies text syntax.Version) syntax.Version _ five.1 in
    (past_first (applies text syntax.Number) syntax.Number _ six.1).0

-- which is one of an interchange
pub number_within : (text : List ℕ) → fault_of text ≡ None → (1 ≤ unwrap_or (control_number (header_of (segments_in text))) 0) × (unwrap_or (control_number (header_of (segments_in text))) 0 ≤ 999999999)
number_within text none =
    let header : Content = header_of (segments_in text) in
    unwrapped (control_number header) (has_number text none) (control_in_range header)

-- what is admitted has no fault
faultless : (parties : Parties) (header : Content) (o : Option SyntaxFault) (partner : ℕ) → is_for partner (by_header parties header o) ≡ true → o ≡ None
faultless parties header None partner e = refl
faultless parties header (Some fault) partner e = cc

partner_in : (kinds : List PartnerKind) (partner : ℕ) (kind : PartnerKind) → with_number kinds partner ≡ Some kind → (1 ≤ partner) × (partner ≤ length kinds)
partner_in kinds zero kind e = cc
partner_in kinds (suc i) kind e = let within : i < length kinds = slice_get_within kinds i kind e in (omega arith, omega arith)

-- ---- lines and messages

line_formed : (version : Version) (state : TerminalState) (source : Source) (line : LineContent) → IsWhole state → IsWellFormed state → IsSource source → OrdersWell line → IsWellFormed (line_taken_by version state source line).0
line_formed version state source (ordered order) whole formed from its = formed_step version state source order whole formed from its
line_formed version state source (refused fault number) whole formed from its = formed

lines_formed : (version : Version) (state : TerminalState) (source : Source) (lines : List LineContent) → IsWhole state → IsWellFormed state → IsSource source → All OrdersWell lines → IsWellFormed (lines_taken_by version state source lines).0
lines_formed version state source [] whole formed from its = formed
lines_formed version state source (line ∷ lines) whole formed from its =
    lines_formed version (line_taken_by version state source line).0 source lines (line_leads version state source line whole).whole (line_formed version state source line whole formed from (All-head OrdersWell line lines its)) from
    (All-tail OrdersWell line lines its)

cleared_formed : (state : TerminalState) (list : Option (CallContent × Side)) → IsWellFormed state → IsWellFormed (clearing_of state list).state
cleared_formed state None formed = formed
cleared_formed state (Some list) formed = drop_formed state list.0 list.1 formed

verdict_formed : (version : Version) (state : TerminalState) (codes : Codes) (source : Source) (opened : CivilMoment) (message : Message) (read : Result MessageContent MessageFault) → reading_by version codes opened message ≡ read → IsWhole state → IsWellFormed state → IsSource source
    → IsCivil opened → IsWellFormed (verdict_on_by version state source read).0
verdict_formed version state codes source opened message (Ok content) e whole formed from civil =
    lines_formed version (clearing_for state content).state source content.lines (clearing_leads state content whole).whole (cleared_formed state (list_replaced content) formed) from (orders_formed_by version codes opened message content civil e)
verdict_formed version state codes source opened message (Err fault) e whole formed from civil = formed

messages_formed : (version : Version) (state : TerminalState) (codes : Codes) (source : Source) (opened : CivilMoment) (messages : List Message) → IsWhole state → IsWellFormed state → IsSource source → IsCivil opened
    → IsWellFormed (messages_taken_by version state codes source opened messages).0
messages_formed version state codes source opened [] whole formed from civil = formed
messages_formed version state codes source opened (message ∷ messages) whole formed from civil =
    messages_formed version (verdict_on_by version state source (reading_by version codes opened message)).0 codes source opened messages (verdict_leads version state source (reading_by version codes opened message) whole).whole
    (verdict_formed version state codes source opened message (reading_by version codes opened message) refl whole formed from civil) from civil

-- ---- an interchange

formed_at : (version : Version) (machine : MachineState) (partner : ℕ) (kind : PartnerKind) (segments : List Content) (opened : Option CivilMoment) → IfThere IsCivil opened → IsWhole machine.terminal → IsWellFormed machine.terminal
    → IsSource (source_in partner (header_of segments)) → IsWellFormed (taken_at_by version machine partner kind segments opened).0.terminal
formed_at version machine partner kind segments None civil whole formed from = formed
formed_at version machine partner kind segments (Some opened) civil whole formed from =
    messages_formed version machine.terminal (codes_for machine kind) (source_in partner (header_of segments)) opened (messages_of segments) whole formed from civil

formed_of : (version : Version) (machine : MachineState) (partner : ℕ) (text : List ℕ) (kind : Option PartnerKind) → length machine.kinds ≤ 999 → IsWhole machine.terminal → IsWellFormed machine.terminal → fault_of text ≡ None
    → with_number machine.kinds partner ≡ kind → IsWellFormed (taken_of_by version machine partner (segments_in text) kind).0.terminal
formed_of version machine partner text None few whole formed none e = formed
formed_of version machine partner text (Some kind) few whole formed none e =
    let header : Content = header_of (segments_in text) in
    let number : IsControl (unwrap_or (control_number header) 0) = number_within text none in
    let within = partner_in machine.kinds partner kind e in
    let low : 1 ≤ partner = within.0 in
    let high : partner ≤ length machine.kinds = within.1 in
    formed_at version machine partner kind (segments_in text) (preparation header) (preparation_civil header) whole formed
    (record { partner_low = low; partner_high = omega arith; number_low = number.0; number_high = number.1 })

formed_if : (machine : MachineState) (is : Bool) (taken : MachineState × List ℕ) → IsWellFormed machine.terminal → (is ≡ true → IsWellFormed taken.0.terminal) → IsWellFormed (cond is taken (nothing_taken machine)).0.terminal
formed_if machine true taken formed then = then refl
formed_if machine false taken formed then = formed

pub interchange_formed_by : (version : Version) (machine : MachineState) (partner : ℕ) (text : List ℕ) → length machine.kinds ≤ 999 → IsWhole machine.terminal → IsWellFormed machine.terminal → IsWellFormed (interchange_taken_by version machine partner text).0.terminal
interchange_formed_by version machine partner text few whole formed =
    formed_if machine (is_for partner (admission machine.parties text)) (taken_of_by version machine partner (segments_in text) (with_number machine.kinds partner)) formed
    (λ is. formed_of version machine partner text (with_number machine.kinds partner) few whole formed (faultless machine.parties (header_of (segments_in text)) (fault_of text) partner is) refl)

pub interchange_formed : (machine : MachineState) (partner : ℕ) (text : List ℕ) → length machine.kinds ≤ 999 → IsWhole machine.terminal → IsWellFormed machine.terminal → IsWellFormed (interchange_taken machine partner text).0.terminal
interchange_formed = interchange_formed_by newest

-- ==== Reaching: A machine stays sound over a run.

-- ---- what a machine is set up with stays

abbrev LeavesRest : MachineState → MachineState × List ℕ → Type 0
LeavesRest machine taken = taken.0 ≡ record machine { terminal = taken.0.terminal }

rest_at : (version : Version) (machine : MachineState) (partner : ℕ) (kind : PartnerKind) (segments : List Content) (opened : Option CivilMoment) → LeavesRest machine (taken_at_by version machine partner kind segments opened)
rest_at version machine partner kind segments None = refl
rest_at version machine partner kind segments (Some opened) = refl

rest_of : (version : Version) (machine : MachineState) (partner : ℕ) (segments : List Content) (kind : Option PartnerKind) → LeavesRest machine (taken_of_by version machine partner segments kind)
rest_of version machine partner segments None = refl
rest_of version machine partner segments (Some kind) = rest_at version machine partner kind segments (preparation (header_of segments))

rest_if : (machine : MachineState) (is : Bool) (taken : MachineState × List ℕ) → LeavesRest machine taken → LeavesRest machine (cond is taken (nothing_taken machine))
rest_if machine true taken same = same
rest_if machine false taken same = refl

pub terminal_alone : (version : Version) → ChangesTerminalAlone (interchange_taken_by version)
terminal_alone version machine partner text =
    rest_if machine (is_for partner (admission machine.parties text)) (taken_of_by version machine partner (segments_in text) (with_number machine.kinds partner)) (rest_of version machine partner (segments_in text) (with_number machine.kinds partner))

rest_by : (machine : MachineState) (is_old : Bool) (old new : MachineState × List ℕ) → LeavesRest machine old → LeavesRest machine new → LeavesRest machine (cond is_old old new)
rest_by machine true old new one two = one
rest_by machine false old new one two = two

pub by_place_alone : (number_of : List ℕ → ℕ) (before : List Delivery) (old new : Taking MachineState) → ChangesTerminalAlone old → ChangesTerminalAlone new → ChangesTerminalAlone (taken_by_place number_of before old new)
by_place_alone number_of before old new one two machine partner text =
    rest_by machine (nat_le (number_of text) (run before partner)) (old machine partner text) (new machine partner text) (one machine partner text) (two machine partner text)

rest_after : (taken : Taking MachineState) (texts : ℕ → ℕ → List ℕ) (numbers : List (ℕ × ℕ)) (machine : MachineState) → ChangesTerminalAlone taken
    → state_after taken texts numbers machine ≡ record machine { terminal = (state_after taken texts numbers machine).terminal }
rest_after taken texts [] machine alone = refl
rest_after taken texts (e ∷ numbers) machine alone =
    let next : MachineState = (taken machine e.0 (texts e.0 e.1)).0 in
    rest_after taken texts numbers next alone ∙ ap (λ (m : MachineState). record m { terminal = (state_after taken texts numbers next).terminal }) (alone machine e.0 (texts e.0 e.1))

pub runs_alone : (taken : Taking MachineState) (opening : MachineState) (ds : List Delivery) → ChangesTerminalAlone taken → state taken opening ds ≡ record opening { terminal = (state taken opening ds).terminal }
unfolding state
runs_alone taken opening ds alone = rest_after taken (text_under ds) (order ds) opening alone

-- ---- a cascade

pub cascade_leads : (machine : MachineState) (texts : ℕ → ℕ → List ℕ) (numbers : List (ℕ × ℕ)) → IsWhole machine.terminal
    → Leads machine.terminal (cascade_changes machine texts numbers) (state_after interchange_taken texts numbers machine).terminal
cascade_leads machine texts [] whole = stays machine.terminal whole
cascade_leads machine texts (e ∷ numbers) whole =
    let next : MachineState = (interchange_taken machine e.0 (texts e.0 e.1)).0 in
    let one = interchange_leads machine e.0 (texts e.0 e.1) whole in
    leads_on machine.terminal next.terminal (state_after interchange_taken texts numbers next).terminal (interchange_changes machine e.0 (texts e.0 e.1)) (cascade_changes next texts numbers) one
    (cascade_leads next texts numbers one.whole)

-- ---- a run

pub keeps_sound : (version : Version) → KeepsSound (interchange_taken_by version)
keeps_sound version machine partner text is = record {
  few = (let P : List PartnerKind → Type 0 = λ kinds. length kinds ≤ 999 in subst P (sym (ap (λ (m : MachineState). m.kinds) (terminal_alone version machine partner text))) is.few);
  whole = (interchange_leads_by version machine partner text is.whole).whole;
  one_by_one = interchange_goes_on version machine partner text is.whole is.one_by_one;
  formed = interchange_formed_by version machine partner text is.few is.whole is.formed;
}

sound_by : (is_old : Bool) (old new : MachineState × List ℕ) → IsSoundMachine old.0 → IsSoundMachine new.0 → IsSoundMachine (cond is_old old new).0
sound_by true old new one two = one
sound_by false old new one two = two

pub by_place_sound : (number_of : List ℕ → ℕ) (before : List Delivery) (old new : Taking MachineState) → KeepsSound old → KeepsSound new → KeepsSound (taken_by_place number_of before old new)
by_place_sound number_of before old new one two machine partner text is =
    sound_by (nat_le (number_of text) (run before partner)) (old machine partner text) (new machine partner text) (one machine partner text is) (two machine partner text is)

sound_after : (taken : Taking MachineState) (texts : ℕ → ℕ → List ℕ) (numbers : List (ℕ × ℕ)) (machine : MachineState) → KeepsSound taken → IsSoundMachine machine → IsSoundMachine (state_after taken texts numbers machine)
sound_after taken texts [] machine keeps is = is
sound_after taken texts (e ∷ numbers) machine keeps is = sound_after taken texts numbers (taken machine e.0 (texts e.0 e.1)).0 keeps (keeps machine e.0 (texts e.0 e.1) is)

pub runs_sound : (taken : Taking MachineState) (opening : MachineState) (ds : List Delivery) → KeepsSound taken → IsSoundMachine opening → IsSoundMachine (state taken opening ds)
unfolding state
runs_sound taken opening ds keeps is = sound_after taken (text_under ds) (order ds) opening keeps is

pub opening_sound : (setup : Setup) (yard : YardMap) → length setup.partners.items ≤ 999 → IsPlan yard.plan → yard.boxes ≡ finite_map.empty → IsSoundMachine (machine_of setup (empty_state yard setup.visit_limit))
opening_sound setup yard few valid none = record {
  few = (let P : ℕ → Type 0 = λ n. n ≤ 999 in subst P (sym (length-map setup.partners.items _)) few);
  whole = empty_whole yard setup.visit_limit valid none;
  one_by_one = tt;
  formed = empty_formed yard setup.visit_limit none;
}
