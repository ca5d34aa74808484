-- An interchange that names no list that was put away, and a run of them, at the machine without them.
use Rattle.std.specs.{Prelude.{map, length}, List.flat_map}
use Rattle.std.proofs.Common.{◌≡◌, ℕ, ◌+◌, List, [], ◌∷◌, ◌++◌, Bool, true, false, cond, Option, None, Some, Result, Ok, Err, refl, sym, ap, ap₂, subst, ◌∙◌, arith}
use Rattle.edi_syntax.specs.{Moments.CivilMoment, Text.Content, Interchange.segments_in, Envelope.{header_of, messages_of}, Header.preparation}
use Rattle.edi_syntax.specs.Messages.{Message}
use Rattle.edi_messages.specs.{Message.{LineContent, ordered, refused, MessageContent}, Purposes.CallContent, declared.codes.Codes.Codes}
use Rattle.edi_messages.specs.{declared.codes.PartnerKind.PartnerKind, declared.message.MessageFault.MessageFault}
use Rattle.partner_core.specs.Numbered.{with_number}
use Rattle.terminal_core.specs.{declared.lines.Side.Side, declared.change.Source.Source, declared.change.Version.Version, Rows.unlisted, State.TerminalState}
use Rattle.terminal_core.specs.{Drop.{list_drop, ListDrop}, Versions.newest}
use Rattle.office_admission.specs.{Admission.{admission, is_for}, Readings.reading_by}
use Rattle.office_admission.specs.Taking.{MachineState, number_ordered, before_report, clearing_of, clearing_for, ListClearing, list_replaced, line_taken_by, line_changes_by, lines_taken_by, lines_changes_by, verdict_on_by, verdict_changes_by, report_on, before_message, messages_taken_by, messages_changes_by, with_messages, codes_for, source_in, nothing_taken, taken_at_by, taken_of_by, changes_at_by, changes_of_by, interchange_taken}
use Rattle.office_replies.specs.Messages.{accepted}
use Rattle.office_history.specs.Cascade.{AreTakenFrom}
use Rattle.office_parts.specs.{OwnLists.{ListName, list_name, without_lists, machine_without}, ListLaws.{InterchangesSpareLists, NameOwnLists, RunsSpareLists}}
use Rattle.office_parts.specs.Naming.{list_if_any, list_read, lists_in_messages, lists_opened, lists_named_by, interchange_lists, AreHere}
use Rattle.office_parts.proofs.{BringingLemmas.{own_open, own_dropped, orders}, Reading.{here_parts, lists_in_line, lists_ordered, ordered_here}}

module _ (away : ListName → Bool) (version : Version) where
  abbrev kept : TerminalState → TerminalState
  kept = without_lists away

  abbrev beside : {A : Type 0} → TerminalState × A → TerminalState × A
  beside taken = (kept taken.0, taken.1)

  -- ---- a line, a message

  line_beside : (state : TerminalState) (source : Source) (line : LineContent) → AreHere away (lists_in_line line)
      → (line_taken_by version (kept state) source line ≡ beside (line_taken_by version state source line)) × (line_changes_by version (kept state) source line ≡ line_changes_by version state source line)
  line_beside state source (ordered order) here =
      let same = orders away version state source order here in
      (ap (λ step. (step.state, record { number = Some (number_ordered order); outcome = step.outcome })) same, ap (λ step. step.changes) same)
  line_beside state source (refused fault number) here = (refl, refl)

  lines_beside : (state : TerminalState) (source : Source) (lines : List LineContent) → AreHere away (flat_map lists_in_line lines)
      → (lines_taken_by version (kept state) source lines ≡ beside (lines_taken_by version state source lines)) × (lines_changes_by version (kept state) source lines ≡ lines_changes_by version state source lines)
  lines_beside state source [] here = (refl, refl)
  lines_beside state source (line ∷ lines) here =
      let parts = here_parts away (lists_in_line line) (flat_map lists_in_line lines) here in
      let one = line_beside state source line parts.0 in
      let rest = lines_beside (line_taken_by version state source line).0 source lines parts.1 in (
        ap (λ t. before_report (lines_taken_by version t.0 source lines) t.1) one.0 ∙ ap (λ later. before_report later (line_taken_by version state source line).1) rest.0,
        ap₂ ◌++◌ one.1 (ap (λ t. lines_changes_by version t.0 source lines) one.0 ∙ rest.1),
      )

  abbrev cleared_beside : ListClearing → ListClearing
  cleared_beside left = record { state = kept left.state; dropped = left.dropped; changes = left.changes }

  drop_beside : (state : TerminalState) (call : CallContent) (side : Side) → away (list_name call side) ≡ false → list_drop (kept state) call side ≡ record (list_drop state call side) { state = kept (list_drop state call side).state }
  drop_beside state call side here =
      let lines = own_dropped away state.lines call side here in
      let opens = own_open away call side here state.lines in
      λ i. record {
        state = record state { lines = lines i };
        count = length (opens i);
        changes = map (unlisted call side) (opens i);
      }

  clears_beside : (state : TerminalState) (list : Option (CallContent × Side)) → AreHere away (list_if_any list) → clearing_of (kept state) list ≡ cleared_beside (clearing_of state list)
  clears_beside state None here = refl
  clears_beside state (Some list) here = ap (λ (d : ListDrop). record { state = d.state; dropped = Some d.count; changes = d.changes }) (drop_beside state list.0 list.1 here.0)

  verdict_beside : (state : TerminalState) (source : Source) (read : Result MessageContent MessageFault) → AreHere away (lists_ordered read)
      → (verdict_on_by version (kept state) source read ≡ beside (verdict_on_by version state source read)) × (verdict_changes_by version (kept state) source read ≡ verdict_changes_by version state source read)
  verdict_beside state source (Err fault) here = (refl, refl)
  verdict_beside state source (Ok content) here =
      let parts = here_parts away (list_if_any (list_replaced content)) (flat_map lists_in_line content.lines) here in
      let left : ListClearing = clearing_for state content in
      let clears = clears_beside state (list_replaced content) parts.0 in
      let rest = lines_beside left.state source content.lines parts.1 in (
        ap (λ (c : ListClearing). ((lines_taken_by version c.state source content.lines).0, accepted c.dropped (lines_taken_by version c.state source content.lines).1)) clears
            ∙ ap (λ t. (t.0, accepted left.dropped t.1)) rest.0,
        ap (λ (c : ListClearing). c.changes ++ lines_changes_by version c.state source content.lines) clears ∙ ap (λ l. left.changes ++ l) rest.1,
      )

  -- ---- an interchange

  messages_beside : (state : TerminalState) (codes : Codes) (source : Source) (opened : CivilMoment) (messages : List Message) → AreHere away (lists_in_messages version codes opened messages)
      → (messages_taken_by version (kept state) codes source opened messages ≡ beside (messages_taken_by version state codes source opened messages))
      × (messages_changes_by version (kept state) codes source opened messages ≡ messages_changes_by version state codes source opened messages)
  messages_beside state codes source opened [] here = (refl, refl)
  messages_beside state codes source opened (message ∷ messages) here =
      let read = reading_by version codes opened message in
      let parts = here_parts away (list_read read) (lists_in_messages version codes opened messages) here in
      let one = verdict_beside state source read (ordered_here away version codes opened message parts.0) in
      let rest = messages_beside (verdict_on_by version state source read).0 codes source opened messages parts.1 in (
        ap (λ t. before_message (messages_taken_by version t.0 codes source opened messages) (report_on message t.1)) one.0
            ∙ ap (λ later. before_message later (report_on message (verdict_on_by version state source read).1)) rest.0,
        ap₂ ◌++◌ one.1 (ap (λ t. messages_changes_by version t.0 codes source opened messages) one.0 ∙ rest.1),
      )

  abbrev machine_beside : MachineState × List ℕ → MachineState × List ℕ
  machine_beside taken = (machine_without away taken.0, taken.1)

  at_beside : (machine : MachineState) (partner : ℕ) (kind : PartnerKind) (segments : List Content) (opened : Option CivilMoment) → AreHere away (lists_opened version (codes_for machine kind) (messages_of segments) opened)
      → (taken_at_by version (machine_without away machine) partner kind segments opened ≡ machine_beside (taken_at_by version machine partner kind segments opened))
      × (changes_at_by version (machine_without away machine) partner kind segments opened ≡ changes_at_by version machine partner kind segments opened)
  at_beside machine partner kind segments None here = (refl, refl)
  at_beside machine partner kind segments (Some opened) here =
      let all = messages_beside machine.terminal (codes_for machine kind) (source_in partner (header_of segments)) opened (messages_of segments) here in
      (ap (with_messages (machine_without away machine) segments) all.0, all.1)

  of_beside : (machine : MachineState) (partner : ℕ) (text : List ℕ) (kind : Option PartnerKind) → AreHere away (lists_named_by version machine.codes text kind)
      → (taken_of_by version (machine_without away machine) partner (segments_in text) kind ≡ machine_beside (taken_of_by version machine partner (segments_in text) kind))
      × (changes_of_by version (machine_without away machine) partner (segments_in text) kind ≡ changes_of_by version machine partner (segments_in text) kind)
  of_beside machine partner text None here = (refl, refl)
  of_beside machine partner text (Some kind) here = at_beside machine partner kind (segments_in text) (preparation (header_of (segments_in text))) here

  if_beside : (is : Bool) (machine : MachineState) (x y : MachineState × List ℕ) → x ≡ machine_beside y → cond is x (nothing_taken (machine_without away machine)) ≡ machine_beside (cond is y (nothing_taken machine))
  if_beside true machine x y e = e
  if_beside false machine x y e = refl

pub interchanges : InterchangesSpareLists
interchanges away version machine partner text here =
    let all = of_beside away version machine partner text (with_number machine.kinds partner) here in
    let is : Bool = is_for partner (admission machine.parties text) in
    record {
      taken = if_beside away version is machine _ _ all.0;
      changes = ap (λ l. cond is l []) all.1;
    }

-- ---- a run

-- taking changes no account and no code of a document
record SaysSame (machine machine' : MachineState) : Type 0 where
  codes : machine'.codes ≡ machine.codes
  kinds : machine'.kinds ≡ machine.kinds

taken_same : (is : Bool) (machine : MachineState) (partner : ℕ) (segments : List Content) (kind : Option PartnerKind) → SaysSame machine (cond is (taken_of_by newest machine partner segments kind) (nothing_taken machine)).0
taken_same false machine partner segments kind = record { codes = refl; kinds = refl }
taken_same true machine partner segments None = record { codes = refl; kinds = refl }
taken_same true machine partner segments (Some kind) = at (preparation (header_of segments))
  where
    at : (opened : Option CivilMoment) → SaysSame machine (taken_at_by newest machine partner kind segments opened).0
    at None = record { codes = refl; kinds = refl }
    at (Some opened) = record { codes = refl; kinds = refl }

pub named_same : (away : ListName → Bool) (machine : MachineState) (partner : ℕ) (texts : ℕ → Option (List ℕ)) (number : ℕ) (text : List ℕ) → NameOwnLists away machine partner texts number → NameOwnLists away (interchange_taken machine partner text).0 partner texts (number + 1)
named_same away machine partner texts number text here k other above is =
    let same = taken_same (is_for partner (admission machine.parties text)) machine partner (segments_in text) (with_number machine.kinds partner) in
    let lists : interchange_lists newest machine.codes machine.kinds partner other
    ≡ interchange_lists newest (interchange_taken machine partner text).0.codes (interchange_taken machine partner text).0.kinds partner other =
    λ i. interchange_lists newest (sym same.codes i) (sym same.kinds i) partner other in
    subst (AreHere away) lists (here k other (omega (arith, above)) is)

pub runs : RunsSpareLists
runs away partner texts number machine [] there here from = record { machine' = machine; from = (from.0, refl); beside = from.1 }
runs away partner texts number machine (t ∷ taken) there here from =
    let text : List ℕ = from.0 in
    let one = interchanges away newest machine partner text (here number text (omega arith) from.1) in
    let next : MachineState = (interchange_taken machine partner text).0 in
    let on : AreTakenFrom partner texts (number + 1) (machine_without away next) taken there =
    subst (λ (m : MachineState × List ℕ). AreTakenFrom partner texts (number + 1) m.0 taken there) one.taken from.5 in
    let rest = runs away partner texts (number + 1) next taken there (named_same away machine partner texts number text here) on in
    record {
      machine' = rest.machine';
      from = (text, from.1, from.2, from.3 ∙ ap (λ (m : MachineState × List ℕ). m.1) one.taken, from.4 ∙ one.changes, rest.from);
      beside = rest.beside;
    }
