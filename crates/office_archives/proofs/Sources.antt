-- An interchange opens and closes visits in its own name: those of another stay as they are.
use Rattle.std.{specs.{Prelude.{◌==◌, filter, codes, Contains}, Str.bytes_eq, List.{flat_map, list_any}}, proofs.lemmas.List.{append-nil, length-map}}
use Rattle.std.proofs.lemmas.List.Folds.{flat_map-map}
use Rattle.std.proofs.Common.{◌≡◌, ap₂, decimal, ℕ, List, [], ◌∷◌, ◌++◌, length, map, Bool, true, false, cond, ◌&&◌, ◌||◌, Option, None, Some, is_some, is_none, Result, Ok, Err, refl, sym, ap, ◌∙◌, ◌<◌, inl, inr, arith, subst}
use Rattle.std.proofs.{lemmas.Bool.{and_parts, eqb-true, false_from_ne_true, and_from}, lemmas.List.Elements.filter-append}
use Rattle.box6346.specs.{declared.box_number.BoxNumber.BoxNumber, declared.slot.Slot.Slot}
use Rattle.edi_syntax.specs.{Moments.CivilMoment, Interchange.segments_in, Envelope.{header_of, messages_of}, Header.preparation, Messages.Message}
use Rattle.edi_messages.specs.{declared.codes.Codes.Codes, declared.message.MessageFault.MessageFault, declared.codes.PartnerKind.PartnerKind}
use Rattle.edi_messages.specs.{Message.{LineContent as ReadLine, ordered, refused as refused_line, MessageContent}, Purposes.CallContent}
use Rattle.edi_messages.specs.Orders.{EntryContent, OrderContent, gate_in, gate_out, move, list_discharge, list_load, discharge, load}
use Rattle.partner_core.specs.Numbered.{with_number}
use Rattle.yard_core.specs.{declared.placements.Placement.Placement, Decisions.{Refusal, yard_without, yard_with_move}, YardMap.YardMap}
use Rattle.terminal_core.specs.{Versions.spares_empty, declared.change.Version.Version, declared.visits.Departure.Departure, declared.lines.LineState.LineState}
use Rattle.terminal_core.specs.{declared.lines.LineState.TheVariants.{Pending, Done as LineIsDone}, declared.change.Outcome.Outcome, declared.lines.Side.Side}
use Rattle.terminal_core.specs.{declared.change.Outcome.TheVariants.Refused, declared.change.Reason.TheVariants.{AlreadyIn, NotIn, VisitLimit}}
use Rattle.terminal_core.specs.{declared.lines.Side.TheVariants.{Load, Discharge}, declared.change.Source.Source, declared.visits.Way.Way, Rows.VisitContent}
use Rattle.terminal_core.specs.{declared.visits.Way.TheVariants.{Gate, Ship}, State.{TerminalState, LineContent, line_of, is_in, is_open_visit}}
use Rattle.terminal_core.specs.Step.{StepResult, with_refusal, step_by, yard_with_entry, is_full, visit_of, after_entry, after_entry_at, closed_visit, after_departure, after_departure_at, departure_by as leaves_by, after_move_at, after_listing_at, then_line_done_at, by_line, by_state}
use Rattle.terminal_core.proofs.Changing.{either}
use Rattle.office_admission.specs.{Admission.{admission, is_for, number_said}, Readings.reading_by}
use Rattle.office_admission.specs.Taking.{MachineState, clearing_of, clearing_for, list_replaced, line_taken_by, lines_taken_by, verdict_on_by, messages_taken_by, codes_for, source_in, nothing_taken, taken_at_by, taken_of_by, interchange_taken_by}
use Rattle.office_reports.specs.Tickets.{is_closed_by, is_source, is_opened_by, exit_moment_by, is_told_by, entry_line, exit_line, entry_lines, exit_lines, ticket_lines, ticket_of, told_text}
use Rattle.office_reports.{specs.{declared.query.View.View, declared.query.View.TheVariants.{Text, Json, Csv, Page}, Names.line}, proofs.Standings.ticket_stays}
use Rattle.office_pages.specs.{Fixed.foot, Tables.{section_head, table_of}, Tickets.{closed_columns, closed_row, opened_columns, opened_row, ticket_page, ticket_top}}
use Rattle.office_report_data.specs.{Tickets.{closed_data, opened_data, ticket_data}, Told.shown}
use Rattle.serde_json.specs.{Data.{array, member, no_members, number as json_number, object, string, unsigned}, View.items_of, Written.compact_text}
use Rattle.office_archives.specs.{Visits.{departure_by, visit_by, visits_by, IsWithin, HasLeftWithin, IsVisitWithin}, Stayed.GoOldestFirst}
use Rattle.office_archives.specs.Laws.{ClosingsGoOldestFirst, NothingWentAtFirst}
use Rattle.office_parts.{specs.OwnTerminal.{own_visits, is_own}, proofs.Splits.{Has, contained_has, has_contained, has_filtered}}
use Rattle.office_report_data.specs.Told as value

-- ---- lists of visits

-- rows that are the same are as many, and make one text
as_many : {X Y : Type 0} (row : X → Y) (one other : List X) → map row one ≡ map row other → length one ≡ length other
as_many row one other same = sym (length-map one row) ∙ ap length same ∙ length-map other row

rows_joined : {X : Type 0} (row : X → List ℕ) (one other : List X) → map row one ≡ map row other → flat_map row one ≡ flat_map row other
rows_joined row one other same = sym (flat_map-map (λ (text : List ℕ). text) row one) ∙ ap (flat_map (λ (text : List ℕ). text)) same ∙ flat_map-map (λ (text : List ℕ). text) row other

module _ (mine : Source) where
  mapped_cond : (b : Bool) (v : VisitContent) (visits : List VisitContent) → map (visit_by mine) (cond b (v ∷ visits) visits) ≡ cond b (visit_by mine v ∷ map (visit_by mine) visits) (map (visit_by mine) visits)
  mapped_cond true v visits = refl
  mapped_cond false v visits = refl

  pub by_cons : (v : VisitContent) (visits : List VisitContent) → visits_by mine (v ∷ visits) ≡ cond (is_told_by mine v) (visit_by mine v ∷ visits_by mine visits) (visits_by mine visits)
  by_cons v visits = mapped_cond (is_told_by mine v) v (filter (is_told_by mine) visits)

  -- a visit that is not told of adds nothing
  by_pushed : (visits : List VisitContent) (v : VisitContent) → is_told_by mine v ≡ false → visits_by mine (visits ++ v ∷ []) ≡ visits_by mine visits
  by_pushed visits v e =
      ap (map (visit_by mine)) (filter-append (is_told_by mine) visits (v ∷ []) ∙ ap (λ b. filter (is_told_by mine) visits ++ cond b (v ∷ []) []) e ∙ append-nil (filter (is_told_by mine) visits))

  -- what is told of each visit stays
  pub record LeavesTold (f : VisitContent → VisitContent) (v : VisitContent) : Type 0 where
    pub told : is_told_by mine (f v) ≡ is_told_by mine v
    pub known : visit_by mine (f v) ≡ visit_by mine v

  by_mapped : (f : VisitContent → VisitContent) → ((v : VisitContent) → LeavesTold f v) → (visits : List VisitContent) → visits_by mine (map f visits) ≡ visits_by mine visits
  by_mapped f same [] = refl
  by_mapped f same (v ∷ visits) =
      by_cons (f v) (map f visits)
      ∙ ap (λ l. cond (is_told_by mine (f v)) (visit_by mine (f v) ∷ l) l) (by_mapped f same visits)
      ∙ ap (λ b. cond b (visit_by mine (f v) ∷ visits_by mine visits) (visits_by mine visits)) (same v).told
      ∙ ap (λ w. cond (is_told_by mine v) (w ∷ visits_by mine visits) (visits_by mine visits)) (same v).known
      ∙ sym (by_cons v visits)

-- ---- an order of another interchange

module _ (version : Version) (mine other : Source) (apart : is_source other mine ≡ false) where
  abbrev Same : TerminalState → TerminalState → Type 0
  Same old new = visits_by mine new.visits ≡ visits_by mine old.visits

  abbrev Keeps : TerminalState → StepResult → Type 0
  Keeps old after = Same old after.state

  entered_keeps : (state : TerminalState) (way : Way) (entry : EntryContent) (r : Result (YardMap × Slot) Refusal) → Keeps state (after_entry_at state way other entry r)
  entered_keeps state way entry (Err refusal) = refl
  entered_keeps state way entry (Ok (y, slot)) = by_pushed mine state.visits (visit_of state way other entry slot) (ap (λ b. b || false) apart)

  enters_keeps : (state : TerminalState) (way : Way) (entry : EntryContent) → Keeps state (after_entry version state way other entry)
  enters_keeps state way entry =
      either (Keeps state) (is_full state) (with_refusal state VisitLimit) (after_entry_at state way other entry (yard_with_entry version state.yard entry)) refl (entered_keeps state way entry (yard_with_entry version state.yard entry))

  -- no open visit was closed by anyone
  open_moment : (d : Option Departure) → is_none d ≡ true → exit_moment_by mine d ≡ None
  open_moment None e = refl
  open_moment (Some d) e = cc

  open_departure : (d : Option Departure) → is_none d ≡ true → departure_by mine d ≡ None
  open_departure None e = refl
  open_departure (Some d) e = cc

  others_moment : (departure : Departure) → is_source departure.source mine ≡ false → exit_moment_by mine (Some departure) ≡ None
  others_moment departure e = ap (λ b. cond b (Some departure.moment) None) e

  others_departure : (departure : Departure) → is_source departure.source mine ≡ false → departure_by mine (Some departure) ≡ None
  others_departure departure e = ap (λ b. cond b (Some departure) None) e

  closed_told : (departure : Departure) (v : VisitContent) (is : Bool) → is_source departure.source mine ≡ false → (is ≡ true → is_none v.departure ≡ true)
      → is_told_by mine (cond is (record v { departure = Some departure }) v) ≡ is_told_by mine v
  closed_told departure v true e was_open =
      ap (λ o. is_opened_by mine v || is_some o) (others_moment departure e ∙ sym (open_moment v.departure (was_open refl)))
  closed_told departure v false e was_open = refl

  closed_known : (departure : Departure) (v : VisitContent) (is : Bool) → is_source departure.source mine ≡ false → (is ≡ true → is_none v.departure ≡ true)
      → visit_by mine (cond is (record v { departure = Some departure }) v) ≡ visit_by mine v
  closed_known departure v true e was_open =
      ap (λ o. record v { departure = o }) (others_departure departure e ∙ sym (open_departure v.departure (was_open refl)))
  closed_known departure v false e was_open = refl

  departed_keeps : (state : TerminalState) (b : BoxNumber) (departure : Departure) (r : Result (YardMap × Placement) Refusal) → is_source departure.source mine ≡ false → Keeps state (after_departure_at state b departure r)
  departed_keeps state b departure (Err refusal) e = refl
  departed_keeps state b departure (Ok (y, s)) e =
      let was_open : (v : VisitContent) → is_open_visit b v ≡ true → is_none v.departure ≡ true = λ v is. (and_parts (bytes_eq v.container b) (is_none v.departure) is).1 in
      by_mapped mine (closed_visit departure b) (λ v. record { told = closed_told departure v (is_open_visit b v) e (was_open v); known = closed_known departure v (is_open_visit b v) e (was_open v) }) state.visits

  departs_keeps : (state : TerminalState) (way : Way) (b : BoxNumber) (moment : CivilMoment) → Keeps state (after_departure state way other b moment)
  departs_keeps state way b moment = departed_keeps state b (leaves_by way other moment) (yard_without state.yard b) apart

  moved_keeps : (state : TerminalState) (b : BoxNumber) (slot : Slot) (r : Result YardMap Refusal) → Keeps state (after_move_at state b slot r)
  moved_keeps state b slot (Ok y) = refl
  moved_keeps state b slot (Err refusal) = refl

  listed_keeps : (state : TerminalState) (call : CallContent) (side : Side) (b : BoxNumber) (port : List ℕ) (o : Option LineContent) → Keeps state (after_listing_at state call side b port o)
  listed_keeps state call side b port (Some line) = refl
  listed_keeps state call side b port None = refl

  then_keeps : (state : TerminalState) (call : CallContent) (side : Side) (b : BoxNumber) (line : LineContent) (after : StepResult) (o : Outcome) → Keeps state after → Keeps state (then_line_done_at call side b line after o)
  then_keeps state call side b line after (Refused reason) same = same
  then_keeps state call side b line after o same = same

  state_keeps : (state : TerminalState) (call : CallContent) (side : Side) (b : BoxNumber) (line : LineContent) (after : StepResult) (s : LineState) → Keeps state after → Keeps state (by_state state call side b line after s)
  state_keeps state call side b line after LineIsDone same = refl
  state_keeps state call side b line after Pending same = then_keeps state call side b line after after.outcome same

  line_keeps : (state : TerminalState) (call : CallContent) (side : Side) (b : BoxNumber) (o : Option LineContent) (after : StepResult) → Keeps state after → Keeps state (by_line state call side b o after)
  line_keeps state call side b None after same = refl
  line_keeps state call side b (Some line) after same = state_keeps state call side b line after line.state same

  step_keeps : (state : TerminalState) (order : OrderContent) → Keeps state (step_by version state other order)
  step_keeps state (gate_in entry) = either (Keeps state) (is_in state entry.number) (with_refusal state AlreadyIn) (after_entry version state Gate other entry) refl (enters_keeps state Gate entry)
  step_keeps state (gate_out b moment) = departs_keeps state Gate b moment
  step_keeps state (move b slot) = moved_keeps state b slot (yard_with_move (spares_empty version) state.yard b slot)
  step_keeps state (list_discharge call b) = listed_keeps state call Discharge b [] (line_of state call Discharge b)
  step_keeps state (list_load call b port) = listed_keeps state call Load b port (line_of state call Load b)
  step_keeps state (discharge call entry) =
      either (Keeps state) (is_in state entry.number) (with_refusal state AlreadyIn) (by_line state call Discharge entry.number (line_of state call Discharge entry.number) (after_entry version state Ship other entry)) refl
      (line_keeps state call Discharge entry.number (line_of state call Discharge entry.number) (after_entry version state Ship other entry) (enters_keeps state Ship entry))
  step_keeps state (load call b moment) =
      either (Keeps state) (is_in state b) (by_line state call Load b (line_of state call Load b) (after_departure state Ship other b moment)) (with_refusal state NotIn)
      (line_keeps state call Load b (line_of state call Load b) (after_departure state Ship other b moment) (departs_keeps state Ship b moment)) refl

  -- ---- its lines and messages

  read_keeps : (state : TerminalState) (line : ReadLine) → Same state (line_taken_by version state other line).0
  read_keeps state (ordered order) = step_keeps state order
  read_keeps state (refused_line fault number) = refl

  lines_keep : (state : TerminalState) (lines : List ReadLine) → Same state (lines_taken_by version state other lines).0
  lines_keep state [] = refl
  lines_keep state (line ∷ lines) = lines_keep (line_taken_by version state other line).0 lines ∙ read_keeps state line

  cleared_keeps : (state : TerminalState) (list : Option (CallContent × Side)) → Same state (clearing_of state list).state
  cleared_keeps state None = refl
  cleared_keeps state (Some list) = refl

  verdict_keeps : (state : TerminalState) (read : Result MessageContent MessageFault) → Same state (verdict_on_by version state other read).0
  verdict_keeps state (Ok content) = lines_keep (clearing_for state content).state content.lines ∙ cleared_keeps state (list_replaced content)
  verdict_keeps state (Err fault) = refl

  messages_keep : (state : TerminalState) (codes : Codes) (opened : CivilMoment) (messages : List Message) → Same state (messages_taken_by version state codes other opened messages).0
  messages_keep state codes opened [] = refl
  messages_keep state codes opened (message ∷ messages) =
      messages_keep (verdict_on_by version state other (reading_by version codes opened message)).0 codes opened messages ∙ verdict_keeps state (reading_by version codes opened message)

-- ---- an interchange

-- taking the text of another interchange leaves the visits of this one as they are
abbrev pub IsAnother : Source → ℕ → List ℕ → Type 0
IsAnother mine partner text = ((partner == mine.partner) && (number_said text == mine.number)) ≡ false

module _ (version : Version) (mine : Source) where
  at_keeps : (machine : MachineState) (partner : ℕ) (kind : PartnerKind) (text : List ℕ) (opened : Option CivilMoment) → IsAnother mine partner text
      → visits_by mine (taken_at_by version machine partner kind (segments_in text) opened).0.terminal.visits ≡ visits_by mine machine.terminal.visits
  at_keeps machine partner kind text None another = refl
  at_keeps machine partner kind text (Some opened) another =
      messages_keep version mine (source_in partner (header_of (segments_in text))) another machine.terminal (codes_for machine kind) opened (messages_of (segments_in text))

  of_keeps : (machine : MachineState) (partner : ℕ) (text : List ℕ) (kind : Option PartnerKind) → IsAnother mine partner text
      → visits_by mine (taken_of_by version machine partner (segments_in text) kind).0.terminal.visits ≡ visits_by mine machine.terminal.visits
  of_keeps machine partner text None another = refl
  of_keeps machine partner text (Some kind) another = at_keeps machine partner kind text (preparation (header_of (segments_in text))) another

  pub interchange_keeps : (machine : MachineState) (partner : ℕ) (text : List ℕ) → IsAnother mine partner text
      → visits_by mine (interchange_taken_by version machine partner text).0.terminal.visits ≡ visits_by mine machine.terminal.visits
  interchange_keeps machine partner text another =
      either (λ (taken : MachineState × List ℕ). visits_by mine taken.0.terminal.visits ≡ visits_by mine machine.terminal.visits)
      (is_for partner (admission machine.parties text)) (taken_of_by version machine partner (segments_in text) (with_number machine.kinds partner)) (nothing_taken machine)
      (of_keeps machine partner text (with_number machine.kinds partner) another) refl

-- ==== Tickets: A ticket tells of the visits that its interchange opened or closed, and of nothing else.

module _ (mine : Source) where
  -- ---- the moment of a departure is that of one by the interchange's word

  kept_moment : (departure : Departure) (is : Bool) → is_source departure.source mine ≡ is → exit_moment_by mine (cond is (Some departure) None) ≡ cond is (Some departure.moment) None
  kept_moment departure true e = ap (λ b. cond b (Some departure.moment) None) e
  kept_moment departure false e = refl

  same_moment : (departure : Option Departure) → exit_moment_by mine (departure_by mine departure) ≡ exit_moment_by mine departure
  same_moment None = refl
  same_moment (Some departure) = kept_moment departure (is_source departure.source mine) refl

  same_told : (v : VisitContent) → is_told_by mine (visit_by mine v) ≡ is_told_by mine v
  same_told v = ap (λ o. is_opened_by mine v || is_some o) (same_moment v.departure)

  -- ---- what is not told of

  none_or : (a b : Bool) → (a || b) ≡ false → (a ≡ false) × (b ≡ false)
  none_or true b e = cc
  none_or false b e = (refl, e)

  no_moment : {A : Type 0} (o : Option A) → is_some o ≡ false → o ≡ None
  no_moment None e = refl
  no_moment (Some x) e = cc

  -- ---- the lines

  any_same : (visits : List VisitContent) → list_any (is_told_by mine) visits ≡ list_any (is_told_by mine) (visits_by mine visits)
  any_same [] = refl
  any_same (v ∷ visits) = by (is_told_by mine v) refl (any_same visits) ∙ sym (ap (list_any (is_told_by mine)) (by_cons mine v visits))
    where
      by : (told : Bool) → is_told_by mine v ≡ told → list_any (is_told_by mine) visits ≡ list_any (is_told_by mine) (visits_by mine visits)
          → (told || list_any (is_told_by mine) visits) ≡ list_any (is_told_by mine) (cond told (visit_by mine v ∷ visits_by mine visits) (visits_by mine visits))
      by true e rest = sym (ap (λ b. b || list_any (is_told_by mine) (visits_by mine visits)) (same_told v ∙ e))
      by false e rest = rest

  abbrev entries : List VisitContent → List ℕ
  entries = entry_lines mine

  entries_cons : (v : VisitContent) (visits : List VisitContent) → entries (v ∷ visits) ≡ cond (is_opened_by mine v) (entry_line v ++ entries visits) (entries visits)
  entries_cons v visits = by (is_opened_by mine v)
    where
      by : (is : Bool) → flat_map entry_line (cond is (v ∷ filter (is_opened_by mine) visits) (filter (is_opened_by mine) visits)) ≡ cond is (entry_line v ++ entries visits) (entries visits)
      by true = refl
      by false = refl

  entries_same : (visits : List VisitContent) → entries visits ≡ entries (visits_by mine visits)
  entries_same [] = refl
  entries_same (v ∷ visits) = entries_cons v visits ∙ by (is_told_by mine v) refl (entries_same visits) ∙ sym (ap entries (by_cons mine v visits))
    where
      by : (told : Bool) → is_told_by mine v ≡ told → entries visits ≡ entries (visits_by mine visits) → cond (is_opened_by mine v) (entry_line v ++ entries visits) (entries visits) ≡ entries (cond told (visit_by mine v ∷ visits_by mine visits) (visits_by mine visits))
      by true e rest = ap (λ l. cond (is_opened_by mine v) (entry_line v ++ l) l) rest ∙ sym (entries_cons (visit_by mine v) (visits_by mine visits))
      by false e rest = ap (λ b. cond b (entry_line v ++ entries visits) (entries visits)) (none_or (is_opened_by mine v) (is_some (exit_moment_by mine v.departure)) e).0 ∙ rest

  abbrev exits : List VisitContent → List ℕ
  exits = exit_lines mine

  exits_same : (visits : List VisitContent) → exits visits ≡ exits (visits_by mine visits)
  exits_same [] = refl
  exits_same (v ∷ visits) = by (is_told_by mine v) refl (exits_same visits) ∙ sym (ap exits (by_cons mine v visits))
    where
      by : (told : Bool) → is_told_by mine v ≡ told → exits visits ≡ exits (visits_by mine visits) → exit_line v (exit_moment_by mine v.departure) ++ exits visits ≡ exits (cond told (visit_by mine v ∷ visits_by mine visits) (visits_by mine visits))
      by true e rest = ap (λ o. exit_line v o ++ exits visits) (sym (same_moment v.departure)) ∙ ap (λ l. exit_line v (exit_moment_by mine (departure_by mine v.departure)) ++ l) rest
      by false e rest =
          ap (λ o. exit_line v o ++ exits visits) (no_moment (exit_moment_by mine v.departure) (none_or (is_opened_by mine v) (is_some (exit_moment_by mine v.departure)) e).1)
          ∙ rest

  pub same_lines : (visits : List VisitContent) → ticket_lines mine visits ≡ ticket_lines mine (visits_by mine visits)
  same_lines visits i = cond (any_same visits i) (entries_same visits i ++ exits_same visits i) (line (codes "NOTHING" ∷ []))

  -- ---- the rows of JSON

  -- what is told of those that a ticket tells of is told of them as the interchange knows them
  rows_same : {X : Type 0} (is : VisitContent → Bool) (row : VisitContent → X) → ((v : VisitContent) → is (visit_by mine v) ≡ is v) → ((v : VisitContent) → is_told_by mine v ≡ false → is v ≡ false)
      → ((v : VisitContent) → is v ≡ true → row (visit_by mine v) ≡ row v) → (visits : List VisitContent) → map row (filter is visits) ≡ map row (filter is (visits_by mine visits))
  rows_same is row kept untold alike [] = refl
  rows_same is row kept untold alike (v ∷ visits) =
      by (is_told_by mine v) refl (is v) refl (rows_same is row kept untold alike visits) ∙ sym (ap (λ l. map row (filter is l)) (by_cons mine v visits))
    where
      others : List VisitContent
      others = visits_by mine visits

      by : (told : Bool) → is_told_by mine v ≡ told → (its : Bool) → is v ≡ its → map row (filter is visits) ≡ map row (filter is others)
          → map row (cond (is v) (v ∷ filter is visits) (filter is visits)) ≡ map row (filter is (cond told (visit_by mine v ∷ others) others))
      by true e true f rest =
          ap (λ b. map row (cond b (v ∷ filter is visits) (filter is visits))) f
          ∙ ap₂ (λ x l. x ∷ l) (sym (alike v f)) rest
          ∙ sym (ap (λ b. map row (cond b (visit_by mine v ∷ filter is others) (filter is others))) (kept v ∙ f))
      by true e false f rest =
          ap (λ b. map row (cond b (v ∷ filter is visits) (filter is visits))) f ∙ rest
          ∙ sym (ap (λ b. map row (cond b (visit_by mine v ∷ filter is others) (filter is others))) (kept v ∙ f))
      by false e its f rest = ap (λ b. map row (cond b (v ∷ filter is visits) (filter is visits))) (untold v e) ∙ rest

  own_departure : (departure : Option Departure) → is_some (exit_moment_by mine departure) ≡ true → departure_by mine departure ≡ departure
  own_departure None e = refl
  own_departure (Some departure) e = by (is_source departure.source mine) e
    where
      by : (is : Bool) → is_some (cond is (Some departure.moment) None) ≡ true → cond is (Some departure) None ≡ Some departure
      by true e = refl
      by false e = cc

  -- by whatever is the same without a departure
  opened_same : {X : Type 0} (row : VisitContent → X) → ((v : VisitContent) → row (visit_by mine v) ≡ row v) → (visits : List VisitContent) → map row (filter (is_opened_by mine) visits) ≡ map row (filter (is_opened_by mine) (visits_by mine visits))
  opened_same row alike =
      rows_same (is_opened_by mine) row (λ v. refl) (λ v e. (none_or (is_opened_by mine v) (is_some (exit_moment_by mine v.departure)) e).0) (λ v e. alike v)

  closed_same : {X : Type 0} (row : VisitContent → X) (visits : List VisitContent) → map row (filter (is_closed_by mine) visits) ≡ map row (filter (is_closed_by mine) (visits_by mine visits))
  closed_same row =
      rows_same (is_closed_by mine) row (λ v. ap is_some (same_moment v.departure)) (λ v e. (none_or (is_opened_by mine v) (is_some (exit_moment_by mine v.departure)) e).1)
      (λ v e. ap (λ departure. row (record v { departure = departure })) (own_departure v.departure e))

  text_same : (code : List ℕ) (visits : List VisitContent) → told_text (ticket_of code mine visits) ≡ told_text (ticket_of code mine (visits_by mine visits))
  text_same code visits =
      ticket_stays mine code visits ∙ ap (λ lines. line (codes "TICKET" ∷ code ∷ decimal mine.number ∷ []) ++ lines) (same_lines visits)
      ∙ sym (ticket_stays mine code (visits_by mine visits))

  data_same : (code : List ℕ) (visits : List VisitContent) → ticket_data (ticket_of code mine visits) ≡ ticket_data (ticket_of code mine (visits_by mine visits))
  data_same code visits i =
      object (member (codes "closed") (array (items_of (closed_same closed_data visits i))) (member (codes "number") (json_number (unsigned mine.number))
      (member (codes "opened") (array (items_of (opened_same opened_data (λ v. refl) visits i))) (member (codes "partner") (string code) no_members))))

  -- its page has as many rows, and they are the same
  page_same : (code : List ℕ) (visits : List VisitContent) → ticket_page (ticket_of code mine visits) ≡ ticket_page (ticket_of code mine (visits_by mine visits))
  page_same code visits =
      let known = visits_by mine visits in
      let came = filter (is_opened_by mine) visits in
      let came_known = filter (is_opened_by mine) known in
      let left = filter (is_closed_by mine) visits in
      let left_known = filter (is_closed_by mine) known in
      let in_same = opened_same opened_row (λ v. refl) visits in
      let out_same = closed_same closed_row visits in
      (λ i. ticket_top code mine.number
      ++ (section_head (codes "Came in") (as_many opened_row came came_known in_same i) []
      ++ table_of (as_many opened_row came came_known in_same i) opened_columns (rows_joined opened_row came came_known in_same i) (codes "It brought nothing in."))
      ++ (section_head (codes "Went out") (as_many closed_row left left_known out_same i) []
      ++ table_of (as_many closed_row left left_known out_same i) closed_columns (rows_joined closed_row left left_known out_same i) (codes "It took nothing out."))
      ++ foot)

  -- a ticket is shown as the interchange knows the visits
  ticket_known : (code : List ℕ) (view : View) (visits : List VisitContent) → shown view (value.ticket (ticket_of code mine visits)) ≡ shown view (value.ticket (ticket_of code mine (visits_by mine visits)))
  unfolding shown
  ticket_known code Text visits = text_same code visits
  ticket_known code Json visits = ap compact_text (data_same code visits)
  ticket_known code Csv visits = text_same code visits
  ticket_known code Page visits = page_same code visits

  pub tickets_alike : (code : List ℕ) (one other : List VisitContent) → visits_by mine one ≡ visits_by mine other
      → (view : View) → shown view (value.ticket (ticket_of code mine one)) ≡ shown view (value.ticket (ticket_of code mine other))
  tickets_alike code one other same view =
      ticket_known code view one ∙ ap (λ visits. shown view (value.ticket (ticket_of code mine visits))) same ∙ sym (ticket_known code view other)

  -- ---- visits that don't stay

  pub same_stayed : (stays : ℕ → Bool) (visits : List VisitContent) → ((v : VisitContent) → Has visits v → stays v.number ≡ false → is_told_by mine v ≡ false) → visits_by mine (own_visits stays visits) ≡ visits_by mine visits
  same_stayed stays [] untold = refl
  same_stayed stays (v ∷ visits) untold = by (stays v.number) refl (same_stayed stays visits (λ w has gone. untold w (inr has) gone))
    where
      by : (stay : Bool) → stays v.number ≡ stay → visits_by mine (own_visits stays visits) ≡ visits_by mine visits → visits_by mine (cond stay (v ∷ own_visits stays visits) (own_visits stays visits)) ≡ visits_by mine (v ∷ visits)
      by true e rest = by_cons mine v (own_visits stays visits) ∙ ap (λ l. cond (is_told_by mine v) (visit_by mine v ∷ l) l) rest ∙ sym (by_cons mine v visits)
      by false e rest =
          rest
          ∙ sym (ap (λ b. cond b (visit_by mine v ∷ visits_by mine visits) (visits_by mine visits)) (untold v (inl refl) e))
          ∙ sym (by_cons mine v visits)

  -- ---- visits of other interchanges

  module _ (last : ℕ → ℕ) (beyond : last mine.partner < mine.number) where
    other_source : (source : Source) → IsWithin last source → is_source source mine ≡ false
    other_source source within = false_from_ne_true (is_source source mine) (λ e.
        let parts = and_parts (source.partner == mine.partner) (source.number == mine.number) e in
        let partner : last source.partner ≡ last mine.partner = ap last (eqb-true source.partner mine.partner parts.0) in
        let number : source.number ≡ mine.number = eqb-true source.number mine.number parts.1 in
        omega (arith, partner, number, beyond, within.1))

    other_left : (departure : Option Departure) → HasLeftWithin last departure → exit_moment_by mine departure ≡ None
    other_left None within = refl
    other_left (Some departure) within = ap (λ b. cond b (Some departure.moment) None) (other_source departure.source within)

    pub other_visit : (v : VisitContent) → IsVisitWithin last v → is_told_by mine v ≡ false
    other_visit v within =
        ap (λ b. b || is_some (exit_moment_by mine v.departure)) (other_source v.arrival.source within.opened)
        ∙ ap is_some (other_left v.departure within.closed)

-- ==== Oldest: Of each container's visits the older go first.

all_stay : (visits : List VisitContent) → GoOldestFirst (λ number. true) visits
all_stay [] = tt
all_stay (v ∷ visits) = ((λ stays w inside same. refl), all_stay visits)

pub nothing_went : NothingWentAtFirst
nothing_went = ((λ visit inside. absurd (has_contained [] visit inside)), all_stay)

module _ (before after : ℕ → Bool) where
  abbrev both : ℕ → Bool
  both number = before number && after number

  go_both : (visits : List VisitContent) → GoOldestFirst before visits → GoOldestFirst after (own_visits before visits) → GoOldestFirst both visits
  go_both [] one other = tt
  go_both (v ∷ visits) one other = by (before v.number) refl other (go_both visits one.1)
    where
      by : (stay : Bool) → before v.number ≡ stay → GoOldestFirst after (cond stay (v ∷ own_visits before visits) (own_visits before visits)) → (GoOldestFirst after (own_visits before visits) → GoOldestFirst both visits) → GoOldestFirst both (v ∷ visits)
      by true e other rest = (
        (λ stays w inside same.
            let parts = and_parts (before v.number) (after v.number) stays in
            let was : before w.number ≡ true = one.0 parts.0 w inside same in
            let own : Contains (own_visits before visits) w = contained_has (own_visits before visits) w (has_filtered (is_own before) visits w (has_contained visits w inside) was) in
            and_from (before w.number) (after w.number) was (other.0 parts.1 w own same)),
        rest other.1,
      )
      by false e other rest = (
        (λ stays w inside same. let bad : false ≡ true = sym e ∙ (and_parts (before v.number) (after v.number) stays).0 in absurd cc),
        rest other,
      )

pub oldest_first : ClosingsGoOldestFirst
oldest_first content es archived own whole last_closed stays are was goes =
    go_both archived.stays stays whole.visits was (subst (GoOldestFirst stays) are.parts.visits goes)
