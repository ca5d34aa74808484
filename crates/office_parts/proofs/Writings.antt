-- What interchanges that name no list that was put away write: to the rows without them as to those with them.
use Rattle.std.specs.{Prelude.{filter, not, Contains, count_by}, List.{flat_map, AllByRecursion}, Ordering.eq_by_cmp}
use Rattle.std.proofs.Common.{◌≡◌, ℕ, ◌+◌, List, [], ◌∷◌, ◌++◌, map, Bool, true, false, cond, Option, None, Some, Result, Ok, Err, refl, sym, ap, subst, ◌∙◌, nat_le, arith, ◌<◌, ◌≤◌}
use Rattle.std.proofs.lemmas.List.Elements.{filter-append}
use Rattle.box6346.specs.{declared.box_number.BoxNumber.BoxNumber, declared.slot.Slot.Slot}
use Rattle.edi_syntax.specs.{Moments.CivilMoment, Text.Content, Interchange.{segments_in, interchange_of}, Envelope.{header_of, messages_of}, Messages.Message}
use Rattle.edi_syntax.specs.Header.{preparation}
use Rattle.edi_messages.specs.{Message.{LineContent as MessageLine, ordered, refused, MessageContent}, Purposes.CallContent, declared.codes.Codes.Codes}
use Rattle.edi_messages.specs.Orders.{EntryContent, OrderContent, gate_in, gate_out, move, list_discharge, list_load, discharge, load}
use Rattle.edi_messages.specs.{declared.codes.PartnerKind.PartnerKind, declared.message.MessageFault.MessageFault}
use Rattle.partner_core.specs.{Numbered.with_number, Deliveries.run}
use Rattle.yard_core.specs.{YardMap.YardMap, Decisions.{Refusal, yard_without, yard_with_move}, declared.placements.Placement.Placement}
use Rattle.terminal_core.specs.{declared.visits.Departure.Departure, declared.lines.LineState.LineState, declared.lines.Side.Side, declared.visits.Way.Way}
use Rattle.terminal_core.specs.{declared.lines.LineState.TheVariants.{Pending, Done as LineIsDone}, declared.lines.Side.TheVariants.{Load, Discharge}}
use Rattle.terminal_core.specs.{declared.change.Outcome.Outcome, declared.change.Outcome.TheVariants.{Done, Gone, Listed, Refused}, Changes.TerminalRows}
use Rattle.terminal_core.specs.{declared.change.Source.Source, declared.change.Version.Version, declared.visits.Way.TheVariants.{Gate, Ship}}
use Rattle.terminal_core.specs.Rows.{ChangeContent, visit_opened, visit_closed, placed_at, moved_to, removed_from, listed_on, line_done, unlisted}
use Rattle.terminal_core.specs.{State.{TerminalState, LineContent, LineKey, line_of, is_in, last_number}, Versions.{newest, spares_empty}}
use Rattle.terminal_core.specs.Step.{StepResult, step_by, yard_with_entry, after_entry, after_entry_at, after_departure_at, departure_by, after_move_at, after_listing_at, then_line_done_at, by_line, by_state, after_departure}
use Rattle.terminal_core.proofs.Lined.{order, keys_total, keys_apart, same_key}
use Rattle.office_admission.specs.{Admission.{admission, is_for}, Readings.reading_by, Given.IsGiven, Setups.SetupContent, Accounts.content_after}
use Rattle.office_admission.specs.Taking.{MachineState, clearing_of, clearing_for, list_replaced, line_taken_by, line_changes_by, lines_changes_by, verdict_on_by, verdict_changes_by, messages_changes_by, codes_for, source_in, changes_at_by, changes_of_by, interchange_changes_by, interchange_taken}
use Rattle.office_admission.specs.Deliveries.{deliveries_of}
use Rattle.office_rows.specs.{Rows.{ListingContent, Rows, Interchange}, Effects.{with_change, is_line}}
use Rattle.office_rows.specs.ByKey.{line_entry, lines_by, terminal_rows, AreListedOnce}
use Rattle.office_history.{specs.Cascade.{TakenContent, AreTakenFrom, with_changes, with_interchange, with_interchanges, texts_with}, proofs.Kept.count_more}
use Rattle.office_history.specs.After.{machine_after, AreKeptOnce}
use Rattle.office_parts.specs.OwnLists.{ListName, list_name, list_of, own_lines, is_own_line, rows_without_lists, machine_without, without_lists}
use Rattle.office_parts.specs.Naming.{lists_in_order, list_read, list_if_any, lists_in_messages, lists_opened, lists_named_by, interchange_lists, AreHere}
use Rattle.office_parts.specs.{ListLaws.{RowsWithoutListsGiveTerminal, RunsAreWrittenWithout, NameOwnLists}, OwnTerminal.{own_machine, own_terminal}}
use Rattle.office_parts.specs.{ListParts.{NextAddsWithoutLists, OwnRowsWithoutListsAreOwnOffice}, LeftOver.rows_beyond, Parts.{Archived, ArePartsAfter}}
use Rattle.office_parts.proofs.{BringingLemmas.{own_get, sound}, Reading.{here_parts, lists_in_line, lists_ordered, ordered_here}, Takings.next_adds_to_parts}
use Rattle.office_parts.proofs.{ListTakings.{named_same, runs}, OwnOffices.{AreOfOwn, own_shown}, OwnOpening.are_own}
use Rattle.office_replies.specs.Events.{Event}
use Rattle.office_loading.specs.Closed.{ClosedContent}
use Rattle.std.specs.FinMap as finite_map

-- ---- the rows give the terminal

module _ (away : ListName → Bool) where
  abbrev finds : LineKey → List ListingContent → Option LineContent
  finds q lines = finite_map.find order q (map line_entry lines)

  abbrev no_line : Option LineContent
  no_line = None

  nothing : (own : Bool) → no_line ≡ cond own no_line None
  nothing true = refl
  nothing false = refl

  kept_at : (q : LineKey) (lines : List ListingContent) → finds q (filter (is_own_line away) lines) ≡ cond (not (away (list_of q))) (finds q lines) None
  kept_at q [] = nothing (not (away (list_of q)))
  kept_at q (line ∷ lines) = by (is_own_line away line) (eq_by_cmp order q (line_entry line).0) refl refl (kept_at q lines)
    where
      by : (own tie : Bool) → is_own_line away line ≡ own → eq_by_cmp order q (line_entry line).0 ≡ tie → finds q (filter (is_own_line away) lines) ≡ cond (not (away (list_of q))) (finds q lines) None
          → finds q (cond own (line ∷ filter (is_own_line away) lines) (filter (is_own_line away) lines)) ≡ cond (not (away (list_of q))) (cond tie (Some (line_entry line).1) (finds q lines)) None
      by true true o t rest =
          ap (λ b. cond b (Some (line_entry line).1) (finds q (filter (is_own_line away) lines))) t
          ∙ ap (λ b. cond b (Some (line_entry line).1) None) (sym (ap (λ k. not (away (list_of k))) (same_key q (line_entry line).0 t) ∙ o))
      by true false o t rest = ap (λ b. cond b (Some (line_entry line).1) (finds q (filter (is_own_line away) lines))) t ∙ rest
      by false true o t rest =
          rest
          ∙ ap (λ b. cond b (finds q lines) None) (ap (λ k. not (away (list_of k))) (same_key q (line_entry line).0 t) ∙ o)
          ∙ ap (λ b. cond b (Some (line_entry line).1) None) (sym (ap (λ k. not (away (list_of k))) (same_key q (line_entry line).0 t) ∙ o))
      by false false o t rest = rest

  pub lines_kept : (lines : List ListingContent) → lines_by (filter (is_own_line away) lines) ≡ own_lines away (lines_by lines)
  lines_kept lines = finite_map.same_map keys_total keys_apart _ _ (λ q.
      finite_map.get-from_entries keys_total (map line_entry (filter (is_own_line away) lines)) q
      ∙ kept_at q lines
      ∙ ap (λ o. cond (not (away (list_of q))) o None) (sym (finite_map.get-from_entries keys_total (map line_entry lines) q))
      ∙ sym (own_get away (lines_by lines) q))

pub terminals : RowsWithoutListsGiveTerminal
terminals away rows state are =
    let lines : lines_by (filter (is_own_line away) rows.lines) ≡ own_lines away state.lines = lines_kept away rows.lines ∙ ap (λ (r : TerminalRows). own_lines away r.lines) are in
    λ i. record { visits = (are i).visits; places = (are i).places; lines = lines i }

-- ---- what changes add

module _ (away : ListName → Bool) where
  -- a line that is added, done or taken off is of an own list
  abbrev pub IsHere : ChangeContent → Type 0
  IsHere (visit_opened visit) = Unit {0}
  IsHere (visit_closed number departure) = Unit {0}
  IsHere (placed_at container visit slot) = Unit {0}
  IsHere (moved_to container slot) = Unit {0}
  IsHere (removed_from container) = Unit {0}
  IsHere (listed_on call side container port) = away (list_name call side) ≡ false
  IsHere (line_done call side container) = away (list_name call side) ≡ false
  IsHere (unlisted call side container) = away (list_name call side) ≡ false

  abbrev pub AllHere : List ChangeContent → Type 0
  AllHere changes = AllByRecursion IsHere changes

  all_joined : (xs ys : List ChangeContent) → AllHere xs → AllHere ys → AllHere (xs ++ ys)
  all_joined [] ys a b = b
  all_joined (x ∷ xs) ys a b = (a.0, all_joined xs ys a.1 b)

  either_here : (b : Bool) (x y : StepResult) → AllHere x.changes → AllHere y.changes → AllHere (cond b x y).changes
  either_here true x y e f = e
  either_here false x y e f = f

  entered_here : (state : TerminalState) (way : Way) (source : Source) (entry : EntryContent) (r : Result (YardMap × Slot) Refusal) → AllHere (after_entry_at state way source entry r).changes
  entered_here state way source entry (Err refusal) = tt
  entered_here state way source entry (Ok (y, slot)) = (tt, (tt, tt))

  entry_here : (version : Version) (state : TerminalState) (way : Way) (source : Source) (entry : EntryContent) → AllHere (after_entry version state way source entry).changes
  entry_here version state way source entry = either_here (nat_le state.limit (last_number state.visits)) _ _ tt (entered_here state way source entry (yard_with_entry version state.yard entry))

  departed_here : (state : TerminalState) (container : BoxNumber) (departure : Departure) (r : Result (YardMap × Placement) Refusal) → AllHere (after_departure_at state container departure r).changes
  departed_here state container departure (Err refusal) = tt
  departed_here state container departure (Ok (y, stood)) = (tt, (tt, tt))

  moved_here : (state : TerminalState) (container : BoxNumber) (slot : Slot) (r : Result YardMap Refusal) → AllHere (after_move_at state container slot r).changes
  moved_here state container slot (Err refusal) = tt
  moved_here state container slot (Ok y) = (tt, tt)

  listed_here : (state : TerminalState) (call : CallContent) (side : Side) (container : BoxNumber) (port : List ℕ) (o : Option LineContent) → away (list_name call side) ≡ false → AllHere (after_listing_at state call side container port o).changes
  listed_here state call side container port None here = (here, tt)
  listed_here state call side container port (Some line) here = tt

  then_here : (call : CallContent) (side : Side) (container : BoxNumber) (line : LineContent) (after : StepResult) (o : Outcome) → away (list_name call side) ≡ false → AllHere after.changes → AllHere (then_line_done_at call side container line after o).changes
  then_here call side container line after (Refused reason) here all = all
  then_here call side container line after (Done slot) here all = all_joined after.changes _ all (here, tt)
  then_here call side container line after Gone here all = all_joined after.changes _ all (here, tt)
  then_here call side container line after Listed here all = all_joined after.changes _ all (here, tt)

  state_here : (state : TerminalState) (call : CallContent) (side : Side) (container : BoxNumber) (line : LineContent) (after : StepResult) (s : LineState) → away (list_name call side) ≡ false → AllHere after.changes → AllHere (by_state state call side container line after s).changes
  state_here state call side container line after LineIsDone here all = tt
  state_here state call side container line after Pending here all = then_here call side container line after after.outcome here all

  by_line_here : (state : TerminalState) (call : CallContent) (side : Side) (container : BoxNumber) (o : Option LineContent) (after : StepResult) → away (list_name call side) ≡ false → AllHere after.changes → AllHere (by_line state call side container o after).changes
  by_line_here state call side container None after here all = tt
  by_line_here state call side container (Some line) after here all = state_here state call side container line after line.state here all

  order_here : (version : Version) (state : TerminalState) (source : Source) (o : OrderContent) → AreHere away (lists_in_order o) → AllHere (step_by version state source o).changes
  order_here version state source (gate_in entry) here = either_here (is_in state entry.number) _ _ tt (entry_here version state Gate source entry)
  order_here version state source (gate_out container moment) here = departed_here state container (departure_by Gate source moment) (yard_without state.yard container)
  order_here version state source (move container slot) here = moved_here state container slot (yard_with_move (spares_empty version) state.yard container slot)
  order_here version state source (list_discharge call container) here = listed_here state call Discharge container [] (line_of state call Discharge container) here.0
  order_here version state source (list_load call container port) here = listed_here state call Load container port (line_of state call Load container) here.0
  order_here version state source (discharge call entry) here =
      either_here (is_in state entry.number) _ _ tt (by_line_here state call Discharge entry.number (line_of state call Discharge entry.number) (after_entry version state Ship source entry) here.0 (entry_here version state Ship source entry))
  order_here version state source (load call container moment) here =
      either_here (is_in state container) _ _ (by_line_here state call Load container (line_of state call Load container) (after_departure state Ship source container moment) here.0 (departed_here state container (departure_by Ship source moment) (yard_without state.yard container))) tt

  -- ---- of messages

  line_here : (version : Version) (state : TerminalState) (source : Source) (line : MessageLine) → AreHere away (lists_in_line line) → AllHere (line_changes_by version state source line)
  line_here version state source (ordered o) here = order_here version state source o here
  line_here version state source (refused fault number) here = tt

  lines_here : (version : Version) (state : TerminalState) (source : Source) (lines : List MessageLine) → AreHere away (flat_map lists_in_line lines) → AllHere (lines_changes_by version state source lines)
  lines_here version state source [] here = tt
  lines_here version state source (line ∷ lines) here =
      let parts = here_parts away (lists_in_line line) (flat_map lists_in_line lines) here in
      all_joined (line_changes_by version state source line) _ (line_here version state source line parts.0) (lines_here version (line_taken_by version state source line).0 source lines parts.1)

  unlisted_here : (call : CallContent) (side : Side) (containers : List BoxNumber) → away (list_name call side) ≡ false → AllHere (map (unlisted call side) containers)
  unlisted_here call side [] here = tt
  unlisted_here call side (b ∷ containers) here = (here, unlisted_here call side containers here)

  clearing_here : (state : TerminalState) (list : Option (CallContent × Side)) → AreHere away (list_if_any list) → AllHere (clearing_of state list).changes
  clearing_here state None here = tt
  clearing_here state (Some list) here = unlisted_here list.0 list.1 _ here.0

  verdict_here : (version : Version) (state : TerminalState) (source : Source) (read : Result MessageContent MessageFault) → AreHere away (lists_ordered read) → AllHere (verdict_changes_by version state source read)
  verdict_here version state source (Err fault) here = tt
  verdict_here version state source (Ok content) here =
      let parts = here_parts away (list_if_any (list_replaced content)) (flat_map lists_in_line content.lines) here in
      all_joined (clearing_for state content).changes _ (clearing_here state (list_replaced content) parts.0) (lines_here version (clearing_for state content).state source content.lines parts.1)

  messages_here : (version : Version) (state : TerminalState) (codes : Codes) (source : Source) (opened : CivilMoment) (messages : List Message) → AreHere away (lists_in_messages version codes opened messages)
      → AllHere (messages_changes_by version state codes source opened messages)
  messages_here version state codes source opened [] here = tt
  messages_here version state codes source opened (message ∷ messages) here =
      let read = reading_by version codes opened message in
      let parts = here_parts away (list_read read) (lists_in_messages version codes opened messages) here in
      all_joined (verdict_changes_by version state source read) _ (verdict_here version state source read (ordered_here away version codes opened message parts.0))
      (messages_here version (verdict_on_by version state source read).0 codes source opened messages parts.1)

  at_here : (version : Version) (machine : MachineState) (partner : ℕ) (kind : PartnerKind) (segments : List Content) (opened : Option CivilMoment) → AreHere away (lists_opened version (codes_for machine kind) (messages_of segments) opened)
      → AllHere (changes_at_by version machine partner kind segments opened)
  at_here version machine partner kind segments None here = tt
  at_here version machine partner kind segments (Some opened) here = messages_here version machine.terminal (codes_for machine kind) (source_in partner (header_of segments)) opened (messages_of segments) here

  of_here : (version : Version) (machine : MachineState) (partner : ℕ) (text : List ℕ) (kind : Option PartnerKind) → AreHere away (lists_named_by version machine.codes text kind)
      → AllHere (changes_of_by version machine partner (segments_in text) kind)
  of_here version machine partner text None here = tt
  of_here version machine partner text (Some kind) here = at_here version machine partner kind (segments_in text) (preparation (header_of (segments_in text))) here

  if_here : (is : Bool) (changes : List ChangeContent) → AllHere changes → AllHere (cond is changes [])
  if_here true changes all = all
  if_here false changes all = tt

  pub changes_here : (version : Version) (machine : MachineState) (partner : ℕ) (text : List ℕ) → AreHere away (interchange_lists version machine.codes machine.kinds partner text) → AllHere (interchange_changes_by version machine partner text)
  changes_here version machine partner text here = if_here (is_for partner (admission machine.parties text)) _ (of_here version machine partner text (with_number machine.kinds partner) here)

-- ---- written

module _ (away : ListName → Bool) where
  -- lines that keep their lists
  mapped : (f : ListingContent → ListingContent) → ((l : ListingContent) → is_own_line away (f l) ≡ is_own_line away l) → (lines : List ListingContent) → map f (filter (is_own_line away) lines) ≡ filter (is_own_line away) (map f lines)
  mapped f keeps [] = refl
  mapped f keeps (l ∷ lines) = by (is_own_line away l) (keeps l) (mapped f keeps lines)
    where
      by : (own : Bool) → is_own_line away (f l) ≡ own → map f (filter (is_own_line away) lines) ≡ filter (is_own_line away) (map f lines) → map f (cond own (l ∷ filter (is_own_line away) lines) (filter (is_own_line away) lines)) ≡ filter (is_own_line away) (f l ∷ map f lines)
      by true e rest = ap (λ later. f l ∷ later) rest ∙ sym (ap (λ b. cond b (f l ∷ filter (is_own_line away) (map f lines)) (filter (is_own_line away) (map f lines))) e)
      by false e rest = rest ∙ sym (ap (λ b. cond b (f l ∷ filter (is_own_line away) (map f lines)) (filter (is_own_line away) (map f lines))) e)

  swapped : (p : ListingContent → Bool) (lines : List ListingContent) → filter p (filter (is_own_line away) lines) ≡ filter (is_own_line away) (filter p lines)
  swapped p [] = refl
  swapped p (l ∷ lines) = by (is_own_line away l) (p l) refl refl (swapped p lines)
    where
      by : (own is : Bool) → is_own_line away l ≡ own → p l ≡ is → filter p (filter (is_own_line away) lines) ≡ filter (is_own_line away) (filter p lines) → filter p (cond own (l ∷ filter (is_own_line away) lines) (filter (is_own_line away) lines)) ≡ filter (is_own_line away) (cond is (l ∷ filter p lines) (filter p lines))
      by true true o e rest =
          ap (λ b. cond b (l ∷ filter p (filter (is_own_line away) lines)) (filter p (filter (is_own_line away) lines))) e
          ∙ ap (λ later. l ∷ later) rest
          ∙ sym (ap (λ b. cond b (l ∷ filter (is_own_line away) (filter p lines)) (filter (is_own_line away) (filter p lines))) o)
      by true false o e rest = ap (λ b. cond b (l ∷ filter p (filter (is_own_line away) lines)) (filter p (filter (is_own_line away) lines))) e ∙ rest
      by false true o e rest = rest ∙ sym (ap (λ b. cond b (l ∷ filter (is_own_line away) (filter p lines)) (filter (is_own_line away) (filter p lines))) o)
      by false false o e rest = rest

  done_kept : (call : CallContent) (side : Side) (container : BoxNumber) (l : ListingContent) (is : Bool) → is_own_line away (cond is (record l { state = LineIsDone }) l) ≡ is_own_line away l
  done_kept call side container l true = refl
  done_kept call side container l false = refl

  change_written : (change : ChangeContent) (rows : Rows) → IsHere away change → with_change change (rows_without_lists away rows) ≡ rows_without_lists away (with_change change rows)
  change_written (visit_opened visit) rows here = refl
  change_written (visit_closed number departure) rows here = refl
  change_written (placed_at container visit slot) rows here = refl
  change_written (moved_to container slot) rows here = refl
  change_written (removed_from container) rows here = refl
  change_written (listed_on call side container port) rows here =
      let new : ListingContent = record { call = call; side = side; container = container; port = port; state = Pending } in
      λ i. record rows { lines = (ap (λ b. filter (is_own_line away) rows.lines ++ cond (not b) (new ∷ []) []) (sym here) ∙ sym (filter-append (is_own_line away) rows.lines (new ∷ []))) i }
  change_written (line_done call side container) rows here =
      λ i. record rows { lines = mapped (λ (l : ListingContent). cond (is_line call side container l) (record l { state = LineIsDone }) l) (λ l. done_kept call side container l (is_line call side container l)) rows.lines i }
  change_written (unlisted call side container) rows here = λ i. record rows { lines = swapped (λ l. not (is_line call side container l)) rows.lines i }

  changes_written : (changes : List ChangeContent) (rows : Rows) → AllHere away changes → with_changes changes (rows_without_lists away rows) ≡ rows_without_lists away (with_changes changes rows)
  changes_written [] rows all = refl
  changes_written (change ∷ changes) rows all = ap (with_changes changes) (change_written change rows all.0) ∙ changes_written changes (with_change change rows) all.1

  interchanges_written : (partner : ℕ) (texts : ℕ → Option (List ℕ)) (number : ℕ) (machine : MachineState) (taken : List TakenContent) (machine' : MachineState) (rows : Rows) → NameOwnLists away machine partner texts number → AreTakenFrom partner texts number machine taken machine'
      → with_interchanges partner taken (rows_without_lists away rows) ≡ rows_without_lists away (with_interchanges partner taken rows)
  interchanges_written partner texts number machine [] machine' rows here from = refl
  interchanges_written partner texts number machine (t ∷ taken) machine' rows here from =
      let text : List ℕ = from.0 in
      let all : AllHere away t.changes = subst (AllHere away) (sym from.4) (changes_here away newest machine partner text (here number text (omega arith) from.1)) in
      let one : with_interchange partner t (rows_without_lists away rows) ≡ rows_without_lists away (with_interchange partner t rows) =
      ap (λ r. with_interchange partner (record t { changes = [] }) r) (changes_written t.changes rows all) in
      ap (with_interchanges partner taken) one
      ∙ interchanges_written partner texts (number + 1) (interchange_taken machine partner text).0 taken machine' (with_interchange partner t rows) (named_same away machine partner texts number text here) from.5

pub runs_written : RunsAreWrittenWithout
runs_written away rows partner texts number text machine taken machine' here from =
    interchanges_written away partner texts number machine taken machine' _ here from

-- ==== PartLemmas: A delivery that is next, to a store of which lists were put away.

pub next_adds : NextAddsWithoutLists
next_adds content es archived own whole away sent p n taken there given are for free is named from =
    let texts = texts_with own p n (interchange_of sent) in
    let machine = own_machine archived.stays (machine_after content es) in
    let run = runs away p texts n machine taken there named from in
    let all = next_adds_to_parts content es archived own whole sent p n taken run.machine' given are for free is run.from in
    record {
      machine = all.machine;
      on_whole = all.on_whole;
      adds = all.adds;
      parts = all.parts;
      written = runs_written away own p texts n (interchange_of sent) machine taken run.machine' named run.from;
      beside = run.beside ∙ ap (machine_without away) all.beside;
    }

-- ==== OfficeLemmas: What the tables of a store show of which lists were put away: its own office.

-- ---- no more lines than there were

fewer : (p q : ListingContent → Bool) (lines : List ListingContent) → count_by p (filter q lines) ≤ count_by p lines
fewer p q [] = omega arith
fewer p q (line ∷ lines) = by (q line) (p line) refl (fewer p q lines)
  where
    by : (own is : Bool) → p line ≡ is → count_by p (filter q lines) ≤ count_by p lines → count_by p (cond own (line ∷ filter q lines) (filter q lines)) ≤ count_by p (line ∷ lines)
    by true is e rest = omega (arith, count_more p line (filter q lines) is e, count_more p line lines is e, rest)
    by false is e rest = omega (arith, count_more p line lines is e, rest)

listed_once_without : (away : ListName → Bool) (lines : List ListingContent) → AreListedOnce lines → AreListedOnce (filter (is_own_line away) lines)
listed_once_without away lines once call side container = omega (arith, fewer (is_line call side container) (is_own_line away) lines, once call side container)

-- ---- the rows without the lists

module _ (away : ListName → Bool) (lines : List ListingContent) (rows : Rows) (are_lines : rows.lines ≡ filter (is_own_line away) lines) where
  -- the rows, the lines that were put away among them
  abbrev filled : Rows
  filled = record rows { lines = lines }

  is_filled : rows ≡ rows_without_lists away filled
  is_filled i = record rows { lines = are_lines i }

  pub own_without : (closed : ClosedContent) (content : SetupContent) (runs : ℕ → ℕ) (state : TerminalState) → AreOfOwn closed content runs filled state → AreOfOwn closed content runs rows (without_lists away state)
  own_without closed content runs state are =
      let kept = sound away state are.whole are.formed in
      record {
        given = are.given;
        partners = are.partners;
        high = are.high;
        keeps = record {
          once = are.keeps.once;
          range = are.keeps.range;
          beyond = are.keeps.beyond;
          there = are.keeps.there;
          below = are.keeps.below;
        };
        by_key = record {
          same = ap terminal_rows is_filled ∙ terminals away filled state are.by_key.same;
          placed_once = are.by_key.placed_once;
          listed_once = subst AreListedOnce (sym are_lines) (listed_once_without away lines are.by_key.listed_once);
        };
        settings = are.settings;
        blocks = are.blocks;
        plan = are.plan;
        limit = are.limit;
        whole = kept.0;
        own_visits = are.own_visits;
        formed = kept.1;
        accounted = are.accounted;
      }

pub are_own_without : (content : SetupContent) (es : List Event) (archived : Archived) (own whole rows : Rows) (away : ListName → Bool) (newest_closed : ℕ) → IsGiven content → ArePartsAfter content es archived own whole →
    rows_beyond archived.last_closed rows ≡ rows_without_lists away own → AreKeptOnce rows.interchanges → ((i : Interchange) → Contains rows.interchanges i → Contains whole.interchanges i) →
    ((number : ℕ) → newest_closed < number → archived.stays number ≡ true)
    → AreOfOwn (record { last_closed = archived.last_closed; newest_closed = newest_closed }) (content_after content es) (run (deliveries_of content es)) rows (without_lists away (own_terminal archived.stays (machine_after content es).terminal))
are_own_without content es archived own whole rows away newest_closed given are left once of_whole later =
    let all : rows_beyond archived.last_closed (record rows { lines = own.lines }) ≡ own = λ i. record (left i) { lines = own.lines } in
    own_without away own.lines rows (ap (λ (r : Rows). r.lines) left) (record { last_closed = archived.last_closed; newest_closed = newest_closed }) (content_after content es) (run (deliveries_of content es))
    (own_terminal archived.stays (machine_after content es).terminal)
    (are_own content es archived own whole (record rows { lines = own.lines }) newest_closed given are all once of_whole later)

pub own_office_without : OwnRowsWithoutListsAreOwnOffice
own_office_without content es archived own whole rows away db newest_closed given are left once of_whole later has =
    own_shown (record { last_closed = archived.last_closed; newest_closed = newest_closed }) (content_after content es) (run (deliveries_of content es)) rows
    (without_lists away (own_terminal archived.stays (machine_after content es).terminal)) db
    (are_own_without content es archived own whole rows away newest_closed given are left once of_whole later) has.rows_are
