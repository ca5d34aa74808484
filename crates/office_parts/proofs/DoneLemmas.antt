-- A line that is done stays done.
use Rattle.std.specs.{Prelude.◌&&◌, Ordering.eq_by_cmp}
use Rattle.std.proofs.Common.{◌≡◌, ℕ, ◌+◌, List, [], ◌∷◌, Bool, true, false, cond, Option, None, Some, Result, Ok, Err, refl, sym, ap, subst, ◌∙◌, nat_le}
use Rattle.box6346.specs.{declared.box_number.BoxNumber.BoxNumber, declared.slot.Slot.Slot}
use Rattle.edi_syntax.specs.{Moments.CivilMoment, Text.Content, Interchange.segments_in, Envelope.{header_of, messages_of}, Header.preparation}
use Rattle.edi_syntax.specs.Messages.{Message}
use Rattle.edi_messages.specs.{Message.{LineContent as MessageLine, ordered, refused, MessageContent}, Purposes.CallContent, declared.codes.Codes.Codes}
use Rattle.edi_messages.specs.Orders.{EntryContent, OrderContent, gate_in, gate_out, move, list_discharge, list_load, discharge, load}
use Rattle.edi_messages.specs.{declared.codes.PartnerKind.PartnerKind, declared.message.MessageFault.MessageFault}
use Rattle.partner_core.specs.Numbered.{with_number}
use Rattle.yard_core.specs.{YardMap.YardMap, Decisions.{Refusal, yard_without, yard_with_move}, declared.placements.Placement.Placement}
use Rattle.terminal_core.specs.{declared.visits.Departure.Departure, declared.lines.LineState.LineState, declared.lines.Side.Side, declared.visits.Way.Way}
use Rattle.terminal_core.specs.{declared.lines.LineState.TheVariants.{Pending, Done as LineIsDone}, declared.lines.Side.TheVariants.{Load, Discharge}}
use Rattle.terminal_core.specs.{declared.change.Outcome.Outcome, declared.change.Outcome.TheVariants.{Done, Gone, Listed, Refused}}
use Rattle.terminal_core.specs.{declared.change.Source.Source, declared.change.Version.Version, declared.visits.Way.TheVariants.{Gate, Ship}}
use Rattle.terminal_core.specs.{State.{TerminalState, LineContent, LineKey, Lines, line_key, line_of, is_in, last_number}, Versions.{newest, spares_empty}}
use Rattle.terminal_core.{specs.Drop.{is_on, is_pending, unless_open_on, list_drop}, proofs.{Dropping.drop_alone, Lined.{order, keys_total, same_key}}}
use Rattle.terminal_core.specs.Step.{StepResult, step_by, yard_with_entry, after_entry, after_entry_at, after_departure, after_departure_at, departure_by, after_move_at, after_listing_at, then_line_done_at, by_line, by_state}
use Rattle.office_admission.specs.{Admission.{admission, is_for}, Readings.reading_by}
use Rattle.office_admission.specs.Taking.{MachineState, clearing_of, clearing_for, list_replaced, line_taken_by, lines_taken_by, verdict_on_by, messages_taken_by, codes_for, source_in, taken_at_by, taken_of_by, interchange_taken}
use Rattle.office_parts.specs.Done.{IsDoneLine, DoneLinesStay, DoneLinesStayInRuns}
use Rattle.std.specs.FinMap as finite_map

module _ (key : LineKey) where
  abbrev Stays : TerminalState → Type 0
  Stays state = IsDoneLine state.lines key

  either_stays : (b : Bool) (x y : StepResult) → Stays x.state → Stays y.state → Stays (cond b x y).state
  either_stays true x y e f = e
  either_stays false x y e f = f

  -- ---- lines

  -- a new line stands elsewhere
  listed_stays_at : (lines : Lines) (other : LineKey) (line : LineContent) → finite_map.get lines other ≡ None → IsDoneLine lines key → IsDoneLine (finite_map.insert lines other line) key
  listed_stays_at lines other line none done = by (eq_by_cmp order key other) refl
    where
      by : (tie : Bool) → eq_by_cmp order key other ≡ tie → IsDoneLine (finite_map.insert lines other line) key
      by true e =
          let here : finite_map.get lines key ≡ None = ap (finite_map.get lines) (same_key key other e) ∙ none in
          let no : Some done.line ≡ None = sym done.there ∙ here in
          absurd cc
      by false e = record {
        line = done.line;
        there = finite_map.get-insert keys_total lines other line key ∙ ap (λ b. cond b (Some line) (finite_map.get lines key)) e ∙ done.there;
        is_done = done.is_done;
      }

  -- one more that is done
  done_stays_at : (lines : Lines) (other : LineKey) (line : LineContent) → line.state ≡ LineIsDone → IsDoneLine lines key → IsDoneLine (finite_map.insert lines other line) key
  done_stays_at lines other line is done = by (eq_by_cmp order key other) refl
    where
      by : (tie : Bool) → eq_by_cmp order key other ≡ tie → IsDoneLine (finite_map.insert lines other line) key
      by true e = record { line = line; there = finite_map.get-insert keys_total lines other line key ∙ ap (λ b. cond b (Some line) (finite_map.get lines key)) e; is_done = is }
      by false e = record {
        line = done.line;
        there = finite_map.get-insert keys_total lines other line key ∙ ap (λ b. cond b (Some line) (finite_map.get lines key)) e ∙ done.there;
        is_done = done.is_done;
      }

  none_false : (b : Bool) → (b && false) ≡ false
  none_false true = refl
  none_false false = refl

  dropped_stays : (state : TerminalState) (call : CallContent) (side : Side) → Stays state → Stays (list_drop state call side).state
  dropped_stays state call side done = record {
    line = done.line;
    there = drop_alone state call side key
        ∙ ap (unless_open_on call side key) done.there
        ∙ ap (λ b. cond b None (Some done.line)) (ap (λ s. is_on call side key && is_pending s) done.is_done ∙ none_false (is_on call side key));
    is_done = done.is_done;
  }

  -- ---- an order

  entered_stays : (state : TerminalState) (way : Way) (source : Source) (entry : EntryContent) (r : Result (YardMap × Slot) Refusal) → Stays state → Stays (after_entry_at state way source entry r).state
  entered_stays state way source entry (Err refusal) done = done
  entered_stays state way source entry (Ok (y, slot)) done = done

  entry_stays : (version : Version) (state : TerminalState) (way : Way) (source : Source) (entry : EntryContent) → Stays state → Stays (after_entry version state way source entry).state
  entry_stays version state way source entry done = either_stays (nat_le state.limit (last_number state.visits)) _ _ done (entered_stays state way source entry (yard_with_entry version state.yard entry) done)

  departed_stays : (state : TerminalState) (container : BoxNumber) (departure : Departure) (r : Result (YardMap × Placement) Refusal) → Stays state → Stays (after_departure_at state container departure r).state
  departed_stays state container departure (Err refusal) done = done
  departed_stays state container departure (Ok (y, stood)) done = done

  moved_stays : (state : TerminalState) (container : BoxNumber) (slot : Slot) (r : Result YardMap Refusal) → Stays state → Stays (after_move_at state container slot r).state
  moved_stays state container slot (Err refusal) done = done
  moved_stays state container slot (Ok y) done = done

  listed_stays : (state : TerminalState) (call : CallContent) (side : Side) (container : BoxNumber) (port : List ℕ) (o : Option LineContent) → line_of state call side container ≡ o → Stays state → Stays (after_listing_at state call side container port o).state
  listed_stays state call side container port (Some line) e done = done
  listed_stays state call side container port None e done = listed_stays_at state.lines (line_key call side container) _ e done

  then_stays : (call : CallContent) (side : Side) (container : BoxNumber) (line : LineContent) (after : StepResult) (o : Outcome) → Stays after.state → Stays (then_line_done_at call side container line after o).state
  then_stays call side container line after (Refused reason) done = done
  then_stays call side container line after (Done slot) done = done_stays_at after.state.lines (line_key call side container) _ refl done
  then_stays call side container line after Gone done = done_stays_at after.state.lines (line_key call side container) _ refl done
  then_stays call side container line after Listed done = done_stays_at after.state.lines (line_key call side container) _ refl done

  state_stays : (state : TerminalState) (call : CallContent) (side : Side) (container : BoxNumber) (line : LineContent) (after : StepResult) (s : LineState) → Stays state → Stays after.state → Stays (by_state state call side container line after s).state
  state_stays state call side container line after LineIsDone done then = done
  state_stays state call side container line after Pending done then = then_stays call side container line after after.outcome then

  by_line_stays : (state : TerminalState) (call : CallContent) (side : Side) (container : BoxNumber) (o : Option LineContent) (after : StepResult) → Stays state → Stays after.state → Stays (by_line state call side container o after).state
  by_line_stays state call side container None after done then = done
  by_line_stays state call side container (Some line) after done then = state_stays state call side container line after line.state done then

  step_stays : (version : Version) (state : TerminalState) (source : Source) (o : OrderContent) → Stays state → Stays (step_by version state source o).state
  step_stays version state source (gate_in entry) done = either_stays (is_in state entry.number) _ _ done (entry_stays version state Gate source entry done)
  step_stays version state source (gate_out container moment) done = departed_stays state container (departure_by Gate source moment) (yard_without state.yard container) done
  step_stays version state source (move container slot) done = moved_stays state container slot (yard_with_move (spares_empty version) state.yard container slot) done
  step_stays version state source (list_discharge call container) done = listed_stays state call Discharge container [] (line_of state call Discharge container) refl done
  step_stays version state source (list_load call container port) done = listed_stays state call Load container port (line_of state call Load container) refl done
  step_stays version state source (discharge call entry) done =
      either_stays (is_in state entry.number) _ _ done
      (by_line_stays state call Discharge entry.number (line_of state call Discharge entry.number) (after_entry version state Ship source entry) done (entry_stays version state Ship source entry done))
  step_stays version state source (load call container moment) done =
      either_stays (is_in state container) _ _
      (by_line_stays state call Load container (line_of state call Load container) (after_departure state Ship source container moment) done (departed_stays state container (departure_by Ship source moment) (yard_without state.yard container) done))
      done

  -- ---- an interchange

  line_stays : (version : Version) (state : TerminalState) (source : Source) (line : MessageLine) → Stays state → Stays (line_taken_by version state source line).0
  line_stays version state source (ordered o) done = step_stays version state source o done
  line_stays version state source (refused fault number) done = done

  lines_stay : (version : Version) (state : TerminalState) (source : Source) (lines : List MessageLine) → Stays state → Stays (lines_taken_by version state source lines).0
  lines_stay version state source [] done = done
  lines_stay version state source (line ∷ lines) done = lines_stay version (line_taken_by version state source line).0 source lines (line_stays version state source line done)

  clearing_stays : (state : TerminalState) (list : Option (CallContent × Side)) → Stays state → Stays (clearing_of state list).state
  clearing_stays state None done = done
  clearing_stays state (Some list) done = dropped_stays state list.0 list.1 done

  verdict_stays : (version : Version) (state : TerminalState) (source : Source) (read : Result MessageContent MessageFault) → Stays state → Stays (verdict_on_by version state source read).0
  verdict_stays version state source (Err fault) done = done
  verdict_stays version state source (Ok content) done = lines_stay version (clearing_for state content).state source content.lines (clearing_stays state (list_replaced content) done)

  messages_stay : (version : Version) (state : TerminalState) (codes : Codes) (source : Source) (opened : CivilMoment) (messages : List Message) → Stays state → Stays (messages_taken_by version state codes source opened messages).0
  messages_stay version state codes source opened [] done = done
  messages_stay version state codes source opened (message ∷ messages) done =
      messages_stay version (verdict_on_by version state source (reading_by version codes opened message)).0 codes source opened messages (verdict_stays version state source (reading_by version codes opened message) done)

  at_stays : (version : Version) (machine : MachineState) (partner : ℕ) (kind : PartnerKind) (segments : List Content) (opened : Option CivilMoment) → Stays machine.terminal → Stays (taken_at_by version machine partner kind segments opened).0.terminal
  at_stays version machine partner kind segments None done = done
  at_stays version machine partner kind segments (Some opened) done = messages_stay version machine.terminal (codes_for machine kind) (source_in partner (header_of segments)) opened (messages_of segments) done

  of_stays : (version : Version) (machine : MachineState) (partner : ℕ) (segments : List Content) (kind : Option PartnerKind) → Stays machine.terminal → Stays (taken_of_by version machine partner segments kind).0.terminal
  of_stays version machine partner segments None done = done
  of_stays version machine partner segments (Some kind) done = at_stays version machine partner kind segments (preparation (header_of segments)) done

  if_stays : (is : Bool) (x y : MachineState × List ℕ) → Stays x.0.terminal → Stays y.0.terminal → Stays (cond is x y).0.terminal
  if_stays true x y e f = e
  if_stays false x y e f = f

pub stays_done : DoneLinesStay
stays_done version machine partner text key done =
    if_stays key (is_for partner (admission machine.parties text)) _ _ (of_stays key version machine partner (segments_in text) (with_number machine.kinds partner) done) done

pub run_stays_done : DoneLinesStayInRuns
run_stays_done partner texts number machine [] machine' key from done = subst (λ (m : MachineState). IsDoneLine m.terminal.lines key) (sym from.1) done
run_stays_done partner texts number machine (t ∷ taken) machine' key from done =
    run_stays_done partner texts (number + 1) (interchange_taken machine partner from.0).0 taken machine' key from.5 (stays_done newest machine partner from.0 key done)
