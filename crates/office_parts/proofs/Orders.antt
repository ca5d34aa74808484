-- An order at the store's own terminal, beside the visits that were put away.
use Rattle.std.specs.Prelude.{find, count_by, filter}
use Rattle.std.specs.Option.{option_map, option_and_then, option_or}
use Rattle.std.specs.List.{AllByRecursion}
use Rattle.std.proofs.lemmas.Bool.{cases_order}
use Rattle.std.proofs.lemmas.List.Folds.{find-append}
use Rattle.std.proofs.Common.{◌≡◌, ℕ, ◌+◌, List, [], ◌∷◌, Bool, true, false, cond, Option, None, Some, Result, Ok, Err, refl, sym, ap, ◌∙◌, arith, nat_le, ◌<◌, ◌≤◌, inl, inr, ◌++◌, is_some, subst, ◌⊎◌, map}
use Rattle.box6346.specs.{declared.box_number.BoxNumber.BoxNumber, declared.slot.Slot.Slot}
use Rattle.edi_messages.specs.{Purposes.CallContent, Orders.{EntryContent, OrderContent, gate_in, gate_out, move, list_discharge, list_load, discharge, load}}
use Rattle.yard_core.specs.{YardMap.YardMap, Decisions.{Refusal, yard_without, yard_with_move}, declared.placements.Placement.Placement}
use Rattle.terminal_core.specs.{declared.visits.Departure.Departure, declared.lines.LineState.LineState, declared.change.Outcome.Outcome}
use Rattle.terminal_core.specs.{declared.lines.LineState.TheVariants.{Pending, Done as LineIsDone}, declared.change.Reason.TheVariants.{AlreadyIn, VisitLimit}}
use Rattle.terminal_core.specs.{declared.change.Outcome.TheVariants.{Done, Gone, Listed, Refused}, declared.lines.Side.Side, declared.change.Source.Source}
use Rattle.terminal_core.specs.{declared.lines.Side.TheVariants.{Load, Discharge}, declared.change.Version.Version, declared.visits.Way.Way}
use Rattle.terminal_core.specs.{declared.visits.Way.TheVariants.{Gate, Ship}, Rows.{visit_opened, visit_closed, placed_at, removed_from}}
use Rattle.terminal_core.specs.{State.{TerminalState, LineContent, line_of, is_in, last_number}, Versions.{spares_empty, newest}}
use Rattle.terminal_core.specs.Step.{StepResult, step_with, with_refusal, step_by, yard_with_entry, opened_visit, visit_of, after_entry, after_entry_at, after_departure, after_departure_at, departure_by, closed_visit, number_of_visit, after_move_at, after_listing_at, then_line_done_at, by_line, by_state}
use Rattle.office_parts.specs.{OwnTerminal.{own_terminal, own_step, MayStay}, Laws.{OrdersActAlike, NumbersAreTold, ClosedAreWithinRuns, ArchivesAnswer}}
use Rattle.office_parts.specs.{Parts.{Archived, rows_of_archives, AreClosed, AreParts}, Closing.is_beyond}
use Rattle.office_parts.proofs.Counting.{entered_counting, entry_counting, step_counting}
use Rattle.office_parts.proofs.Splits.{closing_keeps, kept_pushed, kept_mapped, open_kept, pushed_stays, mapped_stays, some_is, or_some, count_both, none_at, counted_some}
use Rattle.edi_syntax.specs.Interchange.{interchange_of}
use Rattle.partner_core.proofs.OnceEach.{replied_within}
use Rattle.office_admission.specs.{Accounts.content_after, Deliveries.deliveries_of, Setups.parties_in}
use Rattle.office_rows.specs.{Rows.{Interchange, Rows}, Effects.is_pair, Values.interchange_values, Opened.number_kept}
use Rattle.office_history.{specs.{After.{opening_of, taking_in, reply_if_any, reply_in, AreKeptOnce}, Cascade.text_in}, proofs.Accounted.{within, answers}}
use Rattle.office_history.proofs.{Lawful.used_adds, Kept.{Rise, fewer}, Runs.{is_pair_at, InTurn, is_before}, KeptNumbers.{apart, pair_order}}
use Rattle.office_loading.specs.Checks.{numbers_beyond}

-- ---- counting

entered_same : (state : TerminalState) (way : Way) (source : Source) (entry : EntryContent) (r : Result (YardMap × Slot) Refusal) → entered_counting (last_number state.visits) state way source entry r ≡ after_entry_at state way source entry r
entered_same state way source entry (Err refusal) = refl
entered_same state way source entry (Ok settled) = refl

entry_same : (version : Version) (state : TerminalState) (way : Way) (source : Source) (entry : EntryContent) → entry_counting (last_number state.visits) version state way source entry ≡ after_entry version state way source entry
entry_same version state way source entry =
    ap (cond (nat_le state.limit (last_number state.visits)) (with_refusal state VisitLimit)) (entered_same state way source entry (yard_with_entry version state.yard entry))

by_newest : (version : Version) (state : TerminalState) (source : Source) (order : OrderContent) → step_counting (last_number state.visits) version state source order ≡ step_by version state source order
by_newest version state source (gate_in entry) = ap (cond (is_in state entry.number) (with_refusal state AlreadyIn)) (entry_same version state Gate source entry)
by_newest version state source (gate_out container moment) = refl
by_newest version state source (move container slot) = refl
by_newest version state source (list_discharge call container) = refl
by_newest version state source (list_load call container port) = refl
by_newest version state source (discharge call entry) =
    ap (λ after. cond (is_in state entry.number) (with_refusal state AlreadyIn) (by_line state call Discharge entry.number (line_of state call Discharge entry.number) after)) (entry_same version state Ship source entry)
by_newest version state source (load call container moment) = refl

-- ---- beside

module _ (stays : ℕ → Bool) where
  abbrev kept : TerminalState → TerminalState
  kept = own_terminal stays

  abbrev beside : StepResult → StepResult
  beside = own_step stays

  either_beside : (b : Bool) (x y x' y' : StepResult) → x' ≡ beside x → y' ≡ beside y → cond b x' y' ≡ beside (cond b x y)
  either_beside true x y x' y' e f = e
  either_beside false x y x' y' e f = f

  entered_beside : (n : ℕ) (state : TerminalState) (way : Way) (source : Source) (entry : EntryContent) (r : Result (YardMap × Slot) Refusal) → stays (n + 1) ≡ true
      → entered_counting n (kept state) way source entry r ≡ beside (entered_counting n state way source entry r)
  entered_beside n state way source entry (Err refusal) own = refl
  entered_beside n state way source entry (Ok (y, slot)) own =
      ap (λ visits. step_with (record state { yard = y; visits = visits }) (Done slot) (visit_opened (opened_visit (n + 1) way source entry slot) ∷ placed_at entry.number (n + 1) slot ∷ []))
      (sym (kept_pushed stays state.visits (opened_visit (n + 1) way source entry slot) own))

  entry_beside : (n : ℕ) (version : Version) (state : TerminalState) (way : Way) (source : Source) (entry : EntryContent) → stays (n + 1) ≡ true
      → entry_counting n version (kept state) way source entry ≡ beside (entry_counting n version state way source entry)
  entry_beside n version state way source entry own =
      either_beside (nat_le state.limit n) _ _ _ _ refl (entered_beside n state way source entry (yard_with_entry version state.yard entry) own)

  departed_beside : (state : TerminalState) (container : BoxNumber) (departure : Departure) (r : Result (YardMap × Placement) Refusal) → MayStay stays state.visits
      → after_departure_at (kept state) container departure r ≡ beside (after_departure_at state container departure r)
  departed_beside state container departure (Err refusal) may = refl
  departed_beside state container departure (Ok (y, stood)) may =
      λ i. step_with (record state { yard = y; visits = sym (kept_mapped stays (closed_visit departure container) (closing_keeps departure container) state.visits) i }) Gone
      (removed_from container ∷ visit_closed (number_of_visit (open_kept stays container state.visits may.over i)) departure ∷ [])

  moved_beside : (state : TerminalState) (container : BoxNumber) (slot : Slot) (r : Result YardMap Refusal) → after_move_at (kept state) container slot r ≡ beside (after_move_at state container slot r)
  moved_beside state container slot (Err refusal) = refl
  moved_beside state container slot (Ok y) = refl

  listed_beside : (state : TerminalState) (call : CallContent) (side : Side) (container : BoxNumber) (port : List ℕ) (o : Option LineContent) → after_listing_at (kept state) call side container port o ≡ beside (after_listing_at state call side container port o)
  listed_beside state call side container port None = refl
  listed_beside state call side container port (Some line) = refl

  then_beside : (call : CallContent) (side : Side) (container : BoxNumber) (line : LineContent) (after : StepResult) (o : Outcome) → then_line_done_at call side container line (beside after) o ≡ beside (then_line_done_at call side container line after o)
  then_beside call side container line after (Refused reason) = refl
  then_beside call side container line after (Done slot) = refl
  then_beside call side container line after Gone = refl
  then_beside call side container line after Listed = refl

  state_beside : (state : TerminalState) (call : CallContent) (side : Side) (container : BoxNumber) (line : LineContent) (after : StepResult) (s : LineState) → by_state (kept state) call side container line (beside after) s ≡ beside (by_state state call side container line after s)
  state_beside state call side container line after LineIsDone = refl
  state_beside state call side container line after Pending = then_beside call side container line after after.outcome

  line_beside : (state : TerminalState) (call : CallContent) (side : Side) (container : BoxNumber) (o : Option LineContent) (after : StepResult) → by_line (kept state) call side container o (beside after) ≡ beside (by_line state call side container o after)
  line_beside state call side container None after = refl
  line_beside state call side container (Some line) after = state_beside state call side container line after line.state

  counting_beside : (n : ℕ) (version : Version) (state : TerminalState) (source : Source) (order : OrderContent) → stays (n + 1) ≡ true → MayStay stays state.visits
      → step_counting n version (kept state) source order ≡ beside (step_counting n version state source order)
  counting_beside n version state source (gate_in entry) own may = either_beside (is_in state entry.number) _ _ _ _ refl (entry_beside n version state Gate source entry own)
  counting_beside n version state source (gate_out container moment) own may = departed_beside state container (departure_by Gate source moment) (yard_without state.yard container) may
  counting_beside n version state source (move container slot) own may = moved_beside state container slot (yard_with_move (spares_empty version) state.yard container slot)
  counting_beside n version state source (list_discharge call container) own may = listed_beside state call Discharge container [] (line_of state call Discharge container)
  counting_beside n version state source (list_load call container port) own may = listed_beside state call Load container port (line_of state call Load container)
  counting_beside n version state source (discharge call entry) own may =
      either_beside (is_in state entry.number) _ _ _ _ refl
      (ap (by_line (kept state) call Discharge entry.number (line_of state call Discharge entry.number)) (entry_beside n version state Ship source entry own)
      ∙ line_beside state call Discharge entry.number (line_of state call Discharge entry.number) (entry_counting n version state Ship source entry))
  counting_beside n version state source (load call container moment) own may =
      either_beside (is_in state container) _ _ _ _
      (ap (by_line (kept state) call Load container (line_of state call Load container)) (departed_beside state container (departure_by Ship source moment) (yard_without state.yard container) may)
      ∙ line_beside state call Load container (line_of state call Load container) (after_departure state Ship source container moment)) refl

pub steps_beside : (stays : ℕ → Bool) (version : Version) (state : TerminalState) (source : Source) (order : OrderContent) → MayStay stays state.visits
    → step_by version (own_terminal stays state) source order ≡ own_step stays (step_by version state source order)
steps_beside stays version state source order may =
    let next : stays (last_number state.visits + 1) ≡ true = may.later (last_number state.visits + 1) (omega arith) in
    sym (by_newest version (own_terminal stays state) source order)
    ∙ ap (λ n. step_counting n version (own_terminal stays state) source order) may.newest
    ∙ counting_beside stays (last_number state.visits) version state source order next may
    ∙ ap (own_step stays) (by_newest version state source order)

-- ---- what is left goes on so

module _ (stays : ℕ → Bool) where
  abbrev Stays : StepResult → Type 0
  Stays after = MayStay stays after.state.visits

  either_stays : (b : Bool) (x y : StepResult) → Stays x → Stays y → Stays (cond b x y)
  either_stays true x y e f = e
  either_stays false x y e f = f

  entered_stays : (state : TerminalState) (way : Way) (source : Source) (entry : EntryContent) (r : Result (YardMap × Slot) Refusal) → MayStay stays state.visits
      → Stays (after_entry_at state way source entry r)
  entered_stays state way source entry (Err refusal) may = may
  entered_stays state way source entry (Ok (y, slot)) may = pushed_stays stays state.visits (visit_of state way source entry slot) (omega arith) may

  entry_stays : (version : Version) (state : TerminalState) (way : Way) (source : Source) (entry : EntryContent) → MayStay stays state.visits → Stays (after_entry version state way source entry)
  entry_stays version state way source entry may =
      either_stays (nat_le state.limit (last_number state.visits)) _ _ may (entered_stays state way source entry (yard_with_entry version state.yard entry) may)

  departed_stays : (state : TerminalState) (container : BoxNumber) (departure : Departure) (r : Result (YardMap × Placement) Refusal) → MayStay stays state.visits → Stays (after_departure_at state container departure r)
  departed_stays state container departure (Err refusal) may = may
  departed_stays state container departure (Ok (y, stood)) may = mapped_stays stays (closed_visit departure container) (closing_keeps departure container) state.visits may

  moved_stays : (state : TerminalState) (container : BoxNumber) (slot : Slot) (r : Result YardMap Refusal) → MayStay stays state.visits → Stays (after_move_at state container slot r)
  moved_stays state container slot (Err refusal) may = may
  moved_stays state container slot (Ok y) may = may

  listed_stays : (state : TerminalState) (call : CallContent) (side : Side) (container : BoxNumber) (port : List ℕ) (o : Option LineContent) → MayStay stays state.visits → Stays (after_listing_at state call side container port o)
  listed_stays state call side container port None may = may
  listed_stays state call side container port (Some line) may = may

  then_stays : (call : CallContent) (side : Side) (container : BoxNumber) (line : LineContent) (after : StepResult) (o : Outcome) → Stays after → Stays (then_line_done_at call side container line after o)
  then_stays call side container line after (Refused reason) may = may
  then_stays call side container line after (Done slot) may = may
  then_stays call side container line after Gone may = may
  then_stays call side container line after Listed may = may

  state_stays : (state : TerminalState) (call : CallContent) (side : Side) (container : BoxNumber) (line : LineContent) (after : StepResult) (s : LineState) → MayStay stays state.visits → Stays after → Stays (by_state state call side container line after s)
  state_stays state call side container line after LineIsDone may then = may
  state_stays state call side container line after Pending may then = then_stays call side container line after after.outcome then

  line_stays : (state : TerminalState) (call : CallContent) (side : Side) (container : BoxNumber) (o : Option LineContent) (after : StepResult) → MayStay stays state.visits → Stays after → Stays (by_line state call side container o after)
  line_stays state call side container None after may then = may
  line_stays state call side container (Some line) after may then = state_stays state call side container line after line.state may then

stays_beside : (stays : ℕ → Bool) (version : Version) (state : TerminalState) (source : Source) (order : OrderContent) → MayStay stays state.visits
    → MayStay stays (step_by version state source order).state.visits
stays_beside stays version state source (gate_in entry) may = either_stays stays (is_in state entry.number) _ _ may (entry_stays stays version state Gate source entry may)
stays_beside stays version state source (gate_out container moment) may = departed_stays stays state container (departure_by Gate source moment) (yard_without state.yard container) may
stays_beside stays version state source (move container slot) may = moved_stays stays state container slot (yard_with_move (spares_empty version) state.yard container slot) may
stays_beside stays version state source (list_discharge call container) may = listed_stays stays state call Discharge container [] (line_of state call Discharge container) may
stays_beside stays version state source (list_load call container port) may = listed_stays stays state call Load container port (line_of state call Load container) may
stays_beside stays version state source (discharge call entry) may =
    either_stays stays (is_in state entry.number) _ _ may
    (line_stays stays state call Discharge entry.number (line_of state call Discharge entry.number) (after_entry version state Ship source entry) may (entry_stays stays version state Ship source entry may))
stays_beside stays version state source (load call container moment) may =
    either_stays stays (is_in state container) _ _
    (line_stays stays state call Load container (line_of state call Load container) (after_departure state Ship source container moment) may
    (departed_stays stays state container (departure_by Ship source moment) (yard_without state.yard container) may)) may

pub acts_alike : OrdersActAlike
acts_alike stays version state source order may =
    record { step = steps_beside stays version state source order may; stay = stays_beside stays version state source order may }

-- ==== Lookups: What the store and its archives tell of a number.

abbrev pub body_there : Option Interchange → Option (List ℕ)
body_there o = option_map (λ (i : Interchange). i.body) o

abbrev pub reply_there : Option Interchange → Option (List ℕ)
reply_there o = option_and_then (λ (i : Interchange). reply_if_any i.reply) o

pub there_if_replied : (o : Option Interchange) → is_some (reply_there o) ≡ true → is_some o ≡ true
there_if_replied None e = cc
there_if_replied (Some i) e = refl

module _ (archived : Archived) (own whole : Rows) (p n : ℕ) where
  abbrev there : Option Interchange
  there = find (is_pair p n) archived.interchanges

  abbrev here : Option Interchange
  here = find (is_pair p n) own.interchanges

  pub found_whole : AreParts archived own whole → find (is_pair p n) whole.interchanges ≡ option_or there here
  found_whole parts = ap (find (is_pair p n)) parts.interchanges ∙ find-append (is_pair p n) archived.interchanges own.interchanges

  -- beyond what is closed of a partner the store tells, and within it the archives
  pub found_beyond : AreClosed archived → AreParts archived own whole → archived.last_closed p < n → find (is_pair p n) whole.interchanges ≡ here
  found_beyond closed parts far = found_whole parts ∙ ap (λ o. option_or o here) (closed.none_beyond p n far)

  is_there : AreClosed archived → 1 ≤ n → n ≤ archived.last_closed p → is_some there ≡ true
  is_there closed low high = there_if_replied there (closed.replied p n low high)

  pub found_within : AreClosed archived → AreParts archived own whole → 1 ≤ n → n ≤ archived.last_closed p → find (is_pair p n) whole.interchanges ≡ there
  found_within closed parts low high = found_whole parts ∙ or_some there here (is_there closed low high)

  pub once_here : AreParts archived own whole → AreKeptOnce whole.interchanges → count_by (is_pair p n) own.interchanges ≤ 1
  once_here parts once =
      let both : count_by (is_pair p n) (archived.interchanges ++ own.interchanges) ≡ count_by (is_pair p n) archived.interchanges + count_by (is_pair p n) own.interchanges = count_both (is_pair p n) archived.interchanges own.interchanges in
      let all : count_by (is_pair p n) (archived.interchanges ++ own.interchanges) ≤ 1 = subst (λ l. count_by (is_pair p n) l ≤ 1) parts.interchanges (once p n) in
      omega (arith, both, all)

  -- and there the store has nothing, since no pair stands twice in the whole
  none_here : AreClosed archived → AreParts archived own whole → AreKeptOnce whole.interchanges → 1 ≤ n → n ≤ archived.last_closed p → here ≡ None
  none_here closed parts once low high =
      let both : count_by (is_pair p n) (archived.interchanges ++ own.interchanges) ≡ count_by (is_pair p n) archived.interchanges + count_by (is_pair p n) own.interchanges = count_both (is_pair p n) archived.interchanges own.interchanges in
      let all : count_by (is_pair p n) (archived.interchanges ++ own.interchanges) ≤ 1 = subst (λ l. count_by (is_pair p n) l ≤ 1) parts.interchanges (once p n) in
      let one : 1 ≤ count_by (is_pair p n) archived.interchanges = counted_some (is_pair p n) archived.interchanges (is_there closed low high) in
      none_at (is_pair p n) own.interchanges (omega (arith, both, all, one))

pub numbers_told : NumbersAreTold
numbers_told content es archived own whole p n are = record {
  own_text = λ far. ap body_there (sym (found_beyond archived own whole p n are.closed are.parts far)) ∙ are.after.texts p n;
  own_reply = λ far. ap reply_there (sym (found_beyond archived own whole p n are.closed are.parts far)) ∙ are.after.replies p n;
  closed_text = λ low high. ap body_there (sym (found_within archived own whole p n are.closed are.parts low high)) ∙ are.after.texts p n;
  closed_reply = λ low high. ap reply_there (sym (found_within archived own whole p n are.closed are.parts low high)) ∙ are.after.replies p n;
  own_none = λ low high. ap body_there (none_here archived own whole p n are.closed are.parts are.after.kept_once low high);
}

pub closed_within : ClosedAreWithinRuns
closed_within content es archived own whole p are = elim (cases_order 0 (archived.last_closed p)) [
  | inl none ↦ omega (arith, none)
  | inr o ↦ elim o [
    | inl some ↦
        let told = numbers_told content es archived own whole p (archived.last_closed p) are in
        let replied = ap is_some (sym (told.closed_reply (omega (arith, some)) (omega arith))) ∙ are.closed.replied p (archived.last_closed p) (omega (arith, some)) (omega arith) in
        (replied_within (taking_in newest content es) (opening_of (content_after content es)) (deliveries_of content es) p (archived.last_closed p) replied).1
    | inr below ↦ absurd (omega (arith, below))
  ]
]

pub archives_answered : ArchivesAnswer
archives_answered content es archives archived own whole sent p n are holds for high =
    let low : 1 ≤ n = (within (parties_in (content_after content es)) (interchange_of sent) p n for).2 in
    let replied = are.closed.replied p n low high in
    let reply = some_is (reply_in (rows_of_archives archived) p n) replied in
    let kept = some_is (find (is_pair p n) archived.interchanges) (there_if_replied (find (is_pair p n) archived.interchanges) replied) in
    let text : text_in (rows_of_archives archived) p n ≡ Some (kept.0).body = ap body_there kept.1 in
    let found = found_within archived own whole p n are.closed are.parts low high in
    let text_whole : text_in whole p n ≡ Some (kept.0).body = ap body_there found ∙ text in
    let reply_whole : reply_in whole p n ≡ Some reply.0 = ap reply_there found ∙ reply.1 in
    let told = answers content es whole sent p n are.after for in
    record {
      text = (kept.0).body;
      reply = reply.0;
      has_text = holds.texts p n low high ∙ text;
      has_reply = holds.replies p n low high ∙ reply.1;
      clash = λ apart. told.clash (kept.0).body text_whole apart;
      repeat = λ same. told.repeat reply.0 (text_whole ∙ ap Some same) reply_whole;
      parts = record {
        after = (used_adds content es whole sent p n (kept.0).body are.after for text_whole).rows_are;
        closed = are.closed;
        parts = are.parts;
        stay = are.stay;
      };
    }

-- ==== InOrder: Interchanges in the order of their partners and numbers.

abbrev pair_values : Interchange → Interchange → Bool
pair_values = is_before (0 ∷ 1 ∷ []) interchange_values

-- ---- each after those before it

-- the second is not before the first
abbrev AtOrAfter : Interchange → Interchange → Type 0
AtOrAfter i j = (i.partner < j.partner) ⊎ ((j.partner ≡ i.partner) × (i.number ≤ j.number))

abbrev pub StandInOrder : List Interchange → Type 0
StandInOrder [] = Unit {0}
StandInOrder (i ∷ zs) = AllByRecursion (AtOrAfter i) zs × StandInOrder zs

then_after : (i j k : Interchange) → AtOrAfter i j → AtOrAfter j k → AtOrAfter i k
then_after i j k (inl far) (inl beyond) = inl (omega (arith, far, beyond))
then_after i j k (inl far) (inr near) = inl (omega (arith, far, near.0))
then_after i j k (inr near) (inl beyond) = inl (omega (arith, near.0, beyond))
then_after i j k (inr near) (inr own) = inr (own.0 ∙ near.0, omega (arith, near.1, own.1))

all_after_first : (i j : Interchange) (zs : List Interchange) → AtOrAfter i j → AllByRecursion (AtOrAfter j) zs → AllByRecursion (AtOrAfter i) zs
all_after_first i j [] one all = tt
all_after_first i j (k ∷ zs) one all = (then_after i j k one all.0, all_after_first i j zs one all.1)

pub in_order : (zs : List Interchange) → InTurn pair_values zs → StandInOrder zs
in_order [] turn = tt
in_order (i ∷ []) turn = (tt, tt)
in_order (i ∷ j ∷ zs) turn =
    let rest = in_order (j ∷ zs) turn.1 in
    let one : AtOrAfter i j = pair_order i.partner i.number j.partner j.number turn.0 in
    ((one, all_after_first i j zs one rest.0), rest)

all_filtered : (P : Interchange → Type 0) (q : Interchange → Bool) (zs : List Interchange) → AllByRecursion P zs → AllByRecursion P (filter q zs)
all_filtered P q [] all = tt
all_filtered P q (z ∷ zs) all = by (q z) (all_filtered P q zs all.1)
  where
    by : (b : Bool) → AllByRecursion P (filter q zs) → AllByRecursion P (cond b (z ∷ filter q zs) (filter q zs))
    by true rest = (all.0, rest)
    by false rest = rest

pub order_filtered : (q : Interchange → Bool) (zs : List Interchange) → StandInOrder zs → StandInOrder (filter q zs)
order_filtered q [] stand = tt
order_filtered q (z ∷ zs) stand = by (q z) (order_filtered q zs stand.1)
  where
    by : (b : Bool) → StandInOrder (filter q zs) → StandInOrder (cond b (z ∷ filter q zs) (filter q zs))
    by true rest = (all_filtered (AtOrAfter z) q zs stand.0, rest)
    by false rest = rest

-- in order they rise
pub rise_of : (zs : List Interchange) → StandInOrder zs → ((p k : ℕ) → count_by (is_pair p k) zs ≤ 1) → Rise (map number_kept zs)
rise_of [] stand once = tt
rise_of (i ∷ []) stand once = (tt, tt)
rise_of (i ∷ j ∷ zs) stand once = (starts stand.0.0, rise_of (j ∷ zs) stand.1 (λ p k. fewer (is_pair p k) i (j ∷ zs) (once p k)))
  where
    starts : AtOrAfter i j → (i.partner < j.partner) ⊎ ((j.partner ≡ i.partner) × (i.number < j.number))
    starts (inl far) = inl far
    starts (inr near) = elim (cases_order i.number j.number) [
      | inl same ↦ absurd (apart i.partner i.number i j zs (once i.partner i.number) (is_pair_at i.partner i.number i refl refl) (is_pair_at i.partner i.number j near.0 (sym same)))
      | inr o ↦ elim o [ inl below ↦ inr (near.0, below) | inr above ↦ absurd (omega (arith, near.1, above)) ]
    ]

-- ---- their numbers

-- those beyond what is closed, as numbers and as interchanges
pub beyond_numbered : (last_closed : ℕ → ℕ) (zs : List Interchange) → numbers_beyond last_closed (map number_kept zs) ≡ map number_kept (filter (is_beyond last_closed) zs)
beyond_numbered last_closed [] = refl
beyond_numbered last_closed (z ∷ zs) = by (is_beyond last_closed z) (beyond_numbered last_closed zs)
  where
    by : (b : Bool) → numbers_beyond last_closed (map number_kept zs) ≡ map number_kept (filter (is_beyond last_closed) zs)
        → cond b (number_kept z ∷ numbers_beyond last_closed (map number_kept zs)) (numbers_beyond last_closed (map number_kept zs)) ≡ map number_kept (cond b (z ∷ filter (is_beyond last_closed) zs) (filter (is_beyond last_closed) zs))
    by true rest = ap (λ l. number_kept z ∷ l) rest
    by false rest = rest
