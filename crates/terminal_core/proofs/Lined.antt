-- The lines of rows: where one is found, one more, and one that is done.
use Rattle.std.specs.Option.{option_map}
use Rattle.std.specs.Prelude.{slice_get, slice_set, ◌&&◌, string_bytes, count_by, find}
use Rattle.std.specs.declared.cmp.Ordering.{Ordering}
use Rattle.std.specs.Map.{lookup}
use Rattle.std.specs.{Ordering.{nat_cmp, eq_by_cmp, is_eq, ordering_then}, declared.cmp.Ordering.TheVariants.{Less, Equal, Greater}, Str.bytes_eq}
use Rattle.std.{specs.{Cmp.{IsTotalOrder, eq_by_cmp_equiv}, Cmp.Lexicographic.{slice_cmp, nat_list_cmp_total, texts_ties}}, proofs.lemmas.Cmp.lists_total}
use Rattle.std.proofs.Common.{◌≡◌, ℕ, ◌+◌, ◌≤◌, ◌<◌, List, [], ◌∷◌, ◌++◌, true, false, cond, Option, None, Some, Result, Ok, refl, sym, ap, subst, ◌∙◌, append-nil, append_assoc, zero, suc, length, map, Bool, arith, get_or, take, nat_lt, slice_index_or}
use Rattle.std.proofs.lemmas.Bool.{lt-leb, ltb-true, ltb-false}
use Rattle.std.proofs.lemmas.Option.{slice_get-get_or, slice_get_within, same_Some}
use Rattle.std.proofs.lemmas.List.{map-append, take_more}
use Rattle.box6346.specs.{declared.box_number.BoxNumber.BoxNumber, declared.slot.Slot.Slot}
use Rattle.edi_syntax.specs.Moments.{CivilMoment}
use Rattle.edi_messages.specs.{Purposes.CallContent, Orders.EntryContent, Owned.call_content}
use Rattle.yard_core.specs.{YardMap.YardMap, Decisions.Refusal, Calls.{Removes, Shifts, RefusesRemove, RefusesShift}, Exact.IsYard}
use Rattle.yard_core.specs.{declared.placements.Placement.Placement, declared.placements.Stowed.Stowed, declared.yard.YardFault.YardFault}
use Rattle.yard_core.proofs.Exact.{remove_is_decided_lem, shift_is_decided_lem}
use Rattle.terminal_core.specs.{declared.change.Outcome.Outcome, declared.change.Outcome.TheVariants.{Done, Gone, Listed, Refused}, declared.lines.Side.Side}
use Rattle.terminal_core.specs.{declared.change.Reason.Reason, declared.change.Reason.TheVariants.{AlreadyIn, NotIn, VisitLimit}, declared.change.Source.Source}
use Rattle.terminal_core.specs.{declared.lines.LineState.LineState, declared.lines.LineState.TheVariants.{Pending, Done as LineIsDone}, declared.visits.Way.Way}
use Rattle.terminal_core.specs.{declared.lines.Side.TheVariants.{Load, Discharge}, declared.visits.Way.TheVariants.Ship, Versions.newest, Restoring.AreOnce}
use Rattle.terminal_core.specs.Rows.{VisitContent, ChangeContent, visit_opened, visit_closed, placed_at, moved_to, removed_from, line_done, visit_content}
use Rattle.terminal_core.specs.State.{last_number, TerminalState, LineContent, Lines, is_in, line_key, line_of, IsWhole, open_visit, LineKey, side_code, is_open_visit}
use Rattle.terminal_core.specs.Step.{StepResult, step_with, with_refusal, is_full, after_entry, after_entry_at, visit_of, yard_with_entry, after_departure, after_departure_at, departure_by, close_visit, number_of_visit, after_move, after_move_at, with_line, step_discharge, step_load, then_line_done, then_line_done_at, by_line, by_state}
use Rattle.terminal_core.specs.{Calls.{Follows, IsReasonFor, Settles, is_refused}, declared.lines.Listing.Listing, declared.visits.Visit.Visit}
use Rattle.terminal_core.specs.{Listings.{key_of, line_content, line_entry, lines_of, is_line, is_side, NoneBefore, IsFirstAt}, Index.AreIndexed}
use Rattle.terminal_core.proofs.Whole.{contained, row_at}
use Rattle.terminal_core.proofs.Indexed.{counts, counted_more, some_counted, none_before_one, none_counted, one_if, none_if, is_found, found_is, some_of, some_or_none}
use Rattle.std.specs.FinMap as finite_map

-- ==== Steps: What was done is what the order does.

pub follows : (a b : StepResult) (now : TerminalState) (answer : Outcome) (old new : List ChangeContent) → a ≡ b → Follows b now answer old new → Follows a now answer old new
follows a b now answer old new e f = record { state = f.state ∙ sym (ap (λ s. s.state) e); outcome = f.outcome ∙ sym (ap (λ s. s.outcome) e); changes = f.changes ∙ sym (ap (λ s. old ++ s.changes) e) }

-- the yard stayed
yard_stays : (state : TerminalState) (y : YardMap) (reason : Reason) (changes : List ChangeContent) → y ≡ state.yard → Follows (with_refusal state reason) (record state { yard = y }) (Refused reason) changes changes
yard_stays state y reason changes e = record { state = ap (λ (v : YardMap). record state { yard = v }) e; outcome = refl; changes = sym (append-nil changes) }

-- ---- coming

not_full : (state : TerminalState) → last_number state.visits < state.limit → is_full state ≡ false
not_full state room = lt-leb state.limit (last_number state.visits) room

entered_is : (state : TerminalState) (way : Way) (source : Source) (entry : EntryContent) (r : Result (YardMap × Slot) Refusal) → last_number state.visits < state.limit → yard_with_entry newest state.yard entry ≡ r
    → after_entry newest state way source entry ≡ after_entry_at state way source entry r
entered_is state way source entry r room e =
    ap (λ v. cond v (with_refusal state VisitLimit) (after_entry_at state way source entry (yard_with_entry newest state.yard entry))) (not_full state room) ∙ ap (after_entry_at state way source entry) e

pub has_entered : (state : TerminalState) (way : Way) (source : Source) (entry : EntryContent) (y : YardMap) (slot : Slot) (visits : List VisitContent) (old new : List ChangeContent)
    → last_number state.visits < state.limit → Settles state.yard y entry slot → visits ≡ state.visits ++ visit_of state way source entry slot ∷ []
    → new ≡ old ++ visit_opened (visit_of state way source entry slot) ∷ placed_at entry.number (last_number state.visits + 1) slot ∷ []
    → Follows (after_entry newest state way source entry) (record state { yard = y; visits = visits }) (Done slot) old new
has_entered state way source entry y slot visits old new room settles opened made =
    follows (after_entry newest state way source entry) (after_entry_at state way source entry (Ok (y, slot))) _ _ old new (entered_is state way source entry (Ok (y, slot)) room settles.settled)
    (record { state = ap (λ (v : List VisitContent). record state { yard = y; visits = v }) opened; outcome = refl; changes = made })

-- ---- going

yard_of : (state : TerminalState) → IsWhole state → IsYard state.yard
yard_of state whole = (whole.plan, whole.sound)

pub has_departed : (state : TerminalState) (way : Way) (source : Source) (b : BoxNumber) (moment : CivilMoment) (y : YardMap) (s : Placement) (visits : List VisitContent) (number : ℕ) (old new : List ChangeContent)
    → IsWhole state → Removes state.yard y b s → visits ≡ close_visit state b (departure_by way source moment) → number ≡ number_of_visit (open_visit state b)
    → new ≡ old ++ removed_from b ∷ visit_closed number (departure_by way source moment) ∷ []
    → Follows (after_departure state way source b moment) (record state { yard = y; visits = visits }) Gone old new
has_departed state way source b moment y s visits number old new whole removes shut is made =
    follows (after_departure state way source b moment) (after_departure_at state b (departure_by way source moment) (Ok (y, s))) _ _ old new
    (ap (after_departure_at state b (departure_by way source moment)) ((remove_is_decided_lem state.yard b (yard_of state whole)).0 y s removes))
    (record {
      state = ap (λ (v : List VisitContent). record state { yard = y; visits = v }) shut;
      outcome = refl;
      changes = made ∙ ap (λ n. old ++ removed_from b ∷ visit_closed n (departure_by way source moment) ∷ []) is;
    })

pub has_not_departed : (state : TerminalState) (way : Way) (source : Source) (b : BoxNumber) (moment : CivilMoment) (f : YardFault) (reason : Reason) (y : YardMap) (changes : List ChangeContent)
    → IsWhole state → RefusesRemove state.yard b f → IsReasonFor f reason → y ≡ state.yard → Follows (after_departure state way source b moment) (record state { yard = y }) (Refused reason) changes changes
has_not_departed state way source b moment f reason y changes whole refuses is stays =
    follows (after_departure state way source b moment) (with_refusal state reason) _ _ changes changes
    (ap (after_departure_at state b (departure_by way source moment)) ((remove_is_decided_lem state.yard b (yard_of state whole)).1 is.refusal (let P : YardFault → Type 0 = RefusesRemove state.yard b in subst P is.fault_is refuses)) ∙ ap (with_refusal state) (sym is.reason_is)) (yard_stays state y reason changes stays)

-- ---- moving

pub has_moved : (state : TerminalState) (b : BoxNumber) (slot : Slot) (y : YardMap) (w : Stowed) (old new : List ChangeContent)
    → IsWhole state → Shifts state.yard y b w slot → new ≡ old ++ moved_to b slot ∷ [] → Follows (after_move newest state b slot) (record state { yard = y }) (Done slot) old new
has_moved state b slot y w old new whole shifts made =
    follows (after_move newest state b slot) (after_move_at state b slot (Ok y)) _ _ old new (ap (after_move_at state b slot) ((shift_is_decided_lem state.yard b slot (yard_of state whole)).0 y w shifts))
    (record { state = refl; outcome = refl; changes = made })

pub has_not_moved : (state : TerminalState) (b : BoxNumber) (slot : Slot) (f : YardFault) (reason : Reason) (y : YardMap) (changes : List ChangeContent)
    → IsWhole state → RefusesShift state.yard b slot f → IsReasonFor f reason → y ≡ state.yard → Follows (after_move newest state b slot) (record state { yard = y }) (Refused reason) changes changes
has_not_moved state b slot f reason y changes whole refuses is stays =
    follows (after_move newest state b slot) (with_refusal state reason) _ _ changes changes
    (ap (after_move_at state b slot) ((shift_is_decided_lem state.yard b slot (yard_of state whole)).1 is.refusal (let P : YardFault → Type 0 = RefusesShift state.yard b slot in subst P is.fault_is refuses)) ∙ ap (with_refusal state) (sym is.reason_is)) (yard_stays state y reason changes stays)

-- ---- lines

pub line_done_in : (inside now : TerminalState) (call : CallContent) (side : Side) (b : BoxNumber) (line : LineContent) (lines : Lines) → inside ≡ now → line_of now call side b ≡ Some line
    → (finite_map.get inside.lines (line_key call side b) ≡ Some line → lines ≡ finite_map.insert inside.lines (line_key call side b) (record line { state = LineIsDone }))
    → record inside { lines = lines } ≡ with_line now call side b (record line { state = LineIsDone })
line_done_in inside now call side b line lines same there is =
    ap (λ (l : Lines). record inside { lines = l }) (is (ap (λ (s : TerminalState). line_of s call side b) same ∙ there)) ∙ ap (λ (s : TerminalState). with_line s call side b (record line { state = LineIsDone })) same

pub mapped_some : (o : Option LineContent) (s : LineState) → option_map (λ l. l.state) o ≡ Some s → (line : LineContent) × (o ≡ Some line) × (line.state ≡ s)
mapped_some None s e = cc
mapped_some (Some line) s e = (line, refl, cc)

-- a refused order leaves its line
not_carried : (call : CallContent) (side : Side) (b : BoxNumber) (line : LineContent) (after : StepResult) (o : Outcome) → is_refused o ≡ true → then_line_done_at call side b line after o ≡ after
not_carried call side b line after (Done slot) e = cc
not_carried call side b line after Gone e = cc
not_carried call side b line after Listed e = cc
not_carried call side b line after (Refused reason) e = refl

carried : (call : CallContent) (side : Side) (b : BoxNumber) (line : LineContent) (after : StepResult) (o : Outcome) → is_refused o ≡ false
    → then_line_done_at call side b line after o ≡ step_with (with_line after.state call side b (record line { state = LineIsDone })) after.outcome (after.changes ++ line_done call side b ∷ [])
carried call side b line after (Done slot) e = refl
carried call side b line after Gone e = refl
carried call side b line after Listed e = refl
carried call side b line after (Refused reason) e = cc

by_pending : (state : TerminalState) (call : CallContent) (side : Side) (b : BoxNumber) (line : LineContent) (after : StepResult) → line_of state call side b ≡ Some line → line.state ≡ Pending
    → by_line state call side b (line_of state call side b) after ≡ then_line_done call side b line after
by_pending state call side b line after there open_ = ap (λ o. by_line state call side b o after) there ∙ ap (by_state state call side b line after) open_

pub line_kept : (state : TerminalState) (call : CallContent) (side : Side) (b : BoxNumber) (line : LineContent) (after : StepResult) (now : TerminalState) (answer : Outcome) (old new : List ChangeContent)
    → line_of state call side b ≡ Some line → line.state ≡ Pending → Follows after now answer old new → is_refused answer ≡ true
    → Follows (by_line state call side b (line_of state call side b) after) now answer old new
line_kept state call side b line after now answer old new there open_ follows_ refused_ =
    follows (by_line state call side b (line_of state call side b) after) after now answer old new
    (by_pending state call side b line after there open_ ∙ not_carried call side b line after after.outcome (ap is_refused (sym follows_.outcome) ∙ refused_)) follows_

pub line_closed : (state : TerminalState) (call : CallContent) (side : Side) (b : BoxNumber) (line : LineContent) (after : StepResult) (mid now : TerminalState) (answer : Outcome) (old between new : List ChangeContent)
    → line_of state call side b ≡ Some line → line.state ≡ Pending → Follows after mid answer old between → is_refused answer ≡ false
    → now ≡ with_line mid call side b (record line { state = LineIsDone }) → new ≡ between ++ line_done call side b ∷ []
    → Follows (by_line state call side b (line_of state call side b) after) now answer old new
line_closed state call side b line after mid now answer old between new there open_ follows_ carried_ is made =
    follows (by_line state call side b (line_of state call side b) after) (step_with (with_line after.state call side b (record line { state = LineIsDone })) after.outcome (after.changes ++ line_done call side b ∷ [])) now answer old new
    (by_pending state call side b line after there open_ ∙ carried call side b line after after.outcome (ap is_refused (sym follows_.outcome) ∙ carried_))
    (record {
      state = is ∙ ap (λ (s : TerminalState). with_line s call side b (record line { state = LineIsDone })) follows_.state;
      outcome = follows_.outcome;
      changes = made ∙ ap (λ l. l ++ line_done call side b ∷ []) follows_.changes ∙ append_assoc old after.changes (line_done call side b ∷ []);
    })

pub came_off : (state : TerminalState) (source : Source) (call : CallContent) (entry : EntryContent) (now : TerminalState) (answer : Outcome) (old new : List ChangeContent)
    → is_in state entry.number ≡ false → Follows (by_line state call Discharge entry.number (line_of state call Discharge entry.number) (after_entry newest state Ship source entry)) now answer old new
    → Follows (step_discharge newest state source call entry) now answer old new
came_off state source call entry now answer old new out follows_ =
    follows (step_discharge newest state source call entry) (by_line state call Discharge entry.number (line_of state call Discharge entry.number) (after_entry newest state Ship source entry)) now answer old new
    (ap (λ v. cond v (with_refusal state AlreadyIn) (by_line state call Discharge entry.number (line_of state call Discharge entry.number) (after_entry newest state Ship source entry))) out) follows_

pub went_on : (state : TerminalState) (source : Source) (call : CallContent) (b : BoxNumber) (moment : CivilMoment) (now : TerminalState) (answer : Outcome) (old new : List ChangeContent)
    → is_in state b ≡ true → Follows (by_line state call Load b (line_of state call Load b) (after_departure state Ship source b moment)) now answer old new
    → Follows (step_load state source call b moment) now answer old new
went_on state source call b moment now answer old new in_ follows_ =
    follows (step_load state source call b moment) (by_line state call Load b (line_of state call Load b) (after_departure state Ship source b moment)) now answer old new
    (ap (λ v. cond v (by_line state call Load b (line_of state call Load b) (after_departure state Ship source b moment)) (with_refusal state NotIn)) in_) follows_

-- ==== Lined: The lines of rows: where one is found, one more, and one that is done.

abbrev pub order : LineKey → LineKey → Ordering
order = slice_cmp (slice_cmp nat_cmp)

pub keys_total : IsTotalOrder order
keys_total = lists_total nat_list_cmp_total

pub keys_apart : finite_map.IsAntisymmetric order
keys_apart = finite_map.slice_cmp-IsAntisymmetric (finite_map.slice_cmp-IsAntisymmetric finite_map.nat_cmp-IsAntisymmetric)

is_equal : (r : Ordering) → is_eq r ≡ true → r ≡ Equal
is_equal Less e = cc
is_equal Equal e = refl
is_equal Greater e = cc

pub same_key : (j k : LineKey) → eq_by_cmp order j k ≡ true → j ≡ k
same_key j k e = keys_apart j k (is_equal (order j k) e)

pub tied_self : (k : LineKey) → eq_by_cmp order k k ≡ true
tied_self k = (eq_by_cmp_equiv keys_total).refl k

-- ---- a row's key

both : (a b : Ordering) → is_eq (ordering_then a b) ≡ (is_eq a && is_eq b)
both Less b = refl
both Equal b = refl
both Greater b = refl

four : (a b c d : Bool) → (a && (b && (c && (d && true)))) ≡ (((d && c) && b) && a)
four true true true true = refl
four true true true false = refl
four true true false true = refl
four true true false false = refl
four true false true true = refl
four true false true false = refl
four true false false true = refl
four true false false false = refl
four false true true true = refl
four false true true false = refl
four false true false true = refl
four false true false false = refl
four false false true true = refl
four false false true false = refl
four false false false true = refl
four false false false false = refl

sides : (a b : Side) → is_eq (slice_cmp nat_cmp (side_code a ∷ []) (side_code b ∷ [])) ≡ is_side b a
sides Load Load = refl
sides Load Discharge = refl
sides Discharge Load = refl
sides Discharge Discharge = refl

turned : (a b : List ℕ) → is_eq (slice_cmp nat_cmp a b) ≡ bytes_eq b a
turned a b = (eq_by_cmp_equiv nat_list_cmp_total).symm a b ∙ sym (texts_ties b a)

pub line_tied : (call : CallContent) (side : Side) (container : BoxNumber) (row : Listing) → eq_by_cmp order (line_key call side container) (key_of row) ≡ is_line call side container row
line_tied call side container row =
    let vessel : Ordering = slice_cmp nat_cmp call.vessel (string_bytes row.call.vessel) in
    let voyage : Ordering = slice_cmp nat_cmp call.voyage (string_bytes row.call.voyage) in
    let part : Ordering = slice_cmp nat_cmp (side_code side ∷ []) (side_code row.side ∷ []) in
    let box_ : Ordering = slice_cmp nat_cmp container row.container in
    both vessel (ordering_then voyage (ordering_then part (ordering_then box_ Equal)))
    ∙ ap (λ v. is_eq vessel && v) (both voyage (ordering_then part (ordering_then box_ Equal)) ∙ ap (λ v. is_eq voyage && v) (both part (ordering_then box_ Equal) ∙ ap (λ v. is_eq part && v) (both box_ Equal)))
    ∙ four (is_eq vessel) (is_eq voyage) (is_eq part) (is_eq box_)
    ∙ ap (λ v. ((v && is_eq part) && is_eq voyage) && is_eq vessel) (turned container row.container)
    ∙ ap (λ v. ((bytes_eq row.container container && v) && is_eq voyage) && is_eq vessel) (sides side row.side)
    ∙ ap (λ v. ((bytes_eq row.container container && is_side row.side side) && v) && is_eq vessel) (turned call.voyage (string_bytes row.call.voyage))
    ∙ ap (λ v. ((bytes_eq row.container container && is_side row.side side) && bytes_eq (string_bytes row.call.voyage) call.voyage) && v) (turned call.vessel (string_bytes row.call.vessel))

-- ---- finding

module _ (call : CallContent) (side : Side) (container : BoxNumber) where
  pub found_first : (rows : List Listing) (place : ℕ) (row : Listing) → slice_get rows place ≡ Some row → is_line call side container row ≡ true → NoneBefore call side container rows place
      → finite_map.find order (line_key call side container) (map line_entry rows) ≡ Some (line_content row)
  found_first [] place row at is before = cc
  found_first (r ∷ rows) zero row at is before =
      let same : r ≡ row = cc in
      ap (λ (w : Listing). cond (eq_by_cmp order (line_key call side container) (key_of w)) (Some (line_content w)) (finite_map.find order (line_key call side container) (map line_entry rows))) same
      ∙ ap (λ v. cond v (Some (line_content row)) (finite_map.find order (line_key call side container) (map line_entry rows))) (line_tied call side container row ∙ is)
  found_first (r ∷ rows) (suc place) row at is before =
      ap (λ v. cond v (Some (line_content r)) (finite_map.find order (line_key call side container) (map line_entry rows))) (line_tied call side container r ∙ before 0 r (omega arith) refl)
      ∙ found_first rows place row at is (λ k w low there. before (suc k) w (omega arith) there)

  pub found_none : (rows : List Listing) → NoneBefore call side container rows (length rows) → finite_map.find order (line_key call side container) (map line_entry rows) ≡ None
  found_none [] none = refl
  found_none (r ∷ rows) none =
      ap (λ v. cond v (Some (line_content r)) (finite_map.find order (line_key call side container) (map line_entry rows))) (line_tied call side container r ∙ none 0 r (omega arith) refl)
      ∙ found_none rows (λ k w low there. none (suc k) w (omega arith) there)

  pub line_first : (rows : List Listing) (place : ℕ) → (first : IsFirstAt call side container rows place) → finite_map.get (lines_of rows) (line_key call side container) ≡ Some (line_content first.row)
  line_first rows place first = finite_map.get-from_entries keys_total (map line_entry rows) (line_key call side container) ∙ found_first rows place first.row first.at first.is first.before

  pub line_none : (rows : List Listing) → NoneBefore call side container rows (length rows) → finite_map.get (lines_of rows) (line_key call side container) ≡ None
  line_none rows none = finite_map.get-from_entries keys_total (map line_entry rows) (line_key call side container) ∙ found_none rows none

  -- one that is done
  swapped : (a b : Bool) (r d t : Option LineContent) → (b ≡ true → a ≡ false) → cond a r (cond b d t) ≡ cond b d (cond a r t)
  swapped a true r d t h = ap (λ v. cond v r d) (h refl)
  swapped true false r d t h = refl
  swapped false false r d t h = refl

  again : (e : Bool) (d r t : Option LineContent) → cond e d t ≡ cond e d (cond e r t)
  again true d r t = refl
  again false d r t = refl

  pub set_first : (rows : List Listing) (place : ℕ) (row done : Listing) → slice_get rows place ≡ Some row → is_line call side container row ≡ true → NoneBefore call side container rows place → key_of done ≡ key_of row
      → (q : LineKey) → finite_map.find order q (map line_entry (slice_set rows place done)) ≡ cond (eq_by_cmp order q (line_key call side container)) (Some (line_content done)) (finite_map.find order q (map line_entry rows))
  set_first [] place row done at is before same q = cc
  set_first (r ∷ rows) zero row done at is before same q =
      let here : r ≡ row = cc in
      let key : key_of row ≡ line_key call side container = sym (same_key _ _ (line_tied call side container row ∙ is)) in
      let old : key_of r ≡ line_key call side container = ap key_of here ∙ key in
      ap (λ k. cond (eq_by_cmp order q k) (Some (line_content done)) (finite_map.find order q (map line_entry rows))) (same ∙ key)
      ∙ again (eq_by_cmp order q (line_key call side container)) (Some (line_content done)) (Some (line_content r)) (finite_map.find order q (map line_entry rows))
      ∙ ap (λ k. cond (eq_by_cmp order q (line_key call side container)) (Some (line_content done)) (cond (eq_by_cmp order q k) (Some (line_content r)) (finite_map.find order q (map line_entry rows)))) (sym old)
  set_first (r ∷ rows) (suc place) row done at is before same q =
      ap (cond (eq_by_cmp order q (key_of r)) (Some (line_content r))) (set_first rows place row done at is (λ k w low there. before (suc k) w (omega arith) there) same q)
      ∙ swapped (eq_by_cmp order q (key_of r)) (eq_by_cmp order q (line_key call side container)) (Some (line_content r)) (Some (line_content done)) (finite_map.find order q (map line_entry rows))
      (λ e. ap (λ k. eq_by_cmp order k (key_of r)) (same_key q (line_key call side container) e) ∙ line_tied call side container r ∙ before 0 r (omega arith) refl)

  pub line_set : (rows : List Listing) (place : ℕ) (done : Listing) → (first : IsFirstAt call side container rows place) → key_of done ≡ key_of first.row
      → lines_of (slice_set rows place done) ≡ finite_map.insert (lines_of rows) (line_key call side container) (line_content done)
  line_set rows place done first same = finite_map.same_map keys_total keys_apart _ _
      (λ q. finite_map.get-from_entries keys_total (map line_entry (slice_set rows place done)) q ∙ set_first rows place first.row done first.at first.is first.before same q
      ∙ ap (cond (eq_by_cmp order q (line_key call side container)) (Some (line_content done))) (sym (finite_map.get-from_entries keys_total (map line_entry rows) q))
      ∙ sym (finite_map.get-insert keys_total (lines_of rows) (line_key call side container) (line_content done) q))

-- one more
pub line_added : (rows : List Listing) (line : Listing) → finite_map.get (lines_of rows) (key_of line) ≡ None → lines_of (rows ++ line ∷ []) ≡ finite_map.insert (lines_of rows) (key_of line) (line_content line)
line_added rows line none =
    ap finite_map.from_entries (map-append line_entry rows (line ∷ []))
    ∙ finite_map.from_entries_push keys_total keys_apart (map line_entry rows) (key_of line) (line_content line) (sym (finite_map.get-from_entries keys_total (map line_entry rows) (key_of line)) ∙ none)

-- ---- what the calls on lists do

same_row : (rows : List Listing) (place : ℕ) (row read : Listing) → slice_get rows place ≡ Some row → read ≡ get_or rows place read → row ≡ read
same_row rows place row read at is =
    let there : slice_get rows place ≡ Some read = slice_get-get_or rows place read (slice_get_within rows place row at) ∙ ap Some (sym is) in
    let met : Some row ≡ Some read = sym at ∙ there in
    cc

pub state_told : (call : CallContent) (side : Side) (container : BoxNumber) (rows shown : List Listing) (place : ℕ) (read : Listing) (lines : Lines) → shown ≡ rows → IsFirstAt call side container shown place → read ≡ get_or rows place read → lines_of rows ≡ lines
    → Some read.state ≡ option_map (λ l. l.state) (finite_map.get lines (line_key call side container))
state_told call side container rows shown place read lines shows first is are =
    let P : List Listing → Type 0 = λ r. IsFirstAt call side container r place in
    let here : IsFirstAt call side container rows place = subst P shows first in
    ap (λ (r : Listing). Some r.state) (sym (same_row rows place here.row read here.at is))
    ∙ sym (ap (λ (l : Lines). option_map (λ l. l.state) (finite_map.get l (line_key call side container))) (sym are) ∙ ap (option_map (λ l. l.state)) (line_first call side container rows place here))

pub none_told : (call : CallContent) (side : Side) (container : BoxNumber) (rows shown : List Listing) (lines : Lines) → shown ≡ rows → NoneBefore call side container shown (length shown) → lines_of rows ≡ lines
    → finite_map.get lines (line_key call side container) ≡ None
none_told call side container rows shown lines shows none are =
    ap (λ (l : Lines). finite_map.get l (line_key call side container)) (sym are) ∙ ap (λ (r : List Listing). finite_map.get (lines_of r) (line_key call side container)) (sym shows) ∙ line_none call side container shown none

pub line_finished : (call : CallContent) (side : Side) (container : BoxNumber) (rows shown : List Listing) (place : ℕ) (read done : Listing) (lines : Lines) (line : LineContent)
    → shown ≡ rows → IsFirstAt call side container shown place → read ≡ get_or rows place read → lines_of rows ≡ lines → key_of done ≡ key_of read → line_content done ≡ record (line_content read) { state = LineIsDone }
    → finite_map.get lines (line_key call side container) ≡ Some line
    → lines_of (slice_set rows place done) ≡ finite_map.insert lines (line_key call side container) (record line { state = LineIsDone })
line_finished call side container rows shown place read done lines line shows first is are key content there =
    let P : List Listing → Type 0 = λ r. IsFirstAt call side container r place in
    let here : IsFirstAt call side container rows place = subst P shows first in
    let same : here.row ≡ read = same_row rows place here.row read here.at is in
    let told : Some (line_content here.row) ≡ Some line = sym (line_first call side container rows place here) ∙ ap (λ (l : Lines). finite_map.get l (line_key call side container)) are ∙ there in
    let it : line_content here.row ≡ line = cc in
    line_set call side container rows place done here (key ∙ ap key_of (sym same))
    ∙ ap (λ (l : Lines). finite_map.insert l (line_key call side container) (line_content done)) are
    ∙ ap (finite_map.insert lines (line_key call side container)) (content ∙ ap (λ (r : Listing). record (line_content r) { state = LineIsDone }) (sym same) ∙ ap (λ (l : LineContent). record l { state = LineIsDone }) it)

pub not_there : (P : Type 0) (o : Option LineContent) (line : LineContent) → o ≡ None → o ≡ Some line → P
not_there P o line none there = let bad : None ≡ Some line = sym none ∙ there in cc

-- ==== Once: Lines that stand once.

-- the row is the line of its own key
abbrev own : Listing → Listing → Bool
own row other = is_line (call_content row.call) row.side row.container other

its_own : (row : Listing) → own row row ≡ true
its_own row = sym (line_tied (call_content row.call) row.side row.container row) ∙ (eq_by_cmp_equiv keys_total).refl (key_of row)

-- a line is told by its key
same_line : (call : CallContent) (side : Side) (container : BoxNumber) (row other : Listing) → is_line call side container row ≡ true → is_line call side container other ≡ own row other
same_line call side container row other is =
    let key : line_key call side container ≡ key_of row = same_key (line_key call side container) (key_of row) (line_tied call side container row ∙ is) in
    sym (line_tied call side container other) ∙ ap (λ (k : LineKey). eq_by_cmp order k (key_of other)) key ∙ line_tied (call_content row.call) row.side row.container other

pub once_more : (rows : List Listing) (i : ℕ) (row : Listing) → i < length rows → row ≡ get_or rows i row
    → NoneBefore (call_content row.call) row.side row.container (take i rows) (length (take i rows)) → AreOnce (take i rows) → AreOnce (take (i + 1) rows)
once_more rows i row low at none before call side container =
    let p : Listing → Bool = is_line call side container in
    let longer : take (i + 1) rows ≡ take i rows ++ row ∷ [] = take_more rows i row low ∙ ap (λ (r : Listing). take i rows ++ r ∷ []) (sym at) in
    let more : count_by p (take (i + 1) rows) ≡ count_by p (take i rows) + counts (p row) = ap (count_by p) longer ∙ counted_more p (take i rows) row in
    elim (is_line call side container row) as (λ v. is_line call side container row ≡ v → count_by p (take (i + 1) rows) ≤ 1) [
      | true ↦ λ is.
          let one : counts (p row) ≡ 1 = one_if (p row) is in
          let gone : count_by p (take i rows) ≡ 0 = none_counted p (take i rows) (λ k other there. same_line call side container row other is ∙ none k other (slice_get_within (take i rows) k other there) there) in
          omega arith
      | false ↦ λ isnt.
          let none_here : counts (p row) ≡ 0 = none_if (p row) isnt in
          let few : count_by p (take i rows) ≤ 1 = before call side container in
          omega arith
    ] refl

pub not_once : (rows : List Listing) (i place : ℕ) (row : Listing) → i < length rows → row ≡ get_or rows i row → IsFirstAt (call_content row.call) row.side row.container (take i rows) place → AreOnce rows → ⊥
not_once rows i place row low at first once =
    let gone : count_by (own row) (take i rows) ≡ 0 = none_before_one (own row) rows i row (once (call_content row.call) row.side row.container) low at (its_own row) in
    let some : 1 ≤ count_by (own row) (take i rows) = some_counted (own row) (take i rows) first.row (contained (take i rows) place first.row first.at) first.is in
    omega arith

-- ==== Opened: The open visit of a container is the one that its index finds.

module _ (container : BoxNumber) (visits : List VisitContent) (entries : List (BoxNumber × ℕ)) (are : AreIndexed visits entries) where
  pub opened : (k : ℕ) (visit : VisitContent) → slice_get visits k ≡ Some visit → is_open_visit container visit ≡ true → Some visit ≡ find (is_open_visit container) visits
  opened k visit at open_ =
      let found = some_of (find (is_open_visit container) visits) (is_found (is_open_visit container) visits k visit at open_) in
      let there = found_is (is_open_visit container) visits found.0 found.1 in
      let same : k ≡ there.0 = same_Some k there.0 (sym (are container k visit at open_) ∙ are container there.0 found.0 there.1 there.2) in
      sym at ∙ ap (slice_get visits) same ∙ there.1 ∙ sym found.1

  pub none_opened : ((k : ℕ) (visit : VisitContent) → slice_get visits k ≡ Some visit → lookup (bytes_eq container) entries ≡ Some k → is_open_visit container visit ≡ false) → None ≡ find (is_open_visit container) visits
  none_opened shut = sym (some_or_none (find (is_open_visit container) visits) (λ visit e.
      let there = found_is (is_open_visit container) visits visit e in
      let bad : false ≡ true = sym (shut there.0 visit there.1 (are container there.0 visit there.1 there.2)) ∙ there.2 in
      cc))

-- ---- rows

-- the row that is read at an index
pub read_at : (rows : List Visit) (k : ℕ) (visit : Visit) → true ≡ nat_lt k (length rows) → visit ≡ slice_index_or rows k visit → slice_get rows k ≡ Some visit
read_at rows k visit low is = slice_get-get_or rows k visit (ltb-true k (length rows) (sym low)) ∙ ap Some (sym is)

-- none is read after the last
pub not_read : (rows : List Visit) (k j : ℕ) (visit : VisitContent) → slice_get (map visit_content rows) k ≡ Some visit → k ≡ j → false ≡ nat_lt j (length rows) → ⊥
not_read rows k j visit at same high =
    let row = row_at rows k visit at in
    let within = slice_get_within rows k row.0 row.1 in
    let above = ltb-false j (length rows) (sym high) in
    omega (arith, within, above)
