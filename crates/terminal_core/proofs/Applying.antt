-- What the changes of a step find.
use Rattle.std.specs.{Prelude.{find, filter, ◌&&◌, ◌==◌}, Char.is_ascii_uppercase, Str.bytes_eq, Ordering.eq_by_cmp}
use Rattle.std.proofs.Common.{◌≡◌, ℕ, ◌+◌, ◌≤◌, ◌<◌, List, [], ◌∷◌, ◌++◌, Bool, true, false, cond, Option, None, Some, Result, Ok, Err, is_some, is_none, refl, sym, ap, ◌∙◌, arith, subst, map, IsTrue, inl, inr, nat_le}
use Rattle.std.proofs.{lemmas.Bool.{eq-eqb, ne_eqb, and_parts, le-leb}, lemmas.Option.{same_Some, none-some}, lemmas.List.Elements.Contains-push_cases}
use Rattle.box6346.specs.{SizeCode.length_of, declared.box_number.BoxNumber.BoxNumber, declared.slot.Slot.Slot, SlotName.IsNamed}
use Rattle.edi_syntax.specs.Moments.{CivilMoment}
use Rattle.edi_messages.specs.{Purposes.CallContent, Orders.{EntryContent, OrderContent, gate_in, gate_out, move, list_discharge, list_load, discharge, load}}
use Rattle.edi_messages.specs.Forms.{IsFormedEntry, IsFormedListing, IsFormedOrder}
use Rattle.yard_core.specs.{YardMap.{YardMap, placement, placement_of, Boxes, placement_if_any}, Decisions.{Refusal, yard_without, yard_with_move, misfit_of}}
use Rattle.yard_core.specs.{declared.placements.Placement.Placement, declared.plan.Block.Block, declared.placements.Stowed.Stowed, Plan.IsPlan}
use Rattle.yard_core.{specs.FitsAndFree.IsOpen, proofs.Exact.numbered}
use Rattle.terminal_core.specs.{declared.visits.Departure.Departure, declared.lines.LineState.LineState, declared.change.Outcome.Outcome, Versions.spares_empty}
use Rattle.terminal_core.specs.{declared.lines.LineState.TheVariants.{Pending, Done as LineIsDone}, declared.lines.Side.Side, declared.change.Source.Source}
use Rattle.terminal_core.specs.{declared.change.Outcome.TheVariants.{Done, Gone, Listed, Refused}, declared.lines.Side.TheVariants.{Load, Discharge}}
use Rattle.terminal_core.specs.{declared.change.Reason.TheVariants.{AlreadyIn, NotIn, VisitLimit}, declared.change.Version.Version, declared.visits.Way.Way}
use Rattle.terminal_core.specs.{declared.visits.Way.TheVariants.{Gate, Ship}, Forms.{IsSource, IsFormedDeparture, IsFormedVisit, IsFormedLine, IsWellFormed}}
use Rattle.terminal_core.specs.Rows.{VisitContent, ChangeContent, line_done, visit_opened, visit_closed, placed_at, moved_to, removed_from, listed_on, unlisted}
use Rattle.terminal_core.specs.State.{last_from, last_number, TerminalState, LineContent, Lines, line_key, line_of, is_in, is_open_visit, open_visit, AreNumbered, IsWhole, empty_state}
use Rattle.terminal_core.specs.Step.{StepResult, with_refusal, step_by, yard_with_entry, is_full, after_entry, after_entry_at, number_of_visit, after_departure, after_departure_at, departure_by, after_move_at, after_listing_at, then_line_done_at, by_line, by_state, visit_of, closed_visit}
use Rattle.terminal_core.specs.Changes.{TerminalRows, rows_of, rows_with, rows_with_all, is_numbered, IsOneOpenVisit, IsApplicable, AreApplicable, visit_with_departure}
use Rattle.terminal_core.{specs.OneByOne.GoOneByOne, proofs.Open.{there_placed, last_highest, in_placed_map, in_removed_map, open_of, moved_as, kept_number}}
use Rattle.terminal_core.proofs.{Indexed.{find_skips, find_meets, mapped_at}, Lined.{order, keys_total, same_key}, Whole.{contained, found_at}, Noted.key_parts}
use Rattle.terminal_core.proofs.Changing.{new_place, new_slot, Comes, comes, brought, goes, shifts, numbered_from, found, turned_entered, turned_departed, entered_keeps, departed_keeps, either, placed_by, Turns, KeepsLines, turned_step}
use Rattle.std.specs.FinMap as finite_map

-- ---- numbers

module _ {A : Type 0} (p : A → Bool) (x : A) (xs : List A) where
  filter_skips : p x ≡ false → filter p (x ∷ xs) ≡ filter p xs
  filter_skips e = ap (λ v. cond v (x ∷ filter p xs) (filter p xs)) e

  filter_keeps : p x ≡ true → filter p (x ∷ xs) ≡ x ∷ filter p xs
  filter_keeps e = ap (λ v. cond v (x ∷ filter p xs) (filter p xs)) e

none_after : (number above : ℕ) (visits : List VisitContent) → AreNumbered above visits → last_from above visits < number → filter (is_numbered number) visits ≡ []
none_after number above [] are high = refl
none_after number above (v ∷ visits) are high =
    let low = last_highest v.number visits are.1 in
    filter_skips (is_numbered number) v visits (ne_eqb v.number number (λ e. absurd (omega (arith, e, low, high)))) ∙ none_after number v.number visits are.1 high

none_from : (number above : ℕ) (visits : List VisitContent) → AreNumbered above visits → number ≤ above → filter (is_numbered number) visits ≡ []
none_from number above [] are low = refl
none_from number above (v ∷ visits) are low =
    filter_skips (is_numbered number) v visits (ne_eqb v.number number (λ e. absurd (omega (arith, e, are.0, low)))) ∙ none_from number v.number visits are.1 (omega (arith, are.0, low))

-- what is found is what its number finds
only_one : (p : VisitContent → Bool) (above : ℕ) (visits : List VisitContent) (w : VisitContent) → AreNumbered above visits → find p visits ≡ Some w → filter (is_numbered w.number) visits ≡ w ∷ []
only_one p above [] w are e = cc
only_one p above (v ∷ visits) w are e =
    elim (p v) as (λ t. p v ≡ t → filter (is_numbered w.number) (v ∷ visits) ≡ w ∷ []) [
      | true ↦ λ is.
          let met : Some v ≡ Some w = sym (find_meets p v visits is) ∙ e in
          let it : v ≡ w = cc in
          let number : v.number ≡ w.number = ap (λ (u : VisitContent). u.number) it in
          filter_keeps (is_numbered w.number) v visits (eq-eqb v.number w.number number) ∙ ap (λ vs. v ∷ vs) (none_from w.number v.number visits are.1 (omega (arith, number))) ∙ ap (λ (u : VisitContent). u ∷ []) it
      | false ↦ λ isnt.
          let rest : find p visits ≡ Some w = sym (find_skips p v visits isnt) ∙ e in
          let far : v.number < w.number = numbered_from p v.number visits w are.1 rest in
          filter_skips (is_numbered w.number) v visits (ne_eqb v.number w.number (λ same. absurd (omega (arith, same, far)))) ∙ only_one p v.number visits w are.1 rest
    ] refl

passes : {A : Type 0} (p : A → Bool) (xs : List A) (w : A) → find p xs ≡ Some w → p w ≡ true
passes p [] w e = cc
passes p (x ∷ xs) w e =
    elim (p x) as (λ t. p x ≡ t → p w ≡ true) [
      | true ↦ λ is. let met : Some x ≡ Some w = sym (find_meets p x xs is) ∙ e in let it : x ≡ w = cc in ap p (sym it) ∙ is
      | false ↦ λ isnt. passes p xs w (sym (find_skips p x xs isnt) ∙ e)
    ] refl

no_departure : (o : Option Departure) → is_none o ≡ true → o ≡ None
no_departure None e = refl
no_departure (Some d) e = cc

one_open_visit : (state : TerminalState) (b : BoxNumber) → IsWhole state → is_some (open_visit state b) ≡ true → IsOneOpenVisit (number_of_visit (open_visit state b)) state.visits
one_open_visit state b whole is =
    let visit = found (open_visit state b) is in
    record {
      visit = visit.0;
      only = ap (λ o. filter (is_numbered (number_of_visit o)) state.visits) visit.1 ∙ only_one (is_open_visit b) 0 state.visits visit.0 whole.numbered visit.1;
      stays = no_departure visit.0.departure (and_parts _ _ (passes (is_open_visit b) state.visits visit.0 visit.1)).1;
    }

-- ---- steps

-- the changes are applicable
abbrev Applies : TerminalState → StepResult → Type 0
Applies state after = AreApplicable (rows_of state) after.changes

applies_entered_at : (version : Version) (state : TerminalState) (way : Way) (source : Source) (entry : EntryContent) (r : Result (YardMap × Slot) Refusal) → IsWhole state → yard_with_entry version state.yard entry ≡ r → Applies state (after_entry_at state way source entry r)
applies_entered_at version state way source entry (Err f) whole e = tt
applies_entered_at version state way source entry (Ok (y, slot)) whole e =
    let came : Comes state.yard y entry.number (brought entry slot) = comes version state.yard y entry entry.slot slot e in (
      record { next = refl; absent = none_after (last_number state.visits + 1) 0 state.visits whole.numbered (omega arith); stays = refl },
      (new_place came.is_wary state entry.number (placement (length_of entry.size_type) slot) whole came.absent came.fits, tt),
    )

applies_entered : (version : Version) (state : TerminalState) (way : Way) (source : Source) (entry : EntryContent) → IsWhole state → Applies state (after_entry version state way source entry)
applies_entered version state way source entry whole =
    either (Applies state) (is_full state) (with_refusal state VisitLimit) (after_entry_at state way source entry (yard_with_entry version state.yard entry)) tt (applies_entered_at version state way source entry (yard_with_entry version state.yard entry) whole refl)

applies_departed_at : (state : TerminalState) (b : BoxNumber) (departure : Departure) (r : Result (YardMap × Placement) Refusal) → IsWhole state → yard_without state.yard b ≡ r → Applies state (after_departure_at state b departure r)
applies_departed_at state b departure (Err f) whole e = tt
applies_departed_at state b departure (Ok (y, s)) whole e =
    let went = goes (placement_of state.yard.boxes b) state.yard y b s e in
    (ap (λ o. is_some (placed_by (open_visit state b) o)) went.0, (one_open_visit state b whole (sym (whole.here b) ∙ there_placed state.yard.boxes b s went.0), tt))

applies_departed : (state : TerminalState) (way : Way) (source : Source) (b : BoxNumber) (moment : CivilMoment) → IsWhole state → Applies state (after_departure state way source b moment)
applies_departed state way source b moment whole = applies_departed_at state b (departure_by way source moment) (yard_without state.yard b) whole refl

applies_moved_at : (version : Version) (state : TerminalState) (b : BoxNumber) (slot : Slot) (r : Result YardMap Refusal) → IsWhole state → yard_with_move (spares_empty version) state.yard b slot ≡ r → Applies state (after_move_at state b slot r)
applies_moved_at version state b slot (Err f) whole e = tt
applies_moved_at version state b slot (Ok y) whole e =
    let is = shifts version (finite_map.get state.yard.boxes b) state.yard y b slot e in
    (new_slot is.2.is_wary state b is.0 slot whole is.1 is.2.fits, tt)

applies_listed : (state : TerminalState) (call : CallContent) (side : Side) (b : BoxNumber) (port : List ℕ) (o : Option LineContent) → line_of state call side b ≡ o → Applies state (after_listing_at state call side b port o)
applies_listed state call side b port (Some line) e = tt
applies_listed state call side b port None e = (e, tt)

-- ---- steps with a line

applies_one_after : (rows : TerminalRows) (changes : List ChangeContent) (change : ChangeContent) → AreApplicable rows changes → IsApplicable (rows_with_all rows changes) change → AreApplicable rows (changes ++ change ∷ [])
applies_one_after rows [] change are is = (is, tt)
applies_one_after rows (c ∷ changes) change are is = (are.0, applies_one_after (rows_with rows c) changes change are.1 is)

-- the step with what is known of its line
record HasLine (state : TerminalState) (call : CallContent) (side : Side) (b : BoxNumber) (line : LineContent) (after : StepResult) : Type 0 where
  applies : Applies state after
  turns : Turns state after
  keeps : KeepsLines state after
  there : line_of state call side b ≡ Some line

applies_done : (state : TerminalState) (call : CallContent) (side : Side) (b : BoxNumber) (line : LineContent) (after : StepResult) → HasLine state call side b line after → line.state ≡ Pending
    → AreApplicable (rows_of state) (after.changes ++ line_done call side b ∷ [])
applies_done state call side b line after has pending =
    let P : TerminalRows → Type 0 = λ rows. IsApplicable rows (line_done call side b) in
    applies_one_after (rows_of state) after.changes (line_done call side b) has.applies
    (subst P (sym has.turns) (record { line = line; there = ap (λ (l : Lines). finite_map.get l (line_key call side b)) has.keeps ∙ has.there; pending = pending }))

applies_then : (state : TerminalState) (call : CallContent) (side : Side) (b : BoxNumber) (line : LineContent) (after : StepResult) (o : Outcome) → HasLine state call side b line after → line.state ≡ Pending
    → Applies state (then_line_done_at call side b line after o)
applies_then state call side b line after (Refused reason) has pending = has.applies
applies_then state call side b line after (Done slot) has pending = applies_done state call side b line after has pending
applies_then state call side b line after Gone has pending = applies_done state call side b line after has pending
applies_then state call side b line after Listed has pending = applies_done state call side b line after has pending

applies_by_state : (state : TerminalState) (call : CallContent) (side : Side) (b : BoxNumber) (line : LineContent) (after : StepResult) (s : LineState) → HasLine state call side b line after → line.state ≡ s
    → Applies state (by_state state call side b line after s)
applies_by_state state call side b line after LineIsDone has e = tt
applies_by_state state call side b line after Pending has e = applies_then state call side b line after after.outcome has e

applies_by_line : (state : TerminalState) (call : CallContent) (side : Side) (b : BoxNumber) (o : Option LineContent) (after : StepResult) → Applies state after → Turns state after → KeepsLines state after → line_of state call side b ≡ o
    → Applies state (by_line state call side b o after)
applies_by_line state call side b None after applies turns keeps e = tt
applies_by_line state call side b (Some line) after applies turns keeps e =
    applies_by_state state call side b line after line.state (record { applies = applies; turns = turns; keeps = keeps; there = e }) refl

-- ---- orders

pub applicable_step : (version : Version) (state : TerminalState) (source : Source) (order : OrderContent) → IsWhole state → Applies state (step_by version state source order)
applicable_step version state source (gate_in entry) whole = either (Applies state) (is_in state entry.number) (with_refusal state AlreadyIn) (after_entry version state Gate source entry) tt (applies_entered version state Gate source entry whole)
applicable_step version state source (gate_out b moment) whole = applies_departed state Gate source b moment whole
applicable_step version state source (move b slot) whole = applies_moved_at version state b slot (yard_with_move (spares_empty version) state.yard b slot) whole refl
applicable_step version state source (list_discharge call b) whole = applies_listed state call Discharge b [] (line_of state call Discharge b) refl
applicable_step version state source (list_load call b port) whole = applies_listed state call Load b port (line_of state call Load b) refl
applicable_step version state source (discharge call entry) whole =
    either (Applies state) (is_in state entry.number) (with_refusal state AlreadyIn) (by_line state call Discharge entry.number (line_of state call Discharge entry.number) (after_entry version state Ship source entry)) tt
    (applies_by_line state call Discharge entry.number (line_of state call Discharge entry.number) (after_entry version state Ship source entry) (applies_entered version state Ship source entry whole) (turned_entered version state Ship source entry whole)
    (either (KeepsLines state) (is_full state) (with_refusal state VisitLimit) (after_entry_at state Ship source entry (yard_with_entry version state.yard entry)) refl (entered_keeps state Ship source entry (yard_with_entry version state.yard entry))) refl)
applicable_step version state source (load call b moment) whole =
    either (Applies state) (is_in state b) (by_line state call Load b (line_of state call Load b) (after_departure state Ship source b moment)) (with_refusal state NotIn)
    (applies_by_line state call Load b (line_of state call Load b) (after_departure state Ship source b moment) (applies_departed state Ship source b moment whole) (turned_departed state Ship source b moment whole)
    (departed_keeps state b (departure_by Ship source moment) (yard_without state.yard b)) refl) tt

-- ---- changes that are appended

pub all_appended : (rows : TerminalRows) (before after : List ChangeContent) → rows_with_all rows (before ++ after) ≡ rows_with_all (rows_with_all rows before) after
all_appended rows [] after = refl
all_appended rows (c ∷ before) after = all_appended (rows_with rows c) before after

pub applicable_joined : (rows : TerminalRows) (before after : List ChangeContent) → AreApplicable rows before → AreApplicable (rows_with_all rows before) after → AreApplicable rows (before ++ after)
applicable_joined rows [] after are then = then
applicable_joined rows (c ∷ before) after are then = (are.0, applicable_joined (rows_with rows c) before after are.1 then)

pub applicable_parted : (rows : TerminalRows) (before after : List ChangeContent) → AreApplicable rows (before ++ after) → AreApplicable rows before × AreApplicable (rows_with_all rows before) after
applicable_parted rows [] after are = (tt, are)
applicable_parted rows (c ∷ before) after are = let rest = applicable_parted (rows_with rows c) before after are.1 in ((are.0, rest.0), rest.1)

-- ==== Forming: What is well formed stays so.

-- ---- slots

capital : (letter : ℕ) → 65 ≤ letter → letter ≤ 90 → IsTrue (is_ascii_uppercase letter)
capital letter low high = let a : nat_le 65 letter ≡ true = le-leb 65 letter low in let b : nat_le letter 90 ≡ true = le-leb letter 90 high in ap (λ v. v && nat_le letter 90) a ∙ b

-- where a container fits is a slot with a name
named : (is_wary : Bool) (plan : List Block) (boxes : Boxes) (s : Placement) → IsPlan plan → misfit_of is_wary plan boxes s ≡ None → IsNamed s.slot
named is_wary plan boxes s valid fits =
    let open_ : IsOpen plan (placement_of boxes) s = open_of is_wary plan boxes s valid fits in
    let n = numbered plan s.slot valid open_.in_plan in
    record { block = capital s.slot.block n.letter_low (omega (arith, n.letter_high)); bay = omega (arith, n.bay_high); row = omega (arith, n.row_high); tier = omega (arith, n.tier_high) }

placed_case : (boxes : Boxes) (w : Stowed) (t : Placement) (q : BoxNumber) (is : Bool) → ((t : Placement) → placement_of boxes q ≡ Some t → IsNamed t.slot) → IsNamed w.placement.slot → placement_if_any (cond is (Some w) (finite_map.get boxes q)) ≡ Some t → IsNamed t.slot
placed_case boxes w t q true old new at = let P : Placement → Type 0 = λ p. IsNamed p.slot in subst P (same_Some w.placement t at) new
placed_case boxes w t q false old new at = old t at

removed_case : (boxes : Boxes) (t : Placement) (q : BoxNumber) (is : Bool) → ((t : Placement) → placement_of boxes q ≡ Some t → IsNamed t.slot) → placement_if_any (cond is None (finite_map.get boxes q)) ≡ Some t → IsNamed t.slot
removed_case boxes t q true old at = absurd (none-some t at)
removed_case boxes t q false old at = old t at

-- ---- the empty state

pub empty_formed : (yard : YardMap) (limit : ℕ) → yard.boxes ≡ finite_map.empty → IsWellFormed (empty_state yard limit)
empty_formed yard limit none = record {
  visits = λ visit inside. (let bad : inside.0 < 0 = inside.1 in absurd (omega arith));
  lines = λ call side container line there. absurd (none-some line (sym (finite_map.get-empty _ (line_key call side container)) ∙ there));
  slots = λ container s at. absurd (none-some s (sym (ap (λ (m : Boxes). placement_of m container) none ∙ ap placement_if_any (finite_map.get-empty _ container)) ∙ at));
}

-- ---- steps

abbrev Forms : StepResult → Type 0
Forms after = IsWellFormed after.state

formed_entered_at : (version : Version) (state : TerminalState) (way : Way) (source : Source) (entry : EntryContent) (r : Result (YardMap × Slot) Refusal) → IsWhole state → IsWellFormed state → IsSource source → IsFormedEntry entry
    → yard_with_entry version state.yard entry ≡ r → Forms (after_entry_at state way source entry r)
formed_entered_at version state way source entry (Err f) whole formed from its e = formed
formed_entered_at version state way source entry (Ok (y, slot)) whole formed from its e =
    let w : Stowed = brought entry slot in
    let came : Comes state.yard y entry.number w = comes version state.yard y entry entry.slot slot e in
    let slot_named : IsNamed slot = named came.is_wary state.yard.plan state.yard.boxes w.placement whole.plan came.fits in
    let v : VisitContent = visit_of state way source entry slot in
    let V : VisitContent → Type 0 = IsFormedVisit in
    let v_formed : V v = record { container = its.container; size_type = its.size_type; booking = its.booking; source = from; moment = its.moment; slot = slot_named; exit = tt; kilos = its.kilos } in
    record {
      visits = λ visit inside. elim (Contains-push_cases state.visits v visit inside) [ inl old ↦ formed.visits visit old | inr same ↦ subst V same v_formed ];
      lines = formed.lines;
      slots = λ q t at. placed_case state.yard.boxes w t q (bytes_eq entry.number q) (formed.slots q) slot_named (ap placement_if_any (sym (in_placed_map state.yard.boxes y.boxes entry.number q w came.boxes)) ∙ at);
    }

formed_entered : (version : Version) (state : TerminalState) (way : Way) (source : Source) (entry : EntryContent) → IsWhole state → IsWellFormed state → IsSource source → IsFormedEntry entry → Forms (after_entry version state way source entry)
formed_entered version state way source entry whole formed from its =
    either Forms (is_full state) (with_refusal state VisitLimit) (after_entry_at state way source entry (yard_with_entry version state.yard entry)) formed (formed_entered_at version state way source entry (yard_with_entry version state.yard entry) whole formed from its refl)

closed_case : (departure : Departure) (v : VisitContent) (is : Bool) → IsFormedVisit v → IsFormedDeparture departure → IsFormedVisit (cond is (record v { departure = Some departure }) v)
closed_case departure v true old new = record { container = old.container; size_type = old.size_type; booking = old.booking; source = old.source; moment = old.moment; slot = old.slot; exit = new; kilos = old.kilos }
closed_case departure v false old new = old

formed_departed_at : (state : TerminalState) (b : BoxNumber) (departure : Departure) (r : Result (YardMap × Placement) Refusal) → IsWellFormed state → IsFormedDeparture departure → yard_without state.yard b ≡ r → Forms (after_departure_at state b departure r)
formed_departed_at state b departure (Err f) formed its e = formed
formed_departed_at state b departure (Ok (y, s)) formed its e =
    let went = goes (placement_of state.yard.boxes b) state.yard y b s e in
    record {
      visits = λ visit inside. (let V : VisitContent → Type 0 = IsFormedVisit in
          let row = mapped_at (closed_visit departure b) state.visits inside.0 visit (found_at (map (closed_visit departure b) state.visits) visit inside) in
          subst V row.2 (closed_case departure row.0 (is_open_visit b row.0) (formed.visits row.0 (contained state.visits inside.0 row.0 row.1)) its));
      lines = formed.lines;
      slots = λ q t at. removed_case state.yard.boxes t q (bytes_eq b q) (formed.slots q) (ap placement_if_any (sym (in_removed_map state.yard.boxes y.boxes b q went.1)) ∙ at);
    }

formed_departed : (state : TerminalState) (way : Way) (source : Source) (b : BoxNumber) (moment : CivilMoment) → IsWellFormed state → IsFormedDeparture (departure_by way source moment) → Forms (after_departure state way source b moment)
formed_departed state way source b moment formed its = formed_departed_at state b (departure_by way source moment) (yard_without state.yard b) formed its refl

formed_moved_at : (version : Version) (state : TerminalState) (b : BoxNumber) (slot : Slot) (r : Result YardMap Refusal) → IsWhole state → IsWellFormed state → yard_with_move (spares_empty version) state.yard b slot ≡ r → Forms (after_move_at state b slot r)
formed_moved_at version state b slot (Err f) whole formed e = formed
formed_moved_at version state b slot (Ok y) whole formed e =
    let is = shifts version (finite_map.get state.yard.boxes b) state.yard y b slot e in
    let w : Stowed = moved_as is.0 slot in
    record {
      visits = formed.visits;
      lines = formed.lines;
      slots = λ q t at. placed_case state.yard.boxes w t q (bytes_eq b q) (formed.slots q) (named is.2.is_wary state.yard.plan (finite_map.remove state.yard.boxes b) w.placement whole.plan is.2.fits)
          (ap placement_if_any (sym (in_placed_map state.yard.boxes y.boxes b q w is.2.boxes)) ∙ at);
    }

-- ---- lists

line_case : (lines : Lines) (call c : CallContent) (side s : Side) (b q : BoxNumber) (new line : LineContent) (is : Bool) → eq_by_cmp order (line_key c s q) (line_key call side b) ≡ is → IsFormedLine call side b new
    → (finite_map.get lines (line_key c s q) ≡ Some line → IsFormedLine c s q line) → cond is (Some new) (finite_map.get lines (line_key c s q)) ≡ Some line → IsFormedLine c s q line
line_case lines call c side s b q new line true e its old at =
    let parts = key_parts call c side s b q (sym (same_key (line_key c s q) (line_key call side b) e)) in
    let P : CallContent → Type 0 = λ x. IsFormedLine x side b new in
    let Q : Side → Type 0 = λ x. IsFormedLine c x b new in
    let R : BoxNumber → Type 0 = λ x. IsFormedLine c s x new in
    let L : LineContent → Type 0 = IsFormedLine c s q in
    subst L (same_Some new line at) (subst R parts.2 (subst Q parts.1 (subst P parts.0 its)))
line_case lines call c side s b q new line false e its old at = old at

formed_lines : (state : TerminalState) (call : CallContent) (side : Side) (b : BoxNumber) (new : LineContent) → IsWellFormed state → IsFormedLine call side b new
    → IsWellFormed (record state { lines = finite_map.insert state.lines (line_key call side b) new })
formed_lines state call side b new formed its = record {
  visits = formed.visits;
  lines = λ c s q line at. line_case state.lines call c side s b q new line (eq_by_cmp order (line_key c s q) (line_key call side b)) refl its (formed.lines c s q line) (sym (finite_map.get-insert keys_total state.lines (line_key call side b) new (line_key c s q)) ∙ at);
  slots = formed.slots;
}

formed_listed : (state : TerminalState) (call : CallContent) (side : Side) (b : BoxNumber) (port : List ℕ) (o : Option LineContent) → IsWellFormed state → IsFormedLine call side b (record { port = port; state = Pending }) → Forms (after_listing_at state call side b port o)
formed_listed state call side b port (Some line) formed its = formed
formed_listed state call side b port None formed its = formed_lines state call side b (record { port = port; state = Pending }) formed its

done_formed : (call : CallContent) (side : Side) (b : BoxNumber) (line : LineContent) → IsFormedLine call side b line → IsFormedLine call side b (record line { state = LineIsDone })
done_formed call side b line its = record { call_formed = its.call_formed; container_formed = its.container_formed; port_formed = its.port_formed }

formed_then : (call : CallContent) (side : Side) (b : BoxNumber) (line : LineContent) (after : StepResult) (o : Outcome) → Forms after → IsFormedLine call side b line → Forms (then_line_done_at call side b line after o)
formed_then call side b line after (Refused reason) formed its = formed
formed_then call side b line after (Done slot) formed its = formed_lines after.state call side b (record line { state = LineIsDone }) formed (done_formed call side b line its)
formed_then call side b line after Gone formed its = formed_lines after.state call side b (record line { state = LineIsDone }) formed (done_formed call side b line its)
formed_then call side b line after Listed formed its = formed_lines after.state call side b (record line { state = LineIsDone }) formed (done_formed call side b line its)

formed_by_state : (state : TerminalState) (call : CallContent) (side : Side) (b : BoxNumber) (line : LineContent) (after : StepResult) (s : LineState) → IsWellFormed state → Forms after → IsFormedLine call side b line → Forms (by_state state call side b line after s)
formed_by_state state call side b line after LineIsDone formed then its = formed
formed_by_state state call side b line after Pending formed then its = formed_then call side b line after after.outcome then its

formed_by_line : (state : TerminalState) (call : CallContent) (side : Side) (b : BoxNumber) (o : Option LineContent) (after : StepResult) → IsWellFormed state → Forms after → line_of state call side b ≡ o → Forms (by_line state call side b o after)
formed_by_line state call side b None after formed then e = formed
formed_by_line state call side b (Some line) after formed then e = formed_by_state state call side b line after line.state formed then (formed.lines call side b line e)

-- ---- orders

listing_formed : (call : CallContent) (b : BoxNumber) (port : List ℕ) → IsFormedListing call b port → IsFormedLine call Load b (record { port = port; state = Pending })
listing_formed call b port its = record { call_formed = its.call_formed; container_formed = its.container_formed; port_formed = its.port_formed }

discharge_formed : (call : CallContent) (b : BoxNumber) → IsFormedListing call b [] → IsFormedLine call Discharge b (record { port = []; state = Pending })
discharge_formed call b its = record { call_formed = its.call_formed; container_formed = its.container_formed; port_formed = refl }

pub formed_step : (version : Version) (state : TerminalState) (source : Source) (order : OrderContent) → IsWhole state → IsWellFormed state → IsSource source → IsFormedOrder order → Forms (step_by version state source order)
formed_step version state source (gate_in entry) whole formed from its =
    either Forms (is_in state entry.number) (with_refusal state AlreadyIn) (after_entry version state Gate source entry) formed (formed_entered version state Gate source entry whole formed from its)
formed_step version state source (gate_out b moment) whole formed from its = formed_departed state Gate source b moment formed (record { source = from; moment = its })
formed_step version state source (move b slot) whole formed from its = formed_moved_at version state b slot (yard_with_move (spares_empty version) state.yard b slot) whole formed refl
formed_step version state source (list_discharge call b) whole formed from its = formed_listed state call Discharge b [] (line_of state call Discharge b) formed (discharge_formed call b its)
formed_step version state source (list_load call b port) whole formed from its = formed_listed state call Load b port (line_of state call Load b) formed (listing_formed call b port its)
formed_step version state source (discharge call entry) whole formed from its =
    either Forms (is_in state entry.number) (with_refusal state AlreadyIn) (by_line state call Discharge entry.number (line_of state call Discharge entry.number) (after_entry version state Ship source entry)) formed
    (formed_by_line state call Discharge entry.number (line_of state call Discharge entry.number) (after_entry version state Ship source entry) formed (formed_entered version state Ship source entry whole formed from its) refl)
formed_step version state source (load call b moment) whole formed from its =
    either Forms (is_in state b) (by_line state call Load b (line_of state call Load b) (after_departure state Ship source b moment)) (with_refusal state NotIn)
    (formed_by_line state call Load b (line_of state call Load b) (after_departure state Ship source b moment) formed (formed_departed state Ship source b moment formed (record { source = from; moment = its })) refl) formed

-- ==== OneByOne: Applicable changes, and so a step, leave the numbers of visits one by one.

one_more : (next above : ℕ) (visits : List VisitContent) (visit : VisitContent) → above + 1 ≡ next → GoOneByOne next visits → visit.number ≡ last_from above visits + 1 → GoOneByOne next (visits ++ visit ∷ [])
one_more next above [] visit e go is = (is ∙ e, tt)
one_more next above (v ∷ visits) visit e go is = (go.0, one_more (next + 1) v.number visits visit (ap (λ n. n + 1) go.0) go.1 is)

one_closed : (number : ℕ) (departure : Departure) (next : ℕ) (visits : List VisitContent) → GoOneByOne next visits → GoOneByOne next (map (visit_with_departure number departure) visits)
one_closed number departure next [] go = tt
one_closed number departure next (v ∷ visits) go = (kept_number departure v (v.number == number) ∙ go.0, one_closed number departure (next + 1) visits go.1)

one_change : (rows : TerminalRows) (change : ChangeContent) → IsApplicable rows change → GoOneByOne 1 rows.visits → GoOneByOne 1 (rows_with rows change).visits
one_change rows (visit_opened visit) is go = one_more 1 0 rows.visits visit refl go is.next
one_change rows (visit_closed number departure) is go = one_closed number departure 1 rows.visits go
one_change rows (placed_at container visit slot) is go = go
one_change rows (moved_to container slot) is go = go
one_change rows (removed_from container) is go = go
one_change rows (listed_on call side container port) is go = go
one_change rows (line_done call side container) is go = go
one_change rows (unlisted call side container) is go = go

pub changes_go : (rows : TerminalRows) (changes : List ChangeContent) → AreApplicable rows changes → GoOneByOne 1 rows.visits → GoOneByOne 1 (rows_with_all rows changes).visits
changes_go rows [] are go = go
changes_go rows (change ∷ changes) are go = changes_go (rows_with rows change) changes are.1 (one_change rows change are.0 go)

-- what changes lead to has them one by one
pub goes_on : (before after : TerminalState) (changes : List ChangeContent) → rows_with_all (rows_of before) changes ≡ rows_of after → AreApplicable (rows_of before) changes → GoOneByOne 1 before.visits → GoOneByOne 1 after.visits
goes_on before after changes turned are go = subst (λ (rows : TerminalRows). GoOneByOne 1 rows.visits) turned (changes_go (rows_of before) changes are go)

pub step_goes : (version : Version) (state : TerminalState) (source : Source) (order : OrderContent) → IsWhole state → GoOneByOne 1 state.visits → GoOneByOne 1 (step_by version state source order).state.visits
step_goes version state source order whole go =
    goes_on state (step_by version state source order).state (step_by version state source order).changes (turned_step version state source order whole) (applicable_step version state source order whole) go
