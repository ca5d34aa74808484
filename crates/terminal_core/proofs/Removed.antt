-- The lines of rows of which one is taken away, and where they are said to stand.
use Rattle.std.{specs.{Prelude.{◌&&◌, not, slice_get, ◌==◌}, Ordering.eq_by_cmp}, proofs.lemmas.Bool.{le-leb, eqb-true, eqb-false, cases_eq, cases_order}}
use Rattle.std.proofs.Common.{◌≡◌, ℕ, ◌<◌, List, length, replicate, ◌*◌, Bool, true, false, cond, [], Option, None, Some, is_some, Result, Ok, Err, refl, sym, ap, ◌∙◌, arith, subst, nat_le, ◌≢◌, ◌+◌, ◌-◌, zero, suc, ◌∷◌, map, get_or, inl, inr}
use Rattle.std.proofs.lemmas.Option.{same_Some, none-some, slice_get_within, get_or_from_slice_get, slice_get-get_or}
use Rattle.box6346.specs.{SizeCode.length_of, declared.box_number.BoxNumber.BoxNumber, declared.size_type.Length.Length, declared.slot.Slot.Slot}
use Rattle.edi_syntax.specs.Moments.{CivilMoment}
use Rattle.edi_messages.specs.{Purposes.CallContent, Orders.{EntryContent, OrderContent, gate_in, gate_out, move, list_discharge, list_load, discharge, load}}
use Rattle.edi_messages.specs.Owned.{call_content}
use Rattle.yard_core.specs.{declared.plan.Block.Block, declared.placements.Placement.Placement, declared.placements.Stowed.Stowed, Calls.PutsBack, Plan.IsPlan}
use Rattle.yard_core.specs.Decisions.{Refusal, present, misfit_of, first_fit, blocker_of, unless_buried, with_misfit, with_slot as with_first_slot, yard_without, yard_without_at, yard_with_move, yard_with_move_at, is_same_slot}
use Rattle.yard_core.{specs.{FitsAndFree.{Stands, IsFree}, SoundYard.IsSound}, proofs.Cells.{Drops-remove, insert-remove, get-removed, IsSound-dropped}}
use Rattle.yard_core.{specs.YardMap.{Boxes, YardMap, yard_map, placement, placement_of, placement_if_any, stowed}, proofs.Deciding.{Blocks, blocker_tells}}
use Rattle.yard_core.proofs.Placings.{stands_open, kept_empty}
use Rattle.terminal_core.specs.{declared.visits.Departure.Departure, declared.lines.LineState.LineState, declared.change.Outcome.Outcome, Versions.spares_empty}
use Rattle.terminal_core.specs.{declared.lines.LineState.TheVariants.{Pending, Done as LineIsDone}, declared.lines.Side.Side, declared.change.Source.Source}
use Rattle.terminal_core.specs.{declared.change.Outcome.TheVariants.{Done, Gone, Listed, Refused}, declared.lines.Side.TheVariants.{Load, Discharge}}
use Rattle.terminal_core.specs.{declared.change.Reason.TheVariants.{AlreadyIn, NotIn, VisitLimit}, declared.change.Version.Version, declared.visits.Way.Way}
use Rattle.terminal_core.{specs.{declared.visits.Way.TheVariants.{Gate, Ship}, declared.lines.Listing.Listing}, proofs.Open.{open_of, moved_as}}
use Rattle.terminal_core.specs.State.{last_number, TerminalState, LineContent, line_of, is_in, empty_state, IsWhole, LineKey, Lines, line_key}
use Rattle.terminal_core.specs.Step.{StepResult, with_refusal, step_by, yard_with_entry, yard_with_entry_in, with_slot, is_full, visit_of, after_entry, after_entry_at, after_departure, after_departure_at, departure_by, after_move_at, after_listing_at, then_line_done_at, by_line, by_state}
use Rattle.terminal_core.{specs.Listings.{key_of, line_content, line_entry, lines_of, IsFirstAt}, proofs.Changing.{Comes, comes, brought, goes, shifts, either}}
use Rattle.terminal_core.{specs.LineIndexes.{AllIndexes, index_in, is_same_line, NotesIndex, AreNoted, IsWithout}, proofs.Indexed.none_there}
use Rattle.terminal_core.proofs.{Whole.{whole_empty, whole_listed, whole_entered, whole_departed, whole_moved}, Noted.{index_by_key, one_key, one_line}}
use Rattle.terminal_core.proofs.Lined.{order, keys_total, keys_apart, same_key, tied_self, line_tied}
use Rattle.std.specs.FinMap as finite_map

-- ==== Keeping: A state with nothing in it is whole, and a step leaves a whole state.

-- ---- nothing

pub empty_whole : (yard : YardMap) (limit : ℕ) → IsPlan yard.plan → yard.boxes ≡ finite_map.empty → IsWhole (empty_state yard limit)
empty_whole yard limit valid none =
    whole_empty yard.plan yard limit [] finite_map.empty valid refl none (kept_empty yard.plan (replicate (480 * length yard.plan) []) yard.boxes valid refl none).sound refl

-- ---- the plan stays

slotted_plan : (there : Bool) (o : Option Refusal) (y new : YardMap) (slot named : Slot) → with_slot named (cond there (Err present) (with_misfit o y)) ≡ Ok (new, slot) → new.plan ≡ y.plan
slotted_plan true o y new slot named e = cc
slotted_plan false (Some f) y new slot named e = cc
slotted_plan false None y new slot named e = let p : (y, named) ≡ (new, slot) = cc in sym (ap (λ (q : YardMap × Slot). q.0.plan) p)

first_plan : (there : Bool) (o : Option Slot) (y new : YardMap) (b : BoxNumber) (length : Length) (is_laden : Bool) (slot : Slot) → cond there (Err present) (with_first_slot o y b length is_laden) ≡ Ok (new, slot) → new.plan ≡ y.plan
first_plan true o y new b length is_laden slot e = cc
first_plan false None y new b length is_laden slot e = cc
first_plan false (Some first) y new b length is_laden slot e =
    let p : (yard_map y.plan (finite_map.insert y.boxes b (stowed (placement length first) is_laden)), first) ≡ (new, slot) = cc in sym (ap (λ (q : YardMap × Slot). q.0.plan) p)

settled_plan : (version : Version) (y new : YardMap) (entry : EntryContent) (o : Option Slot) (slot : Slot) → yard_with_entry_in version y entry o ≡ Ok (new, slot) → new.plan ≡ y.plan
settled_plan version y new entry (Some named) slot e =
    slotted_plan (is_some (finite_map.get y.boxes entry.number)) (misfit_of (spares_empty version && entry.is_laden) y.plan y.boxes (placement (length_of entry.size_type) named)) (yard_map y.plan (finite_map.insert y.boxes entry.number (brought entry named))) new slot named e
settled_plan version y new entry None slot e =
    first_plan (is_some (finite_map.get y.boxes entry.number)) (first_fit (spares_empty version && entry.is_laden) y.plan y.boxes (length_of entry.size_type)) y new entry.number (length_of entry.size_type) entry.is_laden slot e

-- ---- what the yard decides, as what its calls do

-- a sound yard over the plan, with these boxes
sound_with : (old new : YardMap) (boxes : Boxes) → IsSound old.plan (placement_of boxes) → new.plan ≡ old.plan → new.boxes ≡ boxes → IsSound new.plan (placement_of new.boxes)
sound_with old new boxes sound plan same =
    let P : List Block → Type 0 = λ p. IsSound p (placement_of boxes) in
    let Q : Boxes → Type 0 = λ m. IsSound new.plan (placement_of m) in
    subst Q (sym same) (subst P (sym plan) sound)

free_of : (boxes : Boxes) (s : Placement) → blocker_of boxes s ≡ None → IsFree (placement_of boxes) s
free_of boxes s none = let P : Option BoxNumber → Type 0 = Blocks boxes s in subst P none (blocker_tells boxes s.length s.slot)

came_puts : (old new : YardMap) (b : BoxNumber) (w : Stowed) → IsPlan old.plan → IsSound old.plan (placement_of old.boxes) → Comes old new b w → new.plan ≡ old.plan → PutsBack old new b w
came_puts old new b w valid sound came plan =
    let absent : finite_map.get old.boxes b ≡ None = none_there (finite_map.get old.boxes b) came.absent in
    record { adds = record { absent = absent; plan = plan; boxes = came.boxes }; stands = stands_open old.plan old.boxes b w sound absent (open_of came.is_wary old.plan old.boxes w.placement valid came.fits) }

unburied : (o : Option BoxNumber) (y new : YardMap) (t s : Placement) → unless_buried {A = YardMap × Placement} o (Ok (y, t)) ≡ Ok (new, s) → (o ≡ None) × (new.plan ≡ y.plan) × (t ≡ s)
unburied (Some b) y new t s e = cc
unburied None y new t s e = let p : (y, t) ≡ (new, s) = cc in (refl, sym (ap (λ (q : YardMap × Placement). q.0.plan) p), ap (λ (q : YardMap × Placement). q.1) p)

went_free : (o : Option Placement) (y new : YardMap) (b : BoxNumber) (s : Placement) → yard_without_at o y b ≡ Ok (new, s) → IsFree (placement_of y.boxes) s × (new.plan ≡ y.plan)
went_free None y new b s e = cc
went_free (Some t) y new b s e =
    let is = unburied (blocker_of y.boxes t) (yard_map y.plan (finite_map.remove y.boxes b)) new t s e in
    let P : Placement → Type 0 = IsFree (placement_of y.boxes) in
    (subst P is.2 (free_of y.boxes t is.0), is.1)

sound_without : (y : YardMap) (b : BoxNumber) (s : Placement) → IsPlan y.plan → IsSound y.plan (placement_of y.boxes) → placement_of y.boxes b ≡ Some s → IsFree (placement_of y.boxes) s → IsSound y.plan (placement_of (finite_map.remove y.boxes b))
sound_without y b s valid sound stood free =
    IsSound-dropped y.plan (placement_of y.boxes) (placement_of (finite_map.remove y.boxes b)) b s (Drops-remove y.boxes b) stood free valid.sized sound

unburied_there : (o : Option BoxNumber) (m : Option Refusal) (y new : YardMap) → unless_buried o (with_misfit m y) ≡ Ok new → (o ≡ None) × (new.plan ≡ y.plan)
unburied_there (Some b) m y new e = cc
unburied_there None (Some f) y new e = cc
unburied_there None None y new e = let p : y ≡ new = cc in (refl, sym (ap (λ (q : YardMap). q.plan) p))

moves_free : (version : Version) (o : Option Stowed) (y new : YardMap) (b : BoxNumber) (slot : Slot) (w : Stowed) → o ≡ Some w → yard_with_move_at (spares_empty version) o y b slot ≡ Ok new → IsFree (placement_of y.boxes) w.placement × (new.plan ≡ y.plan)
moves_free version None y new b slot w at e = cc
moves_free version (Some t) y new b slot w at e =
    let is = unburied_there (blocker_of y.boxes t.placement) (misfit_of (spares_empty version && (t.is_laden && not (is_same_slot slot t.placement.slot))) y.plan (finite_map.remove y.boxes b) (placement t.placement.length slot)) (yard_map y.plan (finite_map.insert y.boxes b (moved_as t slot))) new e in
    let same : t ≡ w = same_Some t w at in
    let P : Stowed → Type 0 = λ u. IsFree (placement_of y.boxes) u.placement in
    (subst P same (free_of y.boxes t.placement is.0), is.1)

-- ---- steps

abbrev Keeps : StepResult → Type 0
Keeps after = IsWhole after.state

room_left : (limit n : ℕ) → nat_le limit n ≡ false → n < limit
room_left limit n e = grind (arith, le-leb)

whole_entered_at : (version : Version) (state : TerminalState) (way : Way) (source : Source) (entry : EntryContent) (r : Result (YardMap × Slot) Refusal) → IsWhole state → last_number state.visits < state.limit → yard_with_entry version state.yard entry ≡ r
    → Keeps (after_entry_at state way source entry r)
whole_entered_at version state way source entry (Err f) whole room e = whole
whole_entered_at version state way source entry (Ok (y, slot)) whole room e =
    let w : Stowed = brought entry slot in
    let plan : y.plan ≡ state.yard.plan = settled_plan version state.yard y entry entry.slot slot e in
    let puts : PutsBack state.yard y entry.number w = came_puts state.yard y entry.number w whole.plan whole.sound (comes version state.yard y entry entry.slot slot e) plan in
    whole_entered state y (visit_of state way source entry slot) w whole puts.adds (sound_with state.yard y (finite_map.insert state.yard.boxes entry.number w) puts.stands plan puts.adds.boxes) refl refl refl room

full_or : (state : TerminalState) (full : Bool) (other : StepResult) → IsWhole state → (full ≡ false → Keeps other) → Keeps (cond full (with_refusal state VisitLimit) other)
full_or state true other whole then = whole
full_or state false other whole then = then refl

whole_enters : (version : Version) (state : TerminalState) (way : Way) (source : Source) (entry : EntryContent) → IsWhole state → Keeps (after_entry version state way source entry)
whole_enters version state way source entry whole =
    full_or state (is_full state) (after_entry_at state way source entry (yard_with_entry version state.yard entry)) whole (λ room. whole_entered_at version state way source entry (yard_with_entry version state.yard entry) whole (room_left state.limit (last_number state.visits) room) refl)

whole_departed_at : (state : TerminalState) (b : BoxNumber) (departure : Departure) (r : Result (YardMap × Placement) Refusal) → IsWhole state → yard_without state.yard b ≡ r → Keeps (after_departure_at state b departure r)
whole_departed_at state b departure (Err f) whole e = whole
whole_departed_at state b departure (Ok (y, s)) whole e =
    let went = goes (placement_of state.yard.boxes b) state.yard y b s e in
    let free = went_free (placement_of state.yard.boxes b) state.yard y b s e in
    let sound = sound_without state.yard b s whole.plan whole.sound went.0 free.0 in
    whole_departed state y b departure s whole (record { stood = went.0; free = free.0; plan = free.1; boxes = went.1 }) (sound_with state.yard y (finite_map.remove state.yard.boxes b) sound free.1 went.1)

whole_departs : (state : TerminalState) (way : Way) (source : Source) (b : BoxNumber) (moment : CivilMoment) → IsWhole state → Keeps (after_departure state way source b moment)
whole_departs state way source b moment whole = whole_departed_at state b (departure_by way source moment) (yard_without state.yard b) whole refl

whole_moved_at : (version : Version) (state : TerminalState) (b : BoxNumber) (slot : Slot) (r : Result YardMap Refusal) → IsWhole state → yard_with_move (spares_empty version) state.yard b slot ≡ r → Keeps (after_move_at state b slot r)
whole_moved_at version state b slot (Err f) whole e = whole
whole_moved_at version state b slot (Ok y) whole e =
    let is = shifts version (finite_map.get state.yard.boxes b) state.yard y b slot e in
    let free = moves_free version (finite_map.get state.yard.boxes b) state.yard y b slot is.0 is.1 e in
    let w : Stowed = moved_as is.0 slot in
    let without = sound_without state.yard b is.0.placement whole.plan whole.sound (ap placement_if_any is.1) free.0 in
    let stands : Stands state.yard.plan (finite_map.remove state.yard.boxes b) b w =
    stands_open state.yard.plan (finite_map.remove state.yard.boxes b) b w without (get-removed state.yard.boxes b) (open_of is.2.is_wary state.yard.plan (finite_map.remove state.yard.boxes b) w.placement whole.plan is.2.fits) in
    whole_moved state y b slot is.0 whole is.1 free.1 is.2.boxes
    (sound_with state.yard y (finite_map.insert (finite_map.remove state.yard.boxes b) b w) stands free.1 (is.2.boxes ∙ sym (insert-remove state.yard.boxes b w)))

-- ---- lists

whole_listed_at : (state : TerminalState) (call : CallContent) (side : Side) (b : BoxNumber) (port : List ℕ) (o : Option LineContent) → IsWhole state → Keeps (after_listing_at state call side b port o)
whole_listed_at state call side b port (Some line) whole = whole
whole_listed_at state call side b port None whole = whole_listed state _ whole

whole_then : (call : CallContent) (side : Side) (b : BoxNumber) (line : LineContent) (after : StepResult) (o : Outcome) → Keeps after → Keeps (then_line_done_at call side b line after o)
whole_then call side b line after (Refused reason) whole = whole
whole_then call side b line after (Done slot) whole = whole_listed after.state _ whole
whole_then call side b line after Gone whole = whole_listed after.state _ whole
whole_then call side b line after Listed whole = whole_listed after.state _ whole

whole_by_state : (state : TerminalState) (call : CallContent) (side : Side) (b : BoxNumber) (line : LineContent) (after : StepResult) (s : LineState) → IsWhole state → Keeps after → Keeps (by_state state call side b line after s)
whole_by_state state call side b line after LineIsDone whole then = whole
whole_by_state state call side b line after Pending whole then = whole_then call side b line after after.outcome then

whole_by_line : (state : TerminalState) (call : CallContent) (side : Side) (b : BoxNumber) (o : Option LineContent) (after : StepResult) → IsWhole state → Keeps after → Keeps (by_line state call side b o after)
whole_by_line state call side b None after whole then = whole
whole_by_line state call side b (Some line) after whole then = whole_by_state state call side b line after line.state whole then

-- ---- orders

pub whole_step : (version : Version) (state : TerminalState) (source : Source) (order : OrderContent) → IsWhole state → Keeps (step_by version state source order)
whole_step version state source (gate_in entry) whole = either Keeps (is_in state entry.number) (with_refusal state AlreadyIn) (after_entry version state Gate source entry) whole (whole_enters version state Gate source entry whole)
whole_step version state source (gate_out b moment) whole = whole_departs state Gate source b moment whole
whole_step version state source (move b slot) whole = whole_moved_at version state b slot (yard_with_move (spares_empty version) state.yard b slot) whole refl
whole_step version state source (list_discharge call b) whole = whole_listed_at state call Discharge b [] (line_of state call Discharge b) whole
whole_step version state source (list_load call b port) whole = whole_listed_at state call Load b port (line_of state call Load b) whole
whole_step version state source (discharge call entry) whole =
    either Keeps (is_in state entry.number) (with_refusal state AlreadyIn) (by_line state call Discharge entry.number (line_of state call Discharge entry.number) (after_entry version state Ship source entry)) whole
    (whole_by_line state call Discharge entry.number (line_of state call Discharge entry.number) (after_entry version state Ship source entry) whole (whole_enters version state Ship source entry whole))
whole_step version state source (load call b moment) whole =
    either Keeps (is_in state b) (by_line state call Load b (line_of state call Load b) (after_departure state Ship source b moment)) (with_refusal state NotIn)
    (whole_by_line state call Load b (line_of state call Load b) (after_departure state Ship source b moment) whole (whole_departs state Ship source b moment whole)) whole

-- ==== Removed: The lines of rows of which one is taken away, and where they are said to stand.

-- ---- what is found is a row's

module _ (q : LineKey) where
  -- the row of a key, and where it stands
  record HasRow (rows : List Listing) (c : LineContent) : Type 0 where
    place : ℕ
    row : Listing
    at : slice_get rows place ≡ Some row
    key : q ≡ key_of row
    content : line_content row ≡ c

  one_later : (r : Listing) (rows : List Listing) (c : LineContent) → HasRow rows c → HasRow (r ∷ rows) c
  one_later r rows c has = record { place = suc has.place; row = has.row; at = has.at; key = has.key; content = has.content }

  found_row : (rows : List Listing) (c : LineContent) → finite_map.find order q (map line_entry rows) ≡ Some c → HasRow rows c
  found_row [] c e = absurd (none-some c e)
  found_row (r ∷ rows) c e = by (eq_by_cmp order q (key_of r)) refl e (found_row rows c)
    where
      by : (b : Bool) → eq_by_cmp order q (key_of r) ≡ b → cond b (Some (line_content r)) (finite_map.find order q (map line_entry rows)) ≡ Some c
          → (finite_map.find order q (map line_entry rows) ≡ Some c → HasRow rows c) → HasRow (r ∷ rows) c
      by true is at rest = record { place = 0; row = r; at = refl; key = same_key q (key_of r) is; content = same_Some (line_content r) c at }
      by false is at rest = one_later r rows c (rest at)

  row_found : (rows : List Listing) (k : ℕ) (row : Listing) → slice_get rows k ≡ Some row → q ≡ key_of row → is_some (finite_map.find order q (map line_entry rows)) ≡ true
  row_found [] k row at key = absurd (none-some row at)
  row_found (r ∷ rows) zero row at key =
      let tied : eq_by_cmp order q (key_of r) ≡ true = ap (eq_by_cmp order q) (ap key_of (same_Some r row at) ∙ sym key) ∙ tied_self q in
      ap (λ b. is_some (cond b (Some (line_content r)) (finite_map.find order q (map line_entry rows)))) tied
  row_found (r ∷ rows) (suc k) row at key = by (eq_by_cmp order q (key_of r)) (row_found rows k row at key)
    where
      by : (b : Bool) → is_some (finite_map.find order q (map line_entry rows)) ≡ true → is_some (cond b (Some (line_content r)) (finite_map.find order q (map line_entry rows))) ≡ true
      by true rest = refl
      by false rest = rest

-- ---- rows that are noted have each key once

module _ (rows : List Listing) (indexes : AllIndexes) (noted : AreNoted rows indexes) where
  pub one_place : (j k : ℕ) (x y : Listing) → slice_get rows j ≡ Some x → slice_get rows k ≡ Some y → key_of x ≡ key_of y → j ≡ k
  one_place j k x y at there key =
      same_Some j k (sym (noted j x at) ∙ index_by_key indexes (call_content x.call) x.side x.container y key ∙ noted k y there)

  same_content : (q : LineKey) (c d : LineContent) → HasRow q rows c → HasRow q rows d → c ≡ d
  same_content q c d a b =
      let place : a.place ≡ b.place = one_place a.place b.place a.row b.row a.at b.at (sym a.key ∙ b.key) in
      let row : a.row ≡ b.row = same_Some a.row b.row (sym a.at ∙ ap (slice_get rows) place ∙ b.at) in
      sym a.content ∙ ap line_content row ∙ b.content

  -- ---- one less

  module _ (left : List Listing) (place : ℕ) (gone : Listing) (at : slice_get rows place ≡ Some gone) (without : IsWithout rows left place) where
    kept_row : (q : LineKey) (c : LineContent) → HasRow q left c → HasRow q rows c × (eq_by_cmp order q (key_of gone) ≡ false)
    kept_row q c has = elim (without.kept has.place has.row has.at) [
      | inl stays ↦ (
        record { place = has.place; row = has.row; at = stays.2; key = has.key; content = has.content },
        other (eq_by_cmp order q (key_of gone)) refl has.place stays.0 stays.2,
      )
      | inr last ↦ (
        record { place = length rows - 1; row = has.row; at = last.2; key = has.key; content = has.content },
        other (eq_by_cmp order q (key_of gone)) refl (length rows - 1) (λ e. let far : suc place < length rows = last.1 in absurd (omega (arith, e, far))) last.2,
      )
    ]
      where
        other : (b : Bool) → eq_by_cmp order q (key_of gone) ≡ b → (k : ℕ) → k ≢ place → slice_get rows k ≡ Some has.row → b ≡ false
        other true is k apart there = absurd (apart (one_place k place has.row gone there at (sym has.key ∙ same_key q (key_of gone) is)))
        other false is k apart there = refl

    lost : (q : LineKey) (c : LineContent) → finite_map.find order q (map line_entry left) ≡ None → HasRow q rows c → eq_by_cmp order q (key_of gone) ≡ true
    lost q c none has = by (has.place == place) refl
      where
        by : (b : Bool) → (has.place == place) ≡ b → eq_by_cmp order q (key_of gone) ≡ true
        by true is =
            let here : has.place ≡ place = eqb-true has.place place is in
            let row : has.row ≡ gone = same_Some has.row gone (sym has.at ∙ ap (slice_get rows) here ∙ at) in
            ap (eq_by_cmp order q) (sym (ap key_of row) ∙ sym has.key) ∙ tied_self q
        by false is =
            let still = without.there has.place has.row has.at (eqb-false has.place place is) in
            let found = row_found q left still.0 has.row still.1 has.key in
            let bad : true ≡ false = sym found ∙ ap is_some none in
            cc

    found_same : (q : LineKey) → finite_map.find order q (map line_entry left) ≡ cond (eq_by_cmp order q (key_of gone)) None (finite_map.find order q (map line_entry rows))
    found_same q = by (finite_map.find order q (map line_entry left)) (finite_map.find order q (map line_entry rows)) refl refl
      where
        by : (o p : Option LineContent) → finite_map.find order q (map line_entry left) ≡ o → finite_map.find order q (map line_entry rows) ≡ p → o ≡ cond (eq_by_cmp order q (key_of gone)) None p
        by (Some c) (Some d) e f =
            let kept = kept_row q c (found_row q left c e) in
            ap Some (same_content q c d kept.0 (found_row q rows d f)) ∙ sym (ap (λ b. cond b None (Some d)) kept.1)
        by (Some c) None e f =
            let kept = kept_row q c (found_row q left c e) in
            let found = row_found q rows kept.0.place kept.0.row kept.0.at kept.0.key in
            let bad : true ≡ false = sym found ∙ ap is_some f in
            cc
        by None (Some d) e f = sym (ap (λ b. cond b None (Some d)) (lost q d e (found_row q rows d f)))
        by None None e f = none (eq_by_cmp order q (key_of gone))
          where
            none : (b : Bool) → ◌≡◌ {A = Option LineContent} None (cond b None None)
            none true = refl
            none false = refl

    pub lines_without : lines_of left ≡ finite_map.remove (lines_of rows) (key_of gone)
    lines_without = finite_map.same_map keys_total keys_apart _ _
        (λ q. finite_map.get-from_entries keys_total (map line_entry left) q ∙ found_same q
        ∙ ap (cond (eq_by_cmp order q (key_of gone)) None) (sym (finite_map.get-from_entries keys_total (map line_entry rows) q))
        ∙ sym (finite_map.get-remove keys_total (lines_of rows) (key_of gone) q))

    -- nothing moved, as the last was taken
    pub noted_last : ((k : ℕ) (row : Listing) → slice_get left k ≡ Some row → k ≢ place) → AreNoted left indexes
    noted_last none k row there = elim (without.kept k row there) [
      | inl stays ↦ noted k row stays.2
      | inr last ↦ absurd (none k row there last.0)
    ]

    -- the last one stands in its place, and is said to
    pub noted_moved : (new : AllIndexes) (moved : Listing) → slice_get left place ≡ Some moved → NotesIndex indexes new (call_content moved.call) moved.side moved.container place → AreNoted left new
    noted_moved new moved here notes k row there = elim (without.kept k row there) [
      | inl stays ↦ notes row.call row.side row.container ∙ unmoved (is_same_line (call_content moved.call) moved.side moved.container row.call row.side row.container) refl stays.1 stays.2
      | inr last ↦ (let same : row ≡ moved = same_Some row moved (sym there ∙ ap (slice_get left) last.0 ∙ here) in
          let P : Listing → Type 0 = λ r. index_in new (call_content r.call) r.side r.container ≡ Some k in
          subst P (sym same) (notes moved.call moved.side moved.container ∙ ap (λ v. cond v (Some place) (index_in indexes (call_content moved.call) moved.side moved.container)) (one_line moved) ∙ ap Some (sym last.0)))
    ]
      where
        unmoved : (v : Bool) → is_same_line (call_content moved.call) moved.side moved.container row.call row.side row.container ≡ v → suc k < length rows → slice_get rows k ≡ Some row
            → cond v (Some place) (index_in indexes (call_content row.call) row.side row.container) ≡ Some k
        unmoved true is low at_k = elim (without.kept place moved here) [
          | inl stays ↦ absurd (stays.0 refl)
          | inr last ↦ (let same : k ≡ length rows - 1 = one_place k (length rows - 1) row moved at_k last.2 (one_key moved row is) in absurd (omega (arith, same, low)))
        ]
        unmoved false is low at_k = noted k row at_k

-- ---- the last takes its place

pub swapped_out : (old new : List Listing) (i : ℕ) → i < length old → length new + 1 ≡ length old
    → ((d : Listing) → i + 1 < length old → get_or new i d ≡ get_or old (length old - 1) d) → ((k : ℕ) (d : Listing) → k ≢ i → k + 1 < length old → get_or new k d ≡ get_or old k d)
    → IsWithout old new i
swapped_out old new i low long last others = record {
  kept = λ k row at.
      let within : k < length new = slice_get_within new k row at in
      let read : get_or new k row ≡ row = get_or_from_slice_get new k row row at in
      elim (cases_eq k i) [
        | inl same ↦ inr (
          same,
          omega (arith, same, within, long),
          slice_get-get_or old (length old - 1) row (omega arith) ∙ ap Some (sym (last row (omega (arith, same, within, long))) ∙ ap (λ j. get_or new j row) (sym same) ∙ read),
        )
        | inr apart ↦ inl (apart, omega (arith, within, long), slice_get-get_or old k row (omega (arith, within, long)) ∙ ap Some (sym (others k row apart (omega (arith, within, long))) ∙ read))
      ];
  there = λ k row at apart.
      let within : k < length old = slice_get_within old k row at in
      let read : get_or old k row ≡ row = get_or_from_slice_get old k row row at in
      elim (cases_eq (k + 1) (length old)) [
        | inl end ↦ (
          i,
          slice_get-get_or new i row (near k apart within end) ∙ ap Some (last row (omega (arith, near k apart within end, long)) ∙ ap (λ j. get_or old j row) (omega (arith, end)) ∙ read),
        )
        | inr before ↦ (k, slice_get-get_or new k row (omega (arith, within, long, lower k within before)) ∙ ap Some (others k row apart (lower k within before) ∙ read))
      ];
}
  where
    lower : (k : ℕ) → k < length old → (k + 1 ≢ length old) → k + 1 < length old
    lower k within before = elim (cases_order (k + 1) (length old)) [
      | inl same ↦ absurd (before same)
      | inr o ↦ elim o [ inl less ↦ less | inr more ↦ absurd (omega (arith, more, within)) ]
    ]

    near : (k : ℕ) → k ≢ i → k < length old → k + 1 ≡ length old → i < length new
    near k apart within end = elim (cases_order i k) [
      | inl same ↦ absurd (apart (sym same))
      | inr o ↦ elim o [ inl less ↦ omega (arith, less, end, long) | inr more ↦ absurd (omega (arith, more, end, low)) ]
    ]

-- ---- what taking a line away does

pub line_removed : (call : CallContent) (side : Side) (container : BoxNumber) (rows shown left : List Listing) (indexes : AllIndexes) (place : ℕ) (lines : Lines) → AreNoted rows indexes → shown ≡ rows → IsFirstAt call side container shown place → IsWithout rows left place
    → lines_of rows ≡ lines → lines_of left ≡ finite_map.remove lines (line_key call side container)
line_removed call side container rows shown left indexes place lines noted shows first without are =
    let P : List Listing → Type 0 = λ r. IsFirstAt call side container r place in
    let here : IsFirstAt call side container rows place = subst P shows first in
    let key : key_of here.row ≡ line_key call side container = sym (same_key _ _ (line_tied call side container here.row ∙ here.is)) in
    lines_without rows indexes noted left place here.row here.at without ∙ ap (finite_map.remove (lines_of rows)) key ∙ ap (λ (l : Lines). finite_map.remove l (line_key call side container)) are

-- one that isn't there
pub none_removed : (lines : Lines) (key : LineKey) → finite_map.get lines key ≡ None → lines ≡ finite_map.remove lines key
none_removed lines key none = finite_map.same_map keys_total keys_apart _ _ (λ q. by q (eq_by_cmp order q key) refl ∙ sym (finite_map.get-remove keys_total lines key q))
  where
    by : (q : LineKey) (b : Bool) → eq_by_cmp order q key ≡ b → finite_map.get lines q ≡ cond (eq_by_cmp order q key) None (finite_map.get lines q)
    by q true is = ap (finite_map.get lines) (same_key q key is) ∙ none ∙ sym (ap (λ v. cond v None (finite_map.get lines q)) is)
    by q false is = sym (ap (λ v. cond v None (finite_map.get lines q)) is)
