-- What the changes of a step make of the rows.
use Rattle.std.{specs.{Prelude.{find, filter, ◌&&◌, not, ◌==◌}, Option.option_map, Str.bytes_eq, Map.update}, proofs.lemmas.Bool.{eq-eqb, ne_eqb}}
use Rattle.std.proofs.Common.{◌≡◌, ℕ, ◌+◌, ◌≤◌, ◌<◌, List, [], ◌∷◌, ◌++◌, length, map, Bool, true, false, cond, Option, None, Some, Result, Ok, Err, is_some, is_none, refl, sym, ap, ◌∙◌, arith, ◌≢◌, ◌-◌, ◌%◌, inl}
use Rattle.box6346.specs.{SizeCode.length_of, declared.box_number.BoxNumber.BoxNumber, declared.size_type.Length.Length, declared.slot.Slot.Slot}
use Rattle.box6346.specs.declared.size_type.Length.TheVariants.{Twenty, Forty}
use Rattle.edi_syntax.specs.Moments.{CivilMoment}
use Rattle.edi_messages.specs.{Purposes.CallContent, Orders.{EntryContent, OrderContent, gate_in, gate_out, move, list_discharge, list_load, discharge, load}}
use Rattle.yard_core.specs.{declared.plan.Block.Block, declared.placements.Placement.Placement, declared.placements.Stowed.Stowed, Plan.IsPlan}
use Rattle.yard_core.specs.{YardMap.{Boxes, YardMap, yard_map, placement, placement_of, placement_if_any, stowed, in_bay, CoversAt, IsKind}, FitsAndFree.IsOpen}
use Rattle.yard_core.specs.Decisions.{Refusal, present, yard_without, yard_without_at, yard_with_move, yard_with_move_at, unless_buried, with_misfit, with_slot as with_first_slot, misfit_of, first_fit, every_slot, blocker_of, is_same_slot}
use Rattle.terminal_core.specs.{declared.visits.Departure.Departure, declared.lines.LineState.LineState, declared.change.Outcome.Outcome, Versions.spares_empty}
use Rattle.terminal_core.specs.{declared.lines.LineState.TheVariants.{Pending, Done as LineIsDone}, declared.lines.Side.Side, declared.change.Source.Source}
use Rattle.terminal_core.specs.{declared.change.Outcome.TheVariants.{Done, Gone, Listed, Refused}, declared.lines.Side.TheVariants.{Load, Discharge}}
use Rattle.terminal_core.specs.{declared.change.Reason.TheVariants.{AlreadyIn, NotIn, VisitLimit}, declared.change.Version.Version, declared.visits.Way.Way}
use Rattle.terminal_core.{specs.{declared.visits.Way.TheVariants.{Gate, Ship}, Rows.{VisitContent, ChangeContent, line_done}}, proofs.Whole.below_last}
use Rattle.terminal_core.specs.State.{last_number, TerminalState, LineContent, Lines, line_key, line_of, is_in, is_open_visit, open_visit, AreNumbered, IsWhole}
use Rattle.terminal_core.specs.Step.{StepResult, with_refusal, step_by, yard_with_entry, yard_with_entry_in, with_slot, is_full, visit_of, after_entry, after_entry_at, closed_visit, close_visit, number_of_visit, after_departure, after_departure_at, departure_by, after_move_at, after_listing_at, then_line_done_at, by_line, by_state}
use Rattle.terminal_core.specs.Changes.{Standing, TerminalRows, standing_in, standing_of, rows_of, visit_with_departure, standing_elsewhere, with_line_done, rows_with, rows_with_all, IsNewPlace, IsNewSlot}
use Rattle.terminal_core.proofs.Open.{same_bytes, in_placed_map, in_removed_map, there_placed, moved_as, and_true, closed_open, find_last, find_new, open_of}
use Rattle.terminal_core.proofs.Indexed.{found_is, count_keeps, count_skips, find_skips, find_meets, some_of, none_there}
use Rattle.std.specs.FinMap as finite_map

-- ---- what the yard decides

slotted : (there : Bool) (o : Option Refusal) (y new : YardMap) (slot named : Slot) → with_slot named (cond there (Err present) (with_misfit o y)) ≡ Ok (new, slot) → (there ≡ false) × (new ≡ y) × (named ≡ slot) × (o ≡ None)
slotted true o y new slot named e = cc
slotted false (Some f) y new slot named e = cc
slotted false None y new slot named e = let p : (y, named) ≡ (new, slot) = cc in (refl, sym (ap (λ (q : YardMap × Slot). q.0) p), ap (λ (q : YardMap × Slot). q.1) p, refl)

first_slotted : (there : Bool) (o : Option Slot) (y new : YardMap) (b : BoxNumber) (length : Length) (is_laden : Bool) (slot : Slot) → cond there (Err present) (with_first_slot o y b length is_laden) ≡ Ok (new, slot)
    → (there ≡ false) × (new ≡ yard_map y.plan (finite_map.insert y.boxes b (stowed (placement length slot) is_laden))) × (o ≡ Some slot)
first_slotted true o y new b length is_laden slot e = cc
first_slotted false None y new b length is_laden slot e = cc
first_slotted false (Some first) y new b length is_laden slot e =
    let p : (yard_map y.plan (finite_map.insert y.boxes b (stowed (placement length first) is_laden)), first) ≡ (new, slot) = cc in (
      refl,
      sym (ap (λ (q : YardMap × Slot). q.0) p) ∙ ap (λ (s : Slot). yard_map y.plan (finite_map.insert y.boxes b (stowed (placement length s) is_laden))) (ap (λ (q : YardMap × Slot). q.1) p),
      ap Some (ap (λ (q : YardMap × Slot). q.1) p),
    )

no_misfit : (o : Option Refusal) → is_none o ≡ true → o ≡ None
no_misfit None e = refl
no_misfit (Some f) e = cc

first_fits : (is_wary : Bool) (plan : List Block) (boxes : Boxes) (length : Length) (slot : Slot) → first_fit is_wary plan boxes length ≡ Some slot → misfit_of is_wary plan boxes (placement length slot) ≡ None
unfolding first_fit
first_fits is_wary plan boxes length slot e = no_misfit (misfit_of is_wary plan boxes (placement length slot)) (found_is (λ other. is_none (misfit_of is_wary plan boxes (placement length other))) every_slot slot e).2

-- how the container of an entry stands in a slot
abbrev pub brought : EntryContent → Slot → Stowed
brought entry slot = stowed (placement (length_of entry.size_type) slot) entry.is_laden

-- one container more, which fits there as that version has it
pub record Comes (old new : YardMap) (b : BoxNumber) (w : Stowed) : Type 0 where
  pub absent : is_some (finite_map.get old.boxes b) ≡ false
  pub boxes : new.boxes ≡ finite_map.insert old.boxes b w
  pub is_wary : Bool
  pub fits : misfit_of is_wary old.plan old.boxes w.placement ≡ None

pub comes : (version : Version) (y new : YardMap) (entry : EntryContent) (o : Option Slot) (slot : Slot) → yard_with_entry_in version y entry o ≡ Ok (new, slot) → Comes y new entry.number (brought entry slot)
comes version y new entry (Some named) slot e =
    let is_wary : Bool = spares_empty version && entry.is_laden in
    let is = slotted (is_some (finite_map.get y.boxes entry.number)) (misfit_of is_wary y.plan y.boxes (placement (length_of entry.size_type) named)) (yard_map y.plan (finite_map.insert y.boxes entry.number (brought entry named))) new slot named e in
    record {
      absent = is.0;
      boxes = ap (λ (v : YardMap). v.boxes) is.1 ∙ ap (λ s. finite_map.insert y.boxes entry.number (brought entry s)) is.2;
      is_wary = is_wary;
      fits = ap (λ s. misfit_of is_wary y.plan y.boxes (placement (length_of entry.size_type) s)) (sym is.2) ∙ is.3;
    }
comes version y new entry None slot e =
    let is_wary : Bool = spares_empty version && entry.is_laden in
    let is = first_slotted (is_some (finite_map.get y.boxes entry.number)) (first_fit is_wary y.plan y.boxes (length_of entry.size_type)) y new entry.number (length_of entry.size_type) entry.is_laden slot e in
    record { absent = is.0; boxes = ap (λ (v : YardMap). v.boxes) is.1; is_wary = is_wary; fits = first_fits is_wary y.plan y.boxes (length_of entry.size_type) slot is.2 }

-- one container less
goes_free : (o : Option BoxNumber) (y new : YardMap) (t s : Placement) → unless_buried {A = YardMap × Placement} o (Ok (y, t)) ≡ Ok (new, s) → (t ≡ s) × (new ≡ y)
goes_free (Some b) y new t s e = cc
goes_free None y new t s e = let p : (y, t) ≡ (new, s) = cc in (ap (λ (q : YardMap × Placement). q.1) p, sym (ap (λ (q : YardMap × Placement). q.0) p))

pub goes : (o : Option Placement) (y new : YardMap) (b : BoxNumber) (s : Placement) → yard_without_at o y b ≡ Ok (new, s) → (o ≡ Some s) × (new.boxes ≡ finite_map.remove y.boxes b)
goes None y new b s e = cc
goes (Some t) y new b s e =
    let is = goes_free (blocker_of y.boxes t) (yard_map y.plan (finite_map.remove y.boxes b)) new t s e in
    (ap Some is.0, ap (λ (v : YardMap). v.boxes) is.1)

-- a container elsewhere
shifts_free : (o : Option BoxNumber) (m : Option Refusal) (y new : YardMap) → unless_buried o (with_misfit m y) ≡ Ok new → (new ≡ y) × (m ≡ None)
shifts_free (Some b) m y new e = cc
shifts_free None (Some f) y new e = cc
shifts_free None None y new e = let p : y ≡ new = cc in (sym p, refl)

-- the container is moved, to a slot that fits as that version has it
pub record Moves (old new : YardMap) (b : BoxNumber) (w : Stowed) (slot : Slot) : Type 0 where
  pub boxes : new.boxes ≡ finite_map.insert old.boxes b (moved_as w slot)
  pub is_wary : Bool
  pub fits : misfit_of is_wary old.plan (finite_map.remove old.boxes b) (placement w.placement.length slot) ≡ None

pub shifts : (version : Version) (o : Option Stowed) (y new : YardMap) (b : BoxNumber) (slot : Slot) → yard_with_move_at (spares_empty version) o y b slot ≡ Ok new → (w : Stowed) × (o ≡ Some w) × Moves y new b w slot
shifts version None y new b slot e = cc
shifts version (Some w) y new b slot e =
    let is_wary : Bool = spares_empty version && (w.is_laden && not (is_same_slot slot w.placement.slot)) in
    let is = shifts_free (blocker_of y.boxes w.placement) (misfit_of is_wary y.plan (finite_map.remove y.boxes b) (placement w.placement.length slot)) (yard_map y.plan (finite_map.insert y.boxes b (moved_as w slot))) new e in
    (w, refl, record { boxes = ap (λ (v : YardMap). v.boxes) is.0; is_wary = is_wary; fits = is.1 })

-- ---- places

abbrev pub placed_by : Option VisitContent → Option Placement → Option Standing
placed_by visit o = option_map (λ s. standing_in (number_of_visit visit) s.slot) o

-- ---- visits, one more

came_place : (state : TerminalState) (y : YardMap) (v : VisitContent) (w : Stowed) (q : BoxNumber) (is : Bool) → IsWhole state → Comes state.yard y v.container w → v.departure ≡ None → bytes_eq v.container q ≡ is
    → cond is (Some (standing_in v.number w.placement.slot)) (standing_of state q) ≡ placed_by (find (is_open_visit q) (state.visits ++ v ∷ [])) (placement_if_any (cond is (Some w) (finite_map.get state.yard.boxes q)))
came_place state y v w q true whole came still e =
    let open_ : is_open_visit q v ≡ true = ap (λ d. bytes_eq v.container q && is_none d) still ∙ and_true _ ∙ e in
    let none : is_some (open_visit state q) ≡ false = sym (whole.here q) ∙ ap (is_in state) (same_bytes v.container q e) ∙ came.absent in
    sym (ap (λ o. placed_by o (Some w.placement)) (find_new (is_open_visit q) state.visits v open_ none))
came_place state y v w q false whole came still e =
    let shut : is_open_visit q v ≡ false = ap (λ d. bytes_eq v.container q && is_none d) still ∙ and_true _ ∙ e in
    sym (ap (λ o. placed_by o (placement_of state.yard.boxes q)) (find_last (is_open_visit q) state.visits v shut))

-- ---- visits, one closed

pub numbered_from : (p : VisitContent → Bool) (above : ℕ) (visits : List VisitContent) (w : VisitContent) → AreNumbered above visits → find p visits ≡ Some w → above < w.number
numbered_from p above [] w are e = cc
numbered_from p above (v ∷ visits) w are e =
    elim (p v) as (λ t. p v ≡ t → above < w.number) [
      | true ↦ λ is. let met : Some v ≡ Some w = sym (find_meets p v visits is) ∙ e in let same : v ≡ w = cc in let n : w.number ≡ v.number = ap (λ (u : VisitContent). u.number) (sym same) in omega (arith, n, are.0)
      | false ↦ λ isnt. let far : v.number < w.number = numbered_from p v.number visits w are.1 (sym (find_skips p v visits isnt) ∙ e) in omega (arith, far, are.0)
    ] refl

-- none is the container's and open, and none has the number
neither : (departure : Departure) (b : BoxNumber) (number above : ℕ) (visits : List VisitContent) → AreNumbered above visits → number ≤ above → length (filter (is_open_visit b) visits) ≡ 0
    → map (visit_with_departure number departure) visits ≡ map (closed_visit departure b) visits
neither departure b number above [] are low none = refl
neither departure b number above (v ∷ visits) are low none =
    elim (is_open_visit b v) as (λ t. is_open_visit b v ≡ t → map (visit_with_departure number departure) (v ∷ visits) ≡ map (closed_visit departure b) (v ∷ visits)) [
      | true ↦ λ is. let more : length (filter (is_open_visit b) (v ∷ visits)) ≡ length (filter (is_open_visit b) visits) + 1 = count_keeps (is_open_visit b) v visits is in absurd (omega arith)
      | false ↦ λ isnt.
          let less : length (filter (is_open_visit b) (v ∷ visits)) ≡ length (filter (is_open_visit b) visits) = count_skips (is_open_visit b) v visits isnt in
          let other : (v.number == number) ≡ false = ne_eqb v.number number (λ e. absurd (omega (arith, e, are.0, low))) in
          let head_ : visit_with_departure number departure v ≡ closed_visit departure b v =
          ap (λ t. cond t (record v { departure = Some departure }) v) other ∙ sym (ap (λ t. cond t (record v { departure = Some departure }) v) isnt) in
          λ i. head_ i ∷ neither departure b number v.number visits are.1 (omega (arith, are.0, low)) (omega arith) i
    ] refl

-- the container's open visit is the one of its number
closed_by_number : (departure : Departure) (b : BoxNumber) (above : ℕ) (visits : List VisitContent) (w : VisitContent) → AreNumbered above visits → length (filter (is_open_visit b) visits) ≤ 1
    → find (is_open_visit b) visits ≡ Some w → map (visit_with_departure w.number departure) visits ≡ map (closed_visit departure b) visits
closed_by_number departure b above [] w are one e = refl
closed_by_number departure b above (v ∷ visits) w are one e =
    elim (is_open_visit b v) as (λ t. is_open_visit b v ≡ t → map (visit_with_departure w.number departure) (v ∷ visits) ≡ map (closed_visit departure b) (v ∷ visits)) [
      | true ↦ λ is.
          let met : Some v ≡ Some w = sym (find_meets (is_open_visit b) v visits is) ∙ e in
          let it : v ≡ w = cc in
          let number : v.number ≡ w.number = ap (λ (u : VisitContent). u.number) it in
          let more : length (filter (is_open_visit b) (v ∷ visits)) ≡ length (filter (is_open_visit b) visits) + 1 = count_keeps (is_open_visit b) v visits is in
          let head_ : visit_with_departure w.number departure v ≡ closed_visit departure b v =
          ap (λ n. cond (v.number == n) (record v { departure = Some departure }) v) (sym number) ∙ ap (λ t. cond t (record v { departure = Some departure }) v) (eq-eqb v.number v.number refl)
          ∙ sym (ap (λ t. cond t (record v { departure = Some departure }) v) is) in
          λ i. head_ i ∷ neither departure b w.number v.number visits are.1 (omega (arith, number)) (omega arith) i
      | false ↦ λ isnt.
          let less : length (filter (is_open_visit b) (v ∷ visits)) ≡ length (filter (is_open_visit b) visits) = count_skips (is_open_visit b) v visits isnt in
          let rest : find (is_open_visit b) visits ≡ Some w = sym (find_skips (is_open_visit b) v visits isnt) ∙ e in
          let far : v.number < w.number = numbered_from (is_open_visit b) v.number visits w are.1 rest in
          let other : (v.number == w.number) ≡ false = ne_eqb v.number w.number (λ same_. absurd (omega (arith, same_, far))) in
          let head_ : visit_with_departure w.number departure v ≡ closed_visit departure b v =
          ap (λ t. cond t (record v { departure = Some departure }) v) other ∙ sym (ap (λ t. cond t (record v { departure = Some departure }) v) isnt) in
          λ i. head_ i ∷ closed_by_number departure b v.number visits w are.1 (omega arith) rest i
    ] refl

kept_number : (departure : Departure) (visit : VisitContent) (is : Bool) → (cond is (record visit { departure = Some departure }) visit).number ≡ visit.number
kept_number departure visit true = refl
kept_number departure visit false = refl

either_number : (p k : Bool) (u v : VisitContent) (o a : Option VisitContent) → p ≡ k → u.number ≡ v.number → number_of_visit o ≡ number_of_visit a → number_of_visit (cond p (Some u) o) ≡ number_of_visit (cond k (Some v) a)
either_number true true u v o a e same_ rest = same_
either_number true false u v o a e same_ rest = cc
either_number false true u v o a e same_ rest = cc
either_number false false u v o a e same_ rest = rest

-- another container's open visit stays
other_number : (departure : Departure) (b q : BoxNumber) (visits : List VisitContent) → bytes_eq b q ≡ false
    → number_of_visit (find (is_open_visit q) (map (closed_visit departure b) visits)) ≡ number_of_visit (find (is_open_visit q) visits)
other_number departure b q [] e = refl
other_number departure b q (v ∷ visits) e =
    either_number (is_open_visit q (closed_visit departure b v)) (is_open_visit q v) (closed_visit departure b v) v (find (is_open_visit q) (map (closed_visit departure b) visits)) (find (is_open_visit q) visits)
    (closed_open departure b q v ∙ ap (λ t. is_open_visit q v && not t) e ∙ and_true _) (kept_number departure v (is_open_visit b v)) (other_number departure b q visits e)

went_place : (state : TerminalState) (departure : Departure) (b q : BoxNumber) (is : Bool) → bytes_eq b q ≡ is
    → cond is None (standing_of state q) ≡ placed_by (find (is_open_visit q) (map (closed_visit departure b) state.visits)) (placement_if_any (cond is None (finite_map.get state.yard.boxes q)))
went_place state departure b q true e = refl
went_place state departure b q false e =
    sym (ap (λ n. option_map (λ (s : Placement). standing_in n s.slot) (placement_of state.yard.boxes q)) (other_number departure b q state.visits e))

-- ---- moving

moved_place_is : (state : TerminalState) (b q : BoxNumber) (slot : Slot) (w : Stowed) (is : Bool) → finite_map.get state.yard.boxes b ≡ Some w → bytes_eq b q ≡ is
    → cond is (option_map (standing_elsewhere slot) (standing_of state b)) (standing_of state q) ≡ placed_by (open_visit state q) (placement_if_any (cond is (Some (moved_as w slot)) (finite_map.get state.yard.boxes q)))
moved_place_is state b q slot w true stood e =
    ap (λ o. option_map (standing_elsewhere slot) (placed_by (open_visit state b) (placement_if_any o))) stood ∙ ap (λ c. Some (standing_in (number_of_visit (open_visit state c)) slot)) (sym (same_bytes b q e))
moved_place_is state b q slot w false stood e = refl

-- ---- steps

-- the changes turn the rows
abbrev pub Turns : TerminalState → StepResult → Type 0
Turns state after = rows_with_all (rows_of state) after.changes ≡ rows_of after.state

pub either : {A : Type 0} (P : A → Type 0) (v : Bool) (a b : A) → P a → P b → P (cond v a b)
either P true a b one other = one
either P false a b one other = other

turned_entered_at : (version : Version) (state : TerminalState) (way : Way) (source : Source) (entry : EntryContent) (r : Result (YardMap × Slot) Refusal) → IsWhole state → yard_with_entry version state.yard entry ≡ r → Turns state (after_entry_at state way source entry r)
turned_entered_at version state way source entry (Err f) whole e = refl
turned_entered_at version state way source entry (Ok (y, slot)) whole e =
    let v : VisitContent = visit_of state way source entry slot in
    let w : Stowed = brought entry slot in
    let came : Comes state.yard y entry.number w = comes version state.yard y entry entry.slot slot e in
    let places : (q : BoxNumber) → update bytes_eq (standing_of state) entry.number (Some (standing_in (last_number state.visits + 1) slot)) q ≡ standing_of (record state { yard = y; visits = state.visits ++ v ∷ [] }) q =
    λ q. came_place state y v w q (bytes_eq entry.number q) whole came refl refl ∙ ap (λ o. placed_by (find (is_open_visit q) (state.visits ++ v ∷ [])) (placement_if_any o)) (sym (in_placed_map state.yard.boxes y.boxes entry.number q w came.boxes)) in
    λ i. record { visits = state.visits ++ v ∷ []; places = λ q. places q i; lines = state.lines }

pub turned_entered : (version : Version) (state : TerminalState) (way : Way) (source : Source) (entry : EntryContent) → IsWhole state → Turns state (after_entry version state way source entry)
turned_entered version state way source entry whole =
    either (Turns state) (is_full state) (with_refusal state VisitLimit) (after_entry_at state way source entry (yard_with_entry version state.yard entry)) refl (turned_entered_at version state way source entry (yard_with_entry version state.yard entry) whole refl)

pub found : {A : Type 0} (o : Option A) → is_some o ≡ true → (x : A) × (o ≡ Some x)
found None e = cc
found (Some x) e = (x, refl)

turned_departed_at : (state : TerminalState) (b : BoxNumber) (departure : Departure) (r : Result (YardMap × Placement) Refusal) → IsWhole state → yard_without state.yard b ≡ r → Turns state (after_departure_at state b departure r)
turned_departed_at state b departure (Err f) whole e = refl
turned_departed_at state b departure (Ok (y, s)) whole e =
    let went = goes (placement_of state.yard.boxes b) state.yard y b s e in
    let visit = found (open_visit state b) (sym (whole.here b) ∙ there_placed state.yard.boxes b s went.0) in
    let visits : map (visit_with_departure (number_of_visit (open_visit state b)) departure) state.visits ≡ close_visit state b departure =
    ap (λ o. map (visit_with_departure (number_of_visit o) departure) state.visits) visit.1 ∙ closed_by_number departure b 0 state.visits visit.0 whole.numbered (whole.one_visit b) visit.1 in
    let places : (q : BoxNumber) → update bytes_eq (standing_of state) b None q ≡ standing_of (record state { yard = y; visits = close_visit state b departure }) q =
    λ q. went_place state departure b q (bytes_eq b q) refl ∙ ap (λ o. placed_by (find (is_open_visit q) (close_visit state b departure)) (placement_if_any o)) (sym (in_removed_map state.yard.boxes y.boxes b q went.1)) in
    λ i. record { visits = visits i; places = λ q. places q i; lines = state.lines }

pub turned_departed : (state : TerminalState) (way : Way) (source : Source) (b : BoxNumber) (moment : CivilMoment) → IsWhole state → Turns state (after_departure state way source b moment)
turned_departed state way source b moment whole = turned_departed_at state b (departure_by way source moment) (yard_without state.yard b) whole refl

turned_moved_at : (version : Version) (state : TerminalState) (b : BoxNumber) (slot : Slot) (r : Result YardMap Refusal) → yard_with_move (spares_empty version) state.yard b slot ≡ r → Turns state (after_move_at state b slot r)
turned_moved_at version state b slot (Err f) e = refl
turned_moved_at version state b slot (Ok y) e =
    let is = shifts version (finite_map.get state.yard.boxes b) state.yard y b slot e in
    let places : (q : BoxNumber) → update bytes_eq (standing_of state) b (option_map (standing_elsewhere slot) (standing_of state b)) q ≡ standing_of (record state { yard = y }) q =
    λ q. moved_place_is state b q slot is.0 (bytes_eq b q) is.1 refl ∙ ap (λ o. placed_by (open_visit state q) (placement_if_any o)) (sym (in_placed_map state.yard.boxes y.boxes b q (moved_as is.0 slot) is.2.boxes)) in
    λ i. record { visits = state.visits; places = λ q. places q i; lines = state.lines }

turned_listed : (state : TerminalState) (call : CallContent) (side : Side) (b : BoxNumber) (port : List ℕ) (o : Option LineContent) → Turns state (after_listing_at state call side b port o)
turned_listed state call side b port (Some line) = refl
turned_listed state call side b port None = refl

-- ---- steps with a line

one_after : (rows : TerminalRows) (changes : List ChangeContent) (change : ChangeContent) → rows_with_all rows (changes ++ change ∷ []) ≡ rows_with (rows_with_all rows changes) change
one_after rows [] change = refl
one_after rows (c ∷ changes) change = one_after (rows_with rows c) changes change

-- the lines stay
abbrev pub KeepsLines : TerminalState → StepResult → Type 0
KeepsLines state after = after.state.lines ≡ state.lines

pub entered_keeps : (state : TerminalState) (way : Way) (source : Source) (entry : EntryContent) (r : Result (YardMap × Slot) Refusal) → KeepsLines state (after_entry_at state way source entry r)
entered_keeps state way source entry (Err f) = refl
entered_keeps state way source entry (Ok (y, slot)) = refl

pub departed_keeps : (state : TerminalState) (b : BoxNumber) (departure : Departure) (r : Result (YardMap × Placement) Refusal) → KeepsLines state (after_departure_at state b departure r)
departed_keeps state b departure (Err f) = refl
departed_keeps state b departure (Ok (y, s)) = refl

turned_done : (state : TerminalState) (call : CallContent) (side : Side) (b : BoxNumber) (line : LineContent) (after : StepResult) → Turns state after → KeepsLines state after → line_of state call side b ≡ Some line
    → rows_with_all (rows_of state) (after.changes ++ line_done call side b ∷ []) ≡ rows_of (record (after.state) { lines = finite_map.insert after.state.lines (line_key call side b) (record line { state = LineIsDone }) })
turned_done state call side b line after turned keeps there =
    let still : line_of after.state call side b ≡ Some line = ap (λ (l : Lines). finite_map.get l (line_key call side b)) keeps ∙ there in
    one_after (rows_of state) after.changes (line_done call side b) ∙ ap (λ rows. rows_with rows (line_done call side b)) turned
    ∙ ap (λ o. record (rows_of after.state) { lines = with_line_done after.state.lines (line_key call side b) o }) still

turned_then : (state : TerminalState) (call : CallContent) (side : Side) (b : BoxNumber) (line : LineContent) (after : StepResult) (o : Outcome) → Turns state after → KeepsLines state after → line_of state call side b ≡ Some line
    → Turns state (then_line_done_at call side b line after o)
turned_then state call side b line after (Refused reason) turned keeps there = turned
turned_then state call side b line after (Done slot) turned keeps there = turned_done state call side b line after turned keeps there
turned_then state call side b line after Gone turned keeps there = turned_done state call side b line after turned keeps there
turned_then state call side b line after Listed turned keeps there = turned_done state call side b line after turned keeps there

turned_by_state : (state : TerminalState) (call : CallContent) (side : Side) (b : BoxNumber) (line : LineContent) (after : StepResult) (s : LineState) → Turns state after → KeepsLines state after → line_of state call side b ≡ Some line
    → Turns state (by_state state call side b line after s)
turned_by_state state call side b line after LineIsDone turned keeps there = refl
turned_by_state state call side b line after Pending turned keeps there = turned_then state call side b line after after.outcome turned keeps there

turned_by_line : (state : TerminalState) (call : CallContent) (side : Side) (b : BoxNumber) (o : Option LineContent) (after : StepResult) → Turns state after → KeepsLines state after → line_of state call side b ≡ o
    → Turns state (by_line state call side b o after)
turned_by_line state call side b None after turned keeps there = refl
turned_by_line state call side b (Some line) after turned keeps there = turned_by_state state call side b line after line.state turned keeps there

-- ---- orders

pub turned_step : (version : Version) (state : TerminalState) (source : Source) (order : OrderContent) → IsWhole state → Turns state (step_by version state source order)
turned_step version state source (gate_in entry) whole = either (Turns state) (is_in state entry.number) (with_refusal state AlreadyIn) (after_entry version state Gate source entry) refl (turned_entered version state Gate source entry whole)
turned_step version state source (gate_out b moment) whole = turned_departed state Gate source b moment whole
turned_step version state source (move b slot) whole = turned_moved_at version state b slot (yard_with_move (spares_empty version) state.yard b slot) refl
turned_step version state source (list_discharge call b) whole = turned_listed state call Discharge b [] (line_of state call Discharge b)
turned_step version state source (list_load call b port) whole = turned_listed state call Load b port (line_of state call Load b)
turned_step version state source (discharge call entry) whole =
    either (Turns state) (is_in state entry.number) (with_refusal state AlreadyIn) (by_line state call Discharge entry.number (line_of state call Discharge entry.number) (after_entry version state Ship source entry)) refl
    (turned_by_line state call Discharge entry.number (line_of state call Discharge entry.number) (after_entry version state Ship source entry) (turned_entered version state Ship source entry whole)
    (either (KeepsLines state) (is_full state) (with_refusal state VisitLimit) (after_entry_at state Ship source entry (yard_with_entry version state.yard entry)) refl (entered_keeps state Ship source entry (yard_with_entry version state.yard entry))) refl)
turned_step version state source (load call b moment) whole =
    either (Turns state) (is_in state b) (by_line state call Load b (line_of state call Load b) (after_departure state Ship source b moment)) (with_refusal state NotIn)
    (turned_by_line state call Load b (line_of state call Load b) (after_departure state Ship source b moment) (turned_departed state Ship source b moment whole)
    (departed_keeps state b (departure_by Ship source moment) (yard_without state.yard b)) refl) refl

-- ==== Shared: No two containers share a slot or a visit.

-- two containers of one slot have a cell in common
common_cell : (a b : Length) (s t : Slot) → s ≡ t → IsKind a s → IsKind b t → (cell : Slot) × CoversAt a s cell × CoversAt b t cell
common_cell Twenty Twenty s t e k j = (s, refl, e)
common_cell Forty Forty s t e k j = (in_bay (s.bay - 1) s, inl refl, inl (ap (λ (x : Slot). in_bay (x.bay - 1) x) e))
common_cell Twenty Forty s t e k j = let odd : s.bay % 2 ≡ 1 = k in let even : s.bay % 2 ≡ 0 = ap (λ (x : Slot). x.bay % 2) e ∙ j in absurd (omega arith)
common_cell Forty Twenty s t e k j = let even : s.bay % 2 ≡ 0 = k in let odd : s.bay % 2 ≡ 1 = ap (λ (x : Slot). x.bay % 2) e ∙ j in absurd (omega arith)

-- none stands where a container fits
not_there : (is_wary : Bool) (plan : List Block) (boxes : Boxes) (s t : Placement) (other : BoxNumber) → IsPlan plan → misfit_of is_wary plan boxes s ≡ None → placement_of boxes other ≡ Some t → IsKind t.length t.slot → t.slot ≢ s.slot
not_there is_wary plan boxes s t other valid fits at kind same =
    let open_ : IsOpen plan (placement_of boxes) s = open_of is_wary plan boxes s valid fits in
    let cell = common_cell t.length s.length t.slot s.slot same kind open_.of_kind in
    open_.not_taken (other, t, cell.0, at, cell.1, cell.2)

-- a standing is that of a placement
pub stands_of : (o : Option Placement) (visit : Option VisitContent) (standing : Standing) → placed_by visit o ≡ Some standing → (t : Placement) × (o ≡ Some t) × (standing.slot ≡ t.slot) × (standing.visit ≡ number_of_visit visit)
stands_of None visit standing e = absurd (cc)
stands_of (Some t) visit standing e =
    let same : standing_in (number_of_visit visit) t.slot ≡ standing = cc in
    (t, refl, ap (λ (s : Standing). s.slot) (sym same), ap (λ (s : Standing). s.visit) (sym same))

number_below : (state : TerminalState) (other : BoxNumber) → IsWhole state → is_some (finite_map.get state.yard.boxes other) ≡ true → number_of_visit (open_visit state other) ≤ last_number state.visits
number_below state other whole there =
    let visit = some_of (open_visit state other) (sym (whole.here other) ∙ there) in
    let found = found_is (is_open_visit other) state.visits visit.0 visit.1 in
    let low : visit.0.number ≤ last_number state.visits = below_last 0 state.visits found.0 visit.0 whole.numbered found.1 in
    let its : number_of_visit (open_visit state other) ≡ visit.0.number = ap number_of_visit visit.1 in
    omega arith

pub new_place : (is_wary : Bool) (state : TerminalState) (container : BoxNumber) (s : Placement) → IsWhole state → is_some (finite_map.get state.yard.boxes container) ≡ false → misfit_of is_wary state.yard.plan state.yard.boxes s ≡ None
    → IsNewPlace container (last_number state.visits + 1) s.slot (standing_of state)
new_place is_wary state container s whole absent fits = record {
  absent = ap (λ o. placed_by (open_visit state container) (placement_if_any o)) (none_there (finite_map.get state.yard.boxes container) absent);
  slot_free = λ other standing e same. (let t = stands_of (placement_of state.yard.boxes other) (open_visit state other) standing e in
      not_there is_wary state.yard.plan state.yard.boxes s t.0 other whole.plan fits t.1 (whole.sound.of_kind other t.0 t.1) (sym t.2 ∙ same));
  visit_free = λ other standing e same. (let t = stands_of (placement_of state.yard.boxes other) (open_visit state other) standing e in
      let few : number_of_visit (open_visit state other) ≤ last_number state.visits = number_below state other whole (there_placed state.yard.boxes other t.0 t.1) in
      let its : standing.visit ≡ number_of_visit (open_visit state other) = t.3 in
      absurd (omega arith));
}

kept_elsewhere : (boxes : Boxes) (b other : BoxNumber) (t : Placement) (is : Bool) → other ≢ b → bytes_eq b other ≡ is → placement_of boxes other ≡ Some t → placement_if_any (cond is None (finite_map.get boxes other)) ≡ Some t
kept_elsewhere boxes b other t true apart e at = absurd (apart (same_bytes b other e))
kept_elsewhere boxes b other t false apart e at = at

pub new_slot : (is_wary : Bool) (state : TerminalState) (container : BoxNumber) (w : Stowed) (slot : Slot) → IsWhole state → finite_map.get state.yard.boxes container ≡ Some w
    → misfit_of is_wary state.yard.plan (finite_map.remove state.yard.boxes container) (placement w.placement.length slot) ≡ None → IsNewSlot container slot (standing_of state)
new_slot is_wary state container w slot whole stood fits = record {
  there = ap (λ o. is_some (placed_by (open_visit state container) (placement_if_any o))) stood;
  slot_free = λ other standing apart e same. (let t = stands_of (placement_of state.yard.boxes other) (open_visit state other) standing e in
      not_there is_wary state.yard.plan (finite_map.remove state.yard.boxes container) (placement w.placement.length slot) t.0 other whole.plan fits
      (ap placement_if_any (in_removed_map state.yard.boxes (finite_map.remove state.yard.boxes container) container other refl) ∙ kept_elsewhere state.yard.boxes container other t.0 (bytes_eq container other) apart refl t.1)
      (whole.sound.of_kind other t.0 t.1) (sym t.2 ∙ same));
}
