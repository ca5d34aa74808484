-- The rows of a state as lists, and by their keys.
use Rattle.std.specs.{Prelude.{Contains, find, count_by, filter, length}, Option.option_map, Str.bytes_eq, Cmp.Lexicographic.nat_list_cmp_total}
use Rattle.std.proofs.{Common.{◌≡◌, ℕ, ◌≤◌, List, map, Bool, true, false, Option, None, Some, is_some, refl, sym, ap, ◌∙◌, arith}, lemmas.Option.none-some}
use Rattle.std.proofs.lemmas.List.Sums.{length-filter}
use Rattle.box6346.specs.declared.box_number.BoxNumber.{BoxNumber}
use Rattle.yard_core.{specs.{declared.plan.Block.Block, declared.placements.Placement.Placement, declared.placements.Stowed.Stowed}, proofs.Cells.found_placed}
use Rattle.yard_core.specs.YardMap.{placement_of, placement_if_any}
use Rattle.terminal_core.specs.{declared.lines.Listing.Listing, declared.change.Place.Place, declared.visits.Visit.Visit, Rows.visit_content, Listings.lines_of}
use Rattle.terminal_core.specs.{State.{TerminalState, is_open_visit, open_visit, stowed_by, IsWhole}, Step.number_of_visit}
use Rattle.terminal_core.specs.{Restoring.{Stands, ArePlacesOf, AreOnce, AreRowsOf}, Changes.{standing_in, standing_of, TerminalRows, rows_of}}
use Rattle.terminal_core.{specs.RowForms.{standing_by, rows_by_key, ArePlacedOnce}, proofs.{Open.{same_bytes, same_self}, Whole.{contained, found_at}}}
use Rattle.terminal_core.proofs.{Indexed.{found_is, is_found, some_of, one_passes, some_or_none}, Changing.{placed_by, stands_of}}
use Rattle.std.specs.FinMap as finite_map

abbrev at_place : BoxNumber → Place → Bool
at_place container place = bytes_eq place.container container

-- only what passes is found
found_one : {A : Type 0} (p : A → Bool) (xs : List A) (x : A) → count_by p xs ≤ 1 → Contains xs x → p x ≡ true → find p xs ≡ Some x
found_one p xs x few inside is =
    let some = some_of (find p xs) (is_found p xs inside.0 x (found_at xs x inside) is) in
    let found = found_is p xs some.0 some.1 in
    some.1 ∙ ap Some (one_passes p xs some.0 x few (contained xs found.0 some.0 found.1) inside found.2 is)

mapped_some : {A B : Type 0} (f : A → B) (o : Option A) (y : B) → option_map f o ≡ Some y → (x : A) × (o ≡ Some x)
mapped_some f None y e = absurd (none-some y e)
mapped_some f (Some x) y e = (x, refl)

few_open : (state : TerminalState) → IsWhole state → (container : BoxNumber) → count_by (is_open_visit container) state.visits ≤ 1
few_open state whole container =
    let same : length (filter (is_open_visit container) state.visits) ≡ count_by (is_open_visit container) state.visits = length-filter (is_open_visit container) state.visits in
    let few : length (filter (is_open_visit container) state.visits) ≤ 1 = whole.one_visit container in
    omega arith

-- ---- lists as rows by key

module _ (state : TerminalState) (places : List Place) (whole : IsWhole state) (all : ArePlacesOf state.visits state.yard.boxes places) where
  standing_there : (container : BoxNumber) (place : Place) → find (at_place container) places ≡ Some place → Some (standing_in place.visit place.slot) ≡ standing_of state container
  standing_there container place e =
      let found = found_is (at_place container) places place e in
      let same : container ≡ place.container = same_bytes place.container container found.2 in
      let stand = all.each place (contained places found.0 place found.1) in
      let open_ : open_visit state place.container ≡ Some stand.visit = found_one (is_open_visit place.container) state.visits stand.visit (few_open state whole place.container) stand.names.listed stand.names.is_open in
      sym (ap (standing_of state) same ∙ ap (λ w. placed_by (open_visit state place.container) (placement_if_any w)) stand.stands ∙ ap (λ v. Some (standing_in (number_of_visit v) place.slot)) open_
      ∙ ap (λ n. Some (standing_in n place.slot)) stand.names.number)

  standing_absent : (container : BoxNumber) → find (at_place container) places ≡ None → None ≡ standing_of state container
  standing_absent container none =
      let absent : finite_map.get state.yard.boxes container ≡ None = some_or_none (finite_map.get state.yard.boxes container) (λ w at.
      let place = all.every container w at in
      let some : is_some (find (at_place container) places) ≡ true = is_found (at_place container) places place.1.0 place.0 (found_at places place.0 place.1) (ap (λ b. bytes_eq b container) place.2 ∙ same_self container) in
      let bad : true ≡ false = sym some ∙ ap is_some none in
      cc) in
      sym (ap (λ w. placed_by (open_visit state container) (placement_if_any w)) absent)

  pub standing_same : (container : BoxNumber) → standing_by places container ≡ standing_of state container
  standing_same container =
      elim (find (at_place container) places) as (λ o. find (at_place container) places ≡ o → option_map (λ place. standing_in place.visit place.slot) o ≡ standing_of state container) [
        | None ↦ standing_absent container
        | Some place ↦ standing_there container place
      ] refl

pub lists_by_key : (plan : List Block) (limit : ℕ) (visits : List Visit) (places : List Place) (lines : List Listing) (state : TerminalState) → AreRowsOf plan limit visits places lines state
    → rows_by_key visits places lines ≡ rows_of state
lists_by_key plan limit visits places lines state are =
    let same_visits : map visit_content visits ≡ state.visits = sym are.visits_are in
    let same_lines : lines_of lines ≡ state.lines = sym are.lines_are in
    let same_indexes = standing_same state places are.whole are.places_are in
    λ i. record { visits = same_visits i; places = λ container. same_indexes container i; lines = same_lines i }

-- ---- rows by key as lists

module _ (state : TerminalState) (places : List Place) (whole : IsWhole state) (once : ArePlacedOnce places) (same : (container : BoxNumber) → standing_by places container ≡ standing_of state container) where
  stands_so : (place : Place) → Contains places place → Stands state.visits state.yard.boxes place
  stands_so place inside =
      let told : Some (standing_in place.visit place.slot) ≡ standing_of state place.container =
      sym (ap (option_map (λ (p : Place). standing_in p.visit p.slot)) (found_one (at_place place.container) places place (once place.container) inside (same_self place.container))) ∙ same place.container in
      let t = stands_of (placement_of state.yard.boxes place.container) (open_visit state place.container) (standing_in place.visit place.slot) (sym told) in
      let w = found_placed (finite_map.get state.yard.boxes place.container) t.0 t.1 in
      let visit = some_of (open_visit state place.container) (sym (whole.here place.container) ∙ ap is_some w.1) in
      let found = found_is (is_open_visit place.container) state.visits visit.0 visit.1 in
      let told_so : w.0 ≡ stowed_by visit.0 w.0.placement.slot = whole.as_told place.container w.0 visit.0 w.1 visit.1 in
      let slot_is : w.0.placement.slot ≡ place.slot = ap (λ (p : Placement). p.slot) w.2 ∙ sym t.2 in
      record {
        visit = visit.0;
        names = record { listed = contained state.visits found.0 visit.0 found.1; number = sym (t.3 ∙ ap number_of_visit visit.1); is_open = found.2 };
        stands = w.1 ∙ ap Some (told_so ∙ ap (stowed_by visit.0) slot_is);
      }

  placed_so : (container : BoxNumber) (w : Stowed) → finite_map.get state.yard.boxes container ≡ Some w → (place : Place) × Contains places place × (place.container ≡ container)
  placed_so container w at =
      let place = mapped_some (λ (p : Place). standing_in p.visit p.slot) (find (at_place container) places) _ (same container ∙ ap (λ w. placed_by (open_visit state container) (placement_if_any w)) at) in
      let found = found_is (at_place container) places place.0 place.1 in
      (place.0, contained places found.0 place.0 found.1, sym (same_bytes place.0.container container found.2))

  pub places_so : ArePlacesOf state.visits state.yard.boxes places
  places_so = record { each = stands_so; every = placed_so; once = once }

pub by_key_lists : (visits : List Visit) (places : List Place) (lines : List Listing) (state : TerminalState) → IsWhole state → ArePlacedOnce places → AreOnce lines → rows_by_key visits places lines ≡ rows_of state
    → AreRowsOf state.yard.plan state.limit visits places lines state
by_key_lists visits places lines state whole once lines_once e = record {
  whole = whole;
  plan_is = refl;
  limit_is = refl;
  visits_are = sym (ap (λ (r : TerminalRows). r.visits) e);
  places_are = places_so state places whole once (λ container. ap (λ (r : TerminalRows). r.places container) e);
  lines_are = sym (ap (λ (r : TerminalRows). r.lines) e);
  lines_once = lines_once;
}

-- ---- a state by its rows

stands_alike : (one other : TerminalState) → IsWhole one → IsWhole other → rows_of one ≡ rows_of other → (container : BoxNumber) (w : Stowed) → finite_map.get one.yard.boxes container ≡ Some w
    → finite_map.get other.yard.boxes container ≡ Some w
stands_alike one other whole also e container w at =
    let visit = some_of (open_visit one container) (sym (whole.here container) ∙ ap is_some at) in
    let same_visit : open_visit other container ≡ Some visit.0 = sym (ap (λ (r : TerminalRows). find (is_open_visit container) r.visits) e) ∙ visit.1 in
    let t = stands_of (placement_of other.yard.boxes container) (open_visit other container) (standing_in (number_of_visit (open_visit one container)) w.placement.slot)
    (sym (ap (λ (r : TerminalRows). r.places container) e) ∙ ap (λ v. placed_by (open_visit one container) (placement_if_any v)) at) in
    let v = found_placed (finite_map.get other.yard.boxes container) t.0 t.1 in
    let slot_is : v.0.placement.slot ≡ w.placement.slot = ap (λ (p : Placement). p.slot) v.2 ∙ sym t.2 in
    v.1 ∙ ap Some (also.as_told container v.0 visit.0 v.1 same_visit ∙ ap (stowed_by visit.0) slot_is ∙ sym (whole.as_told container w visit.0 at visit.1))

alike : (a b : Option Stowed) → ((w : Stowed) → a ≡ Some w → b ≡ Some w) → ((w : Stowed) → b ≡ Some w → a ≡ Some w) → a ≡ b
alike (Some s) b h g = sym (h s refl)
alike None None h g = refl
alike None (Some s) h g = g s refl

pub state_of_rows : (one other : TerminalState) → IsWhole one → IsWhole other → one.yard.plan ≡ other.yard.plan → one.limit ≡ other.limit → rows_of one ≡ rows_of other → one ≡ other
state_of_rows one other whole also same_plan same_limit e =
    let boxes : one.yard.boxes ≡ other.yard.boxes = finite_map.same_map nat_list_cmp_total (finite_map.slice_cmp-IsAntisymmetric finite_map.nat_cmp-IsAntisymmetric) one.yard.boxes other.yard.boxes
    (λ container. alike (finite_map.get one.yard.boxes container) (finite_map.get other.yard.boxes container) (stands_alike one other whole also e container) (stands_alike other one also whole (sym e) container)) in
    let same_visits : one.visits ≡ other.visits = ap (λ (r : TerminalRows). r.visits) e in
    let same_lines : one.lines ≡ other.lines = ap (λ (r : TerminalRows). r.lines) e in
    λ i. record { yard = record { plan = same_plan i; boxes = boxes i }; limit = same_limit i; visits = same_visits i; lines = same_lines i }
