-- Places that are taken one after another, in the order of their tiers.
use Rattle.std.specs.{Prelude.{Contains, count_by, slice_get, find, filter, ◌&&◌}, List.Sorted.{IsPermutation, IsNonDecreasingBy}, Str.bytes_eq}
use Rattle.std.{specs.Cmp.Lexicographic.nat_list_cmp_total, proofs.{lemmas.Bool.{cases_lt, and_parts}, lemmas.Option.{none-some, same_Some}}}
use Rattle.std.proofs.Common.{◌≡◌, ◌≢◌, ℕ, ◌+◌, ◌-◌, ◌<◌, ◌≤◌, List, [], ◌∷◌, ◌++◌, length, take, true, false, cond, Option, None, Some, is_some, refl, sym, ap, ◌∙◌, arith, subst, get_or, All, inl, inr, map, is_none}
use Rattle.std.proofs.{lemmas.List.{take_more, get_or-take, get_or_default, length-take-le}, lemmas.List.Sums.length-filter}
use Rattle.std.proofs.lemmas.List.Elements.{Contains-append_left, Contains-push, Contains-push_cases}
use Rattle.std.proofs.lemmas.List.Sorted.{IsPermutation-sym, Contains-permutation, sum_by-IsPermutation}
use Rattle.box6346.specs.{declared.size_type.Length.Length, declared.size_type.Length.TheVariants.{Twenty, Forty}, declared.slot.Slot.Slot}
use Rattle.box6346.specs.declared.box_number.BoxNumber.{BoxNumber}
use Rattle.yard_core.specs.{declared.plan.Block.Block, declared.placements.Placement.Placement, declared.placements.Stowed.Stowed, Plan.{IsSized, IsPlan}}
use Rattle.yard_core.specs.{declared.yard.YardFault.YardFault, YardMap.{Box, Boxes, YardMap, placement, placement_of, placement_if_any, in_bay, below}}
use Rattle.yard_core.{specs.{SoundYard.{HasBox, IsCarried, IsSound}, FitsAndFree.IsOpen, Calls.RefusesPutBack}, proofs.Placings.misfits_not_open}
use Rattle.yard_core.proofs.Cells.{box_cases, get-inserted, get-others, found_placed, block_at}
use Rattle.terminal_core.specs.{declared.restoring.RestoreFault.RestoreFault, declared.restoring.RestoreFault.TheVariants.{Unsound, Memory}, Listings.lines_of}
use Rattle.terminal_core.specs.{declared.change.Place.Place, Rows.{VisitContent, visit_content}, declared.lines.Listing.Listing, declared.visits.Visit.Visit}
use Rattle.terminal_core.{specs.State.{stowed_by, AreNumbered, TerminalState, Lines, is_open_visit, last_number, IsWhole}, proofs.Open.{same_bytes, same_self}}
use Rattle.terminal_core.specs.Restoring.{Names, Stands, ArePlacesOf, IsPut, RefusesPut, RefusesPlaces, cause_of, AreNamed, AreOnce, AreRowsOf, IsYardOf, RefusesYard, without_lines}
use Rattle.terminal_core.proofs.Whole.{contained, one_named, found_at, same_index, whole_listed}
use Rattle.terminal_core.proofs.Indexed.{counted_more, some_counted, none_before_one, none_counted, counts, one_if, none_if, some_or_none, same_tests, some_of, one_passes, at_most_one, is_found, found_is}
use Rattle.std.specs.FinMap as finite_map
use Rattle.yard_core.specs.declared.yard.YardFault.TheVariants as yard

-- ---- a yard that lacks only boxes as high as this one, or higher

module _ (plan : List Block) (all now : Box → Option Placement) (s : Placement) (kept : (q : Box) (t : Placement) → now q ≡ Some t → all q ≡ Some t)
    (lower : (q : Box) (t : Placement) → all q ≡ Some t → t.slot.tier < s.slot.tier → now q ≡ Some t) where
  HasBox-lower : (long : Length) (slot : Slot) → slot.tier < s.slot.tier → HasBox all long slot → HasBox now long slot
  HasBox-lower long slot low h = (h.0, lower h.0 (placement long slot) h.1 low)

  IsCarried-lower : (long : Length) (slot : Slot) → slot.tier ≤ s.slot.tier → 1 ≤ slot.tier → IsCarried all long slot → IsCarried now long slot
  IsCarried-lower long slot low high (inl ground) = inl ground
  IsCarried-lower Twenty slot low high (inr h) = inr (HasBox-lower Twenty (below slot) (omega arith) h)
  IsCarried-lower Forty slot low high (inr (inl h)) = inr (inl (HasBox-lower Forty (below slot) (omega arith) h))
  IsCarried-lower Forty slot low high (inr (inr h)) =
      inr (inr (HasBox-lower Twenty (in_bay (slot.bay - 1) (below slot)) (omega arith) h.0, HasBox-lower Twenty (in_bay (slot.bay + 1) (below slot)) (omega arith) h.1))

  pub still_open : (b : Box) → All IsSized plan → IsSound plan all → all b ≡ Some s → now b ≡ None → IsOpen plan now s
  still_open b sized sound there absent = record {
    in_plan = sound.in_plan b s there;
    of_kind = sound.of_kind b s there;
    not_taken = λ (q, t, cell, at, tc, sc). (let same : q ≡ b = sound.apart q b t s cell (kept q t at) there tc sc in
        none-some t (sym absent ∙ ap now (sym same) ∙ at));
    carried = IsCarried-lower s.length s.slot (omega arith) (block_at plan s.slot sized (sound.in_plan b s there)).1.inside.4 (sound.carried b s there);
  }

-- an open slot is not refused
pub not_refused : (y : YardMap) (b : Box) (w : Stowed) (f : YardFault) → f ≢ yard.Memory → finite_map.get y.boxes b ≡ None → IsOpen y.plan (placement_of y.boxes) w.placement → RefusesPutBack y b w f → ⊥
not_refused y b w yard.Present other absent open_ h = let bad : false ≡ true = sym (ap is_some absent) ∙ h in cc
not_refused y b w yard.Memory other absent open_ h = other refl
not_refused y b w yard.Absent other absent open_ h = misfits_not_open y.plan (placement_of y.boxes) w.placement yard.Absent h.1 open_
not_refused y b w (yard.Buried q) other absent open_ h = misfits_not_open y.plan (placement_of y.boxes) w.placement (yard.Buried q) h.1 open_
not_refused y b w yard.NoSlot other absent open_ h = misfits_not_open y.plan (placement_of y.boxes) w.placement yard.NoSlot h.1 open_
not_refused y b w yard.SlotKind other absent open_ h = misfits_not_open y.plan (placement_of y.boxes) w.placement yard.SlotKind h.1 open_
not_refused y b w yard.Taken other absent open_ h = misfits_not_open y.plan (placement_of y.boxes) w.placement yard.Taken h.1 open_
not_refused y b w yard.OnAir other absent open_ h = misfits_not_open y.plan (placement_of y.boxes) w.placement yard.OnAir h.1 open_
not_refused y b w yard.OnEmpty other absent open_ h = misfits_not_open y.plan (placement_of y.boxes) w.placement yard.OnEmpty h.1 open_
not_refused y b w yard.NoRoom other absent open_ h = misfits_not_open y.plan (placement_of y.boxes) w.placement yard.NoRoom h.1 open_

module _ (visits : List VisitContent) (are : AreNumbered 0 visits) (y : YardMap) (place : Place) (visit : VisitContent) (names : Names visits place visit) where
  refused_for : (f : YardFault) → f ≢ yard.Memory → RefusesPutBack y place.container (stowed_by visit place.slot) f → RefusesPut visits y place Unsound
  refused_for f other h = λ also named. (
    f,
    other,
    (let P : VisitContent → Type 0 = λ v. RefusesPutBack y place.container (stowed_by v place.slot) f in subst P (one_named visits are place visit also names named) h),
  )

  pub refused_put : (f : YardFault) → RefusesPutBack y place.container (stowed_by visit place.slot) f → RefusesPut visits y place (cause_of f)
  refused_put yard.Memory h = tt
  refused_put yard.Present h = refused_for yard.Present (λ e. cc) h
  refused_put yard.Absent h = refused_for yard.Absent (λ e. cc) h
  refused_put (yard.Buried q) h = refused_for (yard.Buried q) (λ e. cc) h
  refused_put yard.NoSlot h = refused_for yard.NoSlot (λ e. cc) h
  refused_put yard.SlotKind h = refused_for yard.SlotKind (λ e. cc) h
  refused_put yard.Taken h = refused_for yard.Taken (λ e. cc) h
  refused_put yard.OnAir h = refused_for yard.OnAir (λ e. cc) h
  refused_put yard.OnEmpty h = refused_for yard.OnEmpty (λ e. cc) h
  refused_put yard.NoRoom h = refused_for yard.NoRoom (λ e. cc) h

-- ---- the places one after another

module _ (visits : List VisitContent) (are : AreNumbered 0 visits) where
  pub same_stand : (one two : Boxes) (place : Place) → Stands visits one place → Stands visits two place → finite_map.get one place.container ≡ finite_map.get two place.container
  same_stand one two place is also =
      is.stands ∙ ap (λ (v : VisitContent). Some (stowed_by v place.slot)) (one_named visits are place is.visit also.visit is.names also.names) ∙ sym also.stands

-- a place more
module _ (visits : List VisitContent) (old new : YardMap) (places : List Place) (place : Place) (before : ArePlacesOf visits old.boxes places) (put : IsPut visits old new place) where
  stood : Stowed
  stood = stowed_by put.visit place.slot

  here : finite_map.get new.boxes place.container ≡ Some stood
  unfolding stood
  here = ap (λ (m : Boxes). finite_map.get m place.container) put.puts.adds.boxes ∙ get-inserted old.boxes place.container (stowed_by put.visit place.slot)

  others : (q : Box) → q ≢ place.container → finite_map.get new.boxes q ≡ finite_map.get old.boxes q
  others q apart = ap (λ (m : Boxes). finite_map.get m q) put.puts.adds.boxes ∙ get-others old.boxes place.container (stowed_by put.visit place.slot) q apart

  stays : (q : Box) (w : Stowed) → finite_map.get old.boxes q ≡ Some w → finite_map.get new.boxes q ≡ Some w
  stays q w e = elim (box_cases q place.container) [
    | inl same ↦ absurd (none-some w (sym put.puts.adds.absent ∙ ap (finite_map.get old.boxes) (sym same) ∙ e))
    | inr apart ↦ others q apart ∙ e
  ]

  not_there : (other : Place) → Contains places other → bytes_eq other.container place.container ≡ true → ⊥
  not_there other inside same =
      let stand = before.each other inside in
      none-some (stowed_by stand.visit other.slot) (sym put.puts.adds.absent ∙ ap (finite_map.get old.boxes) (same_bytes other.container place.container same) ∙ stand.stands)

  stands_now : (other : Place) → Contains places other → Stands visits new.boxes other
  stands_now other inside = let stand = before.each other inside in record { visit = stand.visit; names = stand.names; stands = stays other.container _ stand.stands }

  stands_here : Stands visits new.boxes place
  unfolding stood
  stands_here = record { visit = put.visit; names = put.names; stands = here }

  none_of_it : (container : BoxNumber) → bytes_eq place.container container ≡ true → count_by (λ other. bytes_eq other.container container) places ≡ 0
  none_of_it container is =
      let same : container ≡ place.container = same_bytes place.container container is in
      none_counted (λ other. bytes_eq other.container container) places (λ k other at.
      elim (bytes_eq other.container container) as (λ v. bytes_eq other.container container ≡ v → v ≡ false) [
        | true ↦ λ e. absurd (not_there other (contained places k other at) (ap (bytes_eq other.container) (sym same) ∙ e))
        | false ↦ λ e. refl
      ] refl)

  pub one_place_more : ArePlacesOf visits new.boxes (places ++ place ∷ [])
  one_place_more = record {
    each = λ other inside. elim (Contains-push_cases places place other inside) [
      | inl old_one ↦ stands_now other old_one
      | inr same ↦ (let P : Place → Type 0 = Stands visits new.boxes in subst P same stands_here)
    ];
    every = λ container w e. elim (box_cases container place.container) [
      | inl same ↦ (place, Contains-push places place, sym same)
      | inr apart ↦ (let there = before.every container w (sym (others container apart) ∙ e) in (there.0, Contains-append_left places (place ∷ []) there.0 there.1, there.2))
    ];
    once = λ container. (let more : count_by (λ other. bytes_eq other.container container) (places ++ place ∷ []) ≡ count_by (λ other. bytes_eq other.container container) places + counts (bytes_eq place.container container) =
        counted_more (λ other. bytes_eq other.container container) places place in
        let few : count_by (λ other. bytes_eq other.container container) places ≤ 1 = before.once container in
        elim (bytes_eq place.container container) as (λ v. bytes_eq place.container container ≡ v → count_by (λ other. bytes_eq other.container container) (places ++ place ∷ []) ≤ 1) [
          | true ↦ λ e. (let none : count_by (λ other. bytes_eq other.container container) places ≡ 0 = none_of_it container e in
              let one : counts (bytes_eq place.container container) ≡ 1 = one_if (bytes_eq place.container container) e in
              omega arith)
          | false ↦ λ e. (let none : counts (bytes_eq place.container container) ≡ 0 = none_if (bytes_eq place.container container) e in omega arith)
        ] refl);
  }

pub one_more_taken : (visits : List VisitContent) (old new : YardMap) (places : List Place) (i : ℕ) (place : Place) → i < length places → place ≡ get_or places i place → ArePlacesOf visits old.boxes (take i places) → IsPut visits old new place
    → ArePlacesOf visits new.boxes (take (i + 1) places)
one_more_taken visits old new places i place low at before put =
    let more : take (i + 1) places ≡ take i places ++ place ∷ [] = take_more places i place low ∙ ap (λ (p : Place). take i places ++ p ∷ []) (sym at) in
    let P : List Place → Type 0 = ArePlacesOf visits new.boxes in
    subst P (sym more) (one_place_more visits old new (take i places) place before put)

-- no place yet
pub none_taken : (visits : List VisitContent) (boxes : Boxes) → boxes ≡ finite_map.empty → ArePlacesOf visits boxes []
none_taken visits boxes e = record {
  each = λ other inside. (let bad : inside.0 < 0 = inside.1 in absurd (omega arith));
  every = λ container w there. absurd (none-some w (sym (ap (λ (m : Boxes). finite_map.get m container) e ∙ finite_map.get-empty _ container) ∙ there));
  once = λ container. omega arith;
}

-- in another order
pub places_moved : (visits : List VisitContent) (boxes : Boxes) (places moved : List Place) → IsPermutation places moved → ArePlacesOf visits boxes places → ArePlacesOf visits boxes moved
places_moved visits boxes places moved perm all = record {
  each = λ other inside. all.each other (Contains-permutation moved places other (IsPermutation-sym places moved perm) inside);
  every = λ container w there. (let stand = all.every container w there in (stand.0, Contains-permutation places moved stand.0 perm stand.1, stand.2));
  once = λ container. (let same : count_by (λ other. bytes_eq other.container container) moved ≡ count_by (λ other. bytes_eq other.container container) places =
      sum_by-IsPermutation (λ other. cond (bytes_eq other.container container) 1 0) places moved perm in
      let few : count_by (λ other. bytes_eq other.container container) places ≤ 1 = all.once container in
      omega arith);
}

-- ---- where a sound yard has these places, the next is never refused

module _ (plan : List Block) (valid : IsPlan plan) (visits : List VisitContent) (are : AreNumbered 0 visits) (places : List Place) (rising : IsNonDecreasingBy (λ (p : Place). p.slot.tier) places)
    (boxes : Boxes) (sound : IsSound plan (placement_of boxes)) (all : ArePlacesOf visits boxes places)
    (y : YardMap) (same_plan : y.plan ≡ plan) (i : ℕ) (place : Place) (low : i < length places) (at : place ≡ get_or places i place) (so_far : ArePlacesOf visits y.boxes (take i places)) where
  inside_all : (other : Place) → Contains (take i places) other → Contains places other
  inside_all other (k, short, is) =
      let long : length (take i places) ≡ i = length-take-le i places (omega arith) in
      (k, omega arith, sym (get_or-take i places k other (omega arith)) ∙ is)

  kept : (q : Box) (w : Stowed) → finite_map.get y.boxes q ≡ Some w → finite_map.get boxes q ≡ Some w
  kept q w e =
      let there = so_far.every q w e in
      ap (finite_map.get boxes) (sym there.2) ∙ sym (same_stand visits are y.boxes boxes there.0 (so_far.each there.0 there.1) (all.each there.0 (inside_all there.0 there.1)))
      ∙ ap (finite_map.get y.boxes) there.2 ∙ e

  place_inside : Contains places place
  place_inside = (i, low, sym at)

  taken_first : (other : Place) → Contains places other → other.slot.tier < place.slot.tier → Contains (take i places) other
  taken_first other (k, short, is) under = elim (cases_lt k i) [
    | inl first ↦ (let long : length (take i places) ≡ i = length-take-le i places (omega arith) in (k, omega arith, get_or-take i places k other first ∙ is))
    | inr later ↦ (let up : (get_or places i place).slot.tier ≤ (get_or places k place).slot.tier = rising i k place later short in
        let here : (get_or places i place).slot.tier ≡ place.slot.tier = ap (λ (p : Place). p.slot.tier) (sym at) in
        let there : (get_or places k place).slot.tier ≡ other.slot.tier = ap (λ (p : Place). p.slot.tier) (get_or_default places k place other short ∙ is) in
        absurd (omega arith))
  ]

  lower : (q : Box) (w : Stowed) → finite_map.get boxes q ≡ Some w → w.placement.slot.tier < place.slot.tier → finite_map.get y.boxes q ≡ Some w
  lower q w e under =
      let there = all.every q w e in
      let stand = all.each there.0 there.1 in
      let is : w ≡ stowed_by stand.visit there.0.slot = same_Some w _ (sym e ∙ ap (finite_map.get boxes) (sym there.2) ∙ stand.stands) in
      let tier : w.placement.slot.tier ≡ there.0.slot.tier = ap (λ (v : Stowed). v.placement.slot.tier) is in
      let first : Contains (take i places) there.0 = taken_first there.0 there.1 (omega arith) in
      ap (finite_map.get y.boxes) (sym there.2) ∙ same_stand visits are y.boxes boxes there.0 (so_far.each there.0 first) stand ∙ ap (finite_map.get boxes) there.2 ∙ e

  absent : finite_map.get y.boxes place.container ≡ None
  absent = some_or_none (finite_map.get y.boxes place.container) (λ t e.
      let there = so_far.every place.container t e in
      let self : bytes_eq place.container place.container ≡ true = same_self place.container in
      let none : count_by (λ other. bytes_eq other.container place.container) (take i places) ≡ 0 =
      none_before_one (λ other. bytes_eq other.container place.container) places i place (all.once place.container) low at self in
      let some : 1 ≤ count_by (λ other. bytes_eq other.container place.container) (take i places) =
      some_counted (λ other. bytes_eq other.container place.container) (take i places) there.0 there.1 (ap (λ b. bytes_eq b place.container) there.2 ∙ self) in
      omega arith)

  kept_placed : (q : Box) (t : Placement) → placement_of y.boxes q ≡ Some t → placement_of boxes q ≡ Some t
  kept_placed q t e = let w = found_placed (finite_map.get y.boxes q) t e in ap placement_if_any (kept q w.0 w.1) ∙ ap Some w.2

  lower_placed : (q : Box) (t : Placement) → placement_of boxes q ≡ Some t → t.slot.tier < place.slot.tier → placement_of y.boxes q ≡ Some t
  lower_placed q t e under =
      let w = found_placed (finite_map.get boxes q) t e in
      let tier : w.0.placement.slot.tier ≡ t.slot.tier = ap (λ (s : Placement). s.slot.tier) w.2 in
      ap placement_if_any (lower q w.0 w.1 (omega arith)) ∙ ap Some w.2

  pub not_unsound : RefusesPut visits y place Unsound → ⊥
  not_unsound refuses =
      let stand = all.each place place_inside in
      let why = refuses stand.visit stand.names in
      let w : Stowed = stowed_by stand.visit place.slot in
      let P : List Block → Type 0 = λ p. IsOpen p (placement_of y.boxes) w.placement in
      let open_ : P plan = still_open plan (placement_of boxes) (placement_of y.boxes) w.placement kept_placed lower_placed place.container valid.sized sound (ap placement_if_any stand.stands) (ap placement_if_any absent) in
      not_refused y place.container w why.0 why.1 absent (subst P (sym same_plan) open_) why.2

pub refuses_places : (plan : List Block) (visits : List VisitContent) (places : List Place) (y : YardMap) (i : ℕ) (place : Place) (f : RestoreFault) → IsPlan plan → AreNumbered 0 visits → IsNonDecreasingBy (λ (p : Place). p.slot.tier) places → y.plan ≡ plan
    → i < length places → place ≡ get_or places i place → ArePlacesOf visits y.boxes (take i places) → RefusesPut visits y place f → RefusesPlaces plan visits places f
refuses_places plan visits places y i place Memory valid are rising same low at so_far refuses = tt
refuses_places plan visits places y i place Unsound valid are rising same low at so_far refuses = λ boxes sound all.
    not_unsound plan valid visits are places rising boxes sound all y same i place low at so_far refuses

-- ==== Restored: The whole state of rows.

-- ---- the rows are those of a whole state

module _ (visits : List VisitContent) (are : AreNumbered 0 visits) (boxes : Boxes) (places : List Place) (all : ArePlacesOf visits boxes places) (named : AreNamed visits places) where
  -- the place of an open visit has its container
  place_of_open : (container : BoxNumber) (k : ℕ) (visit : VisitContent) → slice_get visits k ≡ Some visit → is_open_visit container visit ≡ true → (place : Place) × Contains places place × (place.visit ≡ visit.number) × (place.container ≡ container)
  place_of_open container k visit at is =
      let parts = and_parts (bytes_eq visit.container container) (is_none visit.departure) is in
      let place = named visit (contained visits k visit at) parts.1 in
      let stand = all.each place.0 place.1 in
      let there : slice_get visits stand.names.listed.0 ≡ Some stand.visit = found_at visits stand.visit stand.names.listed in
      let same_place : stand.names.listed.0 ≡ k = same_index 0 visits stand.names.listed.0 k stand.visit visit are there at (stand.names.number ∙ place.2) in
      let same : stand.visit ≡ visit = same_Some stand.visit visit (sym there ∙ ap (slice_get visits) same_place ∙ at) in
      let open_ : bytes_eq stand.visit.container place.0.container ≡ true = (and_parts (bytes_eq stand.visit.container place.0.container) (is_none stand.visit.departure) stand.names.is_open).0 in (
        place.0,
        place.1,
        place.2,
        same_bytes stand.visit.container place.0.container open_ ∙ ap (λ (v : VisitContent). v.container) same ∙ sym (same_bytes visit.container container parts.0),
      )

  one_open : (container : BoxNumber) → count_by (is_open_visit container) visits ≤ 1
  one_open container = at_most_one (is_open_visit container) visits (λ j k v w at also is too.
      let p = place_of_open container j v at is in
      let q = place_of_open container k w also too in
      let same : p.0 ≡ q.0 = one_passes (λ place. bytes_eq place.container container) places p.0 q.0 (all.once container) p.1 q.1
      (ap (λ b. bytes_eq b container) p.3 ∙ same_self container) (ap (λ b. bytes_eq b container) q.3 ∙ same_self container) in
      same_index 0 visits j k v w are at also (sym p.2 ∙ ap (λ (s : Place). s.visit) same ∙ q.2))

  here_and_open : (container : BoxNumber) → is_some (finite_map.get boxes container) ≡ is_some (find (is_open_visit container) visits)
  here_and_open container = same_tests (is_some (finite_map.get boxes container)) (is_some (find (is_open_visit container) visits))
      (λ e. let s = some_of (finite_map.get boxes container) e in
      let place = all.every container s.0 s.1 in
      let stand = all.each place.0 place.1 in
      is_found (is_open_visit container) visits stand.names.listed.0 stand.visit (found_at visits stand.visit stand.names.listed) (ap (λ b. is_open_visit b stand.visit) (sym place.2) ∙ stand.names.is_open))
      (λ e. let v = some_of (find (is_open_visit container) visits) e in
      let found = found_is (is_open_visit container) visits v.0 v.1 in
      let place = place_of_open container found.0 v.0 found.1 found.2 in
      let stand = all.each place.0 place.1 in
      ap (λ b. is_some (finite_map.get boxes b)) (sym place.3) ∙ ap is_some stand.stands)

  told_of_open : (container : BoxNumber) (w : Stowed) (visit : VisitContent) → finite_map.get boxes container ≡ Some w → find (is_open_visit container) visits ≡ Some visit → w ≡ stowed_by visit w.placement.slot
  told_of_open container w visit at open_ =
      let place = all.every container w at in
      let stand = all.each place.0 place.1 in
      let found = found_is (is_open_visit container) visits visit open_ in
      let its : is_open_visit container stand.visit ≡ true = ap (λ b. is_open_visit b stand.visit) (sym place.2) ∙ stand.names.is_open in
      let same : stand.visit ≡ visit = one_passes (is_open_visit container) visits stand.visit visit (one_open container) stand.names.listed (contained visits found.0 visit found.1) its found.2 in
      let is : w ≡ stowed_by stand.visit place.0.slot = same_Some w _ (sym at ∙ ap (finite_map.get boxes) (sym place.2) ∙ stand.stands) in
      is ∙ ap (λ (v : VisitContent). stowed_by v place.0.slot) same ∙ ap (stowed_by visit) (sym (ap (λ (v : Stowed). v.placement.slot) is))

pub whole_of : (plan : List Block) (limit : ℕ) (visits : List VisitContent) (places moved : List Place) (yard : YardMap) → IsPlan plan → yard.plan ≡ plan → IsSound yard.plan (placement_of yard.boxes) → AreNumbered 0 visits → last_number visits ≤ limit
    → IsPermutation places moved → ArePlacesOf visits yard.boxes moved → AreNamed visits moved → IsYardOf plan limit visits places yard
whole_of plan limit visits places moved yard valid same sound are few perm all named = record {
  whole = record {
    plan = let P : List Block → Type 0 = IsPlan in subst P (sym same) valid;
    sound = sound;
    numbered = are;
    within = few;
    one_visit = λ container. (let e : length (filter (is_open_visit container) visits) ≡ count_by (is_open_visit container) visits = length-filter (is_open_visit container) visits in
        let f : count_by (is_open_visit container) visits ≤ 1 = one_open visits are yard.boxes moved all named container in
        omega arith);
    here = here_and_open visits are yard.boxes moved all named;
    as_told = told_of_open visits are yard.boxes moved all named;
  };
  plan_is = same;
  places_are = places_moved visits yard.boxes moved places (IsPermutation-sym places moved perm) all;
}

-- ---- whole states have such rows

pub named_of_whole : (limit : ℕ) (visits : List VisitContent) (places : List Place) (yard : YardMap) → IsWhole (without_lines yard limit visits) → ArePlacesOf visits yard.boxes places → AreNamed visits places
named_of_whole limit visits places yard whole all visit inside open_ =
    let container : BoxNumber = visit.container in
    let is : is_open_visit container visit ≡ true = ap (λ v. v && is_none visit.departure) (same_self container) ∙ open_ in
    let here : is_some (finite_map.get yard.boxes container) ≡ true = whole.here container ∙ is_found (is_open_visit container) visits inside.0 visit (found_at visits visit inside) is in
    let s = some_of (finite_map.get yard.boxes container) here in
    let place = all.every container s.0 s.1 in
    let stand = all.each place.0 place.1 in
    let also : is_open_visit container stand.visit ≡ true = ap (λ b. is_open_visit b stand.visit) (sym place.2) ∙ stand.names.is_open in
    let e : length (filter (is_open_visit container) visits) ≡ count_by (is_open_visit container) visits = length-filter (is_open_visit container) visits in
    let f : length (filter (is_open_visit container) visits) ≤ 1 = whole.one_visit container in
    let few : count_by (is_open_visit container) visits ≤ 1 = omega arith in
    let same : stand.visit ≡ visit = one_passes (is_open_visit container) visits stand.visit visit few stand.names.listed inside also is in
    (place.0, place.1, sym stand.names.number ∙ ap (λ (v : VisitContent). v.number) same)

pub unsound_yard : (plan : List Block) (limit : ℕ) (visits : List VisitContent) (places moved : List Place) (f : RestoreFault) → IsPermutation places moved → RefusesPlaces plan visits moved f → RefusesYard plan limit visits places f
unsound_yard plan limit visits places moved Memory perm refuses = tt
unsound_yard plan limit visits places moved Unsound perm refuses = λ yard is.
    let P : List Block → Type 0 = λ p. IsSound p (placement_of yard.boxes) in
    refuses yard.boxes (subst P is.plan_is is.whole.sound) (places_moved visits yard.boxes places moved perm is.places_are)

pub not_all_named : (plan : List Block) (limit : ℕ) (visits : List VisitContent) (places moved : List Place) → IsPermutation places moved → ¬ AreNamed visits moved → RefusesYard plan limit visits places Unsound
not_all_named plan limit visits places moved perm unnamed = λ yard is. unnamed (named_of_whole limit visits moved yard is.whole (places_moved visits yard.boxes places moved perm is.places_are))

-- ---- rows have one state

module _ (visits : List VisitContent) (are : AreNumbered 0 visits) (places : List Place) where
  stands_alike : (one two : Boxes) → ArePlacesOf visits one places → ArePlacesOf visits two places → (container : BoxNumber) (s : Stowed) → finite_map.get one container ≡ Some s → finite_map.get two container ≡ Some s
  stands_alike one two is also container s e =
      let place = is.every container s e in
      ap (finite_map.get two) (sym place.2) ∙ same_stand visits are two one place.0 (also.each place.0 place.1) (is.each place.0 place.1) ∙ ap (finite_map.get one) place.2 ∙ e

  alike : (a b : Option Stowed) → ((s : Stowed) → a ≡ Some s → b ≡ Some s) → ((s : Stowed) → b ≡ Some s → a ≡ Some s) → a ≡ b
  alike (Some s) b h g = sym (h s refl)
  alike None None h g = refl
  alike None (Some s) h g = g s refl

  pub one_yard : (one two : Boxes) → ArePlacesOf visits one places → ArePlacesOf visits two places → one ≡ two
  one_yard one two is also = finite_map.same_map nat_list_cmp_total (finite_map.slice_cmp-IsAntisymmetric finite_map.nat_cmp-IsAntisymmetric) one two
      (λ container. alike (finite_map.get one container) (finite_map.get two container) (stands_alike one two is also container) (stands_alike two one also is container))

pub one_state : (plan : List Block) (limit : ℕ) (visits : List Visit) (places : List Place) (lines : List Listing) (s t : TerminalState) → AreRowsOf plan limit visits places lines s → AreRowsOf plan limit visits places lines t → s ≡ t
one_state plan limit visits places lines s t is also =
    let P : List VisitContent → Type 0 = λ vs. ArePlacesOf vs s.yard.boxes places in
    let Q : List VisitContent → Type 0 = λ vs. ArePlacesOf vs t.yard.boxes places in
    let N : List VisitContent → Type 0 = AreNumbered 0 in
    let boxes : s.yard.boxes ≡ t.yard.boxes =
    one_yard (map visit_content visits) (subst N is.visits_are is.whole.numbered) places s.yard.boxes t.yard.boxes (subst P is.visits_are is.places_are) (subst Q also.visits_are also.places_are) in
    let same_plan : s.yard.plan ≡ t.yard.plan = is.plan_is ∙ sym also.plan_is in
    let same_limit : s.limit ≡ t.limit = is.limit_is ∙ sym also.limit_is in
    let same_visits : s.visits ≡ t.visits = is.visits_are ∙ sym also.visits_are in
    let same_lines : s.lines ≡ t.lines = is.lines_are ∙ sym also.lines_are in
    λ i. record { yard = record { plan = same_plan i; boxes = boxes i }; limit = same_limit i; visits = same_visits i; lines = same_lines i }

pub rows_of : (plan : List Block) (limit : ℕ) (visits : List Visit) (held : List VisitContent) (places : List Place) (lines : List Listing) (yard : YardMap) (listed : Lines) → held ≡ map visit_content visits → listed ≡ lines_of lines
    → AreOnce lines → IsYardOf plan limit (map visit_content visits) places yard → AreRowsOf plan limit visits places lines (record { yard = yard; limit = limit; visits = held; lines = listed })
rows_of plan limit visits held places lines yard listed kept same once is =
    let P : List VisitContent → Type 0 = λ v. AreRowsOf plan limit visits places lines (record { yard = yard; limit = limit; visits = v; lines = listed }) in
    subst P (sym kept) (record {
      whole = whole_listed (without_lines yard limit (map visit_content visits)) listed is.whole;
      plan_is = is.plan_is;
      limit_is = refl;
      visits_are = refl;
      places_are = is.places_are;
      lines_are = same;
      lines_once = once;
    })
