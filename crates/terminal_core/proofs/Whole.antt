-- What an order leaves is whole.
use Rattle.std.{specs.{Prelude.{filter, ◌&&◌, ◌||◌, not, find, slice_get, slice_set, Contains}, Str.bytes_eq, List.list_any}, proofs.Math.Bool.or-true}
use Rattle.std.proofs.Common.{◌≡◌, ℕ, ◌+◌, ◌≤◌, ◌<◌, List, [], ◌∷◌, ◌++◌, length, map, Bool, true, false, cond, None, Some, is_some, is_none, refl, sym, ap, ◌∙◌, arith, subst, zero, suc, ◌-◌, inl, inr, take, get_or, set, eqb}
use Rattle.std.proofs.{lemmas.List.{length-map, map-append, take_more, get_or-set_same, get_or-set_other}, lemmas.Bool.{cases_order, eqb-true, eq-eqb, ne_eqb}}
use Rattle.std.proofs.lemmas.Option.{none-some, slice_get-get_or, slice_get_within, get_or_from_slice_get, same_Some}
use Rattle.std.proofs.lemmas.List.Folds.{list_any_more, Any-from_list_any, list_any-from_Any}
use Rattle.box6346.specs.{declared.box_number.BoxNumber.BoxNumber, declared.slot.Slot.Slot}
use Rattle.yard_core.specs.{declared.plan.Block.Block, declared.placements.Placement.Placement, declared.placements.Stowed.Stowed, Plan.{IsPlan, InPlan}}
use Rattle.yard_core.specs.{YardMap.{Boxes, YardMap, placement_of}, SoundYard.IsSound, Calls.{Adds, Places, Removes, Shifts}}
use Rattle.terminal_core.specs.{declared.visits.Departure.Departure, Rows.{VisitContent, visit_content}, Step.closed_visit, declared.visits.Visit.Visit}
use Rattle.terminal_core.specs.State.{last_number, TerminalState, Lines, is_in, open_visit, is_open_visit, stowed_by, IsWhole, AreNumbered, last_from}
use Rattle.terminal_core.specs.{declared.change.Place.Place, Restoring.{AreRising, Names, numbers_of, AreNamed}}
use Rattle.terminal_core.proofs.Open.{told_entered, told_departed, told_moved, moved_as, in_placed, in_removed, same_bytes, planned, find_one_more, count_one_more, none_counted, find_mapped, count_mapped, closed_open, numbered_one_more, numbered_closed, last_pushed, last_closed, or_turned, and_true, last_highest}
use Rattle.std.specs.FinMap as finite_map

pub whole_empty : (plan : List Block) (yard : YardMap) (limit : ℕ) (visits : List VisitContent) (lines : Lines) → IsPlan plan → yard.plan ≡ plan → yard.boxes ≡ finite_map.empty
    → IsSound yard.plan (placement_of yard.boxes) → visits ≡ [] → IsWhole (record { yard = yard; limit = limit; visits = visits; lines = lines })
whole_empty plan yard limit visits lines is same none sound nothing =
    let P : List VisitContent → Type 0 = λ v. IsWhole (record { yard = yard; limit = limit; visits = v; lines = lines }) in
    subst P (sym nothing) (record {
      plan = let Q : List Block → Type 0 = IsPlan in subst Q (sym same) is;
      sound = sound;
      numbered = tt;
      within = omega arith;
      one_visit = λ container. omega arith;
      here = λ container. ap (λ (boxes : Boxes). is_some (finite_map.get boxes container)) none ∙ ap is_some (finite_map.get-empty _ container);
      as_told = λ container w visit at open_. absurd (none-some visit open_);
    })

-- lists have no part in it
pub whole_listed : (state : TerminalState) (lines : Lines) → IsWhole state → IsWhole (record state { lines = lines })
whole_listed state lines whole = record { plan = whole.plan; sound = whole.sound; numbered = whole.numbered; within = whole.within; one_visit = whole.one_visit; here = whole.here; as_told = whole.as_told }

-- the yard stayed
pub whole_stays : (state : TerminalState) (y : YardMap) → IsWhole state → y ≡ state.yard → IsWhole (record state { yard = y })
whole_stays state y whole e = let P : YardMap → Type 0 = λ v. IsWhole (record state { yard = v }) in subst P (sym e) whole

-- the visits are these
pub whole_with : (state : TerminalState) (y : YardMap) (visits others : List VisitContent) → others ≡ visits → IsWhole (record state { yard = y; visits = visits }) → IsWhole (record state { yard = y; visits = others })
whole_with state y visits others e whole = let P : List VisitContent → Type 0 = λ v. IsWhole (record state { yard = y; visits = v }) in subst P (sym e) whole

-- ---- coming

in_after : (state : TerminalState) (y : YardMap) (b q : BoxNumber) (s : Stowed) → y.boxes ≡ finite_map.insert state.yard.boxes b s → is_some (finite_map.get y.boxes q) ≡ (bytes_eq b q || is_in state q)
in_after state y b q s e = ap (λ (boxes : Boxes). is_some (finite_map.get boxes q)) e ∙ in_placed state.yard.boxes b q s

one_open : (state : TerminalState) (visit : VisitContent) (q : BoxNumber) (is : Bool) → IsWhole state → finite_map.get state.yard.boxes visit.container ≡ None → bytes_eq visit.container q ≡ is
    → length (filter (is_open_visit q) state.visits) + cond is 1 0 ≤ 1
one_open state visit q true whole absent e =
    let same : q ≡ visit.container = same_bytes visit.container q e in
    let gone : is_in state q ≡ false = ap (is_in state) same ∙ ap is_some absent in
    let none : length (filter (is_open_visit q) state.visits) ≡ 0 = none_counted (is_open_visit q) state.visits (sym (whole.here q) ∙ gone) in
    omega arith
one_open state visit q false whole absent e = let one : length (filter (is_open_visit q) state.visits) ≤ 1 = whole.one_visit q in omega arith

pub whole_entered : (state : TerminalState) (y : YardMap) (visit : VisitContent) (w : Stowed) → IsWhole state → Adds state.yard y visit.container w → IsSound y.plan (placement_of y.boxes)
    → visit.number ≡ last_number state.visits + 1 → visit.departure ≡ None → w ≡ stowed_by visit w.placement.slot → last_number state.visits < state.limit
    → IsWhole (record state { yard = y; visits = state.visits ++ visit ∷ [] })
whole_entered state y visit w whole adds sound number still told room =
    let open_ : (q : BoxNumber) → is_open_visit q visit ≡ bytes_eq visit.container q = λ q. ap (λ d. bytes_eq visit.container q && is_none d) still ∙ and_true _ in
    record {
      plan = let P : List Block → Type 0 = IsPlan in subst P (sym adds.plan) whole.plan;
      sound = sound;
      numbered = numbered_one_more 0 state.visits visit whole.numbered (omega (arith, number));
      within = let end : last_number (state.visits ++ visit ∷ []) ≡ visit.number = last_pushed 0 state.visits visit in omega (arith, end, number, room);
      one_visit = λ q.
          let counted : length (filter (is_open_visit q) (state.visits ++ visit ∷ [])) ≡ length (filter (is_open_visit q) state.visits) + cond (bytes_eq visit.container q) 1 0 =
          count_one_more (is_open_visit q) state.visits visit ∙ ap (λ v. length (filter (is_open_visit q) state.visits) + cond v 1 0) (open_ q) in
          let few : length (filter (is_open_visit q) state.visits) + cond (bytes_eq visit.container q) 1 0 ≤ 1 = one_open state visit q (bytes_eq visit.container q) whole adds.absent refl in
          omega arith;
      here = λ q.
          in_after state y visit.container q w adds.boxes ∙ ap (λ v. bytes_eq visit.container q || v) (whole.here q) ∙ or_turned (bytes_eq visit.container q) (is_some (open_visit state q))
          ∙ ap (λ v. is_some (open_visit state q) || v) (sym (open_ q)) ∙ sym (find_one_more (is_open_visit q) state.visits visit);
      as_told = told_entered state y visit w whole adds.absent adds.boxes still told;
    }

-- ---- going

pub whole_departed : (state : TerminalState) (y : YardMap) (b : BoxNumber) (departure : Departure) (s : Placement) → IsWhole state → Removes state.yard y b s → IsSound y.plan (placement_of y.boxes)
    → IsWhole (record state { yard = y; visits = map (closed_visit departure b) state.visits })
whole_departed state y b departure s whole removes sound = record {
  plan = let P : List Block → Type 0 = IsPlan in subst P (sym removes.plan) whole.plan;
  sound = sound;
  numbered = numbered_closed departure b 0 state.visits whole.numbered;
  within = let same : last_number (map (closed_visit departure b) state.visits) ≡ last_number state.visits = last_closed departure b 0 state.visits in let few : last_number state.visits ≤ state.limit = whole.within in omega (arith, same, few);
  one_visit = λ q.
      let fewer : length (filter (is_open_visit q) (map (closed_visit departure b) state.visits)) ≤ length (filter (is_open_visit q) state.visits) =
      count_mapped (is_open_visit q) (is_open_visit q) (closed_visit departure b) (not (bytes_eq b q)) (closed_open departure b q) state.visits in
      let few : length (filter (is_open_visit q) state.visits) ≤ 1 = whole.one_visit q in
      omega arith;
  here = λ q.
      ap (λ (boxes : Boxes). is_some (finite_map.get boxes q)) removes.boxes ∙ in_removed state.yard.boxes b q ∙ ap (λ v. v && not (bytes_eq b q)) (whole.here q)
      ∙ sym (find_mapped (is_open_visit q) (is_open_visit q) (closed_visit departure b) (not (bytes_eq b q)) (closed_open departure b q) state.visits);
  as_told = told_departed state y b departure whole removes.boxes;
}

-- ---- moving

still_in : (state : TerminalState) (b q : BoxNumber) (s : Stowed) (is : Bool) → finite_map.get state.yard.boxes b ≡ Some s → bytes_eq b q ≡ is → (is || is_in state q) ≡ is_in state q
still_in state b q s true stood e = sym (ap (is_in state) (same_bytes b q e) ∙ ap is_some stood)
still_in state b q s false stood e = refl

pub whole_moved : (state : TerminalState) (y : YardMap) (b : BoxNumber) (slot : Slot) (w : Stowed) → IsWhole state → finite_map.get state.yard.boxes b ≡ Some w → y.plan ≡ state.yard.plan
    → y.boxes ≡ finite_map.insert state.yard.boxes b (moved_as w slot) → IsSound y.plan (placement_of y.boxes) → IsWhole (record state { yard = y })
whole_moved state y b slot w whole stood plan boxes sound = record {
  plan = let P : List Block → Type 0 = IsPlan in subst P (sym plan) whole.plan;
  sound = sound;
  numbered = whole.numbered;
  within = whole.within;
  one_visit = whole.one_visit;
  here = λ q. in_after state y b q _ boxes ∙ still_in state b q w (bytes_eq b q) stood refl ∙ whole.here q;
  as_told = told_moved state y b slot w whole stood boxes;
}

-- ---- slots of the plan

pub placed_in_plan : (old new : YardMap) (b : BoxNumber) (w : Stowed) → Places old new b w → InPlan new.plan w.placement.slot
placed_in_plan old new b w places = let P : List Block → Type 0 = λ p. InPlan p w.placement.slot in subst P (sym places.adds.plan) (planned old.plan old.boxes b w places.fits.stands)

pub shifted_in_plan : (old new : YardMap) (b : BoxNumber) (w : Stowed) (slot : Slot) → Shifts old new b w slot → InPlan new.plan slot
shifted_in_plan old new b w slot shifts = let P : List Block → Type 0 = λ p. InPlan p slot in subst P (sym shifts.plan) (planned old.plan (finite_map.remove old.boxes b) b (moved_as w slot) shifts.fits.0)

-- ==== Closing: The open visit of a container is closed where it stands.

module _ (b : BoxNumber) where
  counted : (v : Bool) (x : VisitContent) (xs : List VisitContent) → length (cond v (x ∷ xs) xs) ≡ cond v 1 0 + length xs
  counted true x xs = omega arith
  counted false x xs = omega arith

  counted_in : (v : Bool) (x : VisitContent) (xs : List VisitContent) → v ≡ true → length (cond v (x ∷ xs) xs) ≡ length xs + 1
  counted_in true x xs e = omega arith
  counted_in false x xs e = cc

  -- one that is open counts
  open_counts : (visits : List Visit) (place : ℕ) (visit : Visit) → slice_get visits place ≡ Some visit → is_open_visit b (visit_content visit) ≡ true
      → 1 ≤ length (filter (is_open_visit b) (map visit_content visits))
  open_counts [] place visit at is = cc
  open_counts (v ∷ visits) zero visit at is =
      let same : v ≡ visit = cc in
      let e : length (filter (is_open_visit b) (map visit_content (v ∷ visits))) ≡ length (filter (is_open_visit b) (map visit_content visits)) + 1 =
      counted_in (is_open_visit b (visit_content v)) (visit_content v) (filter (is_open_visit b) (map visit_content visits)) (ap (λ w. is_open_visit b (visit_content w)) same ∙ is) in
      omega arith
  open_counts (v ∷ visits) (suc place) visit at is =
      let e : length (filter (is_open_visit b) (map visit_content (v ∷ visits))) ≡ cond (is_open_visit b (visit_content v)) 1 0 + length (filter (is_open_visit b) (map visit_content visits)) = counted (is_open_visit b (visit_content v)) _ _ in
      let more : 1 ≤ length (filter (is_open_visit b) (map visit_content visits)) = open_counts visits place visit at is in
      omega arith

  -- where none is open nothing changes
  closes_none : (departure : Departure) (visits : List VisitContent) → length (filter (is_open_visit b) visits) ≡ 0 → map (closed_visit departure b) visits ≡ visits
  closes_none departure [] e = refl
  closes_none departure (v ∷ visits) e =
      elim (is_open_visit b v) as (λ w. is_open_visit b v ≡ w → map (closed_visit departure b) (v ∷ visits) ≡ v ∷ visits) [
        | true ↦ λ is. let g : length (filter (is_open_visit b) (v ∷ visits)) ≡ length (filter (is_open_visit b) visits) + 1 = counted_in (is_open_visit b v) v (filter (is_open_visit b) visits) is in absurd (omega arith)
        | false ↦ λ is. let g : length (filter (is_open_visit b) (v ∷ visits)) ≡ cond (is_open_visit b v) 1 0 + length (filter (is_open_visit b) visits) = counted (is_open_visit b v) v (filter (is_open_visit b) visits) in
            let rest : length (filter (is_open_visit b) visits) ≡ 0 = omega arith in
            let same : closed_visit departure b v ≡ v = ap (λ w. cond w (record v { departure = Some departure }) v) is in
            λ i. same i ∷ closes_none departure visits rest i
      ] refl

  pub closes : (departure : Departure) (visits : List Visit) (place : ℕ) (visit shut : Visit) → length (filter (is_open_visit b) (map visit_content visits)) ≤ 1
      → slice_get visits place ≡ Some visit → is_open_visit b (visit_content visit) ≡ true → visit_content shut ≡ record (visit_content visit) { departure = Some departure }
      → map visit_content (slice_set visits place shut) ≡ map (closed_visit departure b) (map visit_content visits)
  closes departure [] place visit shut one at is e = refl
  closes departure (v ∷ visits) zero visit shut one at is e =
      let same : v ≡ visit = cc in
      let is_v : is_open_visit b (visit_content v) ≡ true = ap (λ w. is_open_visit b (visit_content w)) same ∙ is in
      let g : length (filter (is_open_visit b) (map visit_content (v ∷ visits))) ≡ length (filter (is_open_visit b) (map visit_content visits)) + 1 =
      counted_in (is_open_visit b (visit_content v)) (visit_content v) (filter (is_open_visit b) (map visit_content visits)) is_v in
      let rest : length (filter (is_open_visit b) (map visit_content visits)) ≡ 0 = omega arith in
      let head_ : visit_content shut ≡ closed_visit departure b (visit_content v) =
      e ∙ ap (λ (w : Visit). record (visit_content w) { departure = Some departure }) (sym same)
      ∙ sym (ap (λ w. cond w (record (visit_content v) { departure = Some departure }) (visit_content v)) is_v) in
      let tail_ : map visit_content visits ≡ map (closed_visit departure b) (map visit_content visits) = sym (closes_none departure (map visit_content visits) rest) in
      λ i. head_ i ∷ tail_ i
  closes departure (v ∷ visits) (suc place) visit shut one at is e =
      let g : length (filter (is_open_visit b) (map visit_content (v ∷ visits))) ≡ cond (is_open_visit b (visit_content v)) 1 0 + length (filter (is_open_visit b) (map visit_content visits)) = counted (is_open_visit b (visit_content v)) _ _ in
      let more : 1 ≤ length (filter (is_open_visit b) (map visit_content visits)) = open_counts visits place visit at is in
      elim (is_open_visit b (visit_content v)) as (λ w. is_open_visit b (visit_content v) ≡ w → visit_content v ∷ map visit_content (slice_set visits place shut) ≡ map (closed_visit departure b) (map visit_content (v ∷ visits))) [
        | true ↦ λ other.
            let twice : length (filter (is_open_visit b) (map visit_content (v ∷ visits))) ≡ length (filter (is_open_visit b) (map visit_content visits)) + 1 =
            counted_in (is_open_visit b (visit_content v)) (visit_content v) (filter (is_open_visit b) (map visit_content visits)) other in
            absurd (omega arith)
        | false ↦ λ other.
            let rest : length (filter (is_open_visit b) (map visit_content visits)) ≤ 1 = omega arith in
            let head_ : visit_content v ≡ closed_visit departure b (visit_content v) = sym (ap (λ w. cond w (record (visit_content v) { departure = Some departure }) (visit_content v)) other) in
            λ i. head_ i ∷ closes departure visits place visit shut rest at is e i
      ] refl

  pub finds : (visits : List Visit) (place : ℕ) (visit : Visit) → length (filter (is_open_visit b) (map visit_content visits)) ≤ 1
      → slice_get visits place ≡ Some visit → is_open_visit b (visit_content visit) ≡ true → find (is_open_visit b) (map visit_content visits) ≡ Some (visit_content visit)
  finds [] place visit one at is = cc
  finds (v ∷ visits) zero visit one at is =
      let same : v ≡ visit = cc in
      ap (λ (w : Visit). cond (is_open_visit b (visit_content w)) (Some (visit_content w)) (find (is_open_visit b) (map visit_content visits))) same ∙ ap (λ w. cond w (Some (visit_content visit)) (find (is_open_visit b) (map visit_content visits))) is
  finds (v ∷ visits) (suc place) visit one at is =
      let g : length (filter (is_open_visit b) (map visit_content (v ∷ visits))) ≡ cond (is_open_visit b (visit_content v)) 1 0 + length (filter (is_open_visit b) (map visit_content visits)) = counted (is_open_visit b (visit_content v)) _ _ in
      let more : 1 ≤ length (filter (is_open_visit b) (map visit_content visits)) = open_counts visits place visit at is in
      elim (is_open_visit b (visit_content v)) as (λ w. is_open_visit b (visit_content v) ≡ w → cond w (Some (visit_content v)) (find (is_open_visit b) (map visit_content visits)) ≡ Some (visit_content visit)) [
        | true ↦ λ other.
            let twice : length (filter (is_open_visit b) (map visit_content (v ∷ visits))) ≡ length (filter (is_open_visit b) (map visit_content visits)) + 1 =
            counted_in (is_open_visit b (visit_content v)) (visit_content v) (filter (is_open_visit b) (map visit_content visits)) other in
            absurd (omega arith)
        | false ↦ λ other. let rest : length (filter (is_open_visit b) (map visit_content visits)) ≤ 1 = omega arith in finds visits place visit rest at is
      ] refl

-- ==== Numbered: Visits by their numbers.

-- ---- places of lists

pub contained : {A : Type 0} (xs : List A) (k : ℕ) (x : A) → slice_get xs k ≡ Some x → Contains xs x
contained xs k x at = (k, slice_get_within xs k x at, get_or_from_slice_get xs k x x at)

pub found_at : {A : Type 0} (xs : List A) (x : A) → (h : Contains xs x) → slice_get xs h.0 ≡ Some x
found_at xs x h = slice_get-get_or xs h.0 x h.1 ∙ ap Some h.2

pub content_at : (visits : List Visit) (k : ℕ) (visit : Visit) → slice_get visits k ≡ Some visit → slice_get (map visit_content visits) k ≡ Some (visit_content visit)
content_at [] k visit at = cc
content_at (v ∷ visits) zero visit at = let same : v ≡ visit = same_Some v visit at in ap (λ (w : Visit). Some (visit_content w)) same
content_at (v ∷ visits) (suc k) visit at = content_at visits k visit at

pub row_at : (visits : List Visit) (k : ℕ) (content : VisitContent) → slice_get (map visit_content visits) k ≡ Some content → (visit : Visit) × (slice_get visits k ≡ Some visit) × (visit_content visit ≡ content)
row_at [] k content at = absurd (cc)
row_at (v ∷ visits) zero content at = (v, refl, same_Some (visit_content v) content at)
row_at (v ∷ visits) (suc k) content at = row_at visits k content at

-- ---- numbers

pub above_at : (above : ℕ) (visits : List VisitContent) (k : ℕ) (visit : VisitContent) → AreNumbered above visits → slice_get visits k ≡ Some visit → above < visit.number
above_at above [] k visit are at = cc
above_at above (v ∷ visits) zero visit are at = let same : v.number ≡ visit.number = ap (λ (w : VisitContent). w.number) (same_Some v visit at) in omega (arith, same, are.0)
above_at above (v ∷ visits) (suc k) visit are at = let rest = above_at v.number visits k visit are.1 at in omega (arith, rest, are.0)

pub below_last : (above : ℕ) (visits : List VisitContent) (k : ℕ) (visit : VisitContent) → AreNumbered above visits → slice_get visits k ≡ Some visit → visit.number ≤ last_from above visits
below_last above [] k visit are at = cc
below_last above (v ∷ visits) zero visit are at = let same : v.number ≡ visit.number = ap (λ (w : VisitContent). w.number) (same_Some v visit at) in let high = last_highest v.number visits are.1 in omega (arith, same, high)
below_last above (v ∷ visits) (suc k) visit are at = below_last v.number visits k visit are.1 at

-- no two visits have one number
pub same_index : (above : ℕ) (visits : List VisitContent) (j k : ℕ) (v w : VisitContent) → AreNumbered above visits → slice_get visits j ≡ Some v → slice_get visits k ≡ Some w → v.number ≡ w.number → j ≡ k
same_index above [] j k v w are at also same = cc
same_index above (x ∷ visits) zero zero v w are at also same = refl
same_index above (x ∷ visits) zero (suc k) v w are at also same =
    let first : x.number ≡ v.number = ap (λ (u : VisitContent). u.number) (same_Some x v at) in
    let later = above_at x.number visits k w are.1 also in
    absurd (omega (arith, first, later, same))
same_index above (x ∷ visits) (suc j) zero v w are at also same =
    let first : x.number ≡ w.number = ap (λ (u : VisitContent). u.number) (same_Some x w also) in
    let later = above_at x.number visits j v are.1 at in
    absurd (omega (arith, first, later, same))
same_index above (x ∷ visits) (suc j) (suc k) v w are at also same = ap suc (same_index x.number visits j k v w are.1 at also same)

-- the last row has the last number
pub last_at : (above : ℕ) (visits : List Visit) (visit : Visit) → slice_get visits (length visits - 1) ≡ Some visit → last_from above (map visit_content visits) ≡ visit.number
last_at above [] visit at = cc
last_at above (x ∷ []) visit at = ap (λ (v : Visit). v.number) (same_Some x visit at)
last_at above (x ∷ y ∷ visits) visit at =
    let before : suc (length (y ∷ visits) - 1) ≡ length (x ∷ y ∷ visits) - 1 = omega arith in
    last_at x.number (y ∷ visits) visit (ap (slice_get (x ∷ y ∷ visits)) before ∙ at)

-- the number of each row is above those of the rows before it
pub next_above : (above : ℕ) (visits : List Visit) (k : ℕ) (visit : Visit) → AreNumbered above (map visit_content visits) → slice_get visits k ≡ Some visit → last_from above (map visit_content (take k visits)) < visit.number
next_above above [] k visit are at = cc
next_above above (v ∷ visits) zero visit are at = let same : v.number ≡ visit.number = ap (λ (w : Visit). w.number) (same_Some v visit at) in omega (arith, same, are.0)
next_above above (v ∷ visits) (suc k) visit are at = next_above v.number visits k visit are.1 at

-- one row more
pub one_row_more : (visits : List Visit) (i : ℕ) (visit : Visit) → i < length visits → visit ≡ get_or visits i visit → map visit_content (take (i + 1) visits) ≡ map visit_content (take i visits) ++ visit_content visit ∷ []
one_row_more visits i visit low is =
    ap (map visit_content) (take_more visits i visit low ∙ ap (λ v. take i visits ++ v ∷ []) (sym is)) ∙ map-append visit_content (take i visits) (visit ∷ [])

-- ---- only the numbers

pub number_read : (visits : List Visit) (k : ℕ) (visit : Visit) → slice_get visits k ≡ Some visit → get_or (numbers_of visits) k 0 ≡ visit.number
number_read [] k visit at = cc
number_read (v ∷ visits) zero visit at = ap (λ (w : Visit). w.number) (same_Some v visit at)
number_read (v ∷ visits) (suc k) visit at = number_read visits k visit at

number_above : (above : ℕ) (visits : List Visit) (k : ℕ) → AreNumbered above (map visit_content visits) → k < length (numbers_of visits) → above < get_or (numbers_of visits) k 0
number_above above [] k are low = absurd (omega arith)
number_above above (v ∷ visits) zero are low = are.0
number_above above (v ∷ visits) (suc k) are low = let rest = number_above v.number visits k are.1 (omega arith) in omega (arith, rest, are.0)

rise_from : (above : ℕ) (visits : List Visit) → AreNumbered above (map visit_content visits) → AreRising (numbers_of visits)
rise_from above [] are i j less low = absurd (omega arith)
rise_from above (v ∷ visits) are i zero less low = absurd (omega arith)
rise_from above (v ∷ visits) are zero (suc j) less low = number_above v.number visits j are.1 (omega arith)
rise_from above (v ∷ visits) are (suc i) (suc j) less low = rise_from v.number visits are.1 i j (omega arith) (omega arith)

pub numbers_rise : (visits : List Visit) (numbers : List ℕ) → numbers ≡ numbers_of visits → AreNumbered 0 (map visit_content visits) → AreRising numbers
numbers_rise visits numbers is are = subst AreRising (sym is) (rise_from 0 visits are)

pub no_fall : (numbers : List ℕ) → AreRising numbers → (i j : ℕ) → i ≤ j → j < length numbers → get_or numbers i 0 ≤ get_or numbers j 0
no_fall numbers rising i j up low = elim (cases_order i j) [
  | inl same ↦ (let e : get_or numbers i 0 ≡ get_or numbers j 0 = ap (λ k. get_or numbers k 0) same in omega (arith, e))
  | inr o ↦ elim o [ inl less ↦ (let e = rising i j less low in omega (arith, e)) | inr more ↦ absurd (omega (arith, more, up)) ]
]

-- ---- the visit that a place names

module _ (visits : List VisitContent) (are : AreNumbered 0 visits) (place : Place) where
  pub one_named : (v w : VisitContent) → Names visits place v → Names visits place w → v ≡ w
  one_named v w is also =
      let at : slice_get visits is.listed.0 ≡ Some v = found_at visits v is.listed in
      let there : slice_get visits also.listed.0 ≡ Some w = found_at visits w also.listed in
      let same : is.listed.0 ≡ also.listed.0 = same_index 0 visits is.listed.0 also.listed.0 v w are at there (is.number ∙ sym also.number) in
      same_Some v w (sym at ∙ ap (slice_get visits) same ∙ there)

  pub names_at : (k : ℕ) (visit : VisitContent) → slice_get visits k ≡ Some visit → visit.number ≡ place.visit → is_open_visit place.container visit ≡ true → Names visits place visit
  names_at k visit at number open_ = record { listed = contained visits k visit at; number = number; is_open = open_ }

-- ==== Marked: Visits that are marked by the places that name them.

or_false : (a : Bool) → (a || false) ≡ a
or_false true = refl
or_false false = refl

-- the place names the number at k
abbrev pub names_number : List ℕ → ℕ → Place → Bool
names_number numbers k place = eqb place.visit (get_or numbers k 0)

one_more_place : (numbers : List ℕ) (places : List Place) (i : ℕ) (place : Place) (k : ℕ) → i < length places → place ≡ get_or places i place
    → list_any (names_number numbers k) (take (i + 1) places) ≡ (list_any (names_number numbers k) (take i places) || names_number numbers k place)
one_more_place numbers places i place k low at =
    list_any_more (names_number numbers k) places i place low ∙ ap (λ (p : Place). list_any (names_number numbers k) (take i places) || names_number numbers k p) (sym at)

-- a place whose number stands at j marks only that one
pub marked_more : (numbers : List ℕ) (marks : List Bool) (places : List Place) (i j : ℕ) (place : Place) → AreRising numbers → length marks ≡ length numbers → i < length places → place ≡ get_or places i place
    → j < length numbers → get_or numbers j 0 ≡ place.visit
    → ((k : ℕ) → k < length numbers → get_or marks k false ≡ list_any (names_number numbers k) (take i places))
    → (k : ℕ) → k < length numbers → get_or (set marks j true) k false ≡ list_any (names_number numbers k) (take (i + 1) places)
marked_more numbers marks places i j place rising long low at short is before k within =
    let more = one_more_place numbers places i place k low at in
    elim (cases_order k j) [
      | inl same ↦ (let here : get_or numbers k 0 ≡ get_or numbers j 0 = ap (λ m. get_or numbers m 0) same in
          let named : names_number numbers k place ≡ true = eq-eqb place.visit (get_or numbers k 0) (sym (here ∙ is)) in
          ap (λ m. get_or (set marks j true) m false) same ∙ get_or-set_same marks j true false (omega (arith, long, short))
          ∙ sym (more ∙ ap (λ v. list_any (names_number numbers k) (take i places) || v) named ∙ or-true (list_any (names_number numbers k) (take i places))))
      | inr apart ↦ (let unnamed : names_number numbers k place ≡ false = ne_eqb place.visit (get_or numbers k 0) (λ e. elim apart [
        | inl less ↦ (let up = rising k j less short in omega (arith, up, is, e))
        | inr above ↦ (let up = rising j k above within in omega (arith, up, is, e))
      ]) in
          get_or-set_other marks j k true false (λ e. elim apart [ inl less ↦ omega (arith, less, e) | inr above ↦ omega (arith, above, e) ]) ∙ before k within
          ∙ sym (more ∙ ap (λ v. list_any (names_number numbers k) (take i places) || v) unnamed ∙ or_false (list_any (names_number numbers k) (take i places))))
    ]

-- one whose number stands nowhere marks none
pub unmarked_more : (numbers : List ℕ) (marks : List Bool) (places : List Place) (i : ℕ) (place : Place) → i < length places → place ≡ get_or places i place
    → ((k : ℕ) → k < length numbers → get_or numbers k 0 ≡ place.visit → ⊥)
    → ((k : ℕ) → k < length numbers → get_or marks k false ≡ list_any (names_number numbers k) (take i places))
    → (k : ℕ) → k < length numbers → get_or marks k false ≡ list_any (names_number numbers k) (take (i + 1) places)
unmarked_more numbers marks places i place low at none before k within =
    let unnamed : names_number numbers k place ≡ false = ne_eqb place.visit (get_or numbers k 0) (λ e. none k within (sym e)) in
    before k within ∙ sym (one_more_place numbers places i place k low at ∙ ap (λ v. list_any (names_number numbers k) (take i places) || v) unnamed ∙ or_false (list_any (names_number numbers k) (take i places)))

module _ (visits : List Visit) (places : List Place) (marks : List Bool) (are : AreNumbered 0 (map visit_content visits))
    (told : (k : ℕ) → k < length (numbers_of visits) → get_or marks k false ≡ list_any (names_number (numbers_of visits) k) places) where
  pub named_where_marked : ((k : ℕ) (visit : Visit) → slice_get visits k ≡ Some visit → is_none visit.departure ≡ true → get_or marks k false ≡ true) → AreNamed (map visit_content visits) places
  named_where_marked marked visit inside open_ =
      let at : slice_get (map visit_content visits) inside.0 ≡ Some visit = found_at (map visit_content visits) visit inside in
      let row = row_at visits inside.0 visit at in
      let long : length (numbers_of visits) ≡ length visits = length-map visits (λ (v : Visit). v.number) in
      let low : inside.0 < length visits = slice_get_within visits inside.0 row.0 row.1 in
      let here : list_any (names_number (numbers_of visits) inside.0) places ≡ true = sym (told inside.0 (omega (arith, long, low))) ∙ marked inside.0 row.0 row.1 (ap (λ (v : VisitContent). is_none v.departure) row.2 ∙ open_) in
      let found = Any-from_list_any (names_number (numbers_of visits) inside.0) places here in
      let number : get_or (numbers_of visits) inside.0 0 ≡ visit.number = number_read visits inside.0 row.0 row.1 ∙ ap (λ (v : VisitContent). v.number) row.2 in
      (found.1, (found.0, found.2, found.3), eqb-true found.1.visit (get_or (numbers_of visits) inside.0 0) found.4 ∙ number)

  pub marked_where_named : AreNamed (map visit_content visits) places → (k : ℕ) (visit : Visit) → slice_get visits k ≡ Some visit → is_none visit.departure ≡ true → get_or marks k false ≡ true
  marked_where_named named k visit at open_ =
      let long : length (numbers_of visits) ≡ length visits = length-map visits (λ (v : Visit). v.number) in
      let low : k < length visits = slice_get_within visits k visit at in
      let place = named (visit_content visit) (contained (map visit_content visits) k (visit_content visit) (content_at visits k visit at)) open_ in
      let is : names_number (numbers_of visits) k place.0 ≡ true = eq-eqb place.0.visit (get_or (numbers_of visits) k 0) (place.2 ∙ sym (number_read visits k visit at)) in
      told k (omega (arith, long, low)) ∙ list_any-from_Any (names_number (numbers_of visits) k) places (place.1.0, place.0, place.1.1, place.1.2, is)
