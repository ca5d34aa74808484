-- Open visits among those that stand.
use Rattle.std.specs.{Prelude.{◌&&◌, ◌||◌, not, find, filter}, Ordering.{nat_cmp, eq_by_cmp}, Cmp.eq_by_cmp_equiv, Str.bytes_eq, Option.option_map}
use Rattle.std.{specs.Cmp.Lexicographic.{slice_cmp, nat_list_cmp_total, texts_ties}, proofs.{lemmas.Bool.and_parts, lemmas.Option.{same_Some, none-some}}}
use Rattle.std.proofs.Common.{◌≡◌, ◌≤◌, List, Bool, true, false, cond, Option, None, Some, is_some, refl, sym, ap, subst, ◌∙◌, arith, ℕ, ◌+◌, ◌<◌, [], ◌∷◌, ◌++◌, length, map, is_none, append_assoc}
use Rattle.std.proofs.lemmas.List.{map-append}
use Rattle.box6346.specs.{declared.slot.Slot.Slot, declared.box_number.BoxNumber.BoxNumber, SizeCode.length_of, declared.size_type.SizeType.SizeType}
use Rattle.box6346.specs.declared.size_type.Length.{Length}
use Rattle.yard_core.specs.{declared.plan.Block.Block, Decisions.{Refusal, misfit_of, yard_with, yard_with_first_fit}, FitsAndFree.{Stands, IsOpen}}
use Rattle.yard_core.specs.{Plan.{IsPlan, InPlan}, YardMap.{Box, Boxes, placement_if_any, placement_of, Covers, YardMap, placement, stowed}, Exact.IsYard}
use Rattle.yard_core.specs.{declared.placements.Placement.Placement, declared.placements.Stowed.Stowed, Calls.{Places, PlacesFirst, RefusesPlace, RefusesFirst}}
use Rattle.yard_core.{specs.declared.yard.YardFault.YardFault, proofs.Cells.{same_box, get-inserted, found_placed, block_at, covered_tier}}
use Rattle.yard_core.proofs.{Deciding.{Judges, misfit_judges}, Exact.{place_is_decided_lem, place_first_is_decided_lem}}
use Rattle.terminal_core.specs.{declared.visits.Departure.Departure, Rows.{VisitContent, visit_content, change_content, visit_opened, placed_at}}
use Rattle.terminal_core.specs.State.{is_open_visit, AreNumbered, last_from, TerminalState, is_in, open_visit, stowed_by, IsAsTold, IsWhole, last_number}
use Rattle.terminal_core.specs.{Step.{closed_visit, yard_with_entry_in, with_slot, opened_visit}, declared.change.Reason.Reason, Versions.newest}
use Rattle.terminal_core.specs.{Calls.{IsReasonFor, Settles, IsUnsettled}, declared.change.Change.Change, declared.change.Source.Source}
use Rattle.terminal_core.specs.{declared.visits.Visit.Visit, declared.visits.Way.Way}
use Rattle.edi_messages.specs.Orders.{EntryContent}
use Rattle.std.specs.FinMap as finite_map
use Rattle.terminal_core.specs.declared.change.Change.TheVariants as change

-- ==== Boxes: Which containers are in the yard, one more or less.

pub tied : (b q : Box) → eq_by_cmp (slice_cmp nat_cmp) q b ≡ bytes_eq b q
tied b q = sym (texts_ties b q ∙ (eq_by_cmp_equiv nat_list_cmp_total).symm b q)

pub same_bytes : (b q : Box) → bytes_eq b q ≡ true → q ≡ b
same_bytes b q e = same_box q b (tied b q ∙ e)

pub same_self : (b : Box) → bytes_eq b b ≡ true
same_self b = texts_ties b b ∙ (eq_by_cmp_equiv nat_list_cmp_total).refl b

pub bytes_turned : (a b : Box) → bytes_eq a b ≡ true → bytes_eq b a ≡ true
bytes_turned a b e = sym (tied b a) ∙ sym (texts_ties a b) ∙ e

there_or : (v : Bool) (s : Stowed) (o : Option Stowed) → is_some (cond v (Some s) o) ≡ (v || is_some o)
there_or true s o = refl
there_or false s o = refl

there_and : (v : Bool) (o : Option Stowed) → is_some (cond v None o) ≡ (is_some o && not v)
there_and true None = refl
there_and true (Some s) = refl
there_and false None = refl
there_and false (Some s) = refl

pub in_placed : (m : Boxes) (b q : Box) (s : Stowed) → is_some (finite_map.get (finite_map.insert m b s) q) ≡ (bytes_eq b q || is_some (finite_map.get m q))
in_placed m b q s =
    ap is_some (finite_map.get-insert nat_list_cmp_total m b s q ∙ ap (λ v. cond v (Some s) (finite_map.get m q)) (tied b q)) ∙ there_or (bytes_eq b q) s (finite_map.get m q)

pub in_removed : (m : Boxes) (b q : Box) → is_some (finite_map.get (finite_map.remove m b) q) ≡ (is_some (finite_map.get m q) && not (bytes_eq b q))
in_removed m b q =
    ap is_some (finite_map.get-remove nat_list_cmp_total m b q ∙ ap (λ v. cond v None (finite_map.get m q)) (tied b q)) ∙ there_and (bytes_eq b q) (finite_map.get m q)

pub in_placed_map : (m n : Boxes) (b q : Box) (s : Stowed) → n ≡ finite_map.insert m b s → finite_map.get n q ≡ cond (bytes_eq b q) (Some s) (finite_map.get m q)
in_placed_map m n b q s e = ap (λ (boxes : Boxes). finite_map.get boxes q) e ∙ finite_map.get-insert nat_list_cmp_total m b s q ∙ ap (λ v. cond v (Some s) (finite_map.get m q)) (tied b q)

pub in_removed_map : (m n : Boxes) (b q : Box) → n ≡ finite_map.remove m b → finite_map.get n q ≡ cond (bytes_eq b q) None (finite_map.get m q)
in_removed_map m n b q e = ap (λ (boxes : Boxes). finite_map.get boxes q) e ∙ finite_map.get-remove nat_list_cmp_total m b q ∙ ap (λ v. cond v None (finite_map.get m q)) (tied b q)

-- a container that is placed is there
pub there_placed : (m : Boxes) (b : Box) (s : Placement) → placement_of m b ≡ Some s → is_some (finite_map.get m b) ≡ true
there_placed m b s e = ap is_some (found_placed (finite_map.get m b) s e).1

-- a container stands in a slot of the plan
pub planned : (plan : List Block) (m : Boxes) (b : Box) (w : Stowed) → Stands plan m b w → InPlan plan w.placement.slot
planned plan m b w stands = stands.in_plan b w.placement (ap placement_if_any (get-inserted m b w))

above_ground : (plan : List Block) (s : Placement) → IsPlan plan → (cell : Slot) → InPlan plan s.slot → Covers s cell → 1 ≤ cell.tier
above_ground plan s valid cell inside covered =
    let high : 1 ≤ s.slot.tier = (block_at plan s.slot valid.sized inside).1.inside.4 in
    let same : cell.tier ≡ s.slot.tier = covered_tier s.length s.slot cell covered in
    omega arith

-- what is not refused is open, whether empty ones are spared or not
pub open_of : (is_wary : Bool) (plan : List Block) (m : Boxes) (s : Placement) → IsPlan plan → misfit_of is_wary plan m s ≡ None → IsOpen plan (placement_of m) s
open_of is_wary plan m s valid none =
    let P : Option Refusal → Type 0 = Judges is_wary plan m s in
    (subst P none (misfit_judges is_wary plan m s (above_ground plan s valid))).0

-- ==== Open: Open visits among those that stand.

-- ---- truth values

or_assoc : (a b c : Bool) → (a || (b || c)) ≡ ((a || b) || c)
or_assoc true b c = refl
or_assoc false b c = refl

or_false : (a : Bool) → (a || false) ≡ a
or_false true = refl
or_false false = refl

pub or_turned : (a b : Bool) → (a || b) ≡ (b || a)
or_turned true true = refl
or_turned true false = refl
or_turned false true = refl
or_turned false false = refl

pub and_true : (a : Bool) → (a && true) ≡ a
and_true true = refl
and_true false = refl

pub and_turned : (a b : Bool) → (a && b) ≡ (b && a)
and_turned true true = refl
and_turned true false = refl
and_turned false true = refl
and_turned false false = refl

or_and : (a b k : Bool) → ((a && k) || (b && k)) ≡ ((a || b) && k)
or_and true true true = refl
or_and true true false = refl
or_and true false true = refl
or_and true false false = refl
or_and false b k = refl

-- ---- tests of lists

some_or : {A : Type 0} (v : Bool) (x : A) (o : Option A) → is_some (cond v (Some x) o) ≡ (v || is_some o)
some_or true x o = refl
some_or false x o = refl

length_cond : {A : Type 0} (v : Bool) (x : A) (xs : List A) → length (cond v (x ∷ xs) xs) ≡ cond v 1 0 + length xs
length_cond true x xs = omega arith
length_cond false x xs = omega arith

pub find_one_more : {A : Type 0} (p : A → Bool) (xs : List A) (x : A) → is_some (find p (xs ++ x ∷ [])) ≡ (is_some (find p xs) || p x)
find_one_more p [] x = some_or (p x) x None ∙ or_false (p x)
find_one_more p (y ∷ xs) x =
    some_or (p y) y (find p (xs ++ x ∷ [])) ∙ ap (λ v. p y || v) (find_one_more p xs x) ∙ or_assoc (p y) (is_some (find p xs)) (p x)
    ∙ ap (λ v. v || p x) (sym (some_or (p y) y (find p xs)))

pub count_one_more : {A : Type 0} (p : A → Bool) (xs : List A) (x : A) → length (filter p (xs ++ x ∷ [])) ≡ length (filter p xs) + cond (p x) 1 0
count_one_more p [] x = let e : length (filter p (x ∷ [])) ≡ cond (p x) 1 0 + length (filter p []) = length_cond (p x) x [] in omega (arith, e)
count_one_more p (y ∷ xs) x =
    let a : length (filter p (y ∷ (xs ++ x ∷ []))) ≡ cond (p y) 1 0 + length (filter p (xs ++ x ∷ [])) = length_cond (p y) y (filter p (xs ++ x ∷ [])) in
    let b : length (filter p (xs ++ x ∷ [])) ≡ length (filter p xs) + cond (p x) 1 0 = count_one_more p xs x in
    let d : length (filter p (y ∷ xs)) ≡ cond (p y) 1 0 + length (filter p xs) = length_cond (p y) y (filter p xs) in
    omega arith

counted_none : (v : Bool) (n : ℕ) (o : Bool) → (v || o) ≡ false → (o ≡ false → n ≡ 0) → cond v 1 0 + n ≡ 0
counted_none true n o e h = cc
counted_none false n o e h = let z : n ≡ 0 = h e in omega arith

pub none_counted : {A : Type 0} (p : A → Bool) (xs : List A) → is_some (find p xs) ≡ false → length (filter p xs) ≡ 0
none_counted p [] e = refl
none_counted p (x ∷ xs) e =
    length_cond (p x) x (filter p xs) ∙ counted_none (p x) (length (filter p xs)) (is_some (find p xs)) (sym (some_or (p x) x (find p xs)) ∙ e) (none_counted p xs)

pub find_mapped : {A : Type 0} (p q : A → Bool) (f : A → A) (k : Bool) → ((x : A) → q (f x) ≡ (p x && k)) → (xs : List A) → is_some (find q (map f xs)) ≡ (is_some (find p xs) && k)
find_mapped p q f k h [] = refl
find_mapped p q f k h (x ∷ xs) =
    some_or (q (f x)) (f x) (find q (map f xs)) ∙ ap (λ v. v || is_some (find q (map f xs))) (h x) ∙ ap (λ v. (p x && k) || v) (find_mapped p q f k h xs)
    ∙ or_and (p x) (is_some (find p xs)) k ∙ ap (λ v. v && k) (sym (some_or (p x) x (find p xs)))

fewer : (v k : Bool) → cond (v && k) 1 0 ≤ cond v 1 0
fewer true true = omega arith
fewer true false = omega arith
fewer false k = omega arith

pub count_mapped : {A : Type 0} (p q : A → Bool) (f : A → A) (k : Bool) → ((x : A) → q (f x) ≡ (p x && k)) → (xs : List A) → length (filter q (map f xs)) ≤ length (filter p xs)
count_mapped p q f k h [] = omega arith
count_mapped p q f k h (x ∷ xs) =
    let a : length (filter q (map f (x ∷ xs))) ≡ cond (p x && k) 1 0 + length (filter q (map f xs)) =
    length_cond (q (f x)) (f x) (filter q (map f xs)) ∙ ap (λ v. cond v 1 0 + length (filter q (map f xs))) (h x) in
    let b : length (filter p (x ∷ xs)) ≡ cond (p x) 1 0 + length (filter p xs) = length_cond (p x) x (filter p xs) in
    let d : length (filter q (map f xs)) ≤ length (filter p xs) = count_mapped p q f k h xs in
    let g : cond (p x && k) 1 0 ≤ cond (p x) 1 0 = fewer (p x) k in
    omega arith

-- ---- one test more

pub find_last : {A : Type 0} (p : A → Bool) (xs : List A) (x : A) → p x ≡ false → find p (xs ++ x ∷ []) ≡ find p xs
find_last p [] x e = ap (λ v. cond v (Some x) None) e
find_last p (y ∷ xs) x e = ap (cond (p y) (Some y)) (find_last p xs x e)

past : {A : Type 0} (v : Bool) (y x : A) (o after : Option A) → is_some (cond v (Some y) o) ≡ false → (is_some o ≡ false → after ≡ Some x) → cond v (Some y) after ≡ Some x
past true y x o after e h = cc
past false y x o after e h = h e

pub find_new : {A : Type 0} (p : A → Bool) (xs : List A) (x : A) → p x ≡ true → is_some (find p xs) ≡ false → find p (xs ++ x ∷ []) ≡ Some x
find_new p [] x e none = ap (λ v. cond v (Some x) None) e
find_new p (y ∷ xs) x e none = past (p y) y x (find p xs) (find p (xs ++ x ∷ [])) none (find_new p xs x e)

-- ---- closing

shut : (e n : Bool) → (e && false) ≡ ((e && n) && not e)
shut true true = refl
shut true false = refl
shut false n = refl

unshut : (x : Bool) → x ≡ false → x ≡ (x && not true)
unshut x e = e ∙ sym (ap (λ v. v && not true) e)

closed_by : (departure : Departure) (b q : BoxNumber) (visit : VisitContent) (is : Bool) → is_open_visit b visit ≡ is
    → is_open_visit q (cond is (record visit { departure = Some departure }) visit) ≡ (is_open_visit q visit && not (bytes_eq b q))
closed_by departure b q visit true e =
    let same : visit.container ≡ b = same_bytes b visit.container (bytes_turned visit.container b (and_parts _ _ e).0) in
    ap (λ v. v && false) (ap (λ c. bytes_eq c q) same) ∙ shut (bytes_eq b q) (is_none visit.departure)
    ∙ ap (λ v. (v && is_none visit.departure) && not (bytes_eq b q)) (sym (ap (λ c. bytes_eq c q) same))
closed_by departure b q visit false e =
    elim (bytes_eq b q) as (λ v. bytes_eq b q ≡ v → is_open_visit q visit ≡ (is_open_visit q visit && not v)) [
      | true ↦ λ same. unshut (is_open_visit q visit) (ap (λ c. is_open_visit c visit) (same_bytes b q same) ∙ e)
      | false ↦ λ other. sym (and_true (is_open_visit q visit))
    ] refl

pub closed_open : (departure : Departure) (b q : BoxNumber) (visit : VisitContent) → is_open_visit q (closed_visit departure b visit) ≡ (is_open_visit q visit && not (bytes_eq b q))
closed_open departure b q visit = closed_by departure b q visit (is_open_visit b visit) refl

-- ---- numbers

pub numbered_one_more : (above : ℕ) (visits : List VisitContent) (visit : VisitContent) → AreNumbered above visits → last_from above visits < visit.number → AreNumbered above (visits ++ visit ∷ [])
numbered_one_more above [] visit are later = (later, tt)
numbered_one_more above (v ∷ visits) visit are later = (are.0, numbered_one_more v.number visits visit are.1 later)

pub last_pushed : (above : ℕ) (visits : List VisitContent) (v : VisitContent) → last_from above (visits ++ v ∷ []) ≡ v.number
last_pushed above [] v = refl
last_pushed above (w ∷ visits) v = last_pushed w.number visits v

-- the last is the highest
pub last_highest : (above : ℕ) (visits : List VisitContent) → AreNumbered above visits → above ≤ last_from above visits
last_highest above [] are = omega arith
last_highest above (v ∷ visits) are = let rest = last_highest v.number visits are.1 in omega (arith, are.0, rest)

pub no_more_than_last : (above : ℕ) (visits : List VisitContent) → AreNumbered above visits → length visits + above ≤ last_from above visits
no_more_than_last above [] are = omega arith
no_more_than_last above (v ∷ visits) are =
    let rest = no_more_than_last v.number visits are.1 in
    let more : length (v ∷ visits) ≡ length visits + 1 = omega arith in
    omega (arith, are.0, rest, more)

pub kept_number : (departure : Departure) (visit : VisitContent) (is : Bool) → (cond is (record visit { departure = Some departure }) visit).number ≡ visit.number
kept_number departure visit true = refl
kept_number departure visit false = refl

pub numbered_closed : (departure : Departure) (b : BoxNumber) (above : ℕ) (visits : List VisitContent) → AreNumbered above visits → AreNumbered above (map (closed_visit departure b) visits)
numbered_closed departure b above [] are = tt
numbered_closed departure b above (v ∷ visits) are =
    let same : (closed_visit departure b v).number ≡ v.number = kept_number departure v (is_open_visit b v) in
    (omega (arith, same, are.0), subst (λ n. AreNumbered n (map (closed_visit departure b) visits)) (sym same) (numbered_closed departure b v.number visits are.1))

pub last_closed : (departure : Departure) (b : BoxNumber) (above : ℕ) (visits : List VisitContent) → last_from above (map (closed_visit departure b) visits) ≡ last_from above visits
last_closed departure b above [] = refl
last_closed departure b above (v ∷ visits) = ap (λ n. last_from n (map (closed_visit departure b) visits)) (kept_number departure v (is_open_visit b v)) ∙ last_closed departure b v.number visits

-- ==== Told: Containers in the yard stand as their open visits tell: in their length, and full or empty.

-- it stands as the visit tells
abbrev Told : VisitContent → Stowed → Type 0
Told visit w = w ≡ stowed_by visit w.placement.slot

-- ---- coming

entered_case : (state : TerminalState) (visit v : VisitContent) (w t : Stowed) (q : BoxNumber) (is : Bool) → IsWhole state → finite_map.get state.yard.boxes visit.container ≡ None → visit.departure ≡ None
    → Told visit w → bytes_eq visit.container q ≡ is → cond is (Some w) (finite_map.get state.yard.boxes q) ≡ Some t → find (is_open_visit q) (state.visits ++ visit ∷ []) ≡ Some v
    → Told v t
entered_case state visit v w t q true whole absent still told e at open_ =
    let none : is_some (open_visit state q) ≡ false = sym (whole.here q) ∙ ap (is_in state) (same_bytes visit.container q e) ∙ ap is_some absent in
    let its : is_open_visit q visit ≡ true = ap (λ d. bytes_eq visit.container q && is_none d) still ∙ and_true _ ∙ e in
    let visit_is : visit ≡ v = same_Some visit v (sym (find_new (is_open_visit q) state.visits visit its none) ∙ open_) in
    let P : Stowed → Type 0 = Told visit in
    subst P (same_Some w t at) told ∙ ap (λ (u : VisitContent). stowed_by u t.placement.slot) visit_is
entered_case state visit v w t q false whole absent still told e at open_ =
    let shut : is_open_visit q visit ≡ false = ap (λ d. bytes_eq visit.container q && is_none d) still ∙ and_true _ ∙ e in
    whole.as_told q t v at (sym (find_last (is_open_visit q) state.visits visit shut) ∙ open_)

pub told_entered : (state : TerminalState) (y : YardMap) (visit : VisitContent) (w : Stowed) → IsWhole state → finite_map.get state.yard.boxes visit.container ≡ None → y.boxes ≡ finite_map.insert state.yard.boxes visit.container w
    → visit.departure ≡ None → w ≡ stowed_by visit w.placement.slot → (q : BoxNumber) → IsAsTold (record state { yard = y; visits = state.visits ++ visit ∷ [] }) q
told_entered state y visit w whole absent boxes still told q t v at open_ =
    entered_case state visit v w t q (bytes_eq visit.container q) whole absent still told refl (sym (in_placed_map state.yard.boxes y.boxes visit.container q w boxes) ∙ at) open_

-- ---- going

-- what a visit tells of how its container stands
abbrev telling : VisitContent → SizeType × Bool
telling visit = (visit.size_type, visit.is_laden)

abbrev stowed_as : SizeType × Bool → Slot → Stowed
stowed_as said slot = stowed (placement (length_of said.0) slot) said.1

kept_telling : (departure : Departure) (visit : VisitContent) (is : Bool) → telling (cond is (record visit { departure = Some departure }) visit) ≡ telling visit
kept_telling departure visit true = refl
kept_telling departure visit false = refl

either_telling : (p k : Bool) (u v : VisitContent) (o a : Option VisitContent) → p ≡ k → telling u ≡ telling v → option_map telling o ≡ option_map telling a
    → option_map telling (cond p (Some u) o) ≡ option_map telling (cond k (Some v) a)
either_telling true true u v o a e same_ rest = ap Some same_
either_telling true false u v o a e same_ rest = cc
either_telling false true u v o a e same_ rest = cc
either_telling false false u v o a e same_ rest = rest

-- another container's open visit stays
other_telling : (departure : Departure) (b q : BoxNumber) (visits : List VisitContent) → bytes_eq b q ≡ false
    → option_map telling (find (is_open_visit q) (map (closed_visit departure b) visits)) ≡ option_map telling (find (is_open_visit q) visits)
other_telling departure b q [] e = refl
other_telling departure b q (v ∷ visits) e =
    either_telling (is_open_visit q (closed_visit departure b v)) (is_open_visit q v) (closed_visit departure b v) v (find (is_open_visit q) (map (closed_visit departure b) visits)) (find (is_open_visit q) visits)
    (closed_open departure b q v ∙ ap (λ t. is_open_visit q v && not t) e ∙ and_true _) (kept_telling departure v (is_open_visit b v)) (other_telling departure b q visits e)

said_by : (o : Option VisitContent) (said : SizeType × Bool) → Some said ≡ option_map telling o → (v : VisitContent) × (o ≡ Some v) × (said ≡ telling v)
said_by None said e = absurd (cc)
said_by (Some v) said e = (v, refl, same_Some said (telling v) e)

departed_case : (state : TerminalState) (departure : Departure) (b q : BoxNumber) (t : Stowed) (w : VisitContent) (is : Bool) → IsWhole state → bytes_eq b q ≡ is
    → cond is None (finite_map.get state.yard.boxes q) ≡ Some t → find (is_open_visit q) (map (closed_visit departure b) state.visits) ≡ Some w → Told w t
departed_case state departure b q t w true whole e at open_ = absurd (none-some t at)
departed_case state departure b q t w false whole e at open_ =
    let v = said_by (open_visit state q) (telling w) (ap (option_map telling) (sym open_) ∙ other_telling departure b q state.visits e) in
    whole.as_told q t v.0 at v.1 ∙ ap (λ said. stowed_as said t.placement.slot) (sym v.2)

pub told_departed : (state : TerminalState) (y : YardMap) (b : BoxNumber) (departure : Departure) → IsWhole state → y.boxes ≡ finite_map.remove state.yard.boxes b
    → (q : BoxNumber) → IsAsTold (record state { yard = y; visits = map (closed_visit departure b) state.visits }) q
told_departed state y b departure whole boxes q t w at open_ =
    departed_case state departure b q t w (bytes_eq b q) whole refl (sym (in_removed_map state.yard.boxes y.boxes b q boxes) ∙ at) open_

-- ---- moving

-- the same in another slot
abbrev pub moved_as : Stowed → Slot → Stowed
moved_as w slot = stowed (placement w.placement.length slot) w.is_laden

moved_case : (state : TerminalState) (b q : BoxNumber) (w t : Stowed) (slot : Slot) (visit : VisitContent) (is : Bool) → IsWhole state → finite_map.get state.yard.boxes b ≡ Some w → bytes_eq b q ≡ is
    → cond is (Some (moved_as w slot)) (finite_map.get state.yard.boxes q) ≡ Some t → open_visit state q ≡ Some visit → Told visit t
moved_case state b q w t slot visit true whole stood e at open_ =
    let stays : Told visit w = whole.as_told q w visit (ap (finite_map.get state.yard.boxes) (same_bytes b q e) ∙ stood) open_ in
    let moved : Told visit (moved_as w slot) = ap (λ (u : Stowed). moved_as u slot) stays in
    let P : Stowed → Type 0 = Told visit in
    subst P (same_Some (moved_as w slot) t at) moved
moved_case state b q w t slot visit false whole stood e at open_ = whole.as_told q t visit at open_

pub told_moved : (state : TerminalState) (y : YardMap) (b : BoxNumber) (slot : Slot) (w : Stowed) → IsWhole state → finite_map.get state.yard.boxes b ≡ Some w
    → y.boxes ≡ finite_map.insert state.yard.boxes b (moved_as w slot) → (q : BoxNumber) → IsAsTold (record state { yard = y }) q
told_moved state y b slot w whole stood boxes q t visit at open_ =
    moved_case state b q w t slot visit (bytes_eq b q) whole stood refl (sym (in_placed_map state.yard.boxes y.boxes b q (moved_as w slot) boxes) ∙ at) open_

-- ==== Settled: The yard's calls as what an order decides.

pub settled_there : (y new : YardMap) (entry : EntryContent) (length : Length) (slot : Slot) → IsYard y → length ≡ length_of entry.size_type → entry.slot ≡ Some slot
    → Places y new entry.number (stowed (placement length slot) entry.is_laden) → Settles y new entry slot
settled_there y new entry length slot yard long named places = record {
  settled = ap (yard_with_entry_in newest y entry) named ∙ ap (λ l. with_slot slot (yard_with true y entry.number l entry.is_laden slot)) (sym long) ∙ ap (with_slot slot) ((place_is_decided_lem y entry.number length entry.is_laden slot yard).0 new places);
  places = let P : Length → Type 0 = λ l. Places y new entry.number (stowed (placement l slot) entry.is_laden) in subst P long places;
}

pub unsettled_there : (y : YardMap) (entry : EntryContent) (length : Length) (slot : Slot) (f : YardFault) (reason : Reason) → IsYard y → length ≡ length_of entry.size_type → entry.slot ≡ Some slot
    → RefusesPlace y entry.number (stowed (placement length slot) entry.is_laden) f → IsReasonFor f reason → IsUnsettled y entry reason
unsettled_there y entry length slot f reason yard long named refuses is = record {
  refusal = is.refusal;
  settled = ap (yard_with_entry_in newest y entry) named ∙ ap (λ l. with_slot slot (yard_with true y entry.number l entry.is_laden slot)) (sym long) ∙ ap (with_slot slot) ((place_is_decided_lem y entry.number length entry.is_laden slot yard).1 is.refusal (let P : YardFault → Type 0 = RefusesPlace y entry.number (stowed (placement length slot) entry.is_laden) in subst P is.fault_is refuses));
  reason = is.reason_is;
}

pub settled_first : (y new : YardMap) (entry : EntryContent) (length : Length) (slot : Slot) → IsYard y → length ≡ length_of entry.size_type → entry.slot ≡ None
    → PlacesFirst y new entry.number length entry.is_laden slot → Settles y new entry slot
settled_first y new entry length slot yard long named first = record {
  settled = ap (yard_with_entry_in newest y entry) named ∙ ap (λ l. yard_with_first_fit true y entry.number l entry.is_laden) (sym long) ∙ (place_first_is_decided_lem y entry.number length entry.is_laden yard).0 new slot first;
  places = let P : Length → Type 0 = λ l. Places y new entry.number (stowed (placement l slot) entry.is_laden) in subst P long first.places;
}

pub unsettled_first : (y : YardMap) (entry : EntryContent) (length : Length) (f : YardFault) (reason : Reason) → IsYard y → length ≡ length_of entry.size_type → entry.slot ≡ None
    → RefusesFirst y entry.number length entry.is_laden f → IsReasonFor f reason → IsUnsettled y entry reason
unsettled_first y entry length f reason yard long named refuses is = record {
  refusal = is.refusal;
  settled = ap (yard_with_entry_in newest y entry) named ∙ ap (λ l. yard_with_first_fit true y entry.number l entry.is_laden) (sym long) ∙ (place_first_is_decided_lem y entry.number length entry.is_laden yard).1 is.refusal (let P : YardFault → Type 0 = RefusesFirst y entry.number length entry.is_laden in subst P is.fault_is refuses);
  reason = is.reason_is;
}

-- ==== Appended: Rows that were appended.

pub one_more : {A B : Type 0} (f : A → B) (xs ys : List A) (a : A) (u : B) → ys ≡ xs ++ a ∷ [] → f a ≡ u → map f ys ≡ map f xs ++ u ∷ []
one_more f xs ys a u e is = ap (map f) e ∙ map-append f xs (a ∷ []) ∙ ap (λ v. map f xs ++ v ∷ []) is

pub two_more : {A B : Type 0} (f : A → B) (xs ys zs : List A) (a b : A) (u v : B) → ys ≡ xs ++ a ∷ [] → zs ≡ ys ++ b ∷ [] → f a ≡ u → f b ≡ v → map f zs ≡ map f xs ++ u ∷ v ∷ []
two_more f xs ys zs a b u v e g is also =
    one_more f ys zs b v g also ∙ ap (λ l. l ++ v ∷ []) (one_more f xs ys a u e is) ∙ append_assoc (map f xs) (u ∷ []) (v ∷ [])

pub visits_after : (old kept new : List VisitContent) (row : VisitContent) (way : Way) (source : Source) (entry : EntryContent) (slot : Slot) (number : ℕ) → kept ≡ old → new ≡ kept ++ row ∷ []
    → row ≡ opened_visit number way source entry slot → number ≡ last_number old + 1 → new ≡ old ++ opened_visit (last_number old + 1) way source entry slot ∷ []
visits_after old kept new row way source entry slot number e f is n =
    f ∙ ap (λ (l : List VisitContent). l ++ row ∷ []) e ∙ ap (λ (v : VisitContent). old ++ v ∷ []) (is ∙ ap (λ k. opened_visit k way source entry slot) n)

pub changes_after : (visits : List VisitContent) (old mid new : List Change) (row : Visit) (way : Way) (source : Source) (entry : EntryContent) (slot : Slot) (number : ℕ)
    → mid ≡ old ++ change.VisitOpened row ∷ [] → new ≡ mid ++ change.Placed entry.number number slot ∷ []
    → visit_content row ≡ opened_visit number way source entry slot → number ≡ last_number visits + 1
    → map change_content new ≡ map change_content old ++ visit_opened (opened_visit (last_number visits + 1) way source entry slot) ∷ placed_at entry.number (last_number visits + 1) slot ∷ []
changes_after visits old mid new row way source entry slot number e f is n =
    two_more change_content old mid new (change.VisitOpened row) (change.Placed entry.number number slot) _ _ e f
    (ap visit_opened (is ∙ ap (λ k. opened_visit k way source entry slot) n)) (ap (λ k. placed_at entry.number k slot) n)

-- fewer than the limit
pub room : (count : ℕ) (visits : List VisitContent) (limit : ℕ) → count ≡ last_number visits → count < limit → last_number visits < limit
room count visits limit is few = omega arith
