-- The least heights of the blocks' columns, and that no slot below them is open.
use Rattle.std.{specs.{Option.{IsSomeAnd, option_map}, Char.is_ascii_uppercase, Prelude.{find, flat_map}, List.range_with_len}, proofs.Math.Nat.eq-or-lt_of_le}
use Rattle.std.proofs.Common.{◌≡◌, ◌≢◌, ◌⊎◌, inl, inr, ℕ, ◌+◌, ◌-◌, ◌*◌, ◌/◌, ◌<◌, ◌≤◌, ◌==◌, ◌&&◌, true, List, [], ◌∷◌, ◌++◌, length, take, drop, map, replicate, refl, sym, ap, subst, ◌∙◌, Option, Some, None, arith, slice_get, get_or, set, get_or-set_same, get_or-set_other, All, Bool, false, not, IsTrue, zero, suc, cond}
use Rattle.std.proofs.{lemmas.Bool.Decides.{nat_tests, eqb_tells}, lemmas.List.Elements.{All-from_get_or, All-get_or, All-map, All-set}}
use Rattle.std.proofs.lemmas.List.{length-append, get_or-take, get_or-drop, length-take-le, length-drop, length-replicate, length-map, length-set}
use Rattle.std.proofs.{lemmas.Option.{get_or_from_slice_get, slice_get_within, slice_get_read, slice_get-map, none-some, same_Some}, lemmas.List.Folds.find_at}
use Rattle.std.proofs.lemmas.List.Sums.{position_or_len_is, prefix_len_passes, prefix_len_stops, prefix_len-le-length}
use Rattle.std.proofs.lemmas.Bool.{eq-eqb, eqb-true, cases_Bool}
use Rattle.box6346.specs.{declared.size_type.Length.Length, declared.size_type.Length.TheVariants.{Twenty, Forty}, declared.slot.Slot.Slot}
use Rattle.yard_core.specs.{declared.plan.Block.Block, declared.columns.LeastHeight.LeastHeight, declared.placements.Placement.Placement, FitsAndFree.IsOpen}
use Rattle.yard_core.specs.{Plan.{block_of, InBlock, IsSized, AreLettered, AreApart}, YardMap.{Box, placement}, Search.IsInBlock, FirstFit.IsBefore}
use Rattle.yard_core.specs.{Columns.{column_at, column_of, near_of, first_cell, IsKept}, LeastHeights.{AreAtLeast, AreLeastHeights, ground_height}}
use Rattle.yard_core.{specs.Decisions.{slot_at, slots_in_bay, slots_in_block, slots_in_tier, every_slot}, proofs.Decides.IsReady-open}
use Rattle.yard_core.proofs.Cells.{place, bounds, column_below, first_in_column, first_in_plan}

on_ground : (plan : List Block) (position : ℕ) (h : LeastHeight) → slice_get (map ground_height plan) position ≡ Some h → h.height ≡ 0
on_ground plan position h here =
    elim (slice_get plan position) as (λ o. option_map ground_height o ≡ Some h → h.height ≡ 0) [
      | None ↦ λ e. absurd (none-some h e)
      | Some b ↦ λ e. sym (ap (λ (x : LeastHeight). x.height) (same_Some (ground_height b) h e))
    ] (sym (slice_get-map ground_height plan position) ∙ here)

-- no column is below the ground
pub AreLeastHeights-none : (plan : List Block) (columns : List (List Box)) (heights : List LeastHeight) → columns ≡ replicate (480 * length plan) [] → heights ≡ map ground_height plan → All IsSized plan → AreLeastHeights columns heights
AreLeastHeights-none plan columns heights made least sized = record {
  long = ap length made ∙ length-replicate (480 * length plan) [] ∙ ap (λ n. 480 * n) (sym (ap length least ∙ length-map plan ground_height));
  sized = subst (All (λ (h : LeastHeight). IsSized h.block)) (sym least) (All-map (λ (h : LeastHeight). IsSized h.block) ground_height plan sized);
  least = λ position h here bay row b r.
      let ground = on_ground plan position h (ap (λ (hs : List LeastHeight). slice_get hs position) (sym least) ∙ here) in omega (arith, ground);
}

same_or_apart : (a b : ℕ) → (a ≡ b) ⊎ (a ≢ b)
same_or_apart a b = grind arith

-- how high a column is once one of them is written
written : (columns : List (List Box)) (column : ℕ) (boxes : List Box) (i : ℕ) → column < length columns
    → (length (column_at (set columns column boxes) i) ≡ length (column_at columns i)) ⊎ ((i ≡ column) × (length (column_at (set columns column boxes) i) ≡ length boxes))
written columns column boxes i within = elim (same_or_apart i column) [
  | inl same ↦ inr (same, ap length (ap (column_at (set columns column boxes)) same ∙ get_or-set_same columns column boxes [] within))
  | inr apart ↦ inl (ap length (get_or-set_other columns column i boxes [] apart))
]

-- a column higher leaves the least heights
AreLeastHeights-higher : (columns : List (List Box)) (heights : List LeastHeight) (column : ℕ) (boxes : List Box) → column < length columns → length (column_at columns column) ≤ length boxes → AreLeastHeights columns heights → AreLeastHeights (set columns column boxes) heights
AreLeastHeights-higher columns heights column boxes within high are = record {
  long = length-set columns column boxes ∙ are.long;
  sized = are.sized;
  least = λ position h here bay row b r.
      let old = are.least position h here bay row b r in
      elim (written columns column boxes (480 * position + 12 * bay + row) within) [
        | inl same ↦ omega (arith, old, same)
        | inr (is, new) ↦ (let was = ap (λ i. length (column_at columns i)) is in omega (arith, old, new, was, high))
      ];
}

-- so does a box more on a column
pub AreLeastHeights-grown : (columns : List (List Box)) (heights : List LeastHeight) (column : ℕ) (boxes more : List Box) (b : Box) → column < length columns → boxes ≡ get_or columns column boxes → more ≡ boxes ++ b ∷ [] → AreLeastHeights columns heights
    → AreLeastHeights (set columns column more) heights
AreLeastHeights-grown columns heights column boxes more b within here grown are =
    let same = ap length (get_or_from_slice_get columns column boxes [] (slice_get_read columns (length columns) column boxes refl within here)) in
    let long = ap length grown ∙ length-append boxes (b ∷ []) in
    AreLeastHeights-higher columns heights column more within (omega (arith, same, long)) are

-- where none of a block's columns is below another height, that may be its least
pub AreLeastHeights-set : (columns : List (List Box)) (heights : List LeastHeight) (position height : ℕ) (h : LeastHeight) → position < length heights → h ≡ get_or heights position h → AreAtLeast columns (480 * position) h.block height → AreLeastHeights columns heights
    → AreLeastHeights columns (set heights position (record h { height = height }))
AreLeastHeights-set columns heights position height h within here high are =
    let g : LeastHeight = record h { height = height } in
    record {
      long = are.long ∙ ap (λ n. 480 * n) (sym (length-set heights position g));
      sized = All-set (λ (x : LeastHeight). IsSized x.block) heights position g (subst (λ (x : LeastHeight). IsSized x.block) (sym here) (are.sized position h within)) are.sized;
      least = λ k l there. elim (same_or_apart k position) [
        | inl is ↦ (let e : l ≡ g = sym (get_or_from_slice_get (set heights position g) k l g there) ∙ ap (λ n. get_or (set heights position g) n g) is ∙ get_or-set_same heights position g g within in
            subst (λ n. AreAtLeast columns (480 * n) l.block l.height) (sym is) (subst (λ (x : LeastHeight). AreAtLeast columns (480 * position) x.block x.height) (sym e) high))
        | inr apart ↦ are.least k l (slice_get_read heights (length heights) k l refl (let low = slice_get_within (set heights position g) k l there in let long = length-set heights position g in omega (arith, low, long))
            (sym (get_or_from_slice_get (set heights position g) k l l there) ∙ get_or-set_other heights position k g l apart))
      ];
    }

-- the block of a column
pub block_of_column : (columns : List (List Box)) (heights : List LeastHeight) (column : ℕ) → AreLeastHeights columns heights → column < length columns → column / 480 < length heights
block_of_column columns heights column are within = let long = are.long in omega (arith, long)

its_block : (position bay row column : ℕ) → column ≡ 480 * position + 12 * bay + row → bay < 40 → row < 12 → column / 480 ≡ position
its_block position bay row column is b r = omega arith

-- a column that is no lower than the least height of its block leaves the least heights
pub AreLeastHeights-lower : (columns : List (List Box)) (heights : List LeastHeight) (column : ℕ) (boxes : List Box) (h : LeastHeight) → column < length columns → h ≡ get_or heights (column / 480) h → h.height ≤ length boxes → AreLeastHeights columns heights → AreLeastHeights (set columns column boxes) heights
AreLeastHeights-lower columns heights column boxes h within here low are = record {
  long = length-set columns column boxes ∙ are.long;
  sized = are.sized;
  least = λ position l there bay row b r.
      let old = are.least position l there bay row b r in
      let sized : IsSized l.block = subst (λ (x : LeastHeight). IsSized x.block) (get_or_from_slice_get heights position l l there) (are.sized position l (slice_get_within heights position l there)) in
      elim (written columns column boxes (480 * position + 12 * bay + row) within) [
        | inl same ↦ omega (arith, old, same)
        | inr (is, new) ↦ (let place_is : column / 480 ≡ position = its_block position bay row column (sym is) (omega (arith, b, sized.1)) (omega (arith, r, sized.3)) in
            let same : l ≡ h = sym (get_or_from_slice_get heights position l h there) ∙ ap (λ n. get_or heights n h) (sym place_is) ∙ sym here in
            let heights_same = ap (λ (x : LeastHeight). x.height) same in omega (arith, heights_same, low, new))
      ];
}

-- a lower column, and its block's least height with it
pub AreLeastHeights-fallen : (columns : List (List Box)) (heights : List LeastHeight) (column : ℕ) (boxes : List Box) (height : ℕ) (h : LeastHeight) → column < length columns → h ≡ get_or heights (column / 480) h → height < h.height → height ≡ length boxes → AreLeastHeights columns heights
    → AreLeastHeights (set columns column boxes) (set heights (column / 480) (record h { height = height }))
AreLeastHeights-fallen columns heights column boxes height h within here less told are =
    let g : LeastHeight = record h { height = height } in
    let position = block_of_column columns heights column are within in
    let old = are.least (column / 480) h (slice_get_read heights (length heights) (column / 480) h refl position here) in
    AreLeastHeights-lower columns (set heights (column / 480) g) column boxes g within (sym (get_or-set_same heights (column / 480) g g position)) (omega (arith, told))
    (AreLeastHeights-set columns heights (column / 480) height h position here (λ bay row b r. (let high = old bay row b r in omega (arith, less, high))) are)

same_size : (a b : Block) → true ≡ ((a.letter == b.letter) && ((a.bays == b.bays) && ((a.rows == b.rows) && (a.tiers == b.tiers)))) → (a.bays ≡ b.bays) × (a.rows ≡ b.rows)
same_size a b e = grind (arith, nat_tests)

-- what a block's least height says of the same block
pub at_least : (columns : List (List Box)) (heights : List LeastHeight) (position height : ℕ) (block : Block) (h : LeastHeight) → position < length heights → h ≡ get_or heights position h
    → true ≡ ((h.block.letter == block.letter) && ((h.block.bays == block.bays) && ((h.block.rows == block.rows) && (h.block.tiers == block.tiers)))) → height ≤ h.height → AreLeastHeights columns heights → AreAtLeast columns (480 * position) block height
at_least columns heights position height block h within here same low have bay row b r =
    let size = same_size h.block block same in
    let old = have.least position h (slice_get_read heights (length heights) position h refl within here) bay row (omega (arith, b, size.0)) (omega (arith, r, size.1)) in
    omega (arith, old, low)

-- a column among some that are all higher
pub higher_among : (columns : List (List Box)) (start count height i : ℕ) → start + count ≤ length columns → All (λ (boxes : List Box). height < length boxes) (take (start + count - start) (drop start columns)) → start ≤ i → i < start + count
    → height + 1 ≤ length (column_at columns i)
higher_among columns start count height i within all low high =
    let n = start + count - start in
    let k = i - start in
    let here : k < n = omega arith in
    let long : length (take n (drop start columns)) ≡ n = length-take-le n (drop start columns) (let rest = length-drop start columns in omega (arith, rest)) in
    let there : start + k ≡ i = omega arith in
    let same : get_or (take n (drop start columns)) k [] ≡ column_at columns i = get_or-take n (drop start columns) k [] here ∙ get_or-drop start columns k [] ∙ ap (column_at columns) there in
    let higher : height < length (get_or (take n (drop start columns)) k []) = All-get_or (λ (boxes : List Box). height < length boxes) (take n (drop start columns)) k [] (omega (arith, long, here)) all in
    let lengths = ap length same in omega (arith, higher, lengths)

-- all of them are higher, if each is
pub all_higher : (columns : List (List Box)) (start count height : ℕ) → start + count ≤ length columns → ((row : ℕ) → row < count → height + 1 ≤ length (column_at columns (start + row)))
    → All (λ (boxes : List Box). height < length boxes) (take (start + count - start) (drop start columns))
all_higher columns start count height within each =
    let n = start + count - start in
    let long : length (take n (drop start columns)) ≡ n = length-take-le n (drop start columns) (let rest = length-drop start columns in omega (arith, rest)) in
    All-from_get_or (λ (boxes : List Box). height < length boxes) (take n (drop start columns)) []
    (λ row low.
    let here : row < n = omega (arith, long, low) in
    let same = ap length (get_or-take n (drop start columns) row [] here ∙ get_or-drop start columns row []) in
    let higher = each row (omega (arith, here)) in
    omega (arith, same, higher))

first_letter : (size : Length) (slot : Slot) → (first_cell size slot).block ≡ slot.block
first_letter Twenty slot = refl
first_letter Forty slot = refl

-- in a block whose columns are all as high as a tier, no slot of the tier is open
pub none_open : (plan : List Block) (columns : List (List Box)) (at : Box → Option Placement) → IsKept plan columns at → (block : Block) (corner : Slot) → block_of plan corner.block ≡ Some block
    → AreAtLeast columns (480 * place plan corner.block) block corner.tier → (size : Length) (slot : Slot) → IsInBlock corner slot → ¬ IsOpen plan at (placement size slot)
none_open plan columns at kept block corner here high size slot (tier, letter) open_ =
    let cell = first_cell size slot in
    let same : cell.block ≡ corner.block = first_letter size slot ∙ letter in
    let inside : InBlock cell block = subst (λ o. IsSomeAnd o (InBlock cell)) (ap (block_of plan) same ∙ here) (first_in_plan plan size slot open_.in_plan open_.of_kind) in
    let ready = (IsReady-open plan columns at kept (placement size slot) open_.in_plan open_.of_kind open_).near in
    let column : column_of plan cell ≡ 480 * place plan corner.block + 12 * (cell.bay / 2) + (cell.row - 1) = ap (λ letter. 480 * place plan letter + 12 * (cell.bay / 2) + (cell.row - 1)) same in
    let over : corner.tier ≤ length (column_at columns (column_of plan cell)) =
    subst (λ i. corner.tier ≤ length (column_at columns i)) (sym column) (high (cell.bay / 2) (cell.row - 1) (omega (arith, inside.1)) (omega (arith, inside.2, inside.3))) in
    let low = (bounds plan slot kept.valid.sized open_.in_plan).tier_low in
    omega (arith, over, ready, tier, low)

-- a slot that is open stands right on its first column
pub open_ends : (plan : List Block) (columns : List (List Box)) (at : Box → Option Placement) → IsKept plan columns at → (s : Placement) → IsOpen plan at s
    → (near_of plan s < length columns) × (length (column_at columns (near_of plan s)) + 1 ≡ s.slot.tier)
open_ends plan columns at kept s open_ =
    let ready = (IsReady-open plan columns at kept s open_.in_plan open_.of_kind open_).near in
    let below = column_below plan (first_cell s.length s.slot) kept.valid.sized (first_in_column plan s.length s.slot kept.valid.sized open_.in_plan open_.of_kind) in
    let low = (bounds plan s.slot kept.valid.sized open_.in_plan).tier_low in
    (omega (arith, below, kept.long), omega (arith, ready, low))

-- ==== PlanLemmas: Where a block of a letter stands in a plan.

other_letter : (a b : ℕ) → ¬ (a ≡ b) → (a == b) ≡ false
other_letter a b apart = elim (eqb_tells a b) [ inl h ↦ absurd (apart h.1) | inr h ↦ h.0 ]

pub not_true : (v : Bool) → v ≡ false → IsTrue v → ⊥
not_true true e h = cc
not_true false e h = cc

-- what is no capital is no block's letter
pub place-missing : (plan : List Block) (letter : ℕ) → AreLettered plan → is_ascii_uppercase letter ≡ false → place plan letter ≡ length plan
place-missing plan letter lettered small =
    position_or_len_is (λ (b : Block). b.letter == letter) plan (length plan) (record { letter = 0; bays = 0; rows = 0; tiers = 0 }) (omega arith)
    (λ k h. other_letter _ letter (λ e. not_true (is_ascii_uppercase letter) small (subst (λ n. IsTrue (is_ascii_uppercase n)) e (lettered k _ h))))
    (λ h. absurd (omega arith))

pub place-le : (plan : List Block) (letter : ℕ) → place plan letter ≤ length plan
place-le plan letter = prefix_len-le-length (λ (b : Block). not (b.letter == letter)) plan

-- no block of the letter stands before its place
pub place-least : (plan : List Block) (letter j : ℕ) (b : Block) → slice_get plan j ≡ Some b → b.letter ≡ letter → place plan letter ≤ j
place-least plan letter j b there same = elim (cases j (place plan letter)) [
  | inl before ↦ (let p : not (b.letter == letter) ≡ true = subst (λ (x : Block). not (x.letter == letter) ≡ true) (get_or_from_slice_get plan j b b there) (prefix_len_passes (λ (x : Block). not (x.letter == letter)) plan j b before) in
      let q : (b.letter == letter) ≡ true = eq-eqb b.letter letter same in absurd (clash (b.letter == letter) q p))
  | inr h ↦ h
] where
  cases : (a n : ℕ) → (a < n) ⊎ (n ≤ a)
  cases a n = grind arith

  clash : (v : Bool) → v ≡ true → not v ≡ true → ⊥
  clash true e f = cc
  clash false e f = cc

pub place-has : (plan : List Block) (letter : ℕ) (d : Block) → place plan letter < length plan → (get_or plan (place plan letter) d).letter ≡ letter
place-has plan letter d h = eqb-true _ letter (turned _ (prefix_len_stops (λ (x : Block). not (x.letter == letter)) plan d h)) where
  turned : (v : Bool) → not v ≡ false → v ≡ true
  turned true e = refl
  turned false e = cc

pub AreApart-by_place : (plan : List Block) → ((k : ℕ) (a : Block) → slice_get plan k ≡ Some a → k ≤ place plan a.letter) → AreApart plan
AreApart-by_place plan each i j a b e f same =
    let h : i ≤ place plan a.letter = each i a e in
    let g : place plan a.letter ≤ j = place-least plan a.letter j b f (sym same) in
    let m : j ≤ place plan b.letter = each j b f in
    let n : place plan b.letter ≤ i = place-least plan b.letter i a e same in
    omega arith

pub block_of-place : (plan : List Block) (letter : ℕ) → block_of plan letter ≡ slice_get plan (place plan letter)
block_of-place plan letter = find_at (λ (b : Block). b.letter == letter) plan

-- ==== FirstSlots: The first slot that passes a test, in the order of tier, block letter, bay and row.

-- ---- searches in parts

none_is : (v : Bool) (x : Slot) (others : Option Slot) → v ≡ true → cond v (Some x) others ≡ None → ⊥
none_is v x others holds e = let here : ◌≡◌ {A = Option Slot} (Some x) None = rw holds at e in cc

rest_is : (v : Bool) (x : Slot) (others found : Option Slot) → v ≡ false → cond v (Some x) others ≡ found → others ≡ found
rest_is v x others found other e = rw other at e

behind_none : (p : Slot → Bool) (xs ys : List Slot) → find p xs ≡ None → find p (xs ++ ys) ≡ find p ys
behind_none p [] ys e = refl
behind_none p (x ∷ xs) ys e = elim (cases_Bool (p x)) [
  | inl holds ↦ absurd (none_is (p x) x (find p xs) holds e)
  | inr other ↦ rw other (behind_none p xs ys (rest_is (p x) x (find p xs) None other e))
]

within_some : (p : Slot → Bool) (xs ys : List Slot) (slot : Slot) → find p xs ≡ Some slot → find p (xs ++ ys) ≡ Some slot
within_some p [] ys slot e = cc
within_some p (x ∷ xs) ys slot e = elim (cases_Bool (p x)) [
  | inl holds ↦ rw holds (rw holds at e)
  | inr other ↦ rw other (within_some p xs ys slot (rest_is (p x) x (find p xs) (Some slot) other e))
]

-- no slot passes in any part
pub none_in_parts : (p : Slot → Bool) (part : ℕ → List Slot) → ((n : ℕ) → find p (part n) ≡ None) → (ns : List ℕ) → find p (flat_map part ns) ≡ None
none_in_parts p part none [] = refl
none_in_parts p part none (n ∷ ns) = behind_none p (part n) (flat_map part ns) (none n) ∙ none_in_parts p part none ns

none_mapped : (p : Slot → Bool) (slot_at : ℕ → Slot) → ((n : ℕ) → p (slot_at n) ≡ false) → (ns : List ℕ) → find p (map slot_at ns) ≡ None
none_mapped p slot_at fails [] = refl
none_mapped p slot_at fails (n ∷ ns) = rw (fails n) (none_mapped p slot_at fails ns)

-- the first part in which one passes
first_part : (p : Slot → Bool) (part : ℕ → List Slot) (k : ℕ) (slot : Slot) → find p (part k) ≡ Some slot → (count from : ℕ) → from ≤ k → k < from + count →
    ((n : ℕ) → n < k → find p (part n) ≡ None) → find p (flat_map part (range_with_len from count)) ≡ Some slot
first_part p part k slot here zero from low high before = absurd (omega arith)
first_part p part k slot here (suc count) from low high before = elim (eq-or-lt_of_le {n = from} {m = k} low) [
  | inl same ↦ within_some p (part from) (flat_map part (range_with_len (from + 1) count)) slot (subst (λ n. find p (part n) ≡ Some slot) (sym same) here)
  | inr later ↦ behind_none p (part from) (flat_map part (range_with_len (from + 1) count)) (before from later)
      ∙ first_part p part k slot here count (from + 1) (omega arith) (omega arith) before
]

first_mapped : (p : Slot → Bool) (slot_at : ℕ → Slot) (k : ℕ) → p (slot_at k) ≡ true → (count from : ℕ) → from ≤ k → k < from + count →
    ((n : ℕ) → n < k → p (slot_at n) ≡ false) → find p (map slot_at (range_with_len from count)) ≡ Some (slot_at k)
first_mapped p slot_at k here zero from low high before = absurd (omega arith)
first_mapped p slot_at k here (suc count) from low high before = elim (eq-or-lt_of_le {n = from} {m = k} low) [
  | inl same ↦ let passes : p (slot_at from) ≡ true = subst (λ n. p (slot_at n) ≡ true) (sym same) here in rw passes (ap (λ n. Some (slot_at n)) same)
  | inr later ↦ rw (before from later) (first_mapped p slot_at k here count (from + 1) (omega arith) (omega arith) before)
]

-- ---- all slots

-- the slot's numbers are among those that plans have
pub record IsNumbered (slot : Slot) : Type 0 where
  pub tier_low : 1 ≤ slot.tier
  pub tier_high : slot.tier < 7
  pub letter_low : 65 ≤ slot.block
  pub letter_high : slot.block < 91
  pub bay_low : 1 ≤ slot.bay
  pub bay_high : slot.bay < 80
  pub row_low : 1 ≤ slot.row
  pub row_high : slot.row < 13

pub first_of_all : (p : Slot → Bool) (slot : Slot) → IsNumbered slot → p slot ≡ true → ((other : Slot) → IsBefore other slot → p other ≡ false) → find p every_slot ≡ Some slot
unfolding every_slot
first_of_all p slot numbered passes before =
    let row_found : find p (slots_in_bay slot.tier slot.block slot.bay) ≡ Some slot =
    first_mapped p (slot_at slot.tier slot.block slot.bay) slot.row passes 12 1 numbered.row_low numbered.row_high
    (λ row less. before (slot_at slot.tier slot.block slot.bay row) (inr (refl, inr (refl, inr (refl, less))))) in
    let bay_found : find p (slots_in_block slot.tier slot.block) ≡ Some slot =
    first_part p (slots_in_bay slot.tier slot.block) slot.bay slot row_found 79 1 numbered.bay_low numbered.bay_high
    (λ bay less. none_mapped p (slot_at slot.tier slot.block bay) (λ row. before (slot_at slot.tier slot.block bay row) (inr (refl, inr (refl, inl less)))) (range_with_len 1 12)) in
    let letter_found : find p (slots_in_tier slot.tier) ≡ Some slot =
    first_part p (slots_in_block slot.tier) slot.block slot bay_found 26 65 numbered.letter_low numbered.letter_high
    (λ letter less. none_in_parts p (slots_in_bay slot.tier letter)
    (λ bay. none_mapped p (slot_at slot.tier letter bay) (λ row. before (slot_at slot.tier letter bay row) (inr (refl, inl less))) (range_with_len 1 12)) (range_with_len 1 79)) in
    first_part p slots_in_tier slot.tier slot letter_found 6 1 numbered.tier_low numbered.tier_high
    (λ tier less. none_in_parts p (slots_in_block tier) (λ letter. none_in_parts p (slots_in_bay tier letter)
    (λ bay. none_mapped p (slot_at tier letter bay) (λ row. before (slot_at tier letter bay row) (inl less)) (range_with_len 1 12)) (range_with_len 1 79)) (range_with_len 65 26))

pub none_of_all : (p : Slot → Bool) → ((slot : Slot) → p slot ≡ false) → find p every_slot ≡ None
unfolding every_slot
none_of_all p fails =
    none_in_parts p slots_in_tier (λ tier. none_in_parts p (slots_in_block tier) (λ letter. none_in_parts p (slots_in_bay tier letter)
    (λ bay. none_mapped p (slot_at tier letter bay) (λ row. fails (slot_at tier letter bay row)) (range_with_len 1 12)) (range_with_len 1 79)) (range_with_len 65 26)) (range_with_len 1 6)
