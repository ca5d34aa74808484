-- The rows of places and lines by their keys, typed or as contents.
use Rattle.std.specs.{Prelude.{nat_le, not, filter, slice_get, find, count_by, ◌&&◌, ◌==◌}, List.range_with_len, Option.option_map, Str.bytes_eq}
use Rattle.std.{specs.Cmp.eq_by_cmp_equiv, proofs.{lemmas.Bool.leb-true, Math.Bool.and_comm, lemmas.List.Sums.sum_by-cons, lemmas.Simd.map-map}}
use Rattle.std.proofs.Common.{◌≡◌, ◌⊎◌, ℕ, ◌+◌, ◌-◌, ◌<◌, ◌≤◌, zero, suc, List, [], ◌∷◌, ◌++◌, length, drop, map, get_or, Bool, true, false, cond, IsTrue, refl, sym, ap, ◌∙◌, arith, subst, inl, inr, ◌↔◌, Option, Some, string_bytes}
use Rattle.std.proofs.lemmas.Option.{same_Some, slice_get_within}
use Rattle.edi_messages.specs.{declared.codes.PartnerKind.PartnerKind, Purposes.CallContent, Owned.call_content}
use Rattle.office_rows.specs.{Rows.{Partner, PlaceContent, listing_content}, Opened.NumberKept, Office.{taken_numbers, AreWaiting, AreKept, AreAccounts}}
use Rattle.office_rows.specs.{Effects.{stands_for, is_line}, ByKey.{standing_by, line_entry, lines_by, ArePlacedOnce, AreListedOnce}}
use Rattle.office_loading.specs.Checks.{numbers_beyond}
use Rattle.office_loading.specs.Contents.{number_content, place_content}
use Rattle.office_loading.specs.OwnOffice.{IsInOrder, AreInOrder}
use Rattle.office_loading.{specs.declared.numbers.NumberRow.NumberRow, proofs.Kept.next_of}
use Rattle.box6346.specs.declared.box_number.BoxNumber.{BoxNumber}
use Rattle.terminal_core.specs.{declared.lines.Listing.Listing, declared.change.Place.Place, declared.lines.Side.Side, declared.visits.Visit.Visit}
use Rattle.terminal_core.specs.{declared.lines.Side.TheVariants.{Load, Discharge}, Rows.visit_content, State.{line_key, side_code}, Restoring.AreOnce}
use Rattle.terminal_core.{specs.Changes.{Standing, standing_in}, proofs.{Lined.{keys_total, same_key, line_tied, line_first}, Indexed.{counts, one_passes}}}
use Rattle.terminal_core.proofs.Whole.{contained}
use Rattle.std.specs.FinMap as finite_map
use Rattle.terminal_core.specs.Listings as typed
use Rattle.terminal_core.specs.RowForms as forms

-- ==== InOrder: Interchanges by partner and number: row after row, and those of an office.

-- ---- row after row

module _ (count : ℕ) (rows : List NumberRow) (partner number i : ℕ) (d row : NumberRow) (low : i < length rows) (at : row ≡ get_or rows i d) (test : Bool)
    (tells : IsTrue test ↔ IsInOrder count partner number (number_content row))
    (so : AreInOrder count 1 0 (map number_content rows) ↔ AreInOrder count partner number (map number_content (drop i rows))) where
  abbrev Rest : List NumberRow → Type 0
  Rest r = AreInOrder count partner number (map number_content r)

  pub order_more : test ≡ true → AreInOrder count 1 0 (map number_content rows) ↔ AreInOrder count row.partner row.number (map number_content (drop (i + 1) rows))
  order_more is = (
    λ all. (let rest : Rest (row ∷ drop (i + 1) rows) = subst Rest (next_of rows i d row low at) (so.0 all) in rest.1),
    λ rest. so.1 (subst Rest (sym (next_of rows i d row low at)) (tells.0 is, rest)),
  )

  pub order_not : test ≡ false → ¬ AreInOrder count 1 0 (map number_content rows)
  order_not isnt all =
      let rest : Rest (row ∷ drop (i + 1) rows) = subst Rest (next_of rows i d row low at) (so.0 all) in
      let is : test ≡ true = tells.1 rest.0 in
      cc

-- ---- those of an office

-- all are of that partner, above that number
abbrev AreOf : (partner number : ℕ) → List NumberKept → Type 0
AreOf partner number [] = Unit {0}
AreOf partner number (n ∷ numbers) = (n.partner ≡ partner) × (number < n.number) × (n.number ≤ 999999999) × AreOf partner n.number numbers

waiting_of : (partner above number : ℕ) (numbers : List NumberKept) → number ≤ above → AreWaiting partner above numbers → AreOf partner number numbers
waiting_of partner above number [] below wait = tt
waiting_of partner above number (n ∷ numbers) below wait = (wait.0, omega (arith, wait.2, below), wait.3, waiting_of partner n.number n.number numbers (omega arith) wait.4)

abbrev taken_by : ℕ → ℕ → NumberKept
taken_by partner number = record { partner = partner; number = number; is_taken = true }

taken_then : (partner number count next : ℕ) (waiting : List NumberKept) → number + count < next → next ≤ 1000000000 → AreWaiting partner next waiting → AreOf partner number (map (taken_by partner) (range_with_len (number + 1) count) ++ waiting)
taken_then partner number zero next waiting below high wait = waiting_of partner next number waiting (omega (arith, below)) wait
taken_then partner number (suc count) next waiting below high wait = (refl, omega arith, omega (arith, below, high), taken_then partner (number + 1) count next waiting (omega (arith, below)) high wait)

own_of : (p : Partner) (waiting : List NumberKept) → 1 ≤ p.next → p.next ≤ 1000000000 → AreWaiting p.id p.next waiting → AreOf p.id 0 (taken_numbers p ++ waiting)
own_of p waiting low high wait = taken_then p.id 0 (p.next - 1) p.next waiting (omega (arith, low)) high wait

-- one partner's stand before those of later ones
before_later : (count partner number : ℕ) (own others : List NumberKept) → partner ≤ count → AreOf partner number own → ((number : ℕ) → AreInOrder count partner number others) → AreInOrder count partner number (own ++ others)
before_later count partner number [] others few own rest = rest number
before_later count partner number (n ∷ own) others few are rest =
    let same : n.partner ≡ partner = are.0 in (
      (inl (are.0, are.1), omega (arith, same, few), are.2),
      subst (λ q. AreInOrder count q n.number (own ++ others)) (sym same) (before_later count partner n.number own others few are.3 rest),
    )

-- those of later partners come after any number of one before
later_in_order : (count id : ℕ) (partners : List Partner) (accounts : List (List ℕ × PartnerKind)) (numbers : List NumberKept) → AreAccounts (id + 1) partners accounts → id + length partners ≡ count → AreKept partners numbers
    → (number : ℕ) → AreInOrder count id number numbers
later_in_order count id [] accounts numbers are ends kept number = subst (AreInOrder count id number) (sym kept) tt
later_in_order count id (p ∷ partners) [] numbers are ends kept number = absurd are
later_in_order count id (p ∷ partners) (a ∷ accounts) numbers are ends kept number =
    let its = kept.3 in
    let own : AreOf p.id 0 kept.0 = subst (AreOf p.id 0) (sym its.are) (own_of p its.waiting are.3 are.4 its.wait) in
    let mine : AreOf (id + 1) 0 kept.0 = subst (λ q. AreOf q 0 kept.0) are.0 own in
    let rest = later_in_order count (id + 1) partners accounts kept.1 are.5 (omega (arith, ends)) kept.4 in
    subst (AreInOrder count id number) (sym kept.2) (first kept.0 mine rest)
  where
    first : (own : List NumberKept) → AreOf (id + 1) 0 own → ((number : ℕ) → AreInOrder count (id + 1) number kept.1) → AreInOrder count id number (own ++ kept.1)
    first [] own rest = from kept.1 (rest 0)
      where
        from : (others : List NumberKept) → AreInOrder count (id + 1) 0 others → AreInOrder count id number others
        from [] order = tt
        from (n ∷ others) order = (
          (
            inr (elim order.0.0 [
              | inl near ↦ (omega (arith, near.0), near.1)
              | inr far ↦ (omega (arith, far.0), far.1)
            ]),
            order.0.1,
            order.0.2,
          ),
          order.1,
        )
    first (n ∷ own) are rest = (
      (inr (omega (arith, are.0), are.1), omega (arith, are.0, ends), are.2),
      subst (λ q. AreInOrder count q n.number (own ++ kept.1)) (sym are.0) (before_later count (id + 1) n.number own kept.1 (omega (arith, ends)) are.3 rest),
    )

pub kept_in_order : (partners : List Partner) (accounts : List (List ℕ × PartnerKind)) (numbers : List NumberKept) → AreAccounts 1 partners accounts → AreKept partners numbers → AreInOrder (length partners) 1 0 numbers
kept_in_order [] accounts numbers are kept = subst (AreInOrder 0 1 0) (sym kept) tt
kept_in_order (p ∷ partners) [] numbers are kept = absurd are
kept_in_order (p ∷ partners) (a ∷ accounts) numbers are kept =
    let its = kept.3 in
    let count : ℕ = length (p ∷ partners) in
    let own : AreOf p.id 0 kept.0 = subst (AreOf p.id 0) (sym its.are) (own_of p its.waiting are.3 are.4 its.wait) in
    let mine : AreOf 1 0 kept.0 = subst (λ q. AreOf q 0 kept.0) are.0 own in
    subst (AreInOrder count 1 0) (sym kept.2)
    (before_later count 1 0 kept.0 kept.1 (omega arith) mine (later_in_order count 1 partners accounts kept.1 are.5 (omega arith) kept.4))

-- no number is 0, so where none is closed all are beyond
pub all_beyond : (count partner number : ℕ) (numbers : List NumberKept) → AreInOrder count partner number numbers → numbers_beyond (λ partner. 0) numbers ≡ numbers
all_beyond count partner number [] order = refl
all_beyond count partner number (n ∷ numbers) order = by (nat_le n.number 0) refl (all_beyond count n.partner n.number numbers order.1)
  where
    one : 1 ≤ n.number
    one = elim order.0.0 [ inl near ↦ omega (arith, near.1) | inr far ↦ far.1 ]

    by : (low : Bool) → nat_le n.number 0 ≡ low → numbers_beyond (λ partner. 0) numbers ≡ numbers → cond (not low) (n ∷ numbers_beyond (λ partner. 0) numbers) (numbers_beyond (λ partner. 0) numbers) ≡ n ∷ numbers
    by true e rest = absurd (omega (arith, leb-true n.number 0 e, one))
    by false e rest = ap (λ l. n ∷ l) rest

-- ---- those that are not closed

pub beyond_rows : (closed : ℕ → ℕ) (rows : List NumberRow)
    → numbers_beyond closed (map number_content rows) ≡ map number_content (filter (λ (row : NumberRow). not (nat_le row.number (closed row.partner))) rows)
beyond_rows closed [] = refl
beyond_rows closed (row ∷ rows) = by (not (nat_le row.number (closed row.partner))) (filter (λ (r : NumberRow). not (nat_le r.number (closed r.partner))) rows) (beyond_rows closed rows)
  where
    by : (b : Bool) (beyond : List NumberRow) → numbers_beyond closed (map number_content rows) ≡ map number_content beyond
        → cond b (number_content row ∷ numbers_beyond closed (map number_content rows)) (numbers_beyond closed (map number_content rows)) ≡ map number_content (cond b (row ∷ beyond) beyond)
    by true beyond rest = ap (λ l. number_content row ∷ l) rest
    by false beyond rest = rest

-- ==== Keyed: The rows of places and lines by their keys, typed or as contents.

-- ---- places

abbrev at_place : BoxNumber → Place → Bool
at_place container place = bytes_eq place.container container

abbrev shown : Option PlaceContent → Option Standing
shown o = option_map (λ (place : PlaceContent). standing_in place.visit place.slot) o

abbrev typed_shown : Option Place → Option Standing
typed_shown o = option_map (λ (place : Place). standing_in place.visit place.slot) o

chosen : (test : Bool) (place : Place) (a : Option PlaceContent) (b : Option Place) → shown a ≡ typed_shown b → shown (cond test (Some (place_content place)) a) ≡ typed_shown (cond test (Some place) b)
chosen true place a b e = refl
chosen false place a b e = e

standing_same : (places : List Place) (container : BoxNumber) → standing_by (map place_content places) container ≡ forms.standing_by places container
standing_same [] container = refl
standing_same (p ∷ places) container = chosen (bytes_eq p.container container) p (find (stands_for container) (map place_content places)) (find (at_place container) places) (standing_same places container)

placed_count : (container : BoxNumber) (places : List Place) → count_by (stands_for container) (map place_content places) ≡ count_by (at_place container) places
placed_count container [] = refl
placed_count container (p ∷ places) =
    sum_by-cons (λ q. counts (stands_for container q)) (place_content p) (map place_content places) ∙ ap (λ n. counts (bytes_eq p.container container) + n) (placed_count container places)
    ∙ sym (sum_by-cons (λ q. counts (at_place container q)) p places)

pub placed_once : (places : List Place) → forms.ArePlacedOnce places → ArePlacedOnce (map place_content places)
placed_once places once container =
    let same : count_by (stands_for container) (map place_content places) ≡ count_by (at_place container) places = placed_count container places in
    let few : count_by (at_place container) places ≤ 1 = once container in
    omega arith

pub typed_placed_once : (places : List Place) → ArePlacedOnce (map place_content places) → forms.ArePlacedOnce places
typed_placed_once places once container =
    let same : count_by (stands_for container) (map place_content places) ≡ count_by (at_place container) places = placed_count container places in
    let few : count_by (stands_for container) (map place_content places) ≤ 1 = once container in
    omega arith

-- ---- lines

turned : (a b c d : Bool) → (a && (b && (c && d))) ≡ (((d && c) && b) && a)
turned a b c d = and_comm a (b && (c && d)) ∙ ap (λ x. x && a) (and_comm b (c && d) ∙ ap (λ x. x && b) (and_comm c d))

same_test : (call : CallContent) (side : Side) (container : BoxNumber) (row : Listing) → is_line call side container (listing_content row) ≡ typed.is_line call side container row
same_test call side container row = turned (bytes_eq (string_bytes row.call.vessel) call.vessel) (bytes_eq (string_bytes row.call.voyage) call.voyage) (side_code row.side == side_code side) (bytes_eq row.container container)

listed_count : (call : CallContent) (side : Side) (container : BoxNumber) (lines : List Listing) → count_by (is_line call side container) (map listing_content lines) ≡ count_by (typed.is_line call side container) lines
listed_count call side container [] = refl
listed_count call side container (l ∷ lines) =
    sum_by-cons (λ m. counts (is_line call side container m)) (listing_content l) (map listing_content lines) ∙ ap (λ n. counts (is_line call side container (listing_content l)) + n) (listed_count call side container lines)
    ∙ ap (λ t. counts t + count_by (typed.is_line call side container) lines) (same_test call side container l) ∙ sym (sum_by-cons (λ m. counts (typed.is_line call side container m)) l lines)

pub listed_once : (lines : List Listing) → AreOnce lines → AreListedOnce (map listing_content lines)
listed_once lines once call side container =
    let same : count_by (is_line call side container) (map listing_content lines) ≡ count_by (typed.is_line call side container) lines = listed_count call side container lines in
    let few : count_by (typed.is_line call side container) lines ≤ 1 = once call side container in
    omega arith

pub typed_listed_once : (lines : List Listing) → AreListedOnce (map listing_content lines) → AreOnce lines
typed_listed_once lines once call side container =
    let same : count_by (is_line call side container) (map listing_content lines) ≡ count_by (typed.is_line call side container) lines = listed_count call side container lines in
    let few : count_by (is_line call side container) (map listing_content lines) ≤ 1 = once call side container in
    omega arith

lines_same : (lines : List Listing) → lines_by (map listing_content lines) ≡ typed.lines_of lines
lines_same lines = ap finite_map.from_entries (map-map line_entry listing_content lines)

-- ---- all of them

pub rows_same : (visits : List Visit) (places : List Place) (lines : List Listing)
    → record { visits = map visit_content visits; places = standing_by (map place_content places); lines = lines_by (map listing_content lines) } ≡ forms.rows_by_key visits places lines
rows_same visits places lines = λ i. record { visits = map visit_content visits; places = λ container. standing_same places container i; lines = lines_same lines i }

-- ---- a line and its row

module _ (call : CallContent) (side : Side) (container : BoxNumber) where
  abbrev First : List Listing → Type 0
  First rows = (place : ℕ) × typed.IsFirstAt call side container rows place

  abbrev None_ : List Listing → Type 0
  None_ rows = typed.NoneBefore call side container rows (length rows)

  none_more : (row : Listing) (rows : List Listing) (n : ℕ) → typed.is_line call side container row ≡ false → typed.NoneBefore call side container rows n → typed.NoneBefore call side container (row ∷ rows) (suc n)
  none_more row rows n isnt none zero r low at = ap (typed.is_line call side container) (sym (same_Some row r at)) ∙ isnt
  none_more row rows n isnt none (suc k) r low at = none k r (omega arith) at

  first_more : (row : Listing) (rows : List Listing) → typed.is_line call side container row ≡ false → First rows ⊎ None_ rows → First (row ∷ rows) ⊎ None_ (row ∷ rows)
  first_more row rows isnt found = elim found [
    | inl first ↦ inl (suc first.0, record { row = first.1.row; at = first.1.at; is = first.1.is; before = none_more row rows first.0 isnt first.1.before })
    | inr none ↦ inr (none_more row rows (length rows) isnt none)
  ]

  pub first_or_none : (rows : List Listing) → First rows ⊎ None_ rows
  first_or_none [] = inr (λ k r low at. cc)
  first_or_none (row ∷ rows) =
      elim (typed.is_line call side container row) as (λ v. typed.is_line call side container row ≡ v → First (row ∷ rows) ⊎ None_ (row ∷ rows)) [
        | true ↦ λ is. inl (0, record { row = row; at = refl; is = is; before = λ k r low at. absurd (omega arith) })
        | false ↦ λ isnt. first_more row rows isnt (first_or_none rows)
      ] refl

  -- the key of a row that is this line
  pub key_is : (row : Listing) → typed.is_line call side container row ≡ true → line_key call side container ≡ typed.key_of row
  key_is row is = same_key (line_key call side container) (typed.key_of row) (line_tied call side container row ∙ is)

pub side_is : (a b : Side) → side_code a ≡ side_code b → a ≡ b
side_is Load Load e = refl
side_is Load Discharge e = absurd (omega (arith, e))
side_is Discharge Load e = absurd (omega (arith, e))
side_is Discharge Discharge e = refl

pub own_line : (row : Listing) → typed.is_line (call_content row.call) row.side row.container row ≡ true
own_line row = sym (line_tied (call_content row.call) row.side row.container row) ∙ (eq_by_cmp_equiv keys_total).refl (typed.key_of row)

-- each row of lines that stand once is there under its key
pub line_there : (rows : List Listing) (k : ℕ) (row : Listing) → AreOnce rows → slice_get rows k ≡ Some row → finite_map.get (typed.lines_of rows) (typed.key_of row) ≡ Some (typed.line_content row)
line_there rows k row once at = elim (first_or_none (call_content row.call) row.side row.container rows) [
  | inl first ↦ (let same : first.1.row ≡ row = one_passes (typed.is_line (call_content row.call) row.side row.container) rows first.1.row row (once (call_content row.call) row.side row.container) (contained rows first.0 first.1.row first.1.at)
      (contained rows k row at) first.1.is (own_line row) in
      line_first (call_content row.call) row.side row.container rows first.0 first.1 ∙ ap (λ (r : Listing). Some (typed.line_content r)) same)
  | inr none ↦ (let low : k < length rows = slice_get_within rows k row at in
      let isnt : typed.is_line (call_content row.call) row.side row.container row ≡ false = none k row low at in
      let is = own_line row in
      cc)
]
