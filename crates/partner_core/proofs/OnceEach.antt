-- Order has each partner's run once each, in number order.
use Rattle.std.specs.Prelude.{None, Some, ◌==◌, is_some, All, AllPairs, filter}
use Rattle.std.specs.Option.{option_or}
use Rattle.std.specs.List.{list_any}
use Rattle.std.proofs.lemmas.List.{append-nil}
use Rattle.std.proofs.Common.{◌≡◌, ◌≢◌, ℕ, ◌+◌, ◌-◌, ◌<◌, ◌≤◌, inl, inr, Bool, true, false, cond, List, [], ◌∷◌, ◌++◌, refl, sym, ◌∙◌, ap, arith, zero, suc, ◌&&◌, ◌||◌, append_assoc}
use Rattle.std.proofs.lemmas.Bool.{cases_Bool, cases_order, cond-false, cond-true, eqb-true, eq-eqb, ne_eqb, and_parts, and_from, and_left, and_right, false_from_ne_true, cases_eq, or_cases, or_left, or_right}
use Rattle.std.proofs.{lemmas.List.Elements.{All-nil, All-cons, All-append, All-weaker, filter-append}, lemmas.List.Kept.AllPairs-cons}
use Rattle.partner_core.specs.{Machine.Taking, Deliveries.{Delivery, first_text, is_under, is_used, run}, Growth.{AddsNothing, AddsText, AddsRun, EndsRun}}
use Rattle.partner_core.specs.Order.{numbers_above, numbers_made_next, order, text_under, state_after, reply_among, state, reply_of, is_of, order_after}
use Rattle.partner_core.proofs.Orders.{first-used, first-new, used-kept, none_of, used_within_run, free_after_run, run_reaches, run_is, option_or-none, order-append, state-append, reply_of-append, run_grows, run_of_none, numbers_above-join}

-- ==== Growths: What a delivery adds, by how it stands to those before it.

under_parts : (d : Delivery) (q j : ℕ) → is_under d q j ≡ true → (d.partner ≡ q) × (d.number ≡ j)
under_parts d q j h = let parts = and_parts (d.partner == q) (d.number == j) h in (eqb-true d.partner q parts.0, eqb-true d.number j parts.1)

pub under_self : (d : Delivery) → is_under d d.partner d.number ≡ true
under_self d = and_from (d.partner == d.partner) (d.number == d.number) (eq-eqb d.partner d.partner refl) (eq-eqb d.number d.number refl)

cond_any : {A : Type 0} (b : Bool) (x y z : A) → b ≡ true → cond b x y ≡ cond b x z
cond_any b x y z h = cond-true b x y h ∙ sym (cond-true b x z h)

-- a free number's delivery adds its text
pub first-added : (ds : List Delivery) (d : Delivery) → is_used ds d.partner d.number ≡ false → (q j : ℕ) →
    first_text (ds ++ d ∷ []) q j ≡ cond (is_under d q j) (Some d.text) (first_text ds q j)
first-added ds d free q j =
    elim (cases_Bool (is_under d q j)) [
      | inl u ↦
          let parts = under_parts d q j u in
          let e : first_text ds q j ≡ None = none_of (first_text ds q j) (ap (λ p. is_used ds p j) (sym parts.0) ∙ ap (is_used ds d.partner) (sym parts.1) ∙ free) in
          first-new ds (d ∷ []) q j e ∙ cond_any (is_under d q j) (Some d.text) None (first_text ds q j) u
      | inr n ↦
          elim (cases_Bool (is_used ds q j)) [
            | inl h ↦ first-used ds (d ∷ []) q j h ∙ sym (cond-false (is_under d q j) (Some d.text) (first_text ds q j) n)
            | inr h ↦
                let e : first_text ds q j ≡ None = none_of (first_text ds q j) h in
                first-new ds (d ∷ []) q j e ∙ cond-false (is_under d q j) (Some d.text) None n ∙ sym e ∙ sym (cond-false (is_under d q j) (Some d.text) (first_text ds q j) n)
          ]
    ]

-- and its number is used from then on
pub used-added : (ds : List Delivery) (d : Delivery) → is_used ds d.partner d.number ≡ false → is_used (ds ++ d ∷ []) d.partner d.number ≡ true
used-added ds d free =
    ap is_some (first-added ds d free d.partner d.number ∙ cond-true (is_under d d.partner d.number) (Some d.text) (first_text ds d.partner d.number) (under_self d))

-- a used number's delivery adds no text
pub first-repeated : (ds : List Delivery) (d : Delivery) → is_used ds d.partner d.number ≡ true → (q j : ℕ) → first_text (ds ++ d ∷ []) q j ≡ first_text ds q j
first-repeated ds d used q j =
    elim (cases_Bool (is_used ds q j)) [
      | inl h ↦ first-used ds (d ∷ []) q j h
      | inr h ↦
          let e : first_text ds q j ≡ None = none_of (first_text ds q j) h in
          first-new ds (d ∷ []) q j e
          ∙ cond-false (is_under d q j) (Some d.text) None (false_from_ne_true (is_under d q j) (λ u.
          let parts = under_parts d q j u in
          let g : is_used ds q j ≡ true = ap (λ p. is_used ds p j) (sym parts.0) ∙ ap (is_used ds d.partner) (sym parts.1) ∙ used in
          cc))
          ∙ sym e
    ]

-- the run stays unless the number after it comes
pub run-stays : (ds : List Delivery) (d : Delivery) (q : ℕ) → is_under d q (run ds q + 1) ≡ false → run (ds ++ d ∷ []) q ≡ run ds q
run-stays ds d q h =
    run_is (ds ++ d ∷ []) q (run ds q) (λ k a b. used-kept ds (d ∷ []) q k (used_within_run ds q k a b))
    (first-new ds (d ∷ []) q (run ds q + 1) (free_after_run ds q) ∙ cond-false (is_under d q (run ds q + 1)) (Some d.text) None h)

other_partner : (ds : List Delivery) (d : Delivery) (q : ℕ) → q ≢ d.partner → is_under d q (run ds q + 1) ≡ false
other_partner ds d q h = and_left (d.partner == q) (d.number == run ds q + 1) (ne_eqb d.partner q (λ e. h (sym e)))

-- another partner's delivery leaves a run as it is
pub other_run-stays : (ds : List Delivery) (d : Delivery) (q : ℕ) → q ≢ d.partner → run (ds ++ d ∷ []) q ≡ run ds q
other_run-stays ds d q h = run-stays ds d q (other_partner ds d q h)

other_number : (ds : List Delivery) (d : Delivery) → d.number ≢ run ds d.partner + 1 → (q : ℕ) → is_under d q (run ds q + 1) ≡ false
other_number ds d h q = false_from_ne_true (is_under d q (run ds q + 1)) (λ u.
    let parts = under_parts d q (run ds q + 1) u in h (parts.1 ∙ ap (λ p. run ds p + 1) (sym parts.0)))

-- the next number is within the run once it is delivered
pub next-reached : (ds : List Delivery) (d : Delivery) → is_used ds d.partner d.number ≡ false → d.number ≡ run ds d.partner + 1 → d.number ≤ run (ds ++ d ∷ []) d.partner
next-reached ds d free next =
    run_reaches (ds ++ d ∷ []) d.partner d.number (λ k a b. elim (cases_order k d.number) [
      | inl same ↦ ap (is_used (ds ++ d ∷ []) d.partner) same ∙ used-added ds d free
      | inr o ↦ elim o [
        | inl below ↦ used-kept ds (d ∷ []) d.partner k (used_within_run ds d.partner k a (omega arith))
        | inr above ↦ absurd (omega arith)
      ]
    ])

added-other_number : (ds : List Delivery) (d : Delivery) (k : ℕ) → is_used ds d.partner d.number ≡ false → d.number ≢ k → first_text (ds ++ d ∷ []) d.partner k ≡ first_text ds d.partner k
added-other_number ds d k free ne =
    first-added ds d free d.partner k
    ∙ cond-false (is_under d d.partner k) (Some d.text) (first_text ds d.partner k) (and_right (d.partner == d.partner) (d.number == k) (ne_eqb d.number k ne))

-- the next number's delivery ends its run where the run is then
pub ends_at_run : (ds : List Delivery) (d : Delivery) → is_used ds d.partner d.number ≡ false → d.number ≡ run ds d.partner + 1 → EndsRun ds d (run (ds ++ d ∷ []) d.partner)
ends_at_run ds d free next =
    let reached : d.number ≤ run (ds ++ d ∷ []) d.partner = next-reached ds d free next in
    record {
      is_next = next;
      reaches = reached;
      used = λ k a b. ap is_some (sym (added-other_number ds d k free (λ e. omega arith))) ∙ used_within_run (ds ++ d ∷ []) d.partner k (omega arith) b;
      ends = sym (added-other_number ds d (run (ds ++ d ∷ []) d.partner + 1) free (λ e. omega arith)) ∙ free_after_run (ds ++ d ∷ []) d.partner;
    }

pub numbers_made_next-to : (ds : List Delivery) (d : Delivery) (last : ℕ) → run (ds ++ d ∷ []) d.partner ≡ last → numbers_made_next ds d ≡ numbers_above d.partner (run ds d.partner) (last - run ds d.partner)
unfolding numbers_made_next
numbers_made_next-to ds d last h = ap (λ n. numbers_above d.partner (run ds d.partner) (n - run ds d.partner)) h

numbers_made_next-nothing : (ds : List Delivery) (d : Delivery) → run (ds ++ d ∷ []) d.partner ≡ run ds d.partner → numbers_made_next ds d ≡ []
numbers_made_next-nothing ds d h =
    let none : run ds d.partner - run ds d.partner ≡ 0 = omega arith in
    numbers_made_next-to ds d (run ds d.partner) h ∙ ap (numbers_above d.partner (run ds d.partner)) none

module _ {S : Type 0} (taken : Taking S) (opening : S) (ds : List Delivery) (d : Delivery) where
  order-stays : run (ds ++ d ∷ []) d.partner ≡ run ds d.partner → order (ds ++ d ∷ []) ≡ order ds
  order-stays h = order-append ds d ∙ ap (λ m. order ds ++ m) (numbers_made_next-nothing ds d h) ∙ append-nil (order ds)

  state-stays : run (ds ++ d ∷ []) d.partner ≡ run ds d.partner → state taken opening (ds ++ d ∷ []) ≡ state taken opening ds
  state-stays h = state-append taken opening ds d ∙ ap (λ m. state_after taken (text_under (ds ++ d ∷ [])) m (state taken opening ds)) (numbers_made_next-nothing ds d h)

  reply_of-stays : run (ds ++ d ∷ []) d.partner ≡ run ds d.partner → (q j : ℕ) → reply_of taken opening (ds ++ d ∷ []) q j ≡ reply_of taken opening ds q j
  reply_of-stays h q j =
      reply_of-append taken opening ds d q j
      ∙ ap (λ m. option_or (reply_of taken opening ds q j) (reply_among taken (text_under (ds ++ d ∷ [])) m (state taken opening ds) q j)) (numbers_made_next-nothing ds d h)
      ∙ option_or-none (reply_of taken opening ds q j)

  pub adds_nothing : is_used ds d.partner d.number ≡ true → AddsNothing taken opening ds d
  adds_nothing used =
      let free : is_used ds d.partner (run ds d.partner + 1) ≡ false = ap is_some (free_after_run ds d.partner) in
      let ne : d.number ≢ run ds d.partner + 1 = λ e. let g : is_used ds d.partner d.number ≡ is_used ds d.partner (run ds d.partner + 1) = ap (is_used ds d.partner) e in cc in
      let stays : (q : ℕ) → run (ds ++ d ∷ []) q ≡ run ds q = λ q. run-stays ds d q (other_number ds d ne q) in
      record {
        first = first-repeated ds d used;
        runs = stays;
        in_order = order-stays (stays d.partner);
        state_is = state-stays (stays d.partner);
        replies = reply_of-stays (stays d.partner);
      }

  pub adds_text : is_used ds d.partner d.number ≡ false → run ds d.partner + 1 < d.number → AddsText taken opening ds d
  adds_text free early =
      let ne : d.number ≢ run ds d.partner + 1 = λ e. omega arith in
      let stays : (q : ℕ) → run (ds ++ d ∷ []) q ≡ run ds q = λ q. run-stays ds d q (other_number ds d ne q) in
      record {
        first = first-added ds d free;
        runs = stays;
        in_order = order-stays (stays d.partner);
        state_is = state-stays (stays d.partner);
        replies = reply_of-stays (stays d.partner);
      }

  next_is_free : (last : ℕ) → EndsRun ds d last → is_used ds d.partner d.number ≡ false
  next_is_free last h = ap (is_used ds d.partner) h.is_next ∙ ap is_some (free_after_run ds d.partner)

  used_to_last : (last : ℕ) → EndsRun ds d last → (k : ℕ) → 1 ≤ k → k ≤ last → is_used (ds ++ d ∷ []) d.partner k ≡ true
  used_to_last last h k a b =
      let e : d.number ≡ run ds d.partner + 1 = h.is_next in
      elim (cases_order k d.number) [
        | inl same ↦
            ap (is_used (ds ++ d ∷ []) d.partner) same
            ∙ used-added ds d (next_is_free last h)
        | inr o ↦ elim o [
          | inl below ↦ used-kept ds (d ∷ []) d.partner k (used_within_run ds d.partner k a (omega arith))
          | inr above ↦ used-kept ds (d ∷ []) d.partner k (h.used k above b)
        ]
      ]

  run_to_last : (last : ℕ) → EndsRun ds d last → run (ds ++ d ∷ []) d.partner ≡ last
  run_to_last last h =
      let reaches : d.number ≤ last = h.reaches in
      run_is (ds ++ d ∷ []) d.partner last (used_to_last last h)
      (first-new ds (d ∷ []) d.partner (last + 1) h.ends
      ∙ cond-false (is_under d d.partner (last + 1)) (Some d.text) None (false_from_ne_true (is_under d d.partner (last + 1)) (λ u.
      let e : d.number ≡ last + 1 = (under_parts d d.partner (last + 1) u).1 in omega arith)))

  pub adds_run : (last : ℕ) → EndsRun ds d last → AddsRun taken opening ds d last
  adds_run last h =
      let e = numbers_made_next-to ds d last (run_to_last last h) in
      record {
        first = first-added ds d (next_is_free last h);
        run_is_last = run_to_last last h;
        other_runs = other_run-stays ds d;
        in_order = order-append ds d ∙ ap (λ m. order ds ++ m) e;
        state_is = state-append taken opening ds d ∙ ap (λ m. state_after taken (text_under (ds ++ d ∷ [])) m (state taken opening ds)) e;
        replies = λ q j. reply_of-append taken opening ds d q j ∙ ap (λ m. option_or (reply_of taken opening ds q j) (reply_among taken (text_under (ds ++ d ∷ [])) m (state taken opening ds) q j)) e;
      }

-- ==== OnceEach: Order has each partner's run once each, in number order.

-- the partner's, with a number above `low` and at most `high`
record IsAmong (p low high : ℕ) (e : ℕ × ℕ) : Type 0 where
  partner : e.0 ≡ p
  above : low < e.1
  within : e.1 ≤ high

one_lower : (p low n : ℕ) (e : ℕ × ℕ) → IsAmong p (low + 1) (low + 1 + n) e → IsAmong p low (low + suc n) e
one_lower p low n e h =
    let a : low + 1 < e.1 = h.above in
    let b : e.1 ≤ low + 1 + n = h.within in
    record { partner = h.partner; above = omega arith; within = omega arith }

All-numbers_above : (p low n : ℕ) → All (IsAmong p low (low + n)) (numbers_above p low n)
All-numbers_above p low zero = All-nil _
All-numbers_above p low (suc n) =
    All-cons (IsAmong p low (low + suc n)) (p, low + 1) (numbers_above p (low + 1) n)
    (record { partner = refl; above = omega arith; within = omega arith })
    (All-weaker (IsAmong p (low + 1) (low + 1 + n)) (IsAmong p low (low + suc n)) (one_lower p low n) (numbers_above p (low + 1) n) (All-numbers_above p (low + 1) n))

-- where the pair is the partner's, its number is above
abbrev IsBeyond : ℕ → ℕ → ℕ × ℕ → Type 0
IsBeyond p high e = e.0 ≡ p → high < e.1

among_is_later : (p low n : ℕ) (e : ℕ × ℕ) → IsAmong p (low + 1) (low + 1 + n) e → (p, low + 1) ≢ e
among_is_later p low n e h same =
    let a : low + 1 < e.1 = h.above in
    let b : low + 1 ≡ e.1 = ap (λ x. x.1) same in
    omega arith

beyond_is_later : (p low n : ℕ) (e : ℕ × ℕ) → IsBeyond p (low + suc n) e → (p, low + 1) ≢ e
beyond_is_later p low n e h same =
    let a : low + suc n < e.1 = h (ap (λ x. x.0) (sym same)) in
    let b : low + 1 ≡ e.1 = ap (λ x. x.1) same in
    omega arith

beyond_one : (p low n : ℕ) (e : ℕ × ℕ) → IsBeyond p (low + suc n) e → IsBeyond p (low + 1 + n) e
beyond_one p low n e h of = let a : low + suc n < e.1 = h of in omega arith

-- a partner's numbers, and then pairs beyond them
AllPairs-numbers_above : (p low n : ℕ) (rest : List (ℕ × ℕ)) → All (IsBeyond p (low + n)) rest → AllPairs (λ x y. x ≢ y) rest → AllPairs (λ x y. x ≢ y) (numbers_above p low n ++ rest)
AllPairs-numbers_above p low zero rest beyond pairs = pairs
AllPairs-numbers_above p low (suc n) rest beyond pairs =
    AllPairs-cons (λ x y. x ≢ y) (p, low + 1) (numbers_above p (low + 1) n ++ rest)
    (All-append (λ e. (p, low + 1) ≢ e) (numbers_above p (low + 1) n) rest
    (All-weaker (IsAmong p (low + 1) (low + 1 + n)) (λ e. (p, low + 1) ≢ e) (among_is_later p low n) (numbers_above p (low + 1) n) (All-numbers_above p (low + 1) n))
    (All-weaker (IsBeyond p (low + suc n)) (λ e. (p, low + 1) ≢ e) (beyond_is_later p low n) rest beyond))
    (AllPairs-numbers_above p (low + 1) n rest (All-weaker (IsBeyond p (low + suc n)) (IsBeyond p (low + 1 + n)) (beyond_one p low n) rest beyond) pairs)

-- what becomes next is beyond the runs before
abbrev IsAfter : List Delivery → ℕ × ℕ → Type 0
IsAfter before e = run before e.0 < e.1

among_is_after : (before : List Delivery) (p high : ℕ) (e : ℕ × ℕ) → IsAmong p (run before p) high e → IsAfter before e
among_is_after before p high e h =
    let same : run before e.0 ≡ run before p = ap (run before) h.partner in
    let a : run before p < e.1 = h.above in
    omega arith

after_longer : (before : List Delivery) (d : Delivery) (e : ℕ × ℕ) → IsAfter (before ++ d ∷ []) e → IsAfter before e
after_longer before d e h =
    let a : run (before ++ d ∷ []) e.0 < e.1 = h in
    let l : run before e.0 ≤ run (before ++ d ∷ []) e.0 = run_grows before (d ∷ []) e.0 in
    omega arith

All-order_after : (before ds : List Delivery) → All (IsAfter before) (order_after before ds)
unfolding numbers_made_next
All-order_after before [] = All-nil _
All-order_after before (d ∷ ds) =
    let one = before ++ d ∷ [] in
    let low = run before d.partner in
    All-append (IsAfter before) (numbers_made_next before d) (order_after one ds)
    (All-weaker (IsAmong d.partner low (low + (run one d.partner - low))) (IsAfter before) (among_is_after before d.partner _) (numbers_made_next before d) (All-numbers_above d.partner low (run one d.partner - low)))
    (All-weaker (IsAfter one) (IsAfter before) (after_longer before d) (order_after one ds) (All-order_after one ds))

after_is_beyond : (before : List Delivery) (d : Delivery) (p : ℕ) (e : ℕ × ℕ) → IsAfter (before ++ d ∷ []) e → IsBeyond p (run before p + (run (before ++ d ∷ []) p - run before p)) e
after_is_beyond before d p e h of =
    let a : run (before ++ d ∷ []) e.0 < e.1 = h in
    let same : run (before ++ d ∷ []) e.0 ≡ run (before ++ d ∷ []) p = ap (run (before ++ d ∷ [])) of in
    let l : run before p ≤ run (before ++ d ∷ []) p = run_grows before (d ∷ []) p in
    omega arith

AllPairs-order_after : (before ds : List Delivery) → AllPairs (λ x y. x ≢ y) (order_after before ds)
unfolding numbers_made_next
AllPairs-order_after before [] = λ i j d lt within. absurd (omega arith)
AllPairs-order_after before (d ∷ ds) =
    let one = before ++ d ∷ [] in
    let low = run before d.partner in
    AllPairs-numbers_above d.partner low (run one d.partner - low) (order_after one ds)
    (All-weaker (IsAfter one) (IsBeyond d.partner (low + (run one d.partner - low))) (after_is_beyond before d d.partner) (order_after one ds) (All-order_after one ds))
    (AllPairs-order_after one ds)

pub no_pair_twice : (ds : List Delivery) → AllPairs (λ x y. x ≢ y) (order ds)
unfolding order
no_pair_twice ds = AllPairs-order_after [] ds

filter-own : (p low n : ℕ) → filter (is_of p) (numbers_above p low n) ≡ numbers_above p low n
filter-own p low zero = refl
filter-own p low (suc n) =
    cond-true (p == p) ((p, low + 1) ∷ filter (is_of p) (numbers_above p (low + 1) n)) (filter (is_of p) (numbers_above p (low + 1) n)) (eq-eqb p p refl)
    ∙ ap (λ es. (p, low + 1) ∷ es) (filter-own p (low + 1) n)

filter-others : (p q low n : ℕ) → q ≢ p → filter (is_of p) (numbers_above q low n) ≡ []
filter-others p q low zero h = refl
filter-others p q low (suc n) h =
    cond-false (q == p) ((q, low + 1) ∷ filter (is_of p) (numbers_above q (low + 1) n)) (filter (is_of p) (numbers_above q (low + 1) n)) (ne_eqb q p h)
    ∙ filter-others p q (low + 1) n h

filter-made_next : (p : ℕ) (before : List Delivery) (d : Delivery) → filter (is_of p) (numbers_made_next before d) ≡ numbers_above p (run before p) (run (before ++ d ∷ []) p - run before p)
unfolding numbers_made_next
filter-made_next p before d =
    elim (cases_eq d.partner p) [
      | inl e ↦
          filter-own' e
      | inr n ↦
          let stays : run (before ++ d ∷ []) p ≡ run before p = other_run-stays before d p (λ e. n (sym e)) in
          let none : 0 ≡ run (before ++ d ∷ []) p - run before p = omega arith in
          filter-others p d.partner (run before d.partner) (run (before ++ d ∷ []) d.partner - run before d.partner) n
          ∙ ap (numbers_above p (run before p)) none
    ]
  where
    filter-own' : d.partner ≡ p → filter (is_of p) (numbers_above d.partner (run before d.partner) (run (before ++ d ∷ []) d.partner - run before d.partner)) ≡ numbers_above p (run before p) (run (before ++ d ∷ []) p - run before p)
    filter-own' e =
        ap (λ q. filter (is_of p) (numbers_above q (run before q) (run (before ++ d ∷ []) q - run before q))) e
        ∙ filter-own p (run before p) (run (before ++ d ∷ []) p - run before p)

filter-order_after : (p : ℕ) (before ds : List Delivery) → filter (is_of p) (order_after before ds) ≡ numbers_above p (run before p) (run (before ++ ds) p - run before p)
filter-order_after p before [] =
    let none : 0 ≡ run before p - run before p = omega arith in
    ap (numbers_above p (run before p)) (none ∙ ap (λ b. run b p - run before p) (sym (append-nil before)))
filter-order_after p before (d ∷ ds) =
    let one = before ++ d ∷ [] in
    filter-append (is_of p) (numbers_made_next before d) (order_after one ds)
    ∙ ap (λ es. es ++ filter (is_of p) (order_after one ds)) (filter-made_next p before d)
    ∙ ap (λ es. numbers_above p (run before p) (run one p - run before p) ++ es) (filter-order_after p one ds)
    ∙ numbers_above-join p (run before p) (run one p) (run (one ++ ds) p) (run_grows before (d ∷ []) p) (run_grows one ds p)
    ∙ ap (λ b. numbers_above p (run before p) (run b p - run before p)) (append_assoc before (d ∷ []) ds)

-- of each partner, Order has its run, in number order
pub order-of : (ds : List Delivery) (p : ℕ) → filter (is_of p) (order ds) ≡ numbers_above p 0 (run ds p)
unfolding order
order-of ds p =
    let none : run [] p ≡ 0 = run_of_none p in
    let all : run ds p - 0 ≡ run ds p = omega arith in
    filter-order_after p [] ds ∙ ap (λ n. numbers_above p n (run ds p - n)) none ∙ ap (numbers_above p 0) all

-- the pair is the number's
abbrev is_numbered : ℕ → ℕ × ℕ → Bool
is_numbered k e = e.1 == k

any-filter : (p k : ℕ) (xs : List (ℕ × ℕ)) → list_any (λ e. (e.0 == p) && (e.1 == k)) xs ≡ list_any (is_numbered k) (filter (is_of p) xs)
any-filter p k [] = refl
any-filter p k (x ∷ xs) =
    elim (x.0 == p) as (λ b. ((b && (x.1 == k)) || list_any (λ e. (e.0 == p) && (e.1 == k)) xs) ≡ list_any (is_numbered k) (cond b (x ∷ filter (is_of p) xs) (filter (is_of p) xs))) [
      | true ↦ ap (λ b. (x.1 == k) || b) (any-filter p k xs)
      | false ↦ any-filter p k xs
    ]

any-numbers_above : (p low n k : ℕ) → list_any (is_numbered k) (numbers_above p low n) ≡ true → (low < k) × (k ≤ low + n)
any-numbers_above p low zero k h = cc
any-numbers_above p low (suc n) k h =
    elim (or_cases (low + 1 == k) (list_any (is_numbered k) (numbers_above p (low + 1) n)) h) [
      | inl e ↦ let same : low + 1 ≡ k = eqb-true (low + 1) k e in (omega arith, omega arith)
      | inr later ↦
          let h' = any-numbers_above p (low + 1) n k later in
          let a : low + 1 < k = h'.0 in
          let b : k ≤ low + 1 + n = h'.1 in
          (omega arith, omega arith)
    ]

numbers_above-any : (p low n k : ℕ) → low < k → k ≤ low + n → list_any (is_numbered k) (numbers_above p low n) ≡ true
numbers_above-any p low zero k a b = absurd (omega arith)
numbers_above-any p low (suc n) k a b =
    elim (cases_eq (low + 1) k) [
      | inl e ↦ or_left (low + 1 == k) (list_any (is_numbered k) (numbers_above p (low + 1) n)) (eq-eqb (low + 1) k e)
      | inr ne ↦ or_right (low + 1 == k) (list_any (is_numbered k) (numbers_above p (low + 1) n)) (numbers_above-any p (low + 1) n k (omega arith) (omega arith))
    ]

module _ {S : Type 0} (taken : Taking S) where
  replied-among : (texts : ℕ → ℕ → List ℕ) (xs : List (ℕ × ℕ)) (s : S) (p k : ℕ) → is_some (reply_among taken texts xs s p k) ≡ list_any (λ e. (e.0 == p) && (e.1 == k)) xs
  replied-among texts [] s p k = refl
  replied-among texts (x ∷ xs) s p k =
      elim ((x.0 == p) && (x.1 == k)) as (λ b.
      is_some (cond b (Some (taken s x.0 (texts x.0 x.1)).1) (reply_among taken texts xs (taken s x.0 (texts x.0 x.1)).0 p k)) ≡ (b || list_any (λ e. (e.0 == p) && (e.1 == k)) xs)) [
        | true ↦ refl
        | false ↦ replied-among texts xs (taken s x.0 (texts x.0 x.1)).0 p k
      ]

  replied-run : (opening : S) (ds : List Delivery) (p k : ℕ) → is_some (reply_of taken opening ds p k) ≡ list_any (is_numbered k) (numbers_above p 0 (run ds p))
  unfolding reply_of
  replied-run opening ds p k =
      replied-among (text_under ds) (order ds) opening p k ∙ any-filter p k (order ds) ∙ ap (list_any (is_numbered k)) (order-of ds p)

  -- a number has a reply exactly within the run
  pub replied_within : (opening : S) (ds : List Delivery) (p k : ℕ) → is_some (reply_of taken opening ds p k) ≡ true → (1 ≤ k) × (k ≤ run ds p)
  replied_within opening ds p k h =
      let parts = any-numbers_above p 0 (run ds p) k (sym (replied-run opening ds p k) ∙ h) in
      let a : 0 < k = parts.0 in
      let b : k ≤ 0 + run ds p = parts.1 in
      (omega arith, omega arith)

  pub within_replied : (opening : S) (ds : List Delivery) (p k : ℕ) → 1 ≤ k → k ≤ run ds p → is_some (reply_of taken opening ds p k) ≡ true
  within_replied opening ds p k a b = replied-run opening ds p k ∙ numbers_above-any p 0 (run ds p) k (omega arith) (omega arith)
