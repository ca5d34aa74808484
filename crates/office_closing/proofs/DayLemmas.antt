-- Whether a store is of a day before a closing, by its next numbers and what had been taken then.
use Rattle.std.specs.List.{list_any}
use Rattle.std.proofs.lemmas.Bool.Decides.{nat_tests}
use Rattle.std.proofs.lemmas.List.Folds.{list_any-append}
use Rattle.std.proofs.Common.{◌≡◌, ℕ, ◌+◌, ◌-◌, ◌<◌, ◌≤◌, ◌++◌, ◌||◌, List, [], ◌∷◌, Bool, true, false, cond, not, filter, map, length, get_or, refl, ap, ap₂, subst, ◌∙◌, arith, nat_lt, zero, suc}
use Rattle.office_closing.specs.{declared.register.Segment.Segment, declared.comparing.Numbers.Numbers, Laws.TakenTellsTheDay}
use Rattle.office_closing.specs.Copies.{AreAtMost, segment_of, segments_of, closes_some, numbers_from}
use Rattle.office_closing.specs.Register.{is_passed, next_of}

module _ (place : ℕ) (others : List ℕ) where
  abbrev awaits : Segment → Bool
  awaits segment = not (is_passed others segment)

  abbrev taken : ℕ → List ℕ → List Segment
  taken id nexts = segments_of place (numbers_from (λ partner. 0) id nexts)

  -- the first account's segment, if it has one, and those of the others
  one_more : (id next : ℕ) (nexts : List ℕ) → list_any awaits (taken id (next ∷ nexts)) ≡ cond (nat_lt 0 (next - 1)) (not (nat_lt (next - 1) (next_of others id)) || list_any awaits (taken (id + 1) nexts)) (list_any awaits (taken (id + 1) nexts))
  one_more id next nexts = by (nat_lt 0 (next - 1))
    where
      one : Numbers
      one = record { partner = id; from = 0; to = next - 1 }

      rest : List Numbers
      rest = filter closes_some (numbers_from (λ partner. 0) (id + 1) nexts)

      by : (b : Bool) → list_any awaits (map (segment_of place) (cond b (one ∷ rest) rest)) ≡ cond b (not (nat_lt (next - 1) (next_of others id)) || list_any awaits (map (segment_of place) rest)) (list_any awaits (map (segment_of place) rest))
      by true = refl
      by false = refl

  none_awaited : (id : ℕ) (nexts : List ℕ) → ((k : ℕ) → k < length nexts → get_or nexts k 0 ≤ next_of others (id + k)) → list_any awaits (taken id nexts) ≡ false
  none_awaited id [] most = refl
  none_awaited id (next ∷ nexts) most =
      let here : next ≤ next_of others id = subst (λ n. next ≤ next_of others n) (omega arith) (most 0 (omega arith)) in
      let rest = none_awaited (id + 1) nexts (λ k low. subst (λ n. get_or nexts k 0 ≤ next_of others n) (omega arith) (most (suc k) (omega (arith, low)))) in
      one_more id next nexts ∙ by (nat_lt 0 (next - 1)) refl here rest
    where
      by : (b : Bool) → nat_lt 0 (next - 1) ≡ b → next ≤ next_of others id → list_any awaits (taken (id + 1) nexts) ≡ false → cond b (not (nat_lt (next - 1) (next_of others id)) || list_any awaits (taken (id + 1) nexts)) (list_any awaits (taken (id + 1) nexts)) ≡ false
      by false e here rest = rest
      by true e here rest = let passed : nat_lt (next - 1) (next_of others id) ≡ true = grind (arith, nat_tests) in ap₂ (λ x y. not x || y) passed rest

  one_awaited : (id k number : ℕ) (nexts : List ℕ) → 0 < number → number < get_or nexts k 0 → next_of others (id + k) ≤ number → list_any awaits (taken id nexts) ≡ true
  one_awaited id k number [] some low high = absurd (omega (arith, low))
  one_awaited id zero number (next ∷ nexts) some low high =
      let here : next_of others id ≤ number = subst (λ n. next_of others n ≤ number) (omega arith) high in
      let taken_some : nat_lt 0 (next - 1) ≡ true = grind (arith, nat_tests) in
      let awaited : nat_lt (next - 1) (next_of others id) ≡ false = grind (arith, nat_tests) in
      one_more id next nexts ∙ ap₂ (λ b x. cond b (not x || list_any awaits (taken (id + 1) nexts)) (list_any awaits (taken (id + 1) nexts))) taken_some awaited
  one_awaited id (suc k) number (next ∷ nexts) some low high =
      let rest = one_awaited (id + 1) k number nexts some low (subst (λ n. next_of others n ≤ number) (omega arith) high) in
      one_more id next nexts ∙ by (nat_lt 0 (next - 1)) (not (nat_lt (next - 1) (next_of others id))) rest
    where
      by : (b x : Bool) → list_any awaits (taken (id + 1) nexts) ≡ true → cond b (x || list_any awaits (taken (id + 1) nexts)) (list_any awaits (taken (id + 1) nexts)) ≡ true
      by false x rest = rest
      by true true rest = refl
      by true false rest = rest

  at_most : (nexts : List ℕ) (k : ℕ) → AreAtMost nexts others → k < length nexts → get_or nexts k 0 ≤ get_or others k 0
  at_most nexts k most low = places nexts others k most low
    where
      places : (nexts others : List ℕ) (k : ℕ) → AreAtMost nexts others → k < length nexts → get_or nexts k 0 ≤ get_or others k 0
      places [] others k most low = absurd (omega (arith, low))
      places (n ∷ nexts) [] k most low = absurd most
      places (n ∷ nexts) (m ∷ others) zero most low = most.0
      places (n ∷ nexts) (m ∷ others) (suc k) most low = places nexts others k most.1 (omega (arith, low))

  of_no_day_before : (nexts : List ℕ) (before : List Segment) → list_any awaits before ≡ false → AreAtMost nexts others → list_any awaits (before ++ taken 1 nexts) ≡ false
  of_no_day_before nexts before none most =
      list_any-append awaits before (taken 1 nexts)
      ∙ ap₂ ◌||◌ none (none_awaited 1 nexts (λ k low. let next : suc k ≡ 1 + k = omega arith in subst (λ n. get_or nexts k 0 ≤ next_of others n) next (at_most nexts k most low)))

  of_a_day_before : (nexts : List ℕ) (before : List Segment) (partner number : ℕ) → 0 < number → number < next_of nexts partner → next_of others partner ≤ number → list_any awaits (before ++ taken 1 nexts) ≡ true
  of_a_day_before nexts before zero number some low high = absurd (omega (arith, low))
  of_a_day_before nexts before (suc partner) number some low high =
      list_any-append awaits before (taken 1 nexts)
      ∙ ap (λ b. list_any awaits before || b) (one_awaited 1 partner number nexts some low (let next : suc partner ≡ 1 + partner = omega arith in subst (λ n. next_of others n ≤ number) next high))
      ∙ or_true (list_any awaits before)
    where
      or_true : (b : Bool) → (b || true) ≡ true
      or_true true = refl
      or_true false = refl

pub tells_the_day : TakenTellsTheDay
tells_the_day archive nexts others register = record {
  goes_on = of_no_day_before archive others nexts register.taken;
  awaits = of_a_day_before archive others nexts register.taken;
}
