-- Lists of those that pass a test, compared one after the other.
use Rattle.std.specs.Prelude.{◌↔◌, filter, slice_get}
use Rattle.std.proofs.Common.{◌≡◌, ℕ, zero, suc, ◌+◌, ◌==◌, ◌≤◌, List, [], ◌∷◌, Bool, true, false, None, Some, length, drop, ◌++◌, ◌<◌, refl, sym, ap, ◌∙◌, add-one, arith}
use Rattle.std.proofs.lemmas.List.{length-drop, drop_all}

module _ {A : Type 0} where
  -- from the element at an index on
  drop_at : (xs : List A) (n : ℕ) (x : A) → slice_get xs n ≡ Some x → drop n xs ≡ x ∷ drop (suc n) xs
  drop_at [] n x is = let never : None ≡ Some x = is in absurd cc
  drop_at (y ∷ xs) zero x is = cc
  drop_at (y ∷ xs) (suc n) x is = drop_at xs n x is

  at_drop : (xs : List A) (n : ℕ) (x : A) (rest : List A) → drop n xs ≡ x ∷ rest → slice_get xs n ≡ Some x
  at_drop [] zero x rest is = let never : [] ≡ x ∷ rest = is in absurd cc
  at_drop [] (suc n) x rest is = let never : [] ≡ x ∷ rest = is in absurd cc
  at_drop (y ∷ xs) zero x rest is = cc
  at_drop (y ∷ xs) (suc n) x rest is = at_drop xs n x rest is

  module _ (p : A → Bool) where
    took : (y : A) (ys : List A) → p y ≡ true → filter p (y ∷ ys) ≡ y ∷ filter p ys
    took y ys passes = rw passes refl

    left : (y : A) (ys : List A) → p y ≡ false → filter p (y ∷ ys) ≡ filter p ys
    left y ys fails = rw fails refl

    -- some are those of others that pass, if from these on they are
    abbrev pub GoOn : (xs ys : List A) (n i : ℕ) → Type 0
    GoOn xs ys n i = (xs ≡ filter p ys) ↔ (drop n xs ≡ filter p (drop i ys))

    module _ (xs ys : List A) (n i : ℕ) (y : A) (at : slice_get ys i ≡ Some y) where
      -- the next one passes, and is the next
      pub goes_on_with : p y ≡ true → slice_get xs n ≡ Some y → GoOn xs ys n i → GoOn xs ys (n + 1) (i + 1)
      goes_on_with passes is goes = rw (add-one, add-one) (λ same. let e = goes.0 same in cc (e, here, there), λ e. goes.1 (here ∙ ap (λ l. y ∷ l) e ∙ sym there))
        where
          here : drop n xs ≡ y ∷ drop (suc n) xs
          here = drop_at xs n y is

          there : filter p (drop i ys) ≡ y ∷ filter p (drop (suc i) ys)
          there = ap (filter p) (drop_at ys i y at) ∙ took y (drop (suc i) ys) passes

      -- it does not pass
      pub goes_on_without : p y ≡ false → GoOn xs ys n i → GoOn xs ys n (i + 1)
      goes_on_without fails goes = rw add-one (λ same. goes.0 same ∙ there, λ e. goes.1 (e ∙ sym there))
        where
          there : filter p (drop i ys) ≡ filter p (drop (suc i) ys)
          there = ap (filter p) (drop_at ys i y at) ∙ left y (drop (suc i) ys) fails

      -- it passes, so that it is the next one, if these are all
      pub is_the_next : p y ≡ true → GoOn xs ys n i → xs ≡ filter p ys → slice_get xs n ≡ Some y
      is_the_next passes goes same = at_drop xs n y (filter p (drop (suc i) ys)) (goes.0 same ∙ ap (filter p) (drop_at ys i y at) ∙ took y (drop (suc i) ys) passes)

    -- at the end they are, if none is left
    pub none_is_left : (xs ys : List A) (n i : ℕ) → length ys ≤ i → n ≤ length xs → GoOn xs ys n i → (n ≡ length xs) ↔ (xs ≡ filter p ys)
    none_is_left xs ys n i end within goes =
        let none : filter p (drop i ys) ≡ [] = ap (filter p) (drop_all i ys end) in (
          λ all. goes.1 (drop_all n xs (omega (arith, all)) ∙ sym none),
          λ same. let e : length (drop n xs) ≡ 0 = ap length (goes.0 same ∙ none) in omega (arith, e, length-drop n xs, within),
        )
