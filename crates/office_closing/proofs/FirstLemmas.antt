-- Lists that are the first of others.
use Rattle.std.proofs.Common.{◌≡◌, ℕ, ◌≤◌, ◌<◌, List, length, map, take, drop, ◌++◌, get_or, sym, ap, ◌∙◌, arith, length-append}
use Rattle.std.proofs.lemmas.List.{get_or-map, get_or_append_left, length-map, map-append, take_all, take-append-drop}
use Rattle.office_closing.specs.Copies.{AreFirst}

module _ {A B : Type 0} (f : A → B) (xs ys : List A) where
  -- those that are the first are no more
  pub first_no_more : AreFirst (map f xs) (map f ys) → length xs ≤ length ys
  first_no_more first =
      omega (arith, ap length first.1, length-append (map f xs) first.0, length-map xs f, length-map ys f)

  -- and each is the one at its place
  pub first_same : AreFirst (map f xs) (map f ys) → (i : ℕ) (x y : A) → i < length xs → x ≡ get_or xs i x → y ≡ get_or ys i y → f x ≡ f y
  first_same first i x y within here there =
      let long = first_no_more first in
      ap f here ∙ sym (get_or-map f xs i x (f x) within)
      ∙ sym (get_or_append_left (map f xs) first.0 (f x) i (omega (arith, within, length-map xs f)))
      ∙ ap (λ l. get_or l i (f x)) (sym first.1) ∙ get_or-map f ys i y (f x) (omega (arith, within, long)) ∙ sym (ap f there)

  pub are_the_first : (i : ℕ) → length xs ≤ i → i ≤ length xs → map f (take i xs) ≡ map f (take i ys) → AreFirst (map f xs) (map f ys)
  are_the_first i high low same = (
    map f (drop i ys),
    ap (map f) (sym (take-append-drop i ys)) ∙ map-append f (take i ys) (drop i ys) ∙ ap (λ l. l ++ map f (drop i ys)) (sym same ∙ ap (map f) (take_all i xs high)),
  )
