-- What is told of things in order, one of each.
use Rattle.std.specs.Prelude.{ℕ, ◌+◌, List, [], ◌∷◌}

-- One is told of each thing, in their order, which are counted from a number.
abbrev pub InOrder : {A B : Type 0} → (ℕ → A → B → Type 0) → ℕ → List A → List B → Type 0
InOrder Is first [] [] = Unit {0}
InOrder Is first [] (one ∷ told) = ⊥
InOrder Is first (thing ∷ things) [] = ⊥
InOrder Is first (thing ∷ things) (one ∷ told) = Is first thing one × InOrder Is (first + 1) things told
