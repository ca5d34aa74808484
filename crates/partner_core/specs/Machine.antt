use Rattle.std.specs.Prelude.{ℕ, List}

-- what taking a text does: from a state, a partner and the text, the state after it and the reply
abbrev pub Taking : Type 0 → Type 0
Taking S = S → ℕ → List ℕ → S × List ℕ
