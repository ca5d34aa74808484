-- The bytes of the arrays, one by one.
use Rattle.std.proofs.Common.{◌≡◌, ℕ, List, [], ◌∷◌, ◌++◌, length, get_or, refl, ap, ◌∙◌, arith}
use Rattle.edi_syntax.specs.Moments.{moment_of}
use Rattle.edi_syntax.proofs.head.moment_in_century.Goals as goal

abbrev first_four : List ℕ → List ℕ
first_four xs = get_or xs 0 0 ∷ get_or xs 1 0 ∷ get_or xs 2 0 ∷ get_or xs 3 0 ∷ []

abbrev first_six : List ℕ → List ℕ
first_six xs = get_or xs 0 0 ∷ get_or xs 1 0 ∷ get_or xs 2 0 ∷ get_or xs 3 0 ∷ get_or xs 4 0 ∷ get_or xs 5 0 ∷ []

four : (xs : List ℕ) → length xs ≡ 4 → first_four xs ≡ xs
four [] long = absurd (omega arith)
four (a ∷ []) long = absurd (omega arith)
four (a ∷ b ∷ []) long = absurd (omega arith)
four (a ∷ b ∷ c ∷ []) long = absurd (omega arith)
four (a ∷ b ∷ c ∷ d ∷ []) long = refl
four (a ∷ b ∷ c ∷ d ∷ e ∷ xs) long = absurd (omega arith)

six : (xs : List ℕ) → length xs ≡ 6 → first_six xs ≡ xs
six [] long = absurd (omega arith)
six (a ∷ []) long = absurd (omega arith)
six (a ∷ b ∷ []) long = absurd (omega arith)
six (a ∷ b ∷ c ∷ []) long = absurd (omega arith)
six (a ∷ b ∷ c ∷ d ∷ []) long = absurd (omega arith)
six (a ∷ b ∷ c ∷ d ∷ e ∷ []) long = absurd (omega arith)
six (a ∷ b ∷ c ∷ d ∷ e ∷ f ∷ []) long = refl
six (a ∷ b ∷ c ∷ d ∷ e ∷ f ∷ g ∷ xs) long = absurd (omega arith)

pub returns : goal.returns
returns c =
    c.parse.ensures
    ∙ ap (λ (t : List ℕ). moment_of (50 ∷ 48 ∷ (first_six c.args.date.now ++ t))) (four c.args.time.now c.told-time)
    ∙ ap (λ (d : List ℕ). moment_of (50 ∷ 48 ∷ (d ++ c.args.time.now))) (six c.args.date.now c.told-date)
