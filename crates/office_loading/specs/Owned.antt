-- Whose interchanges a list of them begins with: what the code relies on, and no caller has to read.
use Rattle.std.specs.Prelude.{◌≡◌, ◌≢◌, ℕ, List, [], ◌∷◌}
use Rattle.office_rows.specs.Opened.{NumberKept}

-- all are the partner's
abbrev pub AreOwn : ℕ → List NumberKept → Type 0
AreOwn partner [] = Unit {0}
AreOwn partner (row ∷ rows) = (row.partner ≡ partner) × AreOwn partner rows

-- the first, if there is one, is another's
abbrev pub BeginsElse : ℕ → List NumberKept → Type 0
BeginsElse partner [] = Unit {0}
BeginsElse partner (row ∷ rows) = row.partner ≢ partner
