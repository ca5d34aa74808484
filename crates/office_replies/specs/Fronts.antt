-- What a failed write leaves of a text.
use Rattle.std.specs.{Prelude.{◌≡◌, ℕ, List, ◌++◌, Option}, Io.KnownBytes.Appends}

-- a text begins so
abbrev pub IsFront : List ℕ → List ℕ → Type 0
IsFront front text = (behind : List ℕ) × (text ≡ front ++ behind)

-- a front of a text was appended
abbrev pub AppendsFront : Option (List ℕ) → Option (List ℕ) → List ℕ → Type 0
AppendsFront old new text = (front : List ℕ) × IsFront front text × Appends old new front
