-- Parties with an account more.
use Rattle.std.specs.Prelude.{◌≡◌, ℕ, List, [], ◌∷◌, ◌++◌, Ok}
use Rattle.office_admission.specs.{Parties.Parties, Admission.admission}

-- the parties, a partner of that code being the last
abbrev pub with_party : Parties → List ℕ → Parties
with_party parties code = record parties { partners = parties.partners ++ code ∷ [] }

-- What was admitted stays admitted with an account more, for the same partner and number.
abbrev pub AdmittedStays : Type 0
AdmittedStays =
    (parties : Parties) (code text : List ℕ) (found : ℕ × ℕ) → admission parties text ≡ Ok found
    → admission (with_party parties code) text ≡ Ok found
