-- Texts that grow by parts.
use Rattle.std.{specs.Prelude.{Result, Ok, Err, OnOk, is_ok, if◌then◌else◌}, proofs.Common.{◌≡◌, List, ℕ}}

-- one part more, if there was memory
pub if_pushed : {A E : Type 0} (r : Result A E) (text pushed before : List ℕ) → text ≡ (if is_ok r then pushed else before) → OnOk r (text ≡ pushed)
if_pushed (Ok v) text pushed before e = e
if_pushed (Err f) text pushed before e = tt
