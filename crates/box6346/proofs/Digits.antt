-- A text of digits has a digit at each position.
use Rattle.std.{specs.{Char.is_ascii_digit, List.list_all}, proofs.Common.{◌≡◌, ℕ, ◌<◌, Bool, true, false, List, length, get_or, inl, inr}}
use Rattle.std.proofs.{lemmas.List.Folds.list_all_at, lemmas.Bool.cases_Bool}

contradicts : (b c : Bool) → b ≡ true → b ≡ false → c ≡ true
contradicts b c holds fails = cc

pub digit_at : (digits : List ℕ) (position : ℕ) → position < length digits → list_all is_ascii_digit digits ≡ true → is_ascii_digit (get_or digits position 0) ≡ true
digit_at digits position within all =
    elim (cases_Bool (is_ascii_digit (get_or digits position 0))) [
      | inl digit ↦ digit
      | inr other ↦ contradicts (list_all is_ascii_digit digits) _ all (list_all_at is_ascii_digit digits position 0 within other)
    ]
