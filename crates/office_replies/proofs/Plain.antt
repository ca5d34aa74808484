-- A text that JSON writes as it is.
use Rattle.std.{specs.List.list_all, proofs.{Common.{◌≡◌, ℕ, ◌<◌, List, length, get_or, Bool, true, false, refl, sym, ◌∙◌}, lemmas.List.Folds.list_all_at}}
use Rattle.json.{specs.{Run.is_plain, Print.escape}, proofs.Printed.Plain.escape_on_plain}

plain_at : (xs : List ℕ) → list_all is_plain xs ≡ true → (k : ℕ) → k < length xs → (plain : Bool) → is_plain (get_or xs k 0) ≡ plain → plain ≡ true
plain_at xs all k low true e = refl
plain_at xs all k low false e = sym (list_all_at is_plain xs k 0 low e) ∙ all

pub escape_plain : (xs : List ℕ) → list_all is_plain xs ≡ true → escape xs ≡ xs
escape_plain xs all = escape_on_plain true xs (λ k above low. plain_at xs all k low (is_plain (get_or xs k 0)) refl)
