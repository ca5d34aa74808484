-- The first byte that is the separator, as the search finds it.
use Rattle.std.proofs.{Common.{◌≡◌, ℕ, ◌<◌, nat_eq, length, get_or, sym, false, inl, inr, arith}, lemmas.Bool.cases_Bool, lemmas.List.Sums.position_or_len_is}
use Rattle.edi_syntax.proofs.part.len_before_in_rest.Goals as goal

pub returns-in-Some : goal.returns-in-Some
returns-in-Some c =
    let bytes = c.args.bytes.now in
    let found = c.in-Some.ensures in
    let passed : (k : ℕ) → k < c.in-Some.at → nat_eq (get_or bytes k 0) c.args.separator ≡ false = λ k below. elim (cases_Bool (nat_eq (get_or bytes k 0) c.args.separator)) [ inl is ↦ absurd (found.0.before k (omega arith) below is) | inr other ↦ other ] in
    sym (position_or_len_is (λ (b : ℕ). nat_eq b c.args.separator) bytes c.in-Some.at 0 (omega (arith, found.0.high)) passed (λ within. found.1))

-- there is none
pub returns-in-None : goal.returns-in-None
returns-in-None c =
    let bytes = c.args.bytes.now in
    let passed : (k : ℕ) → k < length bytes → nat_eq (get_or bytes k 0) c.args.separator ≡ false = λ k below. elim (cases_Bool (nat_eq (get_or bytes k 0) c.args.separator)) [ inl is ↦ absurd (c.in-None.ensures k (omega arith) below is) | inr other ↦ other ] in
    sym (position_or_len_is (λ (b : ℕ). nat_eq b c.args.separator) bytes (length bytes) 0 (omega arith) passed (λ within. absurd (omega arith)))
