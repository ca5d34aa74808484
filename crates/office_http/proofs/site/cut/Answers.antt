use Rattle.std.{specs.List.position_or_len, proofs.Common.{◌≡◌, ◌==◌, ◌<◌, ◌≤◌, ◌+◌, ℕ, List, length, take, drop, get_or, sym, ap, ◌∙◌, arith}}
use Rattle.std.proofs.{lemmas.Bool.{eq-eqb, ne_eqb}, lemmas.List.{drop_all, take_all, take_rest}, lemmas.List.Sums.position_or_len_is}
use Rattle.office_http.specs.Sites.{after, before}
use Rattle.office_http.proofs.site.cut.Goals as goal

-- where the first is
module _ (mark : ℕ) (text : List ℕ) (at : ℕ) (none : (k : ℕ) → k < at → get_or text k 0 ≡ mark → ⊥) where
  place : at ≤ length text → (at < length text → get_or text at 0 ≡ mark) → position_or_len (λ b. b == mark) text ≡ at
  place within here = position_or_len_is (λ b. b == mark) text at 0 within (λ k less. ne_eqb _ mark (none k less)) (λ less. eq-eqb _ mark (here less))

  until : at ≤ length text → (at < length text → get_or text at 0 ≡ mark) → take at text ≡ before mark text
  until within here = ap (λ (n : ℕ). take n text) (sym (place within here))

  beyond : at ≤ length text → (at < length text → get_or text at 0 ≡ mark) → drop (at + 1) text ≡ after mark text
  beyond within here = ap (λ (n : ℕ). drop (n + 1) text) (sym (place within here))

pub returns-then-byte-mark-clause-before : goal.returns-then-byte-mark-clause-before
returns-then-byte-mark-clause-before c = until c.args.mark c.args.text.now c.loop-at.at c.loop-at.invariant (omega arith) (λ less. c.if-byte-mark.true)

pub returns-then-byte-mark-clause-after : goal.returns-then-byte-mark-clause-after
returns-then-byte-mark-clause-after c =
    take_rest c.args.text.now (c.loop-at.at + 1) ∙ beyond c.args.mark c.args.text.now c.loop-at.at c.loop-at.invariant (omega arith) (λ less. c.if-byte-mark.true)

-- it is nowhere
pub returns-clause-before : goal.returns-clause-before
returns-clause-before c =
    let text = c.args.text.now in
    let none : (k : ℕ) → k < length text → get_or text k 0 ≡ c.args.mark → ⊥ = λ k less. c.loop-at.invariant k (omega arith) in
    sym (take_all (length text) text (omega arith)) ∙ until c.args.mark text (length text) none (omega arith) (λ less. absurd (omega arith))

pub returns-clause-after : goal.returns-clause-after
returns-clause-after c =
    let text = c.args.text.now in
    let none : (k : ℕ) → k < length text → get_or text k 0 ≡ c.args.mark → ⊥ = λ k less. c.loop-at.invariant k (omega arith) in
    c.as_slice.ensures ∙ sym (drop_all (length text + 1) text (omega arith)) ∙ beyond c.args.mark text (length text) none (omega arith) (λ less. absurd (omega arith))
