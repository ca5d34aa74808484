-- The first byte that is the separator, or none of two more.
use Rattle.std.proofs.{Common.{◌≡◌, ℕ, ◌+◌, ◌<◌, false, nat_eq, length, get_or, sym, below_more, arith}, lemmas.Bool.{ne_eqb, eq-eqb}}
use Rattle.std.proofs.lemmas.List.Sums.{position_or_len_is}
use Rattle.edi_syntax.proofs.part.len_before.Goals.{else-at-bytes-via-then-at-bytes+else-bytes-at-3, else-at-bytes-via-else-at-bytes}
use Rattle.edi_syntax.proofs.part.len_before.Goals as goal

pub returns-then-bytes-at : goal.returns-then-bytes-at
returns-then-bytes-at c =
    sym (position_or_len_is (λ (b : ℕ). nat_eq b c.args.separator) c.args.bytes.now c.loop-at.at 0 (omega arith) c.loop-at.invariant.passed (λ within. eq-eqb (get_or c.args.bytes.now c.loop-at.at 0) c.args.separator c.if-bytes-at.true))

pub returns-then-bytes-at-2 : goal.returns-then-bytes-at-2
returns-then-bytes-at-2 c =
    let passed : (k : ℕ) → k < c.loop-at.at + 1 → nat_eq (get_or c.args.bytes.now k 0) c.args.separator ≡ false = below_more (λ (k : ℕ). nat_eq (get_or c.args.bytes.now k 0) c.args.separator ≡ false) c.loop-at.at c.loop-at.invariant.passed (ne_eqb (get_or c.args.bytes.now c.loop-at.at 0) c.args.separator c.if-bytes-at.false) in
    sym (position_or_len_is (λ (b : ℕ). nat_eq b c.args.separator) c.args.bytes.now (c.loop-at.at + 1) 0 (omega arith) passed (λ within. eq-eqb (get_or c.args.bytes.now (c.loop-at.at + 1) 0) c.args.separator c.if-bytes-at-2.true))

pub returns-then-bytes-at-3 : goal.returns-then-bytes-at-3
returns-then-bytes-at-3 c =
    sym (position_or_len_is (λ (b : ℕ). nat_eq b c.args.separator) c.args.bytes.now c.loop-at.at 0 (omega arith) c.loop-at.invariant.passed (λ within. eq-eqb (get_or c.args.bytes.now c.loop-at.at 0) c.args.separator c.if-bytes-at-3.true))

pub returns : goal.returns
returns c =
    let bytes = c.args.bytes.now in
    elim c.else-at-bytes.branch [
      | else-at-bytes-via-then-at-bytes+else-bytes-at-3 w ↦ sym (position_or_len_is (λ (b : ℕ). nat_eq b c.args.separator) bytes (length bytes) 0 (omega arith) (λ k below. below_more (λ (k : ℕ). nat_eq (get_or c.args.bytes.now k 0) c.args.separator ≡ false) c.loop-at.at c.loop-at.invariant.passed (ne_eqb (get_or c.args.bytes.now c.loop-at.at 0) c.args.separator w.if-bytes-at-3.false) k (omega arith)) (λ within. absurd (omega arith)))
      | else-at-bytes-via-else-at-bytes w ↦ sym (position_or_len_is (λ (b : ℕ). nat_eq b c.args.separator) bytes (length bytes) 0 (omega arith) (λ k below. c.loop-at.invariant.passed k (omega arith)) (λ within. absurd (omega arith)))
    ]
