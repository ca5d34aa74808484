-- One digit more, while there is room for one.
use Rattle.std.proofs.{Common.{ℕ, ◌+◌, ◌-◌, ◌*◌, ◌<◌, ◌≤◌, List, [], ◌∷◌, ◌++◌, sym, ap, ◌∙◌, append_assoc, arith}, lemmas.List.length_push}
use Rattle.edi_syntax.proofs.BlockLemmas.{digits_value_one, digits_one, small_one, has_room}
use Rattle.edi_syntax.proofs.head.number_of.Goals as goal

pub overflow_mul-number : goal.overflow_mul-number
overflow_mul-number c =
    let small : c.loop-byte.number < 10000000000000 = has_room c.loop-byte.number c.loop-byte.len c.args.limit c.loop-byte.invariant.small (omega arith) c.requires in omega arith

pub overflow_add-number : goal.overflow_add-number
overflow_add-number c =
    let small : c.loop-byte.number < 10000000000000 = has_room c.loop-byte.number c.loop-byte.len c.args.limit c.loop-byte.invariant.small (omega arith) c.requires in
    let digit = c.if-not-is_ascii_digit.ensures.cases in
    omega (arith, c.from.ensures, digit)

pub loop-byte-preserved : goal.loop-byte-preserved
loop-byte-preserved c =
    let digit = c.if-not-is_ascii_digit.ensures.cases in
    let low : 48 ≤ c.in-Some.byte = omega (arith, digit) in
    let high : c.in-Some.byte ≤ 57 = omega (arith, digit) in
    record {
      passed = c.loop-byte.invariant.passed ∙ ap (λ (left : List ℕ). c.loop-byte.yielded ++ left) c.in-Some.ensures.steps ∙ sym (append_assoc c.loop-byte.yielded (c.in-Some.byte ∷ []) _);
      counted = length_push c.loop-byte.yielded c.in-Some.byte ∙ ap (λ (n : ℕ). n + 1) c.loop-byte.invariant.counted;
      few = omega arith;
      digits = digits_one c.loop-byte.yielded c.in-Some.byte c.loop-byte.invariant.digits low high;
      number = rw c.from.ensures (ap (λ (n : ℕ). n * 10 + (c.in-Some.byte - 48)) c.loop-byte.invariant.number ∙ digits_value_one c.loop-byte.yielded c.in-Some.byte low high);
      small = small_one c.loop-byte.number c.loop-byte.len c.from.result c.loop-byte.invariant.small (omega (arith, c.from.ensures));
    }
