use Rattle.std.proofs.{Common.{◌<◌, ◌≤◌, ◌+◌, ◌*◌, ◌-◌, ℕ, take, get_or, ap, ◌∙◌, arith}, lemmas.List.take_more}
use Rattle.edi_syntax.proofs.BlockLemmas.{digits_value_one, digits_one, small_one}
use Rattle.office_reports.proofs.Parting.{has_room}
use Rattle.office_reports.proofs.keys.number_of.Goals as goal

pub overflow_mul-number : goal.overflow_mul-number
overflow_mul-number c =
    let small : c.loop-byte.number < 1000000000000000000 = has_room c.loop-byte.number c.loop-byte.byte-index c.loop-byte.invariant.small (omega arith) in omega arith

pub overflow_add-number : goal.overflow_add-number
overflow_add-number c =
    let small : c.loop-byte.number < 1000000000000000000 = has_room c.loop-byte.number c.loop-byte.byte-index c.loop-byte.invariant.small (omega arith) in
    let digit = c.if-not-is_ascii_digit.ensures.cases in
    omega (arith, c.from.ensures, digit)

pub loop-byte-preserved : goal.loop-byte-preserved
loop-byte-preserved c =
    let front = take c.loop-byte.byte-index c.args.digits.now in
    let byte = get_or c.args.digits.now c.loop-byte.byte-index 0 in
    let digit = c.if-not-is_ascii_digit.ensures.cases in
    let low : 48 ≤ byte = omega (arith, digit) in
    let high : byte ≤ 57 = omega (arith, digit) in
    let more = take_more c.args.digits.now c.loop-byte.byte-index 0 c.loop-byte-test.true in
    record {
      digits = rw more (digits_one front byte c.loop-byte.invariant.digits low high);
      number = rw (more, c.from.ensures) (ap (λ (n : ℕ). n * 10 + (byte - 48)) c.loop-byte.invariant.number ∙ digits_value_one front byte low high);
      small = small_one c.loop-byte.number c.loop-byte.byte-index c.from.result c.loop-byte.invariant.small (omega (arith, c.from.ensures));
    }
