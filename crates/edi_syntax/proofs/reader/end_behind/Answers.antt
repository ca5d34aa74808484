-- The bytes that are passed over at once, and then one that ends the search, one that is released, or one more.
use Rattle.std.{specs.Option.option_map, proofs.{Common.{◌+◌, ◌<◌, Some, true, false, length, sym, ap, ◌∙◌, refl, arith}, lemmas.List.take_rest}}
use Rattle.edi_syntax.proofs.SegmentsLemmas.{end_more, end_past, end_passed, end_joined, end_released, no_released, invalid_released, goes_on}
use Rattle.edi_syntax.proofs.reader.end_behind.Goals as goal

pub returns-then-at-bytes-clause-found : goal.returns-then-at-bytes-clause-found
returns-then-at-bytes-clause-found c =
    let at = c.loop-at.at + c.len_of_inside-at.result in
    sym (end_joined c.args.table.now.service c.args.bytes.now _ c.loop-at.at c.len_of_inside-at.result (take_rest c.args.bytes.now c.loop-at.at) c.loop-at.invariant.passed c.len_of_inside-at.ensures.passes ∙ ap (option_map (λ n. at + n)) (end_past c.args.table.now.service false c.args.bytes.now at (omega (arith, c.if-at-bytes.true))))

pub returns-in-Terminator-clause-found : goal.returns-in-Terminator-clause-found
returns-in-Terminator-clause-found c =
    let at = c.loop-at.at + c.len_of_inside-at.result in
    let within : at < length c.args.bytes.now = omega arith in
    sym (end_joined c.args.table.now.service c.args.bytes.now _ c.loop-at.at c.len_of_inside-at.result (take_rest c.args.bytes.now c.loop-at.at) c.loop-at.invariant.passed c.len_of_inside-at.ensures.passes ∙ ap (option_map (λ n. at + n)) (end_more c.args.table.now.service false c.args.bytes.now at _ within c.in-Terminator.ensures) ∙ ap Some (omega arith))

pub returns-in-Invalid-clause-found : goal.returns-in-Invalid-clause-found
returns-in-Invalid-clause-found c =
    let at = c.loop-at.at + c.len_of_inside-at.result in
    let within : at < length c.args.bytes.now = omega arith in
    sym (end_joined c.args.table.now.service c.args.bytes.now _ c.loop-at.at c.len_of_inside-at.result (take_rest c.args.bytes.now c.loop-at.at) c.loop-at.invariant.passed c.len_of_inside-at.ensures.passes ∙ ap (option_map (λ n. at + n)) (end_more c.args.table.now.service false c.args.bytes.now at _ within c.in-Invalid.ensures))

pub returns-then-at-bytes-2-clause-found : goal.returns-then-at-bytes-2-clause-found
returns-then-at-bytes-2-clause-found c =
    let at = c.loop-at.at + c.len_of_inside-at.result in
    let within : at < length c.args.bytes.now = omega arith in
    sym (end_joined c.args.table.now.service c.args.bytes.now _ c.loop-at.at c.len_of_inside-at.result (take_rest c.args.bytes.now c.loop-at.at) c.loop-at.invariant.passed c.len_of_inside-at.ensures.passes ∙ no_released c.args.table.now.service c.args.bytes.now at _ within c.in-Release.ensures refl (end_past c.args.table.now.service true c.args.bytes.now (at + 1) (omega arith)))

pub returns-in-Invalid-released_token-clause-found : goal.returns-in-Invalid-released_token-clause-found
returns-in-Invalid-released_token-clause-found c =
    let at = c.loop-at.at + c.len_of_inside-at.result in
    let within : at < length c.args.bytes.now = omega arith in
    let further : at + 1 < length c.args.bytes.now = omega arith in
    sym (end_joined c.args.table.now.service c.args.bytes.now _ c.loop-at.at c.len_of_inside-at.result (take_rest c.args.bytes.now c.loop-at.at) c.loop-at.invariant.passed c.len_of_inside-at.ensures.passes ∙ no_released c.args.table.now.service c.args.bytes.now at _ within c.in-Release.ensures refl (invalid_released c.args.table.now.service c.args.bytes.now (at + 1) _ further c.in-Invalid-released_token.ensures refl))

pub loop-at-preserved-in_default-released_token : goal.loop-at-preserved-in_default-released_token
loop-at-preserved-in_default-released_token c =
    let at = c.loop-at.at + c.len_of_inside-at.result in
    let further : at + 1 < length c.args.bytes.now = omega arith in
    record {
      within = omega arith;
      passed = end_joined c.args.table.now.service c.args.bytes.now _ c.loop-at.at c.len_of_inside-at.result (take_rest c.args.bytes.now c.loop-at.at) c.loop-at.invariant.passed c.len_of_inside-at.ensures.passes ∙ end_released c.args.table.now.service c.args.bytes.now at _ _ further c.in-Release.ensures refl c.released_token.ensures c.in_default-released_token.not-Invalid;
    }

pub loop-at-preserved : goal.loop-at-preserved
loop-at-preserved c =
    let at = c.loop-at.at + c.len_of_inside-at.result in
    let further : at < length c.args.bytes.now = omega arith in
    record {
      within = omega arith;
      passed = end_joined c.args.table.now.service c.args.bytes.now _ c.loop-at.at c.len_of_inside-at.result (take_rest c.args.bytes.now c.loop-at.at) c.loop-at.invariant.passed c.len_of_inside-at.ensures.passes ∙ end_passed c.args.table.now.service c.args.bytes.now at _ further c.token.ensures (goes_on c.token.result c.in_default.not-Release c.in_default.not-Terminator c.in_default.not-Invalid);
    }

pub returns-clause-found : goal.returns-clause-found
returns-clause-found c =
    sym (c.loop-at.invariant.passed ∙ ap (option_map (λ n. c.loop-at.at + n)) (end_past c.args.table.now.service false c.args.bytes.now c.loop-at.at (omega arith)))
