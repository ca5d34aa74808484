-- The separator, a release character and what it releases, or one byte more.
use Rattle.std.{specs.Option.option_map, proofs.{Common.{◌+◌, ◌<◌, false, length, get_or, sym, ap, ◌∙◌, arith}, lemmas.Bool.ne_eqb, lemmas.List.take_rest}}
use Rattle.edi_syntax.proofs.PartLemmas.{separator_here, separator_nowhere, separator_passed, separator_released, separator_cut, separator_joined}
use Rattle.edi_syntax.proofs.part.separator_behind_releases.Goals as goal

pub returns-then-at-bytes-clause-found : goal.returns-then-at-bytes-clause-found
returns-then-at-bytes-clause-found c =
    let at = c.loop-at.at + c.len_of_others-at.result in
    sym (separator_joined c.args.service c.args.separator c.args.bytes.now _ c.loop-at.at c.len_of_others-at.result (take_rest c.args.bytes.now c.loop-at.at) c.loop-at.invariant.passed c.len_of_others-at.ensures.passes ∙ ap (option_map (λ n. at + n)) (separator_nowhere c.args.service c.args.separator false c.args.bytes.now at (omega (arith, c.if-at-bytes.true))))

pub returns-then-bytes-at-clause-found : goal.returns-then-bytes-at-clause-found
returns-then-bytes-at-clause-found c =
    let at = c.loop-at.at + c.len_of_others-at.result in
    let here : at < length c.args.bytes.now = omega arith in
    sym (separator_joined c.args.service c.args.separator c.args.bytes.now _ c.loop-at.at c.len_of_others-at.result (take_rest c.args.bytes.now c.loop-at.at) c.loop-at.invariant.passed c.len_of_others-at.ensures.passes ∙ separator_here c.args.service c.args.separator c.args.bytes.now at here c.if-bytes-at.true)

pub loop-at-preserved : goal.loop-at-preserved
loop-at-preserved c =
    let at = c.loop-at.at + c.len_of_others-at.result in
    record {
      within = omega arith;
      passed = separator_joined c.args.service c.args.separator c.args.bytes.now _ c.loop-at.at c.len_of_others-at.result (take_rest c.args.bytes.now c.loop-at.at) c.loop-at.invariant.passed c.len_of_others-at.ensures.passes ∙ separator_released c.args.service c.args.separator c.args.bytes.now at c.if-at-bytes-2.true (ne_eqb (get_or c.args.bytes.now at 0) c.args.separator c.if-bytes-at.false) (sym c.releases.ensures ∙ c.if-not-releases.false);
    }

pub loop-at-preserved-then-not-releases : goal.loop-at-preserved-then-not-releases
loop-at-preserved-then-not-releases c =
    let at = c.loop-at.at + c.len_of_others-at.result in
    let here : at < length c.args.bytes.now = omega arith in
    record {
      within = omega arith;
      passed = separator_joined c.args.service c.args.separator c.args.bytes.now _ c.loop-at.at c.len_of_others-at.result (take_rest c.args.bytes.now c.loop-at.at) c.loop-at.invariant.passed c.len_of_others-at.ensures.passes ∙ separator_passed c.args.service c.args.separator c.args.bytes.now at here (ne_eqb (get_or c.args.bytes.now at 0) c.args.separator c.if-bytes-at.false) (sym c.releases.ensures ∙ c.if-not-releases.true);
    }

pub returns-else-at-bytes-2-clause-found : goal.returns-else-at-bytes-2-clause-found
returns-else-at-bytes-2-clause-found c =
    let at = c.loop-at.at + c.len_of_others-at.result in
    let here : at < length c.args.bytes.now = omega arith in
    sym (separator_joined c.args.service c.args.separator c.args.bytes.now _ c.loop-at.at c.len_of_others-at.result (take_rest c.args.bytes.now c.loop-at.at) c.loop-at.invariant.passed c.len_of_others-at.ensures.passes ∙ separator_cut c.args.service c.args.separator c.args.bytes.now at here c.if-at-bytes-2.false (ne_eqb (get_or c.args.bytes.now at 0) c.args.separator c.if-bytes-at.false))

pub returns-clause-found : goal.returns-clause-found
returns-clause-found c =
    sym (c.loop-at.invariant.passed ∙ ap (option_map (λ n. c.loop-at.at + n)) (separator_nowhere c.args.service c.args.separator false c.args.bytes.now c.loop-at.at (omega arith)))
