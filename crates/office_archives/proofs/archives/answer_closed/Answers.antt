use Rattle.std.{specs.Prelude.not, proofs.Common.{◌≡◌, Some, false, true, ap, subst, ◌∙◌}}
use Rattle.partner_core.specs.{Answers.{Clash, Repeat}, Standings.is_same_text}
use Rattle.office_desk.{specs.Answers.answer_by_model, proofs.DeliverLemmas.is_now}
use Rattle.office_tables.specs.declared.interchanges.Kept.{Kept}
use Rattle.office_archives.proofs.Filled.{clash_answers, repeat_answers, same_text, other_text}
use Rattle.office_archives.proofs.archives.answer_closed.Goals as goal

pub returns-then-ne-clause-answers : goal.returns-then-ne-clause-answers
returns-then-ne-clause-answers g c = λ sound list are.
    let kept : Kept = c.in_ok-own.field-0 in
    let apart : true ≡ not (is_same_text kept.text.items c.args.text.now) =
    subst (λ own. true ≡ not (is_same_text own c.args.text.now)) c.as_slice.ensures.value c.if-ne.ensures in
    clash_answers list c.args.partner c.args.code.now c.args.number kept c.args.text.now c.in_ok-answer_clash.field-0
    (c.in_ok-own.ensures.kept sound list are) (other_text kept.text.items c.args.text.now apart) c.in_ok-answer_clash.ensures

pub returns-in-Some-clause-answers : goal.returns-in-Some-clause-answers
returns-in-Some-clause-answers g c = λ sound list are.
    let kept : Kept = c.in_ok-own.field-0 in
    let same : false ≡ not (is_same_text kept.text.items c.args.text.now) =
    subst (λ own. false ≡ not (is_same_text own c.args.text.now)) c.as_slice.ensures.value c.if-ne.ensures in
    repeat_answers list c.args.partner c.args.code.now c.args.number kept c.args.text.now c.in-Some.reply c.in_ok-answer_repeat-in-Some.field-0
    (c.in_ok-own.ensures.kept sound list are) (same_text kept.text.items c.args.text.now same) c.in-Some.is
    (c.in_ok-answer_repeat-in-Some.ensures ∙ ap (λ reply. answer_by_model c.args.code.now c.args.number (Repeat (Some reply))) c.deref.ensures)

-- ---- it is one now

pub returns-then-ne-clause-now : goal.returns-then-ne-clause-now
returns-then-ne-clause-now g c = is_now c.in_ok-answer_clash.field-0 c.args.code.now c.args.number Clash c.in_ok-answer_clash.ensures

pub returns-in-Some-clause-now : goal.returns-in-Some-clause-now
returns-in-Some-clause-now g c = is_now c.in_ok-answer_repeat-in-Some.field-0 c.args.code.now c.args.number (Repeat (Some c.deref.result.now)) c.in_ok-answer_repeat-in-Some.ensures
