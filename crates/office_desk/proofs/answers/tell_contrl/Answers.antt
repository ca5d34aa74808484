use Rattle.std.proofs.Common.{None, Some, option_map, string_bytes, sym, ap, ◌∙◌}
use Rattle.office_report_data.specs.Told.{shown}
use Rattle.office_desk.{specs.Reports.contrl_by, proofs.Faults.contrl_kept}
use Rattle.office_desk.proofs.answers.tell_contrl.Goals as goal

pub returns-in_ok-show_contrl-in-Some-clause-told : goal.returns-in_ok-show_contrl-in-Some-clause-told
returns-in_ok-show_contrl-in-Some-clause-told g c clean rows has once =
    let a = c.args in
    c.in_ok-show_contrl-in-Some.ensures ∙ ap (λ reply. option_map (shown a.view) (contrl_by a.code.now a.number reply)) c.as_str.ensures.value
    ∙ contrl_kept rows a.partner a.number once a.code.now a.view c.in_ok-kept.field-0 (Some (string_bytes c.in-Some.reply)) (c.in_ok-kept.ensures.answer clean rows has)
    (ap (option_map string_bytes) (sym c.in-Some.is ∙ c.reply_of.ensures))

pub returns-in-None-clause-told : goal.returns-in-None-clause-told
returns-in-None-clause-told g c clean rows has once =
    let a = c.args in
    contrl_kept rows a.partner a.number once a.code.now a.view c.in_ok-kept.field-0 None (c.in_ok-kept.ensures.answer clean rows has)
    (ap (option_map string_bytes) (sym c.in-None.is ∙ c.reply_of.ensures))
