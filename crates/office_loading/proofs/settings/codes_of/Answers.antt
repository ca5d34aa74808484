use Rattle.std.proofs.{Common.{◌≡◌, Some, length, map, sym, ap, ◌∙◌}, lemmas.List.length-map}
use Rattle.edi_messages.specs.CodeText.{table_fault}
use Rattle.office_rows.specs.Rows.{Setting}
use Rattle.office_loading.{specs.{Contents.setting_content, Said.values_of}, proofs.Kept.seven_codes}
use Rattle.office_loading.proofs.settings.codes_of.Goals as goal

pub returns-in-Err : goal.returns-in-Err
returns-in-Err c none =
    let ten : length (values_of (map setting_content c.args.settings.now)) ≡ 10 = length-map (map setting_content c.args.settings.now) (λ (row : Setting). row.value) ∙ length-map c.args.settings.now setting_content ∙ c.requires in
    let same = seven_codes (values_of (map setting_content c.args.settings.now)) c.as_bytes.result.now c.as_bytes-2.result.now c.as_bytes-3.result.now c.as_bytes-4.result.now c.as_bytes-5.result.now c.as_bytes-6.result.now c.as_bytes-7.result.now ten
    (c.value-gate_in.ensures ∙ ap Some (sym c.as_bytes.ensures.value)) (c.value-gate_out.ensures ∙ ap Some (sym c.as_bytes-2.ensures.value)) (c.value-yard_move.ensures ∙ ap Some (sym c.as_bytes-3.ensures.value))
    (c.value-discharge_list.ensures ∙ ap Some (sym c.as_bytes-4.ensures.value)) (c.value-load_list.ensures ∙ ap Some (sym c.as_bytes-5.ensures.value)) (c.value-discharge_report.ensures ∙ ap Some (sym c.as_bytes-6.ensures.value))
    (c.value-load_report.ensures ∙ ap Some (sym c.as_bytes-7.ensures.value)) in
    let bad = sym none ∙ ap table_fault same ∙ c.in-Err.ensures.err in
    cc

pub returns-in-Ok : goal.returns-in-Ok
returns-in-Ok c =
    let ten : length (values_of (map setting_content c.args.settings.now)) ≡ 10 = length-map (map setting_content c.args.settings.now) (λ (row : Setting). row.value) ∙ length-map c.args.settings.now setting_content ∙ c.requires in
    let same = seven_codes (values_of (map setting_content c.args.settings.now)) c.as_bytes.result.now c.as_bytes-2.result.now c.as_bytes-3.result.now c.as_bytes-4.result.now c.as_bytes-5.result.now c.as_bytes-6.result.now c.as_bytes-7.result.now ten
    (c.value-gate_in.ensures ∙ ap Some (sym c.as_bytes.ensures.value)) (c.value-gate_out.ensures ∙ ap Some (sym c.as_bytes-2.ensures.value)) (c.value-yard_move.ensures ∙ ap Some (sym c.as_bytes-3.ensures.value))
    (c.value-discharge_list.ensures ∙ ap Some (sym c.as_bytes-4.ensures.value)) (c.value-load_list.ensures ∙ ap Some (sym c.as_bytes-5.ensures.value)) (c.value-discharge_report.ensures ∙ ap Some (sym c.as_bytes-6.ensures.value))
    (c.value-load_report.ensures ∙ ap Some (sym c.as_bytes-7.ensures.value)) in
    (ap table_fault c.in-Ok.ensures.ok.1 ∙ c.in-Ok.ensures.ok.0, c.in-Ok.ensures.ok.1 ∙ sym same)
