use Rattle.std.proofs.Common.{length, map, ap, ◌∙◌}
use Rattle.edi_syntax.specs.Frames.{messages_left}
use Rattle.office_replies.specs.Messages.{report_content}
use Rattle.office_admission.{specs.Taking.verdicts_of, proofs.Takings.{reports_count, verdicts_count}}
use Rattle.office_admission.proofs.taking.take_interchange.Goals as goal

pub write_contrl-requires : goal.write_contrl-requires
write_contrl-requires c =
    let reports = map report_content c.in_ok-reports.reports.items in
    ap length c.deref-3.ensures.value ∙ ap length c.in_ok-verdicts.ensures ∙ ap (λ others. length (verdicts_of (map report_content others))) c.deref-2.ensures.value ∙ verdicts_count reports
    ∙ ap length c.in_ok-reports.ensures.reports ∙ reports_count _ _ _ _ (messages_left c.frames-frames.result) ∙ ap length c.frames-frames.ensures.messages
