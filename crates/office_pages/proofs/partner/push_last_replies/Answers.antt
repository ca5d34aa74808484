use Rattle.std.proofs.Common.{◌-◌, ◌++◌, ap, ◌∙◌, string_bytes}
use Rattle.office_reports.proofs.Markup.{next}
use Rattle.office_pages.specs.Partner.{last_reply}
use Rattle.office_pages.proofs.partner.push_last_replies.Goals as goal

pub loop-back-preserved : goal.loop-back-preserved
loop-back-preserved c =
    next (λ back. last_reply c.args.code.now (c.args.next - 1 - back)) c.loop-back.back
    (string_bytes c.args.page.now) (string_bytes c.loop-back.page) (string_bytes c.push_last_reply.new.page)
    c.loop-back.invariant
    (c.in_ok-push_last_reply.ensures
    ∙ ap (λ before. string_bytes c.loop-back.page ++ last_reply c.args.code.now (before - c.loop-back.back)) c.saturating_sub-before.ensures)
