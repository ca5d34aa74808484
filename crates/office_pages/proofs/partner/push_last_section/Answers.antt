use Rattle.std.proofs.{Common.{string_bytes}, lemmas.Result.on_ok_weaker}
use Rattle.office_reports.proofs.Markup.{onto}
use Rattle.office_pages.proofs.partner.push_last_section.Goals as goal

pub returns : goal.returns
returns c =
    let front = string_bytes c.args.page.now in
    let page1 = string_bytes c.push_pieces.new.page in
    let page2 = string_bytes c.push_last_replies.new.page in
    let is2 = onto front _ _ page1 page2 c.in_ok-push_pieces.ensures c.in_ok-push_last_replies.ensures in
    on_ok_weaker c.push_pieces-2.result
    (λ e. onto front _ _ page2 (string_bytes c.push_pieces-2.new.page) is2 e)
    c.push_pieces-2.ensures
