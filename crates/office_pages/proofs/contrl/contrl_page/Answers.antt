use Rattle.std.proofs.Common.{◌++◌, [], ◌∙◌, ap, string_bytes}
use Rattle.serde_json.specs.Read.{read}
use Rattle.office_reports.proofs.Markup.{onto}
use Rattle.office_pages.specs.{Contrl.{contrl_head, contrl_top, contrl_view}, Fixed.foot}
use Rattle.office_pages.proofs.contrl.contrl_page.Goals as goal

pub returns : goal.returns
returns c =
    let top = contrl_top c.args.partner.now c.args.number in
    let head = contrl_head c.args.partner.now c.args.number in
    let section = contrl_view (read c.args.reply.now) in
    let one = string_bytes c.push_contrl_top.new.page in
    let two = string_bytes c.push_contrl_head.new.page in
    let three = string_bytes c.push_read.new.page in
    let b = onto [] top head one two (c.in_ok-push_contrl_top.ensures ∙ ap (λ t. t ++ top) c.new-page.ensures.bytes) c.in_ok-push_contrl_head.ensures in
    let d = onto [] (top ++ head) section two three b c.in_ok-push_read.ensures in
    onto [] (top ++ head ++ section) foot three (string_bytes c.push_str.new.self) d
    (c.in_ok-push_str.ensures.bytes ∙ ap (λ t. three ++ t) c.foot.ensures)
