use Rattle.std.proofs.Common.{◌++◌, [], ap, ◌∙◌, string_bytes}
use Rattle.office_reports.proofs.Markup.{onto}
use Rattle.office_pages.specs.{Fixed.foot, Reply.{reply_head, reply_top, taken_section, taken_view}}
use Rattle.serde_json.specs.Read.{read}
use Rattle.office_pages.proofs.reply.reply_page.Goals as goal

pub returns : goal.returns
returns c =
    let partner = c.args.partner.now in
    let number = c.args.number in
    let top = reply_top partner number in
    let head = reply_head partner number in
    let taken = taken_section ++ taken_view (read c.args.reply.now) in
    let page1 = string_bytes c.push_reply_top.new.page in
    let page2 = string_bytes c.push_reply_head.new.page in
    let page3 = string_bytes c.push_taken.new.page in
    let is1 = c.in_ok-push_reply_top.ensures ∙ ap (λ t. t ++ top) c.new-page.ensures.bytes in
    let is2 = onto [] top head page1 page2 is1 c.in_ok-push_reply_head.ensures in
    let is3 = onto [] (top ++ head) taken page2 page3 is2 c.in_ok-push_taken.ensures in
    onto [] (top ++ head ++ taken) foot page3 (string_bytes c.push_str.new.self) is3
    (c.in_ok-push_str.ensures.bytes ∙ ap (λ t. page3 ++ t) c.foot.ensures)
