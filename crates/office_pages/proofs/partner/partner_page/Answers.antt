use Rattle.std.proofs.Common.{◌++◌, [], ap, ◌∙◌, string_bytes}
use Rattle.office_reports.{specs.Partners.row_content, proofs.Markup.onto}
use Rattle.office_pages.specs.{Fixed.foot, Partner.{expected_fact, last_view, partner_heading, partner_top}, Partners.kind_word}
use Rattle.office_pages.proofs.partner.partner_page.Goals as goal

pub returns : goal.returns
returns c =
    let row = row_content c.args.row.now in
    let top = partner_top row.code in
    let heading = partner_heading row.code (kind_word row.kind) in
    let fact = expected_fact row.next row.waiting in
    let last = last_view row.code row.next in
    let page1 = string_bytes c.push_partner_top.new.page in
    let page2 = string_bytes c.push_heading.new.page in
    let page3 = string_bytes c.push_expected.new.page in
    let page4 = string_bytes c.push_last.new.page in
    let is1 = c.in_ok-push_partner_top.ensures ∙ ap (λ t. t ++ top) c.new-page.ensures.bytes in
    let is2 = onto [] top heading page1 page2 is1 (c.in_ok-push_heading.ensures ∙ ap (λ kind. page1 ++ partner_heading row.code kind) c.kind_word.ensures) in
    let is3 = onto [] (top ++ heading) fact page2 page3 is2 c.in_ok-push_expected.ensures in
    let is4 = onto [] (top ++ heading ++ fact) last page3 page4 is3 c.in_ok-push_last.ensures in
    onto [] (top ++ heading ++ fact ++ last) foot page4 (string_bytes c.push_str.new.self) is4
    (c.in_ok-push_str.ensures.bytes ∙ ap (λ t. page4 ++ t) c.foot.ensures)
