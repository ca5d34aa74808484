use Rattle.std.proofs.Common.{◌++◌, ◌∷◌, [], ap, ◌∙◌, codes, string_bytes, true}
use Rattle.office_reports.{specs.Partners.partners_content, proofs.Markup.onto}
use Rattle.office_pages.specs.{Fixed.foot, Frame.page_top, Partners.{expected_section, waiting_section}, Pieces.Markup}
use Rattle.office_pages.proofs.partners.partners_page.Goals as goal

pub returns : goal.returns
returns c =
    let report = partners_content c.args.report.now in
    let top = page_top (codes "/pages/partners") true (Markup (codes "Partners") ∷ []) in
    let waiting = waiting_section report in
    let others = expected_section report in
    let page1 = string_bytes c.push_top.new.page in
    let page2 = string_bytes c.push_waiting.new.page in
    let page3 = string_bytes c.push_expected.new.page in
    let is1 = c.in_ok-push_top.ensures ∙ ap (λ t. t ++ top) c.new-page.ensures.bytes in
    let is2 = onto [] top waiting page1 page2 is1 c.in_ok-push_waiting.ensures in
    let is3 = onto [] (top ++ waiting) others page2 page3 is2 c.in_ok-push_expected.ensures in
    onto [] (top ++ waiting ++ others) foot page3 (string_bytes c.push_str.new.self) is3
    (c.in_ok-push_str.ensures.bytes ∙ ap (λ t. page3 ++ t) c.foot.ensures)
