use Rattle.std.proofs.Common.{◌++◌, ◌∷◌, [], ap, ◌∙◌, codes, false, string_bytes}
use Rattle.office_reports.{specs.Visits.visits_content, proofs.Markup.onto}
use Rattle.office_pages.specs.{Fixed.foot, Frame.page_top, Pieces.{Markup, Number}, Visits.{visits_section, visits_title}}
use Rattle.office_pages.proofs.visits.visits_page.Goals as goal

pub returns : goal.returns
returns c =
    let report = visits_content c.args.report.now in
    let top = page_top [] false (Markup (codes "Visits of ") ∷ Number report.container ∷ []) in
    let title = visits_title report.container in
    let section = visits_section report in
    let page1 = string_bytes c.push_top.new.page in
    let page2 = string_bytes c.push_title.new.page in
    let page3 = string_bytes c.push_visits.new.page in
    let is1 = c.in_ok-push_top.ensures ∙ ap (λ t. t ++ top) c.new-page.ensures.bytes in
    let is2 = onto [] top title page1 page2 is1 c.in_ok-push_title.ensures in
    let is3 = onto [] (top ++ title) section page2 page3 is2 c.in_ok-push_visits.ensures in
    onto [] (top ++ title ++ section) foot page3 (string_bytes c.push_str.new.self) is3
    (c.in_ok-push_str.ensures.bytes ∙ ap (λ t. page3 ++ t) c.foot.ensures)
