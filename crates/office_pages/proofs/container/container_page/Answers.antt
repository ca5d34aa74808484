use Rattle.std.{specs.Option.option_map, proofs.Common.{◌++◌, ◌∷◌, [], ap, ◌∙◌, codes, false, map, string_bytes}}
use Rattle.terminal_core.specs.Listings.{line_entry}
use Rattle.office_reports.{specs.{Containers.container_content, Visits.visits_content}, proofs.Markup.onto}
use Rattle.office_pages.specs.{Container.container_body, Fixed.foot, Frame.page_top, Pieces.{Markup, Number}}
use Rattle.office_pages.proofs.container.container_page.Goals as goal

pub returns : goal.returns
returns c =
    let report = container_content c.args.report.now in
    let expected = map (λ line. line_entry line.now) c.args.expected.now in
    let visits = option_map visits_content c.args.visits.now in
    let top = page_top [] false (Markup (codes "Container ") ∷ Number report.container ∷ []) in
    let body = container_body report expected visits in
    let page1 = string_bytes c.push_top.new.page in
    let page2 = string_bytes c.push_container.new.page in
    let is1 = c.in_ok-push_top.ensures ∙ ap (λ t. t ++ top) c.new-page.ensures.bytes in
    let is2 = onto [] top body page1 page2 is1 c.in_ok-push_container.ensures in
    onto [] (top ++ body) foot page2 (string_bytes c.push_str.new.self) is2
    (c.in_ok-push_str.ensures.bytes ∙ ap (λ t. page2 ++ t) c.foot.ensures)
