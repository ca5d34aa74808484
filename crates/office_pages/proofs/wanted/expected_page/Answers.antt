use Rattle.std.proofs.Common.{◌++◌, ◌∷◌, [], ap, ◌∙◌, codes, false, map, string_bytes}
use Rattle.office_reports.proofs.Markup.{onto}
use Rattle.office_pages.specs.{Fixed.foot, Frame.page_top, Pieces.{Markup, Number}, Wanted.{absent_mark, absent_place, wanted_section}}
use Rattle.terminal_core.specs.Listings.{line_entry}
use Rattle.office_pages.proofs.wanted.expected_page.Goals as goal

pub returns : goal.returns
returns c =
    let container = c.args.container in
    let lists = map (λ line. line_entry line.now) c.args.lists.now in
    let top = page_top [] false (Markup (codes "Container ") ∷ Number container ∷ []) in
    let place = absent_place container (absent_mark lists) in
    let section = wanted_section lists in
    let page1 = string_bytes c.push_top.new.page in
    let page2 = string_bytes c.push_absent.new.page in
    let page3 = string_bytes c.push_wanted_section.new.page in
    let is1 = c.in_ok-push_top.ensures ∙ ap (λ t. t ++ top) c.new-page.ensures.bytes in
    let is2 = onto [] top place page1 page2 is1 (c.in_ok-push_absent.ensures ∙ ap (λ mark. page1 ++ absent_place container mark) c.absent_mark.ensures) in
    let is3 = onto [] (top ++ place) section page2 page3 is2 c.in_ok-push_wanted_section.ensures in
    onto [] (top ++ place ++ section) foot page3 (string_bytes c.push_str.new.self) is3
    (c.in_ok-push_str.ensures.bytes ∙ ap (λ t. page3 ++ t) c.foot.ensures)
