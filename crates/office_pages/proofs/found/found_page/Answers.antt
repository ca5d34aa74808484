use Rattle.std.{specs.Option.option_map, proofs.Common.{◌++◌, [], ◌∙◌, ap, map, string_bytes}}
use Rattle.terminal_core.specs.Rows.{visit_content}
use Rattle.office_reports.{specs.Calls.lists_content, proofs.Markup.onto}
use Rattle.office_pages.specs.{Found.{found_lists, found_partner, found_section, found_top}, Fixed.foot}
use Rattle.office_pages.proofs.found.found_page.Goals as goal

pub returns : goal.returns
returns c =
    let typed = c.args.typed.now in
    let top = found_top typed in
    let section = found_section typed (map visit_content c.args.visits.now) in
    let partner = found_partner (option_map (λ code. code.now) c.args.partner) in
    let lists = found_lists typed (lists_content c.args.calls.now.lists.entries) in
    let one = string_bytes c.push_found_top.new.page in
    let two = string_bytes c.push_containers.new.page in
    let three = string_bytes c.push_partner.new.page in
    let four = string_bytes c.push_lists.new.page in
    let b = onto [] top section one two (c.in_ok-push_found_top.ensures ∙ ap (λ t. t ++ top) c.new-page.ensures.bytes) c.in_ok-push_containers.ensures in
    let d = onto [] (top ++ section) partner two three b c.in_ok-push_partner.ensures in
    let e = onto [] (top ++ section ++ partner) lists three four d c.in_ok-push_lists.ensures in
    onto [] (top ++ section ++ partner ++ lists) foot four (string_bytes c.push_str.new.self) e
    (c.in_ok-push_str.ensures.bytes ∙ ap (λ t. four ++ t) c.foot.ensures)
