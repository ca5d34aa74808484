use Rattle.std.proofs.{Common.{string_bytes}, lemmas.Result.on_ok_weaker}
use Rattle.office_reports.proofs.Markup.{onto}
use Rattle.office_pages.proofs.yard.push_yard.Goals as goal

pub returns : goal.returns
returns c =
    let front = string_bytes c.args.page.now in
    let page2 = string_bytes c.push_all_link.new.page in
    let page3 = string_bytes c.push_block_links.new.page in
    let is2 = onto front _ _ (string_bytes c.push_heading.new.page) page2 c.in_ok-push_heading.ensures c.in_ok-push_all_link.ensures in
    let is3 = onto front _ _ page2 page3 is2 c.in_ok-push_block_links.ensures in
    on_ok_weaker c.push_section.result
    (λ e. onto front _ _ page3 (string_bytes c.push_section.new.page) is3 e)
    c.push_section.ensures
