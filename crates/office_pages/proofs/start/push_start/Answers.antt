use Rattle.std.proofs.{Common.{◌≡◌, ◌++◌, ap, ◌∙◌, length, rules, string_bytes, sym}, lemmas.List.length-map, lemmas.Result.on_ok_weaker}
use Rattle.office_reports.proofs.Markup.{onto}
use Rattle.office_pages.specs.Start.{start_content, sums}
use Rattle.office_pages.proofs.start.push_start.Goals as goal

pub returns : goal.returns
returns c =
    let front = string_bytes c.args.page.now in
    let report = start_content c.args.report.now in
    let rows = c.args.report.now.partners.rows.items in
    let many : c.len.result ≡ length rows = search rules in
    let count : c.len.result ≡ length report.partners.rows = many ∙ sym (length-map rows _) in
    let page1 = string_bytes c.push_attention.new.page in
    let page2 = string_bytes c.push_sums.new.page in
    let page3 = string_bytes c.push_open.new.page in
    let is2 = onto front _ _ page1 page2 c.in_ok-push_attention.ensures (c.in_ok-push_sums.ensures
    ∙ ap (λ n. page1 ++ sums report.visits n report.partners.waiting report.blocks.used) count) in
    let is3 = onto front _ _ page2 page3 is2 c.in_ok-push_open.ensures in
    on_ok_weaker c.push_blocks.result
    (λ e. onto front _ _ page3 (string_bytes c.push_blocks.new.page) is3 e)
    c.push_blocks.ensures
