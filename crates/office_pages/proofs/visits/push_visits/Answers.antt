use Rattle.std.proofs.{Common.{◌≡◌, ◌++◌, ap, ◌∙◌, flat_map, length, map, rules, string_bytes, sym}, lemmas.List.length-map, lemmas.Result.on_ok_weaker}
use Rattle.office_reports.{specs.Visits.visits_content, proofs.Markup.onto}
use Rattle.office_pages.specs.Visits.{visit_row, visits_front}
use Rattle.terminal_core.specs.Rows.{visit_content}
use Rattle.office_pages.proofs.visits.push_visits.Goals as goal

pub returns : goal.returns
returns c =
    let front = string_bytes c.args.page.now in
    let report = visits_content c.args.report.now in
    let visits = c.args.report.now.visits.items in
    let many : c.len.result ≡ length visits = search rules in
    let count : c.len.result ≡ length report.visits = many ∙ sym (length-map visits _) in
    let page1 = string_bytes c.push_visits_head.new.page in
    let page2 = string_bytes c.push_rows.new.page in
    let is1 = c.in_ok-push_visits_head.ensures ∙ ap (λ n. front ++ visits_front n) count in
    let is2 = onto front _ _ page1 page2 is1 (c.in_ok-push_rows.ensures
    ∙ (λ i. page1 ++ flat_map (visit_row report.setup) (map (λ visit. visit_content visit.now) (c.deref.ensures.value i)))) in
    on_ok_weaker c.push_pieces.result
    (λ e. onto front _ _ page2 (string_bytes c.push_pieces.new.page) is2 e)
    c.push_pieces.ensures
