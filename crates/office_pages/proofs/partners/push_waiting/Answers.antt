use Rattle.std.proofs.{Common.{◌++◌, ap, ◌∙◌, codes, count_by, flat_map, map, string_bytes}, lemmas.Result.on_ok_weaker}
use Rattle.office_reports.{specs.Partners.{partners_content, row_content}, proofs.Markup.onto}
use Rattle.office_pages.specs.{Partners.{is_waiting, waiting_columns, waiting_head, waiting_row}, Tables.table_of}
use Rattle.office_pages.proofs.partners.push_waiting.Goals as goal

pub returns : goal.returns
returns c =
    let front = string_bytes c.args.page.now in
    let report = partners_content c.args.report.now in
    let page1 = string_bytes c.push_waiting_head.new.page in
    let count = c.waiting_count-count.ensures ∙ ap (λ rows. count_by is_waiting (map row_content rows)) c.deref.ensures.value in
    let is1 = c.in_ok-push_waiting_head.ensures ∙ ap (λ n. front ++ waiting_head n report.waiting) count in
    on_ok_weaker c.push_waiting_table.result
    (λ e. onto front _ _ page1 (string_bytes c.push_waiting_table.new.page) is1
    (e ∙ (λ i. page1
    ++ table_of (count i) waiting_columns (flat_map waiting_row (map row_content (c.deref-2.ensures.value i))) (codes "Nothing waits."))))
    c.push_waiting_table.ensures
