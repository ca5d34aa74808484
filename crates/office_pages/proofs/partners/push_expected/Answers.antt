use Rattle.std.proofs.{Common.{◌++◌, ap, ◌∙◌, codes, count_by, flat_map, map, string_bytes}, lemmas.Result.on_ok_weaker}
use Rattle.office_reports.{specs.Partners.row_content, proofs.Markup.onto}
use Rattle.office_pages.specs.{Partners.{expected_columns, expected_head, expected_row, is_expected}, Tables.table_of}
use Rattle.office_pages.proofs.partners.push_expected.Goals as goal

pub returns : goal.returns
returns c =
    let front = string_bytes c.args.page.now in
    let none = codes "Something waits of each partner." in
    let page1 = string_bytes c.push_expected_head.new.page in
    let count = c.expected_count-count.ensures ∙ ap (λ rows. count_by is_expected (map row_content rows)) c.deref.ensures.value in
    let is1 = c.in_ok-push_expected_head.ensures ∙ ap (λ n. front ++ expected_head n) count in
    on_ok_weaker c.push_expected_table.result
    (λ e. onto front _ _ page1 (string_bytes c.push_expected_table.new.page) is1
    (e ∙ (λ i. page1
    ++ table_of (count i) expected_columns (flat_map expected_row (map row_content (c.deref-2.ensures.value i))) none)))
    c.push_expected_table.ensures
