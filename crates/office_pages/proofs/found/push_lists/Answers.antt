use Rattle.std.proofs.{Common.{◌++◌, [], codes, flat_map, ◌∙◌, string_bytes}, lemmas.Result.on_ok_weaker}
use Rattle.office_reports.{specs.Calls.lists_content, proofs.Markup.onto}
use Rattle.office_pages.specs.{Calls.call_columns, Found.found_list, Tables.{section_head, table_of}}
use Rattle.office_pages.proofs.found.push_lists.Goals as goal

pub returns : goal.returns
returns c =
    let front = string_bytes c.args.page.now in
    let lists = lists_content c.args.lists.now.entries in
    let none = codes "None is of a vessel or a voyage of that name." in
    let count = c.list_count-count.ensures in
    let page1 = string_bytes c.push_section_head.new.page in
    on_ok_weaker c.push_list_table.result
    (λ e. onto front _ _ page1 (string_bytes c.push_list_table.new.page) c.in_ok-push_section_head.ensures e
    ∙ (λ i. front ++ (section_head (codes "Lists of calls") (count i) []
    ++ table_of (count i) call_columns (flat_map (found_list c.args.typed.now) lists) none)))
    c.push_list_table.ensures
