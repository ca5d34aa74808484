use Rattle.std.proofs.Common.{◌++◌, codes, flat_map, map, ◌∙◌, string_bytes}
use Rattle.std.proofs.lemmas.Result.{on_ok_weaker}
use Rattle.office_reports.{specs.Work.job_content, proofs.Markup.onto}
use Rattle.office_pages.specs.{Tables.{section_head, table_of}, Work.{covered_columns, covered_row}}
use Rattle.office_pages.proofs.work.push_covered.Goals as goal

pub returns : goal.returns
returns c =
    let front = string_bytes c.args.page.now in
    let rows = map (λ job. job_content job.now) c.args.rows.now in
    let state = codes "<b class='s wait'>under another</b>" in
    let order = codes ", by slot, from the top down" in
    let none = codes "Nothing is under another." in
    let count = c.covered_count-count.ensures in
    on_ok_weaker c.push_covered_table.result
    (λ e. onto front _ _ (string_bytes c.push_section_head.new.page) (string_bytes c.push_covered_table.new.page) c.in_ok-push_section_head.ensures e
    ∙ (λ i. front ++ (section_head state (count i) order
    ++ table_of (count i) covered_columns (flat_map (covered_row (λ container. c.in_ok-wanted.ensures container i)) rows) none)))
    c.push_covered_table.ensures
