use Rattle.std.proofs.{Common.{◌++◌, ap, ◌∙◌, string_bytes}, lemmas.Result.on_ok_weaker}
use Rattle.office_reports.proofs.Markup.{onto}
use Rattle.office_pages.specs.Yard.{yard_table}
use Rattle.office_pages.proofs.yard.push_section.Goals as goal

pub returns-in_ok-inside-in-Some : goal.returns-in_ok-inside-in-Some
returns-in_ok-inside-in-Some c =
    let front = string_bytes c.args.page.now in
    let page1 = string_bytes c.push_pieces.new.page in
    let inside = c.deref.ensures.value ∙ c.in_ok-inside-in-Some.ensures in
    rw c.in-Some.is
    (on_ok_weaker c.push_table.result
    (λ e. onto front _ _ page1 (string_bytes c.push_table.new.page) c.in_ok-push_pieces.ensures
    (e ∙ ap (λ list. page1 ++ yard_table list) inside))
    c.push_table.ensures)

pub returns-in-None : goal.returns-in-None
returns-in-None c =
    let front = string_bytes c.args.page.now in
    let page1 = string_bytes c.push_pieces.new.page in
    rw c.in-None.is
    (on_ok_weaker c.push_table-in-None.result
    (λ e. onto front _ _ page1 (string_bytes c.push_table-in-None.new.page) c.in_ok-push_pieces.ensures e)
    c.push_table-in-None.ensures)
