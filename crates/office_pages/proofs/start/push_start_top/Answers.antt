use Rattle.std.proofs.{Common.{string_bytes}, lemmas.Result.on_ok_weaker}
use Rattle.office_reports.proofs.Markup.{onto}
use Rattle.office_pages.proofs.start.push_start_top.Goals as goal

pub returns : goal.returns
returns c =
    let front = string_bytes c.args.page.now in
    let page1 = string_bytes c.push_top.new.page in
    on_ok_weaker c.push_pieces.result
    (λ e. onto front _ _ page1 (string_bytes c.push_pieces.new.page) c.in_ok-push_top.ensures e)
    c.push_pieces.ensures
