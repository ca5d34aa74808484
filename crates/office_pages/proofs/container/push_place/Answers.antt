use Rattle.std.proofs.{Common.{string_bytes}, lemmas.Result.on_ok_weaker}
use Rattle.office_reports.proofs.Markup.{onto}
use Rattle.office_pages.proofs.container.push_place.Goals as goal

pub returns : goal.returns
returns c =
    let front = string_bytes c.args.page.now in
    let page1 = string_bytes c.push_pieces.new.page in
    on_ok_weaker c.push_standing.result
    (λ e. onto front _ _ page1 (string_bytes c.push_standing.new.page) c.in_ok-push_pieces.ensures e)
    c.push_standing.ensures
