use Rattle.std.proofs.{Common.{string_bytes}, lemmas.Result.on_ok_weaker}
use Rattle.serde_json.specs.Read.{read}
use Rattle.office_reports.proofs.Markup.{onto}
use Rattle.office_pages.specs.Reply.{taken_section, taken_view}
use Rattle.office_pages.proofs.reply.push_taken.Goals as goal

pub returns : goal.returns
returns c =
    let front = string_bytes c.args.page.now in
    let page1 = string_bytes c.push_pieces.new.page in
    on_ok_weaker c.push_read.result
    (λ e. onto front taken_section (taken_view (read c.args.reply.now)) page1 (string_bytes c.push_read.new.page)
    c.in_ok-push_pieces.ensures e)
    c.push_read.ensures
