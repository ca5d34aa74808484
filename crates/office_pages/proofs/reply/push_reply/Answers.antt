use Rattle.std.proofs.{Common.{◌++◌, ap, ◌∙◌, flat_map, string_bytes}, lemmas.Result.on_ok_weaker}
use Rattle.office_reports.proofs.Markup.{onto}
use Rattle.office_pages.specs.{Contrl.contrl_section, Reply.message_view}
use Rattle.office_pages.proofs.reply.push_reply.Goals as goal

pub returns : goal.returns
returns c =
    let front = string_bytes c.args.page.now in
    let page1 = string_bytes c.push_messages.new.page in
    let is1 = c.in_ok-push_messages.ensures ∙ ap (λ messages. front ++ flat_map message_view messages) c.items_in.ensures in
    on_ok_weaker c.push_contrl.result
    (λ e. onto front _ _ page1 (string_bytes c.push_contrl.new.page) is1
    (e ∙ ap (λ text. page1 ++ contrl_section text) c.text_in.ensures))
    c.push_contrl.ensures
