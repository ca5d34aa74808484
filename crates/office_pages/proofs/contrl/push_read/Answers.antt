use Rattle.std.proofs.{Common.{◌++◌, sym, ap, ◌∙◌, string_bytes}, lemmas.Result.on_ok_weaker}
use Rattle.office_pages.specs.Contrl.{contrl_section, contrl_view}
use Rattle.office_pages.proofs.contrl.push_read.Goals as goal

pub returns-in-Ok : goal.returns-in-Ok
returns-in-Ok c =
    let front = string_bytes c.args.page.now in
    on_ok_weaker c.push_contrl.result
    (λ e. e ∙ ap (λ contrl. front ++ contrl_section contrl) c.text_in.ensures
    ∙ ap (λ found. front ++ contrl_view found) (sym c.in-Ok.ensures.ok))
    c.push_contrl.ensures
