use Rattle.std.{specs.Option.option_map, proofs.{Common.{◌++◌, ◌∷◌, [], ap, sym, ◌∙◌, codes, string_bytes}, lemmas.Result.on_ok_weaker}}
use Rattle.terminal_core.specs.Rows.{visit_content}
use Rattle.office_reports.specs.{Names.line, Tickets.exit_line}
use Rattle.office_reports.proofs.tickets.push_exit.Goals as goal

pub returns : goal.returns
returns c =
    let number = c.as_str.ensures.value ∙ c.in_ok-number.ensures in
    let size = c.as_str-2.ensures.value ∙ c.in_ok-size.ensures in
    let moment = c.as_str-3.ensures.value ∙ c.in_ok-moment.ensures in
    on_ok_weaker c.push_line.result
    (λ e. e ∙ (λ i. string_bytes c.args.text.now ++ line (codes "OUT" ∷ number i ∷ size i ∷ c.load_name.ensures i ∷ moment i ∷ []))
    ∙ ap (λ left. string_bytes c.args.text.now ++ exit_line (visit_content c.args.visit.now) (option_map (λ departure. departure.moment) left)) (sym c.in-Some.is))
    c.push_line.ensures
