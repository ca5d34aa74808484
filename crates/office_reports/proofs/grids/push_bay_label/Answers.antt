use Rattle.std.proofs.{Common.{◌++◌, ◌∷◌, [], ap, ◌∙◌, codes, decimal, string_bytes}, lemmas.Result.on_ok_weaker}
use Rattle.office_reports.specs.{Fields.joined_pieces, Views.bay_label}
use Rattle.office_reports.proofs.grids.push_bay_label.Goals as goal

pub returns : goal.returns
unfolding bay_label
returns c =
    let middle = c.as_str.ensures.value ∙ c.in_ok-middle.ensures.ok ∙ ap decimal c.middle_of.ensures in
    let bay = c.as_str-2.ensures.value ∙ c.in_ok-bay.ensures.ok in
    on_ok_weaker c.push_all.result
    (λ e. e ∙ (λ i. string_bytes c.args.text.now ++ joined_pieces (codes "<text x='" ∷ middle i ∷ codes "' y='15'>" ∷ bay i ∷ codes "</text>" ∷ [])))
    c.push_all.ensures
