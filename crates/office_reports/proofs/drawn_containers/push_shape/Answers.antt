use Rattle.std.proofs.{Common.{◌++◌, ◌∷◌, [], ap, ◌∙◌, codes, decimal, string_bytes}, lemmas.Result.on_ok_weaker}
use Rattle.office_reports.specs.{Fields.joined_pieces, Views.shape_view}
use Rattle.office_reports.proofs.drawn_containers.push_shape.Goals as goal

pub returns : goal.returns
unfolding shape_view
returns c =
    let middle = c.as_str.ensures.value ∙ c.in_ok-middle.ensures.ok ∙ ap decimal c.middle_of.ensures in
    let top = c.as_str-2.ensures.value ∙ c.in_ok-top.ensures.ok ∙ ap decimal c.top_of.ensures in
    let title = c.as_str-3.ensures.value ∙ c.in_ok-title.ensures.ok in
    on_ok_weaker c.push_all.result
    (λ e. e ∙ (λ i. string_bytes c.args.text.now ++ joined_pieces (codes "<g transform='translate(" ∷ middle i ∷ codes " -" ∷ top i ∷ codes ")'><title>" ∷ title i ∷ codes "</title><use href='#" ∷ c.shape_name.ensures i ∷ codes "'/>" ∷ [])))
    c.push_all.ensures
