use Rattle.std.proofs.{Common.{◌++◌, ◌∷◌, [], ap, ◌∙◌, codes, decimal, string_bytes}, lemmas.Result.on_ok_weaker}
use Rattle.office_reports.specs.{Fields.joined_pieces, Views.tier_label}
use Rattle.office_reports.proofs.grids.push_tier_label.Goals as goal

pub returns : goal.returns
unfolding tier_label
returns c =
    let top = c.as_str.ensures.value ∙ c.in_ok-top.ensures.ok ∙ ap decimal c.top_of.ensures in
    let tier = c.as_str-2.ensures.value ∙ c.in_ok-tier.ensures.ok in
    on_ok_weaker c.push_all.result
    (λ e. e ∙ (λ i. string_bytes c.args.text.now ++ joined_pieces (codes "<text x='-11' y='-" ∷ top i ∷ codes "' dy='25'>" ∷ tier i ∷ codes "</text>" ∷ [])))
    c.push_all.ensures
