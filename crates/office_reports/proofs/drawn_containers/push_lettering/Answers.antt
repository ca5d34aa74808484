use Rattle.std.proofs.{Common.{◌++◌, ◌∷◌, [], ap, ◌∙◌, codes, string_bytes, take, drop}, lemmas.Result.on_ok_weaker}
use Rattle.office_reports.specs.{Fields.{field_text, joined_pieces}, Views.lettering}
use Rattle.office_reports.proofs.drawn_containers.push_lettering.Goals as goal

pub returns : goal.returns
unfolding lettering
returns c =
    let owner = c.as_str.ensures.value ∙ c.in_ok-owner.ensures ∙ ap field_text (c.split_at.ensures.front ∙ ap (take 4) c.text-number.ensures.same) in
    let serial = c.as_str-2.ensures.value ∙ c.in_ok-serial.ensures ∙ ap field_text (c.split_at.ensures.back ∙ ap (drop 4) c.text-number.ensures.same) in
    let slot = c.as_str-3.ensures.value ∙ c.in_ok-slot.ensures ∙ ap field_text c.text.ensures in
    on_ok_weaker c.push_all.result
    (λ e. e ∙ (λ i. string_bytes c.args.text.now ++ joined_pieces (codes "<text y='13'>" ∷ owner i ∷ codes "</text><text y='24'>" ∷ serial i ∷ codes "</text><text y='36'>" ∷ slot i ∷ codes "</text></g>\n" ∷ [])))
    c.push_all.ensures
