use Rattle.std.proofs.{Common.{◌≡◌, ◌∙◌, ◌++◌, List, ℕ, ap, append_assoc, string_bytes}, lemmas.Result.on_ok_weaker}
use Rattle.office_explain.specs.Headings.{faring_said, place_said}
use Rattle.office_explain.proofs.headings.push_heading.Goals as goal

pub returns : goal.returns
returns c =
    let old = string_bytes c.args.text.now in
    let block = c.args.block.now in
    let place : string_bytes c.push_str.new.self ≡ old ++ place_said block =
    c.in_ok-push_str.ensures.bytes ∙ ap (λ (t : List ℕ). old ++ t) (c.as_str.ensures.value ∙ c.in_ok-place.ensures) in
    on_ok_weaker c.push_faring.result
    (λ all. all ∙ ap (λ (t : List ℕ). t ++ faring_said block.told) place ∙ append_assoc old (place_said block) (faring_said block.told))
    c.push_faring.ensures
