use Rattle.std.proofs.{Common.{◌++◌, ◌∷◌, [], ◌∙◌, codes, string_bytes}, lemmas.Result.on_ok_weaker}
use Rattle.office_reports.specs.Names.{line}
use Rattle.office_reports.proofs.tickets.push_entry.Goals as goal

pub returns : goal.returns
returns c =
    let number = c.as_str.ensures.value ∙ c.in_ok-number.ensures in
    let size = c.as_str-2.ensures.value ∙ c.in_ok-size.ensures in
    let slot = c.as_str-3.ensures.value ∙ c.in_ok-slot.ensures in
    let moment = c.as_str-4.ensures.value ∙ c.in_ok-moment.ensures in
    on_ok_weaker c.push_line.result
    (λ e. e ∙ (λ i. string_bytes c.args.text.now ++ line (codes "IN" ∷ number i ∷ size i ∷ c.load_name.ensures i ∷ slot i ∷ moment i ∷ [])))
    c.push_line.ensures
