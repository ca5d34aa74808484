use Rattle.std.proofs.{Common.{◌++◌, ◌∷◌, [], ap, ◌∙◌, codes, decimal, string_bytes}, lemmas.Result.on_ok_weaker}
use Rattle.office_reports.{specs.Names.line, proofs.Listing.other_count}
use Rattle.office_reports.proofs.lists.push_counts.Goals as goal

pub returns : goal.returns
returns c =
    let pending = c.as_str.ensures.value ∙ c.in_ok-pending.ensures.ok ∙ ap decimal (other_count c.args.list.now.entries c.len.result c.done_count-done.result c.len.ensures.len c.done_count-done.ensures) in
    let done = c.as_str-2.ensures.value ∙ c.in_ok-done.ensures.ok ∙ ap decimal c.done_count-done.ensures in
    on_ok_weaker c.push_line.result
    (λ e. e ∙ (λ i. string_bytes c.args.text.now ++ line (pending i ∷ codes "OPEN" ∷ done i ∷ codes "DONE" ∷ [])))
    c.push_line.ensures
