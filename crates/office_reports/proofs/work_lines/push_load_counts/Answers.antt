use Rattle.std.proofs.{Common.{◌++◌, ◌∷◌, [], ap, ◌∙◌, codes, decimal, string_bytes}, lemmas.Result.on_ok_weaker}
use Rattle.office_reports.specs.Names.{line}
use Rattle.office_reports.proofs.work_lines.push_load_counts.Goals as goal

pub returns : goal.returns
returns c =
    let free = c.as_str.ensures.value ∙ c.in_ok-free.ensures.ok ∙ ap decimal c.free_count.ensures in
    let covered = c.as_str-2.ensures.value ∙ c.in_ok-covered.ensures.ok ∙ ap decimal c.covered_count.ensures in
    let absent = c.as_str-3.ensures.value ∙ c.in_ok-absent.ensures.ok ∙ ap decimal c.absent_count.ensures in
    on_ok_weaker c.push_line.result
    (λ e. e ∙ (λ i. string_bytes c.args.text.now ++ line (free i ∷ codes "FREE" ∷ covered i ∷ codes "UNDER" ∷ absent i ∷ codes "NOT IN" ∷ [])))
    c.push_line.ensures
