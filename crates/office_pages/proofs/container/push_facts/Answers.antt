use Rattle.std.proofs.{Common.{◌++◌, ap, ◌∙◌, string_bytes}, lemmas.Result.on_ok_weaker}
use Rattle.office_reports.{specs.Containers.container_content, proofs.Markup.onto}
use Rattle.office_pages.specs.Container.{passage_fact, passage_label, size_fact, stay_facts}
use Rattle.office_pages.proofs.container.push_facts.Goals as goal

pub returns : goal.returns
returns c =
    let front = string_bytes c.args.page.now in
    let report = container_content c.args.report.now in
    let size = size_fact report in
    let passage = passage_fact (passage_label report.stay) report.passage in
    let stay = stay_facts report.stay in
    let one = string_bytes c.push_size.new.page in
    let two = string_bytes c.push_passage.new.page in
    let three = string_bytes c.push_stay.new.page in
    let b = onto front size passage one two c.in_ok-push_size.ensures
    (c.in_ok-push_passage.ensures ∙ ap (λ label. one ++ passage_fact label report.passage) c.passage_label.ensures) in
    let d = onto front (size ++ passage) stay two three b c.in_ok-push_stay.ensures in
    on_ok_weaker c.push_pieces.result
    (λ last. onto front (size ++ passage ++ stay) _ three (string_bytes c.push_pieces.new.page) d last)
    c.push_pieces.ensures
