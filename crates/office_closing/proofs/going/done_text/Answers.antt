use Rattle.std.proofs.Common.{map, sym, ◌∙◌}
use Rattle.office_rows.specs.Rows.{listing_content}
use Rattle.office_closing.{specs.Found.list_on, proofs.FoundLemmas.{content_in, not_all}}
use Rattle.office_closing.proofs.going.done_text.Goals as goal

pub returns-then-not-is_done-clause-none : goal.returns-then-not-is_done-clause-none
returns-then-not-is_done-clause-none c =
    let lines = c.args.lines.now in
    let other = c.other-item.result in
    not_all (list_on (listing_content c.args.line.now)) (map listing_content lines) (listing_content other)
    (content_in lines c.loop-other.other-index other c.loop-other-test.true c.other-item.is)
    (sym c.is_of.ensures ∙ c.if-is_of.true)
    (λ done. let yes = c.is_done.ensures.1 done in absurd cc)
