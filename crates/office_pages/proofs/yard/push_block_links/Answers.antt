use Rattle.std.proofs.Common.{◌+◌, ◌++◌, ap, count_by, ◌∙◌, string_bytes}
use Rattle.office_reports.{specs.Blocks.is_in, proofs.Markup.next}
use Rattle.office_pages.specs.Yard.{block_link}
use Rattle.office_pages.proofs.yard.push_block_links.Goals as goal

pub loop-n-preserved : goal.loop-n-preserved
loop-n-preserved c =
    let letter = c.letter_at-letter.ensures in
    let count = c.count_in.ensures ∙ ap (λ l. count_by (is_in l) c.args.yard.now) letter in
    next (λ n. block_link c.args.block (65 + n) (count_by (is_in (65 + n)) c.args.yard.now)) c.loop-n.n
    (string_bytes c.args.page.now) (string_bytes c.loop-n.page) (string_bytes c.push_block_link.new.page) c.loop-n.invariant
    (c.in_ok-push_block_link.ensures
    ∙ (λ i. string_bytes c.loop-n.page ++ block_link c.args.block (letter i) (count i)))
