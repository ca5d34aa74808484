-- The blocks are told in order, and then how many of them fare how.
use Rattle.std.proofs.{Common.{◌≡◌, ◌∙◌, ◌++◌, ◌∷◌, [], List, ap, sym, subst, take, string_bytes}, lemmas.List.{take_more, take_all}}
use Rattle.office_explain.specs.{Headings.ListsBlocks, Tallies.tally_said, declared.explaining.Block.Block}
use Rattle.office_explain.proofs.HeadingLemmas.{listed_more, listed_to}
use Rattle.office_explain.proofs.explanation.block_lines.Goals as goal

pub all-preserved : goal.all-preserved
all-preserved c =
    let blocks = c.args.blocks.now in
    let at = c.all.block-index in
    let block = c.block-item.result in
    subst (λ (told : List Block). ListsBlocks told [] (string_bytes c.push_block.new.text))
    (ap (λ (b : Block). take at blocks ++ b ∷ []) c.block-item.is ∙ sym (take_more blocks at block c.all-test.true))
    (listed_more (take at blocks) block _ _ c.all.invariant c.in_ok-push_block.ensures)

pub returns : goal.returns
returns c =
    let blocks = c.args.blocks.now in
    let all = take_all c.all.block-index blocks c.all-test.false in
    listed_to blocks (tally_said blocks) _ _ (subst (λ (told : List Block). ListsBlocks told [] (string_bytes c.all.text)) all c.all.invariant) c.in_ok-push_tally.ensures
