use Rattle.std.proofs.{Common.rules, lemmas.List.Sorted.IsNonDecreasingBy-from_sort_by_key}
use Rattle.yard_core.specs.declared.plan.Block.{Block}
use Rattle.office_explain.proofs.setup_reading.by_letter.Goals as goal

pub returns : goal.returns
returns c = (c.in_ok-sort_by_key.ensures.permutation, IsNonDecreasingBy-from_sort_by_key (λ (block : Block). block.letter) _ c.in_ok-sort_by_key.ensures.sorted (λ a r q k. search rules))
