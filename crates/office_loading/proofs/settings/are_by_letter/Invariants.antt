use Rattle.std.proofs.Common.{ℕ, ◌<◌, ◌≤◌, get_or}
use Rattle.yard_core.specs.declared.plan.Block.{Block}
use Rattle.office_loading.proofs.settings.are_by_letter.Given as goal

abbrev pub invariant-loop-index : goal.invariant-loop-index
invariant-loop-index l = (i j : ℕ) (d : Block) → i ≤ j → j < l.index → (get_or l.blocks i d).letter ≤ (get_or l.blocks j d).letter
