use Rattle.std.proofs.Common.{◌≡◌, sym, ◌∙◌, List, subst}
use Rattle.yard_core.specs.{declared.plan.Block.Block, Plan.IsPlan}
use Rattle.office_explain.proofs.Givens.{some_same, not_plan}
use Rattle.office_explain.proofs.files.blocks_of.Goals as goal

pub returns-in-Err : goal.returns-in-Err
returns-in-Err c blocks are =
    let said = rw c.in-Some.is at c.in_ok-blocks.ensures in
    let same : blocks ≡ c.deref.result.now = some_same blocks c.in-Some.blocks.items (sym are.said ∙ said) ∙ sym c.deref.ensures.value in
    let P : List Block → Type 0 = IsPlan in
    not_plan c.deref.result.now c.in-Err.field-0 c.in-Err.ensures (subst P same are.plan)
