use Rattle.std.proofs.{Common.{Err, inl, inr, arith}, lemmas.Bool.cases_order, lemmas.List.Sorted.searched}
use Rattle.terminal_core.proofs.Whole.{no_fall}
use Rattle.office_closing.proofs.visits.index_of.Goals as goal

pub returns-in-Err : goal.returns-in-Err
returns-in-Err c k low same =
    let all = searched c.args.numbers.now c.args.number (Err c.in-Err.field-0) c.in-Err.ensures.position (no_fall c.args.numbers.now c.requires) in
    elim (cases_order k c.in-Err.field-0) [
      | inl at ↦ (let above = all.2 k (omega (arith, at)) low in omega (arith, above, same))
      | inr o ↦ elim o [
        | inl less ↦ (let below = all.1 k less in omega (arith, below, same))
        | inr more ↦ (let above = all.2 k (omega (arith, more)) low in omega (arith, above, same))
      ]
    ]
