use Rattle.std.proofs.Common.{subst, sym, ap, ◌∙◌}
use Rattle.edi_syntax.specs.{Positions.Keeps, declared.position.Position.Position, declared.position.Position.TheVariants.Inside}
use Rattle.edi_syntax.proofs.CutLemmas.{keeps_inside}
use Rattle.edi_syntax.proofs.position.len_kept.Goals as goal

pub returns-in-Inside-false-default-clause-keeps : goal.returns-in-Inside-false-default-clause-keeps
returns-in-Inside-false-default-clause-keeps c =
    let arm = c.in-Inside-false-default in
    subst (λ (p : Position). Keeps c.args.service.now p c.args.bytes.now c.len_inside.result)
    (sym (arm.is ∙ ap (λ is_released. Inside is_released arm.closes) arm.is_released-test))
    (keeps_inside c.args.service.now arm.closes c.args.bytes.now c.len_inside.result c.len_inside.ensures.within c.len_inside.ensures.inside)
