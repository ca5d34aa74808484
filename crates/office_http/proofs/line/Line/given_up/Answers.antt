use Rattle.std.proofs.Common.{refl, subst, sym}
use Rattle.office_http.specs.{Lines.{IsGivenUp}, declared.line.Line.{Line}}
use Rattle.office_http.specs.declared.line.Line.TheVariants as line
use Rattle.office_http.proofs.line.Line.given_up.Goals as goal

pub returns-in-Asking : goal.returns-in-Asking
returns-in-Asking c =
    subst (λ (one : Line). IsGivenUp one (line.Ready c.late.result)) (sym c.in-Asking.is)
    (c.late.result, refl, c.late.ensures.peer, c.late.ensures.tail, c.late.ensures.front)
