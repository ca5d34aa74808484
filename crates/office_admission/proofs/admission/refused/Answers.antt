use Rattle.std.proofs.Common.{inr, sym}
use Rattle.office_admission.proofs.admission.refused.Goals as goal

pub returns-in-Some : goal.returns-in-Some
returns-in-Some c = λ setup text partner opened some refused. (refused, sym c.in-Some.ensures, opened.segments, (partner, some))

pub returns-in-None : goal.returns-in-None
returns-in-None c = λ setup text partner opened some refused. (refused, inr (sym c.in-None.ensures))
