use Rattle.partner_core.proofs.Keepings.{keeps_on as goes_on}
use Rattle.partner_core.proofs.laws.keeps_on.Goals as goal

pub returns : goal.returns
returns g c = goes_on g.M.Machine.taken
