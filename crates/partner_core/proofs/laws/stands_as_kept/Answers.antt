use Rattle.partner_core.proofs.Keepings.{stands_as_kept as tells}
use Rattle.partner_core.proofs.laws.stands_as_kept.Goals as goal

pub returns : goal.returns
returns g c = tells g.M.Machine.taken
