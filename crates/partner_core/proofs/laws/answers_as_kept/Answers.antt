use Rattle.partner_core.proofs.Keepings.{answers_as_kept as tells}
use Rattle.partner_core.proofs.laws.answers_as_kept.Goals as goal

pub returns : goal.returns
returns g c = tells g.M.Machine.taken
