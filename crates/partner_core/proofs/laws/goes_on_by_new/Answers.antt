use Rattle.partner_core.proofs.ByPlace.{goes_on_by_new}
use Rattle.partner_core.proofs.laws.goes_on_by_new.Goals as goal

pub returns : goal.returns
returns g c = λ number_of old new. goes_on_by_new number_of old new
