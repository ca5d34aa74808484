use Rattle.partner_core.proofs.ByPlace.{rules_by_place}
use Rattle.partner_core.proofs.laws.rules_by_place.Goals as goal

pub returns : goal.returns
returns g c = λ number_of old new. rules_by_place number_of old new
