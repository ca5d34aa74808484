use Rattle.std.specs.Prelude.{[], ◌∷◌}
use Rattle.office_replies.specs.Events.{delivered}
use Rattle.office_admission.proofs.Adding.{deliveries_on}
use Rattle.office_admission.proofs.laws.delivery_adds.Goals as goal

pub returns : goal.returns
returns c = λ content es sent. deliveries_on es (delivered sent ∷ []) content
