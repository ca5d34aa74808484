use Rattle.office_history.proofs.Lawful.{early_adds}
use Rattle.office_history.proofs.laws.early_adds_waiting.Goals as goal

pub returns : goal.returns
returns c = early_adds
