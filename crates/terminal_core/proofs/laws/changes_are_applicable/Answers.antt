use Rattle.terminal_core.proofs.Applying.{applicable_step}
use Rattle.terminal_core.proofs.laws.changes_are_applicable.Goals as goal

pub returns : goal.returns
returns c = applicable_step
