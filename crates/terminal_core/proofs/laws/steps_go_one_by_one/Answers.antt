use Rattle.terminal_core.proofs.Applying.{step_goes}
use Rattle.terminal_core.proofs.laws.steps_go_one_by_one.Goals as goal

pub returns : goal.returns
returns c = step_goes
