use Rattle.terminal_core.proofs.Removed.{whole_step}
use Rattle.terminal_core.proofs.laws.steps_keep_whole.Goals as goal

pub returns : goal.returns
returns c = whole_step
