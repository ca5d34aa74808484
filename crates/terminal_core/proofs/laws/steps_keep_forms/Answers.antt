use Rattle.terminal_core.proofs.Applying.{formed_step}
use Rattle.terminal_core.proofs.laws.steps_keep_forms.Goals as goal

pub returns : goal.returns
returns c = formed_step
