use Rattle.terminal_core.proofs.Applying.{empty_formed}
use Rattle.terminal_core.proofs.laws.empty_is_well_formed.Goals as goal

pub returns : goal.returns
returns c = empty_formed
