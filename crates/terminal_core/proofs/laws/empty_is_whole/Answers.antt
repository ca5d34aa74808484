use Rattle.terminal_core.proofs.Removed.{empty_whole}
use Rattle.terminal_core.proofs.laws.empty_is_whole.Goals as goal

pub returns : goal.returns
returns c = empty_whole
