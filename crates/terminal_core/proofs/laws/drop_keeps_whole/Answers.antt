use Rattle.terminal_core.proofs.Dropping.{drop_whole}
use Rattle.terminal_core.proofs.laws.drop_keeps_whole.Goals as goal

pub returns : goal.returns
returns c = drop_whole
