use Rattle.terminal_core.proofs.Dropping.{drop_alone}
use Rattle.terminal_core.proofs.laws.drops_open_alone.Goals as goal

pub returns : goal.returns
returns c = drop_alone
