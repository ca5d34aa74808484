use Rattle.terminal_core.proofs.Dropping.{drop_applicable}
use Rattle.terminal_core.proofs.laws.drop_is_applicable.Goals as goal

pub returns : goal.returns
returns c = drop_applicable
