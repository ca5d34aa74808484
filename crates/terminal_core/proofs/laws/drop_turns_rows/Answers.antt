use Rattle.terminal_core.proofs.Dropping.{drop_turned}
use Rattle.terminal_core.proofs.laws.drop_turns_rows.Goals as goal

pub returns : goal.returns
returns c = drop_turned
