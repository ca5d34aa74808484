use Rattle.terminal_core.proofs.Applying.{changes_go}
use Rattle.terminal_core.proofs.laws.changes_go_one_by_one.Goals as goal

pub returns : goal.returns
returns c = changes_go
