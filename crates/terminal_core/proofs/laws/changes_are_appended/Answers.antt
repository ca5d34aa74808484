use Rattle.terminal_core.proofs.Applying.{all_appended}
use Rattle.terminal_core.proofs.laws.changes_are_appended.Goals as goal

pub returns : goal.returns
returns c = all_appended
