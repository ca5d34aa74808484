use Rattle.terminal_core.proofs.Formed.{lists_by_key}
use Rattle.terminal_core.proofs.laws.lists_are_rows_by_key.Goals as goal

pub returns : goal.returns
returns c = lists_by_key
