use Rattle.terminal_core.proofs.Formed.{by_key_lists}
use Rattle.terminal_core.proofs.laws.rows_by_key_are_lists.Goals as goal

pub returns : goal.returns
returns c = by_key_lists
