use Rattle.terminal_core.proofs.Changing.{turned_step}
use Rattle.terminal_core.proofs.laws.changes_turn_rows.Goals as goal

pub returns : goal.returns
returns c = turned_step
