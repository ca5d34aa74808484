use Rattle.terminal_core.proofs.Formed.{state_of_rows}
use Rattle.terminal_core.proofs.laws.rows_give_state.Goals as goal

pub returns : goal.returns
returns c = state_of_rows
