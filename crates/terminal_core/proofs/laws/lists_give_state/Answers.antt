use Rattle.terminal_core.proofs.Placing.{one_state}
use Rattle.terminal_core.proofs.laws.lists_give_state.Goals as goal

pub returns : goal.returns
returns c = one_state
