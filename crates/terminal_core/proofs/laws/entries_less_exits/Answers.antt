use Rattle.terminal_core.proofs.Indexed.{counted}
use Rattle.terminal_core.proofs.laws.entries_less_exits.Goals as goal

pub returns : goal.returns
returns c = λ state whole. counted state.visits state.yard.boxes whole.one_visit whole.here
