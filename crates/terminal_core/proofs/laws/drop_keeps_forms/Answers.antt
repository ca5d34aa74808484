use Rattle.terminal_core.proofs.Dropping.{drop_formed}
use Rattle.terminal_core.proofs.laws.drop_keeps_forms.Goals as goal

pub returns : goal.returns
returns c = drop_formed
