use Rattle.terminal_core.proofs.Applying.{applicable_joined, applicable_parted}
use Rattle.terminal_core.proofs.laws.are_applicable_appended.Goals as goal

pub returns : goal.returns
returns c = λ rows before after. (applicable_parted rows before after, λ both. applicable_joined rows before after both.0 both.1)
