use Rattle.box6346.proofs.SlotNames.{names_are_read_again_lem}
use Rattle.box6346.proofs.slot.names_are_read_again.Goals as goal

pub returns : goal.returns
returns c = names_are_read_again_lem
