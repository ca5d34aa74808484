use Rattle.office_parts.proofs.BringingLemmas.{sound}
use Rattle.office_parts.proofs.laws.terminals_without_lists_are_sound.Goals as goal

pub returns : goal.returns
returns c = sound
