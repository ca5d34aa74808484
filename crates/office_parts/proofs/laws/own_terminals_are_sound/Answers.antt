use Rattle.office_parts.proofs.Splits.{own_sound}
use Rattle.office_parts.proofs.laws.own_terminals_are_sound.Goals as goal

pub returns : goal.returns
returns c = own_sound
