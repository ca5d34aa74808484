use Rattle.office_parts.proofs.Opening.{own_numbers}
use Rattle.office_parts.proofs.laws.own_numbers_are_kept.Goals as goal

pub returns : goal.returns
returns c = own_numbers
