use Rattle.office_parts.proofs.Orders.{numbers_told}
use Rattle.office_parts.proofs.laws.numbers_are_told.Goals as goal

pub returns : goal.returns
returns c = numbers_told
