use Rattle.office_parts.proofs.Again.{each_is_new}
use Rattle.office_parts.proofs.laws.each_is_new.Goals as goal

pub returns : goal.returns
returns c = each_is_new
