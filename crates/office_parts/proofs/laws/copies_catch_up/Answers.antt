use Rattle.office_parts.proofs.Again.{copies_catch_up}
use Rattle.office_parts.proofs.laws.copies_catch_up.Goals as goal

pub returns : goal.returns
returns c = copies_catch_up
