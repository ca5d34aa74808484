use Rattle.office_archives.proofs.StayedTold.{by_numbers}
use Rattle.office_archives.proofs.laws.closings_go_by_numbers.Goals as goal

pub returns : goal.returns
returns c = by_numbers
