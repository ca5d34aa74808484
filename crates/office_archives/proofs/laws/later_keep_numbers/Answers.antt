use Rattle.office_archives.proofs.Later.{keep_numbers}
use Rattle.office_archives.proofs.laws.later_keep_numbers.Goals as goal

pub returns : goal.returns
returns c = keep_numbers
