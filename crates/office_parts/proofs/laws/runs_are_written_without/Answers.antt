use Rattle.office_parts.proofs.Writings.{runs_written}
use Rattle.office_parts.proofs.laws.runs_are_written_without.Goals as goal

pub returns : goal.returns
returns c = runs_written
