use Rattle.office_parts.proofs.Takings.{goes_beside}
use Rattle.office_parts.proofs.laws.interchanges_are_taken_alike.Goals as goal

pub returns : goal.returns
returns c = goes_beside
