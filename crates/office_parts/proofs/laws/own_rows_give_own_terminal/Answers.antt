use Rattle.office_parts.proofs.Takings.{own_rows}
use Rattle.office_parts.proofs.laws.own_rows_give_own_terminal.Goals as goal

pub returns : goal.returns
returns c = own_rows
