use Rattle.office_parts.proofs.Writings.{terminals}
use Rattle.office_parts.proofs.laws.rows_without_lists_give_terminal.Goals as goal

pub returns : goal.returns
returns c = terminals
