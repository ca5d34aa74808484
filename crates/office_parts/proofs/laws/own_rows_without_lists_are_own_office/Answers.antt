use Rattle.office_parts.proofs.Writings.{own_office_without}
use Rattle.office_parts.proofs.laws.own_rows_without_lists_are_own_office.Goals as goal

pub returns : goal.returns
returns c = own_office_without
