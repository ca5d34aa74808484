use Rattle.partner_core.proofs.Keepings.{takes_none, takes_one_more}
use Rattle.partner_core.proofs.laws.cascade.Goals as goal

pub returns-clause-begins : goal.returns-clause-begins
returns-clause-begins g c = takes_none g.M.Machine.taken

pub returns-clause-goes_on : goal.returns-clause-goes_on
returns-clause-goes_on g c = takes_one_more g.M.Machine.taken
