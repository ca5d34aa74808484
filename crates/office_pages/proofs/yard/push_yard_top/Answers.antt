use Rattle.office_pages.specs.Yard.{block_name}
use Rattle.office_pages.proofs.yard.push_yard_top.Goals as goal

pub returns-in-Some : goal.returns-in-Some
unfolding block_name
returns-in-Some c = rw c.in-Some.is c.push_top.ensures

pub returns-in-None : goal.returns-in-None
returns-in-None c = rw c.in-None.is c.push_top-in-None.ensures
