use Rattle.office_pages.proofs.yard.push_all_link.Goals as goal

pub returns-in-Some : goal.returns-in-Some
returns-in-Some c = rw c.in-Some.is c.push_pieces.ensures

pub returns-in-None : goal.returns-in-None
returns-in-None c = rw c.in-None.is c.push_pieces-in-None.ensures
