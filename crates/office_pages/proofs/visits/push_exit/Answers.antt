use Rattle.office_pages.proofs.visits.push_exit.Goals as goal

pub returns-in-None : goal.returns-in-None
returns-in-None c = rw c.in-None.is c.push_pieces.ensures
