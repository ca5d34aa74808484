use Rattle.office_pages.proofs.container.push_standing.Goals as goal

pub returns-in-None : goal.returns-in-None
returns-in-None c = rw c.in-None.is c.push_pieces.ensures
