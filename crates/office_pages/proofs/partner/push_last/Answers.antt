use Rattle.office_pages.proofs.partner.push_last.Goals as goal

pub returns-then-next-eq1 : goal.returns-then-next-eq1
returns-then-next-eq1 c = rw c.if-next-eq1.true c.push_pieces.ensures
