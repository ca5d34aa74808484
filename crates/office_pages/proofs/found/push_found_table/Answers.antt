use Rattle.office_pages.proofs.found.push_found_table.Goals as goal

pub returns-then-count-eq0 : goal.returns-then-count-eq0
returns-then-count-eq0 c = rw c.if-count-eq0.true c.push_no_rows.ensures
