use Rattle.office_pages.proofs.partners.push_expected_table.Goals as goal

pub returns-then-count-eq0 : goal.returns-then-count-eq0
returns-then-count-eq0 c = rw c.if-count-eq0.true c.push_no_rows.ensures
