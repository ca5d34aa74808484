use Rattle.office_tables.proofs.returning.insert_one.Goals as goal

pub returns-clause-writes : goal.returns-clause-writes
returns-clause-writes g c = rw c.as_str-port.ensures.value at c.insert_listing.ensures.writes
