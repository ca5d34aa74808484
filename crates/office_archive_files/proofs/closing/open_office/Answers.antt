use Rattle.office_archive_files.proofs.closing.open_office.Goals as goal

-- What opens, and is in no transaction, is settled.
pub returns-in-Ok-clause-settled : goal.returns-in-Ok-clause-settled
returns-in-Ok-clause-settled g c clean =
    let opens = c.in-Ok.ensures.opens clean in
    record {
      settled = opens.clean;
      is_open = opens.is_open;
      alone = λ db left. g.met.S.Store.settled c.in-Ok.conn.store db opens.is_open left;
    }
