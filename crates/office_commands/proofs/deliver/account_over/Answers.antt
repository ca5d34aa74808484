use Rattle.std.proofs.{Common.refl, lemmas.Result.err_from_is_err_and}
use Rattle.sqlite.specs.WalFiles.{image_at}
use Rattle.office_commands.proofs.deliver.account_over.Goals as goal

pub returns-clause-ok : goal.returns-clause-ok
returns-clause-ok g c = record {
  names = c.in_ok-office.ensures.opened.0;
  opened = (c.in_ok-office.office.desk, c.in_ok-office.office.archives);
  is = c.in_ok-office.ensures.opened.1;
  came = c.ask_desk-status.ensures (image_at g.S.Start) c.in_ok-office.ensures.opened.1.opens;
}

pub returns-in_err-office-clause-refused : goal.returns-in_err-office-clause-refused
returns-in_err-office-clause-refused g c =
    let p = err_from_is_err_and c.from_residual.result c.from_residual.ensures.1 in
    rw (p.1, p.2) (c.in_err-office.ensures.refused, refl)
