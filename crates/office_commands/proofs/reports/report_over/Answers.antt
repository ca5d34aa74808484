use Rattle.std.proofs.{Common.refl, lemmas.Result.{IfErr-weaker, IfOk-weaker, err_from_is_err_and}}
use Rattle.sqlite.specs.WalFiles.{image_at}
use Rattle.office_commands.proofs.RefusingLemmas.{err_under}
use Rattle.office_commands.proofs.reports.report_over.Goals as goal

-- The office was opened on the files, and then only looked at.
pub returns-clause-ok : goal.returns-clause-ok
returns-clause-ok g c =
    IfOk-weaker c.report_on-status.result _ _
    (λ status ends. record {
      names = c.in_ok-office.ensures.opened.0;
      opened = (c.in_ok-office.office.desk, c.in_ok-office.office.archives);
      is = c.in_ok-office.ensures.opened.1;
      came = ends (image_at g.S.Start) c.in_ok-office.ensures.opened.1.opens;
    })
    c.report_on-status.ensures.ok

pub returns-clause-looks : goal.returns-clause-looks
returns-clause-looks g c = record {
  names = c.in_ok-office.ensures.opened.0;
  opened = (c.in_ok-office.office.desk, c.in_ok-office.office.archives);
  is = c.in_ok-office.ensures.opened.1;
  came = c.report_on-status.ensures.looks (image_at g.S.Start);
}

-- ---- why it can't be reported

pub returns-clause-fault : goal.returns-clause-fault
returns-clause-fault g c =
    IfErr-weaker c.report_on-status.result _ _
    (λ fault fails. record {
      names = c.in_ok-office.ensures.opened.0;
      opened = (c.in_ok-office.office.desk, c.in_ok-office.office.archives);
      is = c.in_ok-office.ensures.opened.1;
      came = fails;
    })
    (err_under c.report_on-status.result _ _ c.report_on-status.ensures.fault)

-- and why the store is not opened
pub returns-in_err-office-clause-refused : goal.returns-in_err-office-clause-refused
returns-in_err-office-clause-refused g c =
    let p = err_from_is_err_and c.from_residual.result c.from_residual.ensures.1 in
    rw (p.1, p.2) (c.in_err-office.ensures.refused, refl)
