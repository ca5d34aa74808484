use Rattle.std.proofs.lemmas.Result.{err_from_is_err_and}
use Rattle.office_desk.proofs.accounts.add_new.Goals as goal

pub returns-in_err-write_account-clause-writes : goal.returns-in_err-write_account-clause-writes
returns-in_err-write_account-clause-writes g c =
    let p = err_from_is_err_and c.from_residual-in_err-write_account.result c.from_residual-in_err-write_account.ensures.1 in
    let writes = c.in_err-write_account.ensures.writes in
    rw (p.1, p.2) (record {
      ends = writes.ends;
      ok = λ clean. tt;
      err = writes.err;
      crash = writes.crash;
      fault = writes.fault;
    })
