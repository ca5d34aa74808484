use Rattle.std.proofs.lemmas.Result.{err_from_is_err_and}
use Rattle.office_tables.proofs.WritesLemmas.{of_store_or}
use Rattle.office_commands.proofs.register.read_history.Goals as goal

pub returns-in_err-is_there-clause-fault : goal.returns-in_err-is_there-clause-fault
returns-in_err-is_there-clause-fault c =
    let p = err_from_is_err_and c.from_residual-in_err-is_there.result c.from_residual-in_err-is_there.ensures.1 in
    rw (p.1, p.2) (of_store_or _ _ c.in_err-is_there.ensures)

pub returns-in_err-looked-clause-fault : goal.returns-in_err-looked-clause-fault
returns-in_err-looked-clause-fault c =
    let p = err_from_is_err_and c.from_residual-in_err-looked.result c.from_residual-in_err-looked.ensures.1 in
    rw (p.1, p.2) (of_store_or _ _ c.in_err-looked.ensures.fault)
