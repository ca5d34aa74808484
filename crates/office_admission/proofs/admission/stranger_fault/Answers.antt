use Rattle.std.proofs.Common.{Some, None}
use Rattle.office_admission.{specs.Parties.parties_of, proofs.Admitting.{syntax_refused, stranger_refused, body_fault_is}}
use Rattle.office_admission.proofs.admission.stranger_fault.Goals as goal

pub returns-in-Err : goal.returns-in-Err
returns-in-Err c = λ setup text opened none.
    syntax_refused (parties_of setup) text c.in-Err.fault (body_fault_is text c.args.head (Some c.in-Err.fault) opened c.in-Err.ensures.err)

pub returns-in-Ok : goal.returns-in-Ok
returns-in-Ok c = λ setup text opened none.
    stranger_refused (parties_of setup) text (body_fault_is text c.args.head None opened c.in-Ok.ensures.ok.0) none
