-- A fault with an error code is the lowest that applies.
use Rattle.office_explain.proofs.SenderLemmas.{lowest_fault}
use Rattle.office_explain.proofs.reading.message_rejected.Goals as goal

pub returns-in-Some : goal.returns-in-Some
returns-in-Some c opened message is =
    (c.args.fault, lowest_fault _ c.args.fault _ is c.message_error.ensures c.in-Some.is, c.rejection.ensures)
