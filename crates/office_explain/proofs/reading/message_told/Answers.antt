-- A message is rejected for the fault that reading it gave.
use Rattle.edi_syntax.specs.Frames.{message}
use Rattle.office_explain.proofs.reading.message_told.Goals as goal

pub returns-in_ok-message_rejected-in-Err : goal.returns-in_ok-message_rejected-in-Err
returns-in_ok-message_rejected-in-Err c =
    c.in_ok-message_rejected-in-Err.ensures c.args.opened (message c.args.frame.now) c.in-Err.ensures.err
