use Rattle.std.proofs.Common.{Err, sym, ap, ◌∙◌}
use Rattle.edi_syntax.specs.Frames.{message}
use Rattle.edi_messages.specs.{ErrorCodes.message_error, Message.reading}
use Rattle.office_reports.proofs.InterchangeLemmas.{is_fault}
use Rattle.office_reports.proofs.interchanges.reading_of.Goals as goal

pub returns-in-Some : goal.returns-in-Some
returns-in-Some c =
    ap Err c.in-Some.ensures.some
    ∙ is_fault (reading c.args.codes.now c.args.opened (message c.args.frame.now)) c.in-Err.fault c.in-Some.rejection.code
    c.in-Err.ensures.err (ap message_error (sym c.in-Some.ensures.some) ∙ c.in-Some.rejection.told)
