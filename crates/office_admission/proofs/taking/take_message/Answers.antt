use Rattle.std.proofs.Common.{ap, ◌∙◌, map}
use Rattle.terminal_core.specs.Rows.{change_content}
use Rattle.edi_syntax.specs.Frames.{message}
use Rattle.edi_messages.specs.Message.{reading}
use Rattle.office_replies.specs.Messages.{rejected}
use Rattle.office_admission.proofs.Takings.{rejected_on, rejected_changes}
use Rattle.office_admission.proofs.taking.take_message.Goals as goal

pub returns-in_ok-rejection_for-in-Err-clause-state : goal.returns-in_ok-rejection_for-in-Err-clause-state
returns-in_ok-rejection_for-in-Err-clause-state c =
    (rejected_on c.args.terminal.now c.args.source (reading c.args.codes.now c.args.opened (message c.args.frame.now)) c.in-Err.fault _ c.in-Err.ensures.err c.in_ok-rejection_for-in-Err.ensures.told).0

pub returns-in_ok-rejection_for-in-Err-clause-verdict : goal.returns-in_ok-rejection_for-in-Err-clause-verdict
returns-in_ok-rejection_for-in-Err-clause-verdict c =
    ap (λ fault. rejected fault c.in_ok-rejection_for-in-Err.field-0.code) c.in_ok-rejection_for-in-Err.ensures.same
    ∙ (rejected_on c.args.terminal.now c.args.source (reading c.args.codes.now c.args.opened (message c.args.frame.now)) c.in-Err.fault _ c.in-Err.ensures.err c.in_ok-rejection_for-in-Err.ensures.told).1

pub returns-in_ok-rejection_for-in-Err-clause-changes : goal.returns-in_ok-rejection_for-in-Err-clause-changes
returns-in_ok-rejection_for-in-Err-clause-changes c =
    rejected_changes c.args.terminal.now c.args.source (reading c.args.codes.now c.args.opened (message c.args.frame.now)) c.in-Err.fault _ (map change_content c.args.changes.now.items) c.in-Err.ensures.err c.in_ok-rejection_for-in-Err.ensures.told
