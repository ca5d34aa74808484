use Rattle.std.{specs.Result.result_err, proofs.Common.{◌≡◌, ◌∙◌, None, Some, not, ap, sym}}
use Rattle.edi_syntax.specs.Frames.{message}
use Rattle.edi_messages.specs.Owned.{message_content}
use Rattle.office_explain.proofs.SendingLemmas.{sent_by, sent_if_answered}
use Rattle.office_explain.proofs.partners.may_send.Goals as goal

pub returns-in-Some : goal.returns-in-Some
returns-in-Some c =
    let fault : result_err c.read_message.result ≡ Some c.in-Some.fault = cc in
    ap not c.is_of_order.ensures ∙ sym (ap sent_by fault)
    ∙ sym (sent_if_answered message_content c.args.codes.now c.args.moment (message c.args.frame.now) c.read_message.result c.read_message.ensures.ok c.read_message.ensures.err)

pub returns-in-None : goal.returns-in-None
returns-in-None c =
    let fault : result_err c.read_message.result ≡ None = cc in
    sym (ap sent_by fault)
    ∙ sym (sent_if_answered message_content c.args.codes.now c.args.moment (message c.args.frame.now) c.read_message.result c.read_message.ensures.ok c.read_message.ensures.err)
