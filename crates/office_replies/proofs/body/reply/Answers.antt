use Rattle.std.proofs.Common.{map, string_bytes}
use Rattle.serde_json.proofs.FreeTexts.{text_of_value}
use Rattle.office_replies.{specs.Messages.{report_content, reply_data, reply_content_text}, proofs.Floats.reply_has_no_float}
use Rattle.office_replies.proofs.body.reply.Goals as goal

pub returns-in-Ok : goal.returns-in-Ok
unfolding reply_content_text
returns-in-Ok c =
    let reports = map report_content c.args.messages.now in
    let contrl = c.args.contrl.now in
    let events = c.in-Ok.ensures.events in
    text_of_value (reply_data contrl reports) events.0 (string_bytes c.in-Ok.text) events.1 events.2 (reply_has_no_float contrl reports)
