use Rattle.std.proofs.{Common.codes, lemmas.Result.on_ok_weaker}
use Rattle.serde_json.specs.Data.{member, no_members}
use Rattle.office_replies.specs.Messages.{messages_data}
use Rattle.office_replies.proofs.body.send_reply.Goals as goal

pub returns : goal.returns
returns g c =
    let messages = member (codes "messages") (messages_data c.args.messages.now) no_members in
    on_ok_weaker c.end_map.result (λ ended. (
      _,
      c.in_ok-begin_map.ensures,
      c.in_ok-send_text.ensures messages _ (_, _, c.in_ok-key.ensures, c.in_ok-send_messages.ensures, ended),
    )) c.end_map.ensures
