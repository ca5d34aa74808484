use Rattle.std.proofs.{Common.codes, lemmas.Result.on_ok_weaker}
use Rattle.serde_json.specs.Data.{no_members}
use Rattle.office_replies.specs.Members.{text_member}
use Rattle.office_replies.proofs.message_report.send_common_members.Goals as goal

pub returns : goal.returns
returns g c =
    on_ok_weaker c.end_map.result (λ ended. (
      _,
      _,
      c.in_ok-key.ensures,
      c.in_ok-send_lines.ensures,
      c.in_ok-send_text.ensures (text_member (codes "result") (codes "accepted") no_members) _ (c.in_ok-send_text-2.ensures no_members _ ended),
    )) c.end_map.ensures
