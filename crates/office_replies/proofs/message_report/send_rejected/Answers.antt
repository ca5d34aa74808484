use Rattle.std.proofs.{Common.codes, lemmas.Result.on_ok_weaker}
use Rattle.serde_json.specs.Data.{no_members}
use Rattle.office_replies.specs.Members.{text_member}
use Rattle.office_replies.proofs.message_report.send_rejected.Goals as goal

pub returns : goal.returns
returns g c =
    let result = text_member (codes "result") (codes "rejected") no_members in
    on_ok_weaker c.end_map.result (λ ended. (
      _,
      c.in_ok-begin_map.ensures,
      c.in_ok-send_text.ensures (text_member (codes "reference") c.args.reference.now result) _
          (c.in_ok-send_text-2.ensures result _ (c.in_ok-send_text-3.ensures no_members _ ended)),
    )) c.end_map.ensures
