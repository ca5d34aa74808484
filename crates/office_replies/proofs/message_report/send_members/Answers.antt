use Rattle.std.proofs.{Common.{Some, subst}, lemmas.Result.on_ok_weaker}
use Rattle.serde.specs.Event.{Logs, map_begins}
use Rattle.serde_json.specs.Data.{no_members}
use Rattle.office_replies.specs.Sent.{slot_members, reason_members, told_outcome_members, number_members, box_members}
use Rattle.office_replies.proofs.message_report.send_members.Goals as goal

pub returns : goal.returns
returns g c =
    let told = c.args.told.now in
    let begun = subst (λ n. Logs (g.S.Serializer.written c.args.out.now) (g.S.Serializer.written c.begin_map.new.self) (map_begins (Some n))) c.member_count.ensures c.in_ok-begin_map.ensures in
    on_ok_weaker c.end_map.result (λ ended. (
      _,
      begun,
      c.in_ok-send_optional.ensures (box_members told) _
          (c.in_ok-send_optional-2.ensures (number_members told) _
          (c.in_ok-send_number.ensures (told_outcome_members told) _
          (c.in_ok-send_text.ensures (reason_members told) _
          (c.in_ok-send_optional-3.ensures (slot_members told) _
          (c.in_ok-send_optional-4.ensures no_members _ ended))))),
    )) c.end_map.ensures
