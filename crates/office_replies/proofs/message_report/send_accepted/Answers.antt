use Rattle.std.proofs.{Common.{ℕ, Option, OnOk, sym, subst}, lemmas.Result.on_ok_weaker}
use Rattle.serde_json.specs.{Data.object, Events.SendsValue}
use Rattle.office_replies.specs.Messages.{accepted_members, common_members}
use Rattle.office_replies.proofs.message_report.send_accepted.Goals as goal

pub returns-in_ok-send_number-in-Some : goal.returns-in_ok-send_number-in-Some
returns-in_ok-send_number-in-Some g c =
    subst
    (λ (dropped : Option ℕ). OnOk c.send_common_members.result (SendsValue (object (accepted_members c.args.reference.now dropped c.args.lines.now)) (g.S.Serializer.written c.args.out.now) (g.S.Serializer.written c.send_common_members.new.out)))
    (sym c.in-Some.is)
    (on_ok_weaker c.send_common_members.result (λ sent. (_, c.in_ok-begin_map-in-Some.ensures, c.in_ok-send_number-in-Some.ensures (common_members c.args.reference.now c.args.lines.now) _ sent)) c.send_common_members.ensures)

pub returns-in_ok-begin_map-in-None : goal.returns-in_ok-begin_map-in-None
returns-in_ok-begin_map-in-None g c =
    subst
    (λ (dropped : Option ℕ). OnOk c.send_common_members-in-None.result (SendsValue (object (accepted_members c.args.reference.now dropped c.args.lines.now)) (g.S.Serializer.written c.args.out.now) (g.S.Serializer.written c.send_common_members-in-None.new.out)))
    (sym c.in-None.is)
    (on_ok_weaker c.send_common_members-in-None.result (λ sent. (_, c.in_ok-begin_map-in-None.ensures, sent)) c.send_common_members-in-None.ensures)
