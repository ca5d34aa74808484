use Rattle.std.proofs.{Common.{◌≡◌, ◌<◌, get_or, take, ap, ◌∙◌, arith}, Math.ListN.length-set}
use Rattle.office_closing.{specs.{declared.register.Segment.Segment, Register.last_closed}, proofs.Created.{any_default, partner_at, more_told, more_closed}}
use Rattle.office_closing.proofs.sound.close_more.Goals as goal

pub loop-segment-preserved : goal.loop-segment-preserved
loop-segment-preserved c =
    let i = c.loop-segment.segment-index in
    let segments = c.args.segments.now in
    let d : Segment = record { partner = 0; archive = 0; last = 0 } in
    let item = get_or segments i d in
    let lasts = c.loop-segment.lasts.items in
    let within = c.loop-segment-test.true in
    let is : c.from.result ≡ item.partner = c.from.ensures in
    let small = partner_at segments i d within c.requires in
    let count = c.loop-segment.invariant.count in
    let there = any_default lasts c.from.result c.index_mut-last.result.now 0 (omega (arith, is, small, count)) in
    let more : get_or lasts c.from.result 0 < item.last = omega (arith, there, c.index_mut-last.ensures.value, c.if-segment-last.false) in
    let told = c.loop-segment.invariant.told in
    let higher : last_closed (take i segments) item.partner < item.last = omega (arith, told item.partner small, ap (λ n. get_or lasts n 0) is, more) in
    record {
      count = length-set lasts c.from.result item.last ∙ count;
      told = more_told segments i d within lasts c.from.result is count small told more;
      rest = c.loop-segment.invariant.rest ∙ more_closed segments i d within higher;
    }
