use Rattle.std.proofs.{Common.{◌≡◌, ◌+◌, ◌<◌, ◌-◌, ◌∷◌, length, max, set, get_or, ap, ◌∙◌, arith}, Math.ListN.length-set}
use Rattle.office_closing.{specs.declared.register.Segment.Segment, proofs.{Created.any_default, Inserted.{account_at, one_higher, zeros}}}
use Rattle.office_closing.proofs.register.last_numbers.Goals as goal

pub loop-segment-init : goal.loop-segment-init
loop-segment-init c = record {
  count = omega (arith, c.in_ok-last.last.ok.0, c.in_ok-last.ensures.len);
  told = zeros 999 c.in_ok-last.last.items (c.in_ok-last.ensures.items_if_clones_equal (λ y e. e));
}

pub loop-segment-preserved : goal.loop-segment-preserved
loop-segment-preserved c =
    let i = c.loop-segment.segment-index in
    let segments = c.args.segments.now in
    let d : Segment = record { partner = 0; archive = 0; last = 0 } in
    let item = get_or segments i d in
    let last = c.loop-segment.last.items in
    let within = c.loop-segment-test.true in
    let its = account_at segments i d within c.requires in
    let is : c.from-at.result ≡ item.partner = c.from-at.ensures in
    let at = c.from-at.result - 1 in
    let next : at + 1 ≡ item.partner = omega (arith, is, its.from) in
    let there : at < length last = omega (arith, next, its.to, c.loop-segment.invariant.count) in
    let had : c.index.result.now ≡ get_or last at 0 = c.index.ensures ∙ any_default last at c.index.result.now 0 there in
    let most : c.max.result ≡ max (get_or last at 0) item.last = c.max.ensures ∙ ap (λ n. max n item.last) had in
    record {
      count = length-set last at c.max.result ∙ c.loop-segment.invariant.count;
      told = λ partner. ap (λ n. get_or (0 ∷ set last at n) partner 0) most ∙ one_higher segments i d within last at next there c.loop-segment.invariant.told partner;
    }
