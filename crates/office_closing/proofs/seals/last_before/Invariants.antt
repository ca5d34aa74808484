use Rattle.std.proofs.Common.{◌≡◌, filter, nat_lt, take}
use Rattle.office_closing.specs.{Register.last_closed, declared.register.Segment.Segment}
use Rattle.office_closing.proofs.seals.last_before.Given as goal

abbrev pub invariant-loop-segment : goal.invariant-loop-segment
invariant-loop-segment l =
    l.last ≡ last_closed (filter (λ (one : Segment). nat_lt one.archive l.place) (take l.segment-index l.segments)) l.partner
