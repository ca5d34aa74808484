use Rattle.std.proofs.Common.{◌≡◌, ◌==◌, filter, map, take}
use Rattle.office_closing.specs.{Seals.numbers_by, declared.register.Segment.Segment}
use Rattle.office_closing.proofs.seals.closed_at.Given as goal

abbrev pub invariant-loop-segment : goal.invariant-loop-segment
invariant-loop-segment l =
    l.closed.items ≡ map (numbers_by l.place l.segments) (filter (λ (segment : Segment). segment.archive == l.place) (take l.segment-index l.segments))
