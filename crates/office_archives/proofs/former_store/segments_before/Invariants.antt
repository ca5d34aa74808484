use Rattle.std.proofs.Common.{◌≡◌, ◌++◌, nat_lt, filter, drop}
use Rattle.office_closing.specs.declared.register.Segment.{Segment}
use Rattle.office_archives.proofs.former_store.segments_before.Given as goal

abbrev pub invariant-loop-segment : goal.invariant-loop-segment
invariant-loop-segment l =
    l.earlier.items ++ filter (λ (segment : Segment). nat_lt segment.archive l.place) (drop l.segment-index l.segments)
    ≡ filter (λ (segment : Segment). nat_lt segment.archive l.place) l.segments
