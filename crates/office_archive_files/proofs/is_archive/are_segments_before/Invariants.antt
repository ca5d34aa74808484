use Rattle.std.proofs.Common.{◌≤◌, length, nat_lt}
use Rattle.office_closing.specs.declared.register.Segment.{Segment}
use Rattle.office_archive_files.proofs.PassingLemmas.{GoOn}
use Rattle.office_archive_files.proofs.is_archive.are_segments_before.Given as goal

abbrev pub invariant-loop-segment : goal.invariant-loop-segment
invariant-loop-segment l = record {
  within : l.count ≤ length l.segments;
  goes_on : GoOn (λ (segment : Segment). nat_lt segment.archive l.place) l.segments l.others l.count l.segment-index;
}
