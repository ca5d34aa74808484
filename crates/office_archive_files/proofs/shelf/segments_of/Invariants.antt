use Rattle.std.proofs.Common.{◌≡◌, ◌++◌, drop}
use Rattle.office_archive_files.specs.Archives.{segments_at}
use Rattle.office_archive_files.proofs.shelf.segments_of.Given as goal

abbrev pub invariant-loop-segment : goal.invariant-loop-segment
invariant-loop-segment l = l.found.items ++ segments_at l.place (drop l.segment-index l.segments) ≡ segments_at l.place l.segments
