use Rattle.std.{specs.List.list_all, proofs.Common.{◌≡◌, drop}}
use Rattle.office_closing.specs.Register.{is_passed}
use Rattle.office_archive_files.proofs.is_archive.are_passed.Given as goal

abbrev pub invariant-loop-segment : goal.invariant-loop-segment
invariant-loop-segment l = list_all (is_passed l.nexts) l.segments ≡ list_all (is_passed l.nexts) (drop l.segment-index l.segments)
