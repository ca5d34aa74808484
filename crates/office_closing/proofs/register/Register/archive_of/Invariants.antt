use Rattle.std.proofs.Common.{◌≡◌, drop}
use Rattle.office_closing.specs.Register.{archive_of}
use Rattle.office_closing.proofs.register.Register.archive_of.Given as goal

abbrev pub invariant-loop-segment : goal.invariant-loop-segment
invariant-loop-segment l =
    archive_of l.self.segments.items l.partner l.number ≡ archive_of (drop l.segment-index l.self.segments.items) l.partner l.number
