use Rattle.std.proofs.Common.{◌≡◌, ◌≤◌, length}
use Rattle.edi_syntax.specs.{Segment.segments_left, Messages.messages_in, Frames.messages_left}
use Rattle.edi_syntax.proofs.frames.FramesIterator.next.Given as goal

abbrev pub invariant-loop-segment : goal.invariant-loop-segment
invariant-loop-segment l = record {
  left : messages_left l.fn.self ≡ messages_in (segments_left l.rest);
  bounded : length (segments_left l.rest) ≤ 1048576;
}

abbrev pub decreases-loop-segment : goal.decreases-loop-segment
decreases-loop-segment l = length (segments_left l.rest)
