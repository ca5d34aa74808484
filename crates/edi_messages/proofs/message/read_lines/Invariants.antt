use Rattle.std.proofs.Common.{◌≡◌, ◌++◌, IfSome, length, map}
use Rattle.edi_syntax.specs.Frames.{message_segments_left}
use Rattle.edi_messages.specs.{Message.lines_of, Spans.purpose_spanned, Owned.line_content}
use Rattle.edi_messages.proofs.message.read_lines.Given as goal

abbrev pub invariant-loop-counted : goal.invariant-loop-counted
invariant-loop-counted l = record {
  lines : IfSome l.lines
      (λ lines. lines_of (purpose_spanned l.purpose) l.opened (message_segments_left l.fn.survey.rest)
      ≡ map line_content lines.items
      ++ lines_of (purpose_spanned l.purpose) l.opened (message_segments_left l.survey.rest));
  same : l.survey.frame ≡ l.fn.survey.frame;
}

abbrev pub decreases-loop-counted : goal.decreases-loop-counted
decreases-loop-counted l = length (message_segments_left l.survey.rest)
