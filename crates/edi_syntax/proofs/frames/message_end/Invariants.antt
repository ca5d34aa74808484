use Rattle.std.{specs.List.list_any, proofs.Common.{◌≡◌, ◌+◌, ◌≤◌, ◌||◌, length, true}}
use Rattle.edi_syntax.specs.{Text.Content, Checks.{checked_left, are_all}, Messages.{before_trailer, trailer_in, messages_in, are_messages}}
use Rattle.edi_syntax.specs.Envelope.{last_of, is_of_functional_group}
use Rattle.edi_syntax.proofs.frames.message_end.Given as goal

abbrev pub invariant-loop-segment : goal.invariant-loop-segment
invariant-loop-segment l = record {
  between : length (before_trailer (checked_left l.fn.behind)) ≡ l.between + length (before_trailer (checked_left l.rest));
  trailer : trailer_in (checked_left l.fn.behind) ≡ trailer_in (checked_left l.rest);
  framed : are_messages true (checked_left l.fn.behind) ≡ are_messages true (checked_left l.rest);
  others : messages_in (checked_left l.fn.behind) ≡ messages_in (checked_left l.rest);
  few : l.between + length (checked_left l.rest) ≤ length (checked_left l.fn.behind);
  last : (before : Content) → (passed : Content) × (last_of before (checked_left l.fn.behind) ≡ last_of passed (checked_left l.rest));
  group : list_any is_of_functional_group (checked_left l.fn.behind) ≡ (l.has_functional_group || list_any is_of_functional_group (checked_left l.rest));
  all : are_all l.fn.behind ≡ are_all l.rest;
}

abbrev pub decreases-loop-segment : goal.decreases-loop-segment
decreases-loop-segment l = length (checked_left l.rest)
