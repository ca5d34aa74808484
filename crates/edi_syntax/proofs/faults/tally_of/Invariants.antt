use Rattle.std.{specs.List.{list_all, list_any}, proofs.Common.{◌≡◌, ◌∷◌, ◌+◌, ◌≤◌, ◌&&◌, ◌||◌, length, false}}
use Rattle.edi_syntax.specs.{Text.Content, Segment.content, Checks.{checked_left, are_all}, Messages.{messages_in, are_messages, is_counted, is_referenced}}
use Rattle.edi_syntax.specs.Envelope.{last_of, is_of_functional_group}
use Rattle.edi_syntax.proofs.faults.tally_of.Given as goal

abbrev pub invariant-loop-segment : goal.invariant-loop-segment
invariant-loop-segment l = record {
  framed : are_messages false (checked_left l.fn.segments) ≡ are_messages false (checked_left l.rest);
  counted : list_all is_counted (messages_in (checked_left l.fn.segments)) ≡ (l.tally.are_counted && list_all is_counted (messages_in (checked_left l.rest)));
  referenced : list_all is_referenced (messages_in (checked_left l.fn.segments)) ≡ (l.tally.are_referenced && list_all is_referenced (messages_in (checked_left l.rest)));
  messages : length (messages_in (checked_left l.fn.segments)) ≡ l.tally.messages + length (messages_in (checked_left l.rest));
  few : l.tally.messages + length (checked_left l.rest) ≤ 1048576;
  last : (passed : Content) × (last_of (content l.fn.header) (checked_left l.fn.segments) ≡ last_of passed (checked_left l.rest));
  group : list_any is_of_functional_group (content l.fn.header ∷ checked_left l.fn.segments) ≡ (l.has_functional_group || list_any is_of_functional_group (checked_left l.rest));
  all : are_all l.fn.segments ≡ are_all l.rest;
}

abbrev pub decreases-loop-segment : goal.decreases-loop-segment
decreases-loop-segment l = length (checked_left l.rest)
