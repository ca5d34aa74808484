-- What the messages of an interchange come to, segment by segment: what the code relies on, and no caller has to read.
use Rattle.std.specs.{Prelude.{◌≡◌, ◌≤◌, ◌||◌, true, false, List, [], ◌∷◌, length}, List.{list_all, list_any}}
use Rattle.edi_syntax.specs.{Text.Content, Segment.content, Checks.{checked_left, are_all}, declared.segment.CheckedSegments.CheckedSegments}
use Rattle.edi_syntax.specs.{Envelope.{last_of, is_of_functional_group}, declared.faults.Tally.Tally, declared.faults.Tallied.Tallied}
use Rattle.edi_syntax.specs.{Messages.{before_trailer, trailer_in, messages_in, are_messages, is_counted, is_referenced}, declared.frames.MessageEnd.MessageEnd}

-- the end of the message that these segments are after the header of
pub record EndsMessage (behind : CheckedSegments) (end : MessageEnd) : Type 0 where
  pub between : end.between ≡ length (before_trailer (checked_left behind))
  pub trailer : content end.trailer ≡ trailer_in (checked_left behind)
  pub framed : are_messages true (checked_left behind) ≡ are_messages false (checked_left end.rest)
  pub others : messages_in (checked_left behind) ≡ messages_in (checked_left end.rest)
  pub few : end.between ≤ length (checked_left behind)
  pub fewer : length (checked_left end.rest) ≤ length (checked_left behind)
  pub last : (before : Content) →
      last_of before (checked_left behind) ≡ last_of (content end.trailer) (checked_left end.rest)
  pub group : list_any is_of_functional_group (checked_left behind)
      ≡ (end.has_functional_group || list_any is_of_functional_group (checked_left end.rest))
  pub all : are_all behind ≡ are_all end.rest

-- what the messages come to, of which nothing but a UNZ stands after
pub record IsTally (segments : List Content) (tally : Tally) : Type 0 where
  pub framed : are_messages false segments ≡ true
  pub counted : tally.are_counted ≡ list_all is_counted (messages_in segments)
  pub referenced : tally.are_referenced ≡ list_all is_referenced (messages_in segments)
  pub messages : tally.messages ≡ length (messages_in segments)

-- what was found up to the trailer of the interchange
pub record IsTallied (header : Content) (segments : CheckedSegments) (found : Tallied) : Type 0 where
  pub tally : IsTally (checked_left segments) found.tally
  pub last : content found.trailer ≡ last_of header (checked_left segments)
  pub group : found.has_functional_group ≡ list_any is_of_functional_group (header ∷ checked_left segments)
  pub all : are_all segments ≡ are_all found.rest
  pub done : checked_left found.rest ≡ []
