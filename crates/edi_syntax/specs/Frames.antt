-- What the frames of messages stand for.
use Rattle.std.specs.Prelude.{List}
use Rattle.edi_syntax.specs.{Text.Content, Segment.{content, segments_left}, Messages.{Message, message_from, messages_in, before_trailer}}
use Rattle.edi_syntax.specs.{declared.frames.Frame.Frame, declared.frames.Frames.Frames, declared.envelope.MessageSegments.MessageSegments}

-- the message of a frame
abbrev pub message : Frame → Message
message frame = message_from (content frame.header) (segments_left frame.behind)

-- the messages that are left
abbrev pub messages_left : Frames → List Message
messages_left frames = messages_in (segments_left frames.rest)

-- the segments that are left of a message, before its trailer
abbrev pub message_segments_left : MessageSegments → List Content
message_segments_left segments = before_trailer (segments_left segments.rest)
