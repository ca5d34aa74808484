-- What an opened envelope stands for.
use Rattle.std.specs.Prelude.{List}
use Rattle.edi_syntax.specs.{Text.Content, Heads.head_segments, declared.envelope.Envelope.Envelope}

-- the segments of the interchange
abbrev pub envelope_segments : Envelope → List Content
envelope_segments envelope = head_segments envelope.head
