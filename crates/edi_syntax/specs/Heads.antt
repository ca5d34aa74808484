-- What an opened head stands for.
use Rattle.std.specs.Prelude.{List, ◌∷◌}
use Rattle.edi_syntax.specs.{Text.Content, Segment.{content, segments_left}, declared.head.Head.Head}

-- the segments of the interchange
abbrev pub head_segments : Head → List Content
head_segments head = content head.header ∷ segments_left head.rest
