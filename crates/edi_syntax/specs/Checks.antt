-- Segments that are checked when they are reached.
use Rattle.std.specs.Prelude.{Bool, List}
use Rattle.edi_syntax.specs.{Text.Content, Reading.{segments_of, are_segments}, declared.segment.CheckedSegments.CheckedSegments}
use Rattle.edi_syntax.specs.declared.segments.SegmentCheck.{SegmentCheck}

-- the segments that are left, as far as there are any
abbrev pub checked_left : CheckedSegments → List Content
checked_left segments = segments_of segments.table.now.service segments.rest.now

-- nothing but segments is left
abbrev pub are_all : CheckedSegments → Bool
are_all segments = are_segments segments.table.now.service segments.rest.now

-- the same of a text from its first segment on
abbrev pub segments_to_check : SegmentCheck → List Content
segments_to_check check = segments_of check.table.service check.rest.now

abbrev pub are_all_segments : SegmentCheck → Bool
are_all_segments check = are_segments check.table.service check.rest.now
