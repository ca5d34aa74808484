-- What the writer wrote reads back as the same segments.
use Rattle.std.specs.{Prelude.{◌≡◌, List, [], ◌∷◌, ◌++◌, length, IsTrue}, List.{list_all, AllByRecursion}}
use Rattle.edi_syntax.specs.{Characters.is_data_byte, Text.{Content, IsSameSegment}, Interchange.{InterchangeText, segments_in}}
use Rattle.edi_syntax.specs.Spelling.{Writing, IsSegmentTag, segments_text, with_segment}

-- a segment that may be written
abbrev pub IsWritableSegment : Content → Type 0
IsWritableSegment segment =
    IsSegmentTag segment.tag × IsTrue (list_all (list_all (list_all is_data_byte)) segment.elements)

-- the same segments, one after the other
abbrev pub AreSameSegments : List Content → List Content → Type 0
AreSameSegments [] [] = Unit {0}
AreSameSegments [] (b ∷ bs) = ⊥
AreSameSegments (a ∷ as') [] = ⊥
AreSameSegments (a ∷ as') (b ∷ bs) = IsSameSegment a b × AreSameSegments as' bs

-- the segments written one after the other
abbrev pub with_segments : Writing → List Content → Writing
with_segments w [] = w
with_segments w (segment ∷ segments) = with_segments (with_segment w segment) segments

-- no element is open, and nothing is left to be dropped
abbrev pub IsBetween : Writing → Type 0
IsBetween w = w.kept ≡ length w.text

-- The calls of a writer write the texts of segments.
abbrev pub WritesSegments : Type 0
WritesSegments =
    (w : Writing) (segments : List Content) → IsBetween w
    → ((with_segments w segments).text ≡ w.text ++ segments_text segments) × IsBetween (with_segments w segments)

-- The text of segments is an interchange text of the same segments, and is read as these.
abbrev pub ReadsBack : Type 0
ReadsBack =
    (segments : List Content) → AllByRecursion IsWritableSegment segments
    → (read : List Content) × AreSameSegments read segments × InterchangeText read (segments_text segments)
    × (segments_in (segments_text segments) ≡ read)
