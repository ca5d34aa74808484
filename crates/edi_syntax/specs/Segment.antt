-- What the spans of the code stand for.
use Rattle.std.specs.{Prelude.{ℕ, ◌==◌, List, [], length, map, get_or, drop, false, Option, None, Some, if◌then◌else◌}, Option.option_map_or}
use Rattle.edi_syntax.specs.{Text.Content, Reading.{content_of, segments_of}, Parts.{value_of, parts_of}, declared.component.Components.Components}
use Rattle.edi_syntax.specs.{declared.component.Component.Component, declared.component.Bytes.Bytes, declared.segments.Segments.Segments}
use Rattle.edi_syntax.specs.declared.segment.Segment.{Segment}

-- the tag and the values of a segment
abbrev pub content : Segment → Content
content segment = content_of segment.service segment.body.now

-- the bytes of an element, counted from one
abbrev pub element_text : Segment → ℕ → List ℕ
element_text segment element =
    get_or (parts_of segment.service segment.service.element false (drop 3 segment.body.now)) element []

-- the segments that are left
abbrev pub segments_left : Segments → List Content
segments_left segments = segments_of segments.service segments.rest.now

-- the value of a component
abbrev pub value : Component → List ℕ
value component = value_of component.service false component.text.now

-- the bytes of a value that are left
abbrev pub bytes_left : Bytes → List ℕ
bytes_left bytes = value_of bytes.service false bytes.text.now

-- the values that are left of an element
abbrev pub components_left : Components → List (List ℕ)
components_left components =
    option_map_or (λ text.
    map (value_of components.service false)
    (parts_of components.service components.service.component false text.now)) components.rest []

-- the value as an array of that length, if it has that length
abbrev pub value_of_length : ℕ → List ℕ → Option (List ℕ)
value_of_length size value = if length value == size then Some value else None
