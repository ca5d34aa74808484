-- The segments of an interchange: UNB, messages, UNZ (ISO 9735).
use Rattle.std.specs.{Prelude.{Bool, ◌&&◌, ◌||◌, List, [], ◌∷◌, length, codes}, Str.bytes_eq}
use Rattle.edi_syntax.specs.{Text.{Content, no_segment, has_tag, component_of}, Numbers.is_count, Header.{control_reference, names_partners}}
use Rattle.edi_syntax.specs.Messages.{Message, messages_in}

-- the first segment
abbrev pub header_of : List Content → Content
header_of [] = no_segment
header_of (segment ∷ segments) = segment

-- those after the first
abbrev pub behind_header : List Content → List Content
behind_header [] = []
behind_header (segment ∷ segments) = segments

-- the last of them, or the one before them all
abbrev pub last_of : Content → List Content → Content
last_of before [] = before
last_of before (segment ∷ segments) = last_of segment segments

-- the last segment
abbrev pub trailer_of : List Content → Content
trailer_of segments = last_of no_segment segments

-- the messages of an interchange
abbrev pub messages_of : List Content → List Message
messages_of segments = messages_in (behind_header segments)

-- A UNB that names sender and recipient comes first, a UNZ last.
abbrev pub has_envelope : List Content → Bool
has_envelope segments =
    has_tag (codes "UNB") (header_of segments) && has_tag (codes "UNZ") (trailer_of segments)
    && names_partners (header_of segments)

-- a segment of a functional group
abbrev pub is_of_functional_group : Content → Bool
is_of_functional_group segment = has_tag (codes "UNG") segment || has_tag (codes "UNE") segment

-- 0036: the trailer says how many messages there are
abbrev pub counts_messages : List Content → Bool
counts_messages segments = is_count (component_of (trailer_of segments) 1 1) (length (messages_of segments))

-- 0020 of the trailer has the bytes of the header's
abbrev pub repeats_reference : List Content → Bool
repeats_reference segments = bytes_eq (component_of (trailer_of segments) 2 1) (control_reference (header_of segments))
