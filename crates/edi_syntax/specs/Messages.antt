-- The messages of an interchange: what stands from a UNH to a UNT (ISO 9735).
use Rattle.std.specs.{Prelude.{ℕ, ◌+◌, Bool, true, false, not, ◌&&◌, ◌==◌, nat_le, List, [], ◌∷◌, length, codes, if◌then◌else◌}, Str.bytes_eq, List.list_all}
use Rattle.edi_syntax.specs.{Characters.is_printable, Text.{Content, no_segment, has_tag, component_of}, Numbers.is_count}

-- a message: its header UNH, the segments between, its trailer UNT
pub record Message : Type 0 where
  pub header : Content
  pub segments : List Content
  pub trailer : Content

abbrev pub begins_message : Content → Bool
begins_message segment = has_tag (codes "UNH") segment

abbrev pub ends_message : Content → Bool
ends_message segment = has_tag (codes "UNT") segment

-- a segment that neither begins nor ends a message or an interchange
abbrev pub is_inner : Content → Bool
is_inner segment =
    not (begins_message segment) && not (ends_message segment) && not (has_tag (codes "UNB") segment)
    && not (has_tag (codes "UNZ") segment)

-- the segments before the first UNT
abbrev pub before_trailer : List Content → List Content
before_trailer [] = []
before_trailer (segment ∷ segments) = if ends_message segment then [] else segment ∷ before_trailer segments

-- the first UNT
abbrev pub trailer_in : List Content → Content
trailer_in [] = no_segment
trailer_in (segment ∷ segments) = if ends_message segment then segment else trailer_in segments

-- the message that the header begins before these segments
abbrev pub message_from : Content → List Content → Message
message_from header behind = record { header = header; segments = before_trailer behind; trailer = trailer_in behind }

-- the messages that begin in the segments
abbrev pub messages_in : List Content → List Message
messages_in [] = []
messages_in (segment ∷ segments) =
    if begins_message segment then message_from segment segments ∷ messages_in segments else messages_in segments

-- a message of which only header and trailer are looked at
abbrev pub message_of_ends : Content → Content → Message
message_of_ends header trailer = record { header = header; segments = []; trailer = trailer }

-- 0062, message reference number
abbrev pub message_reference : Message → List ℕ
message_reference message = component_of message.header 1 1

-- S009, message identifier: 0065 type, 0052 version, 0054 release, 0051 agency, 0057 association, by number
abbrev pub message_identity : Message → ℕ → List ℕ
message_identity message component = component_of message.header 2 component

-- 0074: the trailer says how many segments the message has, header and trailer counted
abbrev pub is_counted : Message → Bool
is_counted message = is_count (component_of message.trailer 1 1) (length message.segments + 2)

-- 1 to 14 bytes that can be printed
abbrev pub is_reference : List ℕ → Bool
is_reference value = nat_le 1 (length value) && nat_le (length value) 14 && list_all is_printable value

abbrev pub is_printable_component : Content → ℕ → ℕ → Bool
is_printable_component segment element component = list_all is_printable (component_of segment element component)

-- the five components of S009 can be printed
abbrev pub is_printable_identity : Content → Bool
is_printable_identity header =
    is_printable_component header 2 1 && is_printable_component header 2 2 && is_printable_component header 2 3
    && is_printable_component header 2 4 && is_printable_component header 2 5

-- the reference is good and the same in the trailer, and the identity can be printed
abbrev pub is_referenced : Message → Bool
is_referenced message =
    is_reference (message_reference message) && bytes_eq (component_of message.trailer 2 1) (message_reference message)
    && is_printable_identity message.header

-- Nothing but messages, and a UNZ after them. The flag tells that a message has begun and not ended yet.
abbrev pub are_messages : Bool → List Content → Bool
are_messages begun [] = false
are_messages false (segment ∷ segments) =
    if begins_message segment then are_messages true segments else has_tag (codes "UNZ") segment && length segments == 0
are_messages true (segment ∷ segments) =
    if ends_message segment then are_messages false segments else is_inner segment && are_messages true segments
