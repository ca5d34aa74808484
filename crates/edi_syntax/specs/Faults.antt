-- Which faults apply to a text, each by its own definition over the segments of the whole text, and the first that
-- does.
use Rattle.std.specs.{Prelude.{ℕ, Bool, false, not, ◌==◌, nat_lt, List, [], ◌∷◌, ◌++◌, length, codes, Option, Some, if◌then◌else◌}, Option.is_none}
use Rattle.std.specs.{List.{list_all, list_any, find}, Str.bytes_eq}
use Rattle.edi_syntax.specs.{Interchange.{most_bytes, segments_in, is_segment_text}, Text.Content, Advice.has_bad_advice}
use Rattle.edi_syntax.specs.{declared.interchange.SyntaxFault.SyntaxFault, Header.{test_indicator, control_number, preparation, is_known_syntax}}
use Rattle.edi_syntax.specs.declared.interchange.SyntaxFault.TheVariants.{TooLong, Service, Segment, NoEnvelope, Group, Version, Number, Moment, Test, MessageFrame, SegmentCount, MessageReference, Empty, ControlCount, ControlReference}
use Rattle.edi_syntax.specs.Messages.{are_messages, is_counted, is_referenced}
use Rattle.edi_syntax.specs.Envelope.{header_of, behind_header, messages_of, has_envelope, is_of_functional_group, counts_messages, repeats_reference}

-- ---- each fault

-- Whether the fault applies to the segments of a text. Those of the messages say something of any list of segments,
-- also of one with which `MessageFrame` is at fault and comes first. The first three are faults of the bytes only.
abbrev pub applies_to : List Content → SyntaxFault → Bool
applies_to segments TooLong = false
applies_to segments Service = false
applies_to segments Segment = false
applies_to segments NoEnvelope = not (has_envelope segments)
applies_to segments Group = list_any is_of_functional_group segments
applies_to segments Version = not (is_known_syntax (header_of segments))
applies_to segments Number = is_none (control_number (header_of segments))
applies_to segments Moment = is_none (preparation (header_of segments))
applies_to segments Test = bytes_eq (test_indicator (header_of segments)) (codes "1")
applies_to segments MessageFrame = not (are_messages false (behind_header segments))
applies_to segments SegmentCount = not (list_all is_counted (messages_of segments))
applies_to segments MessageReference = not (list_all is_referenced (messages_of segments))
applies_to segments Empty = length (messages_of segments) == 0
applies_to segments ControlCount = not (counts_messages segments)
applies_to segments ControlReference = not (repeats_reference segments)

-- whether the fault applies to a text
abbrev pub applies : List ℕ → SyntaxFault → Bool
applies text TooLong = nat_lt most_bytes (length text)
applies text Service = has_bad_advice text
applies text Segment = not (is_segment_text text)
applies text fault = applies_to (segments_in text) fault

-- ---- the table

-- the faults of the bytes
abbrev pub text_faults : List SyntaxFault
text_faults = TooLong ∷ Service ∷ Segment ∷ []

-- the faults of the envelope and its header
abbrev pub header_faults : List SyntaxFault
header_faults = NoEnvelope ∷ Group ∷ Version ∷ Number ∷ Moment ∷ []

-- the faults of what the header announces
abbrev pub body_faults : List SyntaxFault
body_faults = Test ∷ MessageFrame ∷ SegmentCount ∷ MessageReference ∷ Empty ∷ ControlCount ∷ ControlReference ∷ []

-- all faults, in their order
abbrev pub faults : List SyntaxFault
faults = text_faults ++ header_faults ++ body_faults

-- the first fault that applies to a text
abbrev pub fault_of : List ℕ → Option SyntaxFault
fault_of text = find (applies text) faults

-- the first of bytes, envelope and header
abbrev pub head_fault_of : List ℕ → Option SyntaxFault
head_fault_of text = find (applies text) (text_faults ++ header_faults)

-- the first of envelope and header
abbrev pub header_fault_of : List Content → Option SyntaxFault
header_fault_of segments = find (applies_to segments) header_faults

-- the first of what the header announces
abbrev pub body_fault_of : List Content → Option SyntaxFault
body_fault_of segments = find (applies_to segments) body_faults

-- the first of what is no segment, envelope and header
abbrev pub segments_fault : Bool → List Content → Option SyntaxFault
segments_fault are_all segments = if are_all then header_fault_of segments else Some Segment
