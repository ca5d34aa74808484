-- The text of an interchange (ISO 9735): an advice if there is one, and segments.
use Rattle.std.specs.{Prelude.{◌≡◌, ◌⊎◌, ℕ, Bool, false, List, [], ◌∷◌, ◌++◌, codes, IsTrue, Option, None, Some, if◌then◌else◌}, List.list_all}
use Rattle.edi_syntax.specs.{Bytes.space, Characters.{is_break, begins_with_advice}, Text.{Content, SegmentsText}, Reading.{segments_of, are_segments}}
use Rattle.edi_syntax.specs.{Advice.{without_breaks, default_service, service_at, has_bad_advice, behind_advice}, declared.characters.Service.Service}
use Rattle.edi_syntax.specs.declared.interchange.SyntaxFault.{SyntaxFault}
use Rattle.edi_syntax.specs.declared.interchange.SyntaxFault.TheVariants.{Service as ServiceFault, Segment as SegmentFault}

-- the most bytes that an interchange's text may have
abbrev pub most_bytes : ℕ
most_bytes = 1048576

-- ---- the grammar

-- the byte in the place of the release character: a space if none is used
abbrev pub release_byte : Option ℕ → ℕ
release_byte None = space
release_byte (Some r) = r

-- `UNA` and six bytes that name the service characters
abbrev pub AdviceText : Service → List ℕ → Type 0
AdviceText s text =
    (decimal reserved : ℕ)
    × (text ≡ codes "UNA" ++ s.component ∷ s.element ∷ decimal ∷ release_byte s.release ∷ reserved ∷ s.terminator ∷ [])

-- segments after an advice, with any number of CR and LF after it
abbrev pub AdvisedText : List Content → List ℕ → Type 0
AdvisedText segments text =
    (s : Service) × (advice breaks rest : List ℕ) × AdviceText s advice × IsTrue (list_all is_break breaks)
    × SegmentsText s segments rest × (text ≡ advice ++ (breaks ++ rest))

-- Segments under the service characters of their advice, or under the defaults. A text that begins with `UNA` has an
-- advice.
abbrev pub InterchangeText : List Content → List ℕ → Type 0
InterchangeText segments text =
    AdvisedText segments text ⊎ ((begins_with_advice text ≡ false) × SegmentsText default_service segments text)

-- ---- the same as functions of the text

-- the segments of a text, as far as there are any
abbrev pub segments_in : List ℕ → List Content
segments_in text = segments_of (service_at text) (behind_advice text)

-- what stands after the advice is a list of segments
abbrev pub is_segment_text : List ℕ → Bool
is_segment_text text = are_segments (service_at text) (behind_advice text)

-- why no segments can be read
abbrev pub read_fault : List ℕ → Option SyntaxFault
read_fault text =
    if has_bad_advice text then Some ServiceFault
    else if is_segment_text text then None
    else Some SegmentFault

-- ---- what is delivered

-- without the CR and LF at the end
abbrev pub without_breaks_at_end : List ℕ → List ℕ
without_breaks_at_end [] = []
without_breaks_at_end (b ∷ bytes) = if list_all is_break (b ∷ bytes) then [] else b ∷ without_breaks_at_end bytes

-- the text of what was delivered: without the CR and LF at both ends
abbrev pub interchange_of : List ℕ → List ℕ
interchange_of delivered = without_breaks_at_end (without_breaks delivered)
