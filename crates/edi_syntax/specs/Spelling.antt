-- Segments written under the default service characters: releases only before service characters, no empty components
-- or elements at an end, no line breaks.
use Rattle.std.specs.{Prelude.{◌≡◌, ℕ, Bool, true, false, ◌==◌, List, [], ◌∷◌, ◌++◌, length, take, codes, IsTrue, if◌then◌else◌}, List.{list_all, flat_map}}
use Rattle.edi_syntax.specs.{Bytes.{colon, plus_sign, question_mark, apostrophe}, Characters.is_data_byte, Tokens.is_service, Advice.default_service}
use Rattle.edi_syntax.specs.Text.{Content, IsTag}

-- the byte, after the release character if it would serve otherwise
abbrev pub spelled_byte : ℕ → List ℕ
spelled_byte b = if is_service default_service b then question_mark ∷ b ∷ [] else b ∷ []

-- the spelling of a value
abbrev pub spelling : List ℕ → List ℕ
spelling value = flat_map spelled_byte value

-- the value has no bytes
abbrev pub is_empty_value : List ℕ → Bool
is_empty_value value = length value == 0

-- no value of the element has any
abbrev pub is_empty_element : List (List ℕ) → Bool
is_empty_element values = list_all is_empty_value values

-- the text of an element, without the empty components at its end
abbrev pub composite : List (List ℕ) → List ℕ
composite [] = []
composite (value ∷ values) = spelling value ++ (if list_all is_empty_value values then [] else colon ∷ composite values)

-- the texts of elements, each after a separator, without the empty ones at their end
abbrev pub elements_text : List (List (List ℕ)) → List ℕ
elements_text [] = []
elements_text (element ∷ elements) =
    if list_all is_empty_element (element ∷ elements) then []
    else plus_sign ∷ composite element ++ elements_text elements

abbrev pub segment_text : Content → List ℕ
segment_text segment = segment.tag ++ elements_text segment.elements ++ apostrophe ∷ []

abbrev pub segments_text : List Content → List ℕ
segments_text segments = flat_map segment_text segments

-- ---- what may be written

-- all bytes may stand in data
abbrev pub IsWritable : List ℕ → Type 0
IsWritable value = IsTrue (list_all is_data_byte value)

-- the tag of a segment that isn't an advice
abbrev pub IsSegmentTag : List ℕ → Type 0
IsSegmentTag tag = IsTag tag × ((tag ≡ codes "UNA") → ⊥)

-- ---- segments that are being written

-- What is written, and how much of it stands if nothing but empty elements follows.
pub record Writing : Type 0 where
  pub text : List ℕ
  pub kept : ℕ
  pub is_open : Bool

abbrev pub nothing_written : Writing
nothing_written = record { text = []; kept = 0; is_open = false }

-- the tag of a segment more
abbrev pub with_tag : Writing → List ℕ → Writing
with_tag w tag = record { text = w.text ++ tag; kept = length (w.text ++ tag); is_open = true }

-- an element more
abbrev pub with_element : Writing → List (List ℕ) → Writing
with_element w values = record {
  text = w.text ++ plus_sign ∷ composite values;
  kept = if is_empty_element values then w.kept else length (w.text ++ plus_sign ∷ composite values);
  is_open = w.is_open;
}

-- the end of the segment
abbrev pub with_terminator : Writing → Writing
with_terminator w = record {
  text = take w.kept w.text ++ apostrophe ∷ [];
  kept = length (take w.kept w.text ++ apostrophe ∷ []);
  is_open = false;
}

-- the segment begun, with its elements
abbrev pub with_elements : Writing → List (List (List ℕ)) → Writing
with_elements w [] = w
with_elements w (element ∷ elements) = with_elements (with_element w element) elements

-- a segment more
abbrev pub with_segment : Writing → Content → Writing
with_segment w segment = with_terminator (with_elements (with_tag w segment.tag) segment.elements)
