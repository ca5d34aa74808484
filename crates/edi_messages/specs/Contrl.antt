-- CONTRL, the answer to an interchange (syntax version 3), as a function of the parts of the interchange that it
-- answers: an interchange of its own, UNB, one message from UNH to UNT, UNZ (ISO 9735). Values are written anew under
-- the default service characters, without empty components and elements at an end.
use Rattle.std.specs.Prelude.{◌≡◌, ℕ, ◌+◌, ◌<◌, ◌≤◌, None, List, [], ◌∷◌, ◌++◌, length, map, zip, codes, decimal}
use Rattle.edi_syntax.specs.{Text.Content, Interchange.{most_bytes, segments_in}, Spelling.segments_text, Written.AreSameSegments}
use Rattle.edi_syntax.specs.{Header.{sender, recipient, preparation_date, preparation_time, control_reference}, Envelope.{header_of, messages_of}}
use Rattle.edi_syntax.specs.{Messages.{Message, message_reference, message_identity}, Faults.{fault_of, header_fault_of, body_fault_of}}
use Rattle.edi_messages.specs.{declared.message.Verdict.Verdict, declared.message.Verdict.TheVariants.{Accepted, Rejected}}

-- ---- its segments, by their elements

-- S002 of the interchange that is answered
abbrev pub sender_of : Content → List (List ℕ)
sender_of header = sender header 1 ∷ sender header 2 ∷ sender header 3 ∷ []

-- S003
abbrev pub recipient_of : Content → List (List ℕ)
recipient_of header = recipient header 1 ∷ recipient header 2 ∷ recipient header 3 ∷ []

-- UNB: the answer goes the other way, with the moment and the control reference of the interchange that is answered.
abbrev pub unb : Content → Content
unb header = record {
  tag = codes "UNB";
  elements = (codes "UNOA" ∷ codes "3" ∷ []) ∷ recipient_of header ∷ sender_of header
      ∷ (preparation_date header ∷ preparation_time header ∷ []) ∷ (control_reference header ∷ []) ∷ [];
}

-- UNH: the message 1, a CONTRL of version D, release 3, agency UN
abbrev pub unh : Content
unh = record {
  tag = codes "UNH";
  elements = (codes "1" ∷ []) ∷ (codes "CONTRL" ∷ codes "D" ∷ codes "3" ∷ codes "UN" ∷ []) ∷ [];
}

-- 0083 action, and 0085 error if it is rejected
abbrev pub verdict_elements : Verdict → List (List (List ℕ))
verdict_elements Accepted = (codes "7" ∷ []) ∷ []
verdict_elements (Rejected code) = (codes "4" ∷ []) ∷ (decimal code ∷ []) ∷ []

-- UCI: 0020, and S002 and S003 as the interchange named them, and the verdict on it
abbrev pub uci : Content → Verdict → Content
uci header verdict = record {
  tag = codes "UCI";
  elements = (control_reference header ∷ []) ∷ sender_of header ∷ recipient_of header ∷ verdict_elements verdict;
}

-- S009 of a message
abbrev pub identity_of : Message → List (List ℕ)
identity_of message =
    message_identity message 1 ∷ message_identity message 2 ∷ message_identity message 3 ∷ message_identity message 4
    ∷ message_identity message 5 ∷ []

-- UCM: 0062 and S009 of a message, and the verdict on it
abbrev pub ucm : Verdict × Message → Content
ucm (verdict, message) = record {
  tag = codes "UCM";
  elements = (message_reference message ∷ []) ∷ identity_of message ∷ verdict_elements verdict;
}

-- UNT: 0074 the number of the message's segments, 0062
abbrev pub unt : ℕ → Content
unt count = record { tag = codes "UNT"; elements = (decimal count ∷ []) ∷ (codes "1" ∷ []) ∷ [] }

-- UNZ: 0036 one message, 0020
abbrev pub unz : Content → Content
unz header = record { tag = codes "UNZ"; elements = (codes "1" ∷ []) ∷ (control_reference header ∷ []) ∷ [] }

-- An interchange of one message with these segments between its UNH and its UNT, which counts these two as well.
abbrev pub answer_segments : Content → List Content → List Content
answer_segments header between = unb header ∷ unh ∷ between ++ unt (length between + 2) ∷ unz header ∷ []

-- UCI acknowledges, and a UCM for each message
abbrev pub contrl_segments : Content → List Message → List Verdict → List Content
contrl_segments header messages verdicts =
    answer_segments header (uci header Accepted ∷ map ucm (zip verdicts messages))

-- UCI rejects
abbrev pub rejection_segments : Content → ℕ → List Content
rejection_segments header code = answer_segments header (uci header (Rejected code) ∷ [])

-- ---- its text

-- The interchange is acknowledged, with a verdict on each message.
unfoldable pub contrl_text : Content → List Message → List Verdict → List ℕ
contrl_text header messages verdicts = segments_text (contrl_segments header messages verdicts)

-- The interchange is rejected, with the code of the error.
unfoldable pub rejection_text : Content → ℕ → List ℕ
rejection_text header code = segments_text (rejection_segments header code)

-- ---- laws

-- Its segments have none of the faults of what a header announces: there is one message, from UNH to UNT, with as many
-- segments as it says and its reference in both, and UNZ counts it and repeats the control reference.
abbrev pub ContrlsAreCounted : Type 0
ContrlsAreCounted =
    (header : Content)
    → ((messages : List Message) (verdicts : List Verdict) → length verdicts ≡ length messages →
    length verdicts < 999997
    → body_fault_of (contrl_segments header messages verdicts) ≡ None)
    × ((code : ℕ) → body_fault_of (rejection_segments header code) ≡ None)

-- A text of segments that has no fault, and is read as these.
abbrev pub IsReadAs : List Content → List ℕ → Type 0
IsReadAs segments text = (fault_of text ≡ None) × AreSameSegments (segments_in text) segments

-- An answer is read as its segments, and has no fault, if it is no longer than a text may be: one that acknowledges an
-- interchange without fault, and one that rejects an interchange whose header has none.
abbrev pub ContrlsAreWithoutFault : Type 0
ContrlsAreWithoutFault =
    (segments : List Content) → header_fault_of segments ≡ None
    → ((verdicts : List Verdict) → body_fault_of segments ≡ None
    → length (contrl_text (header_of segments) (messages_of segments) verdicts) ≤ most_bytes
    → IsReadAs (contrl_segments (header_of segments) (messages_of segments) verdicts)
    (contrl_text (header_of segments) (messages_of segments) verdicts))
    × ((code : ℕ) → length (rejection_text (header_of segments) code) ≤ most_bytes
    → IsReadAs (rejection_segments (header_of segments) code) (rejection_text (header_of segments) code))
