-- An interchange by its parts: UNB, messages from UNH to UNT, UNZ (ISO 9735).
use Rattle.std.specs.{Prelude.{◌≡◌, ℕ, true, false, List, [], ◌∷◌, ◌++◌, codes, IsTrue}, List.{list_all, flat_map, AllByRecursion}}
use Rattle.edi_syntax.specs.{Text.{Content, has_tag}, Advice.has_bad_advice, Interchange.{InterchangeText, segments_in, is_segment_text}}
use Rattle.edi_syntax.specs.Messages.{Message, begins_message, ends_message, is_inner, messages_in, are_messages}

-- a UNH, segments that neither begin nor end anything, a UNT
pub record IsMessage (message : Message) : Type 0 where
  pub header : IsTrue (begins_message message.header)
  pub segments : IsTrue (list_all is_inner message.segments)
  pub trailer : IsTrue (ends_message message.trailer)

abbrev pub message_segments : Message → List Content
message_segments message = message.header ∷ message.segments ++ message.trailer ∷ []

-- Messages one after the other, and a UNZ after them.
pub record AreMessages (segments : List Content) (messages : List Message) : Type 0 where
  pub trailer : Content
  pub ends : IsTrue (has_tag (codes "UNZ") trailer)
  pub all : AllByRecursion IsMessage messages
  pub are : segments ≡ flat_map message_segments messages ++ trailer ∷ []

-- The test of fault 10 tells just whether what stands after the header is messages and a UNZ, and these are its
-- messages.
abbrev pub MessagesStand : Type 0
MessagesStand =
    (segments : List Content)
    → (are_messages false segments ≡ true → AreMessages segments (messages_in segments))
    × ((messages : List Message) → AreMessages segments messages →
    (are_messages false segments ≡ true) × (messages_in segments ≡ messages))

-- Neither `Service` nor `Segment` applies to a text exactly if it is a text of the grammar, and the segments are those
-- that it is a text of.
abbrev pub ReadsTheGrammar : Type 0
ReadsTheGrammar =
    (text : List ℕ)
    → (has_bad_advice text ≡ false → is_segment_text text ≡ true → InterchangeText (segments_in text) text)
    × ((segments : List Content) → InterchangeText segments text
    → (has_bad_advice text ≡ false) × (is_segment_text text ≡ true) × (segments_in text ≡ segments))
