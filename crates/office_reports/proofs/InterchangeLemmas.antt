-- What is read of a text that is kept.
use Rattle.std.specs.{Result.MatchResult, Prelude.codes}
use Rattle.std.proofs.Common.{◌≡◌, ℕ, List, ◌++◌, map, append_assoc, None, Some, Result, Ok, Err, option_map, slice_get, refl, sym, ap, ◌∙◌}
use Rattle.std.proofs.lemmas.Option.{none-some, slice_get-map}
use Rattle.edi_syntax.specs.{Envelope.header_of, Faults.fault_of, Header.preparation, Interchange.segments_in, Text.Content}
use Rattle.edi_messages.specs.{ErrorCodes.message_error, Message.MessageContent, declared.codes.Codes.Codes, declared.message.MessageFault.MessageFault}
use Rattle.serde_json.specs.Data.{Data}
use Rattle.office_reports.specs.{Interchanges.{rows_at, rows_of, rows_unless}, ReplyValues.items_in}
use Rattle.edi_messages.specs.declared.message.MessageFault.TheVariants as message

-- a fault that has an error code is that of the message, since want of memory has none
pub is_fault : (read : Result MessageContent MessageFault) (fault : MessageFault) (code : ℕ) →
    MatchResult read (λ content. fault ≡ message.Memory) (λ lowest. fault ≡ lowest) → message_error fault ≡ Some code →
    Err fault ≡ read
is_fault (Ok content) fault code is told = absurd (none-some code (sym (ap message_error is) ∙ told))
is_fault (Err lowest) fault code is told = ap Err is

-- the messages of a text without fault, by its segments
pub rows_known : (sent : Codes) (text : List ℕ) (reply : Data) (segments : List Content) (replies : List Data) →
    fault_of text ≡ None → segments ≡ segments_in text → replies ≡ items_in (codes "messages") reply →
    rows_at sent segments replies (preparation (header_of segments)) ≡ rows_of sent text reply
rows_known sent text reply segments replies faultless is_text are_items =
    ap (λ (others : List Content). rows_at sent others replies (preparation (header_of others))) is_text
    ∙ ap (λ (others : List Data). rows_at sent (segments_in text) others (preparation (header_of (segments_in text)))) are_items
    ∙ sym (ap (rows_unless sent (segments_in text) (items_in (codes "messages") reply)) faultless)

-- what is at a place of a list that was mapped
pub mapped_at : {A B : Type 0} (v : A → B) (xs : List A) (place : ℕ) → slice_get (map v xs) place ≡ option_map v (slice_get xs place)
mapped_at v xs place = slice_get-map v xs place

-- one after another
pub two_pushed : (start one two a b : List ℕ) → one ≡ start ++ a → two ≡ one ++ b → two ≡ start ++ (a ++ b)
two_pushed start one two a b first second = second ∙ ap (λ (t : List ℕ). t ++ b) first ∙ append_assoc start a b

pub three_pushed : (start one two three a b c : List ℕ) → one ≡ start ++ a → two ≡ one ++ b → three ≡ two ++ c
    → three ≡ start ++ (a ++ b ++ c)
three_pushed start one two three a b c first second third =
    third ∙ ap (λ (t : List ℕ). t ++ c) (two_pushed start one two a b first second) ∙ append_assoc start (a ++ b) c
