-- How a text is answered that is not admitted.
use Rattle.std.specs.Prelude.{◌≡◌, ◌⊎◌, ℕ, List, Option, None, Some, Err, encode_utf8_all}
use Rattle.edi_syntax.specs.{Text.Content, Interchange.segments_in, Envelope.header_of}
use Rattle.edi_messages.specs.{Contrl.rejection_text, ErrorCodes.interchange_error}
use Rattle.office_replies.specs.{Bodies.refused_text, Contents.{AnswerContent, answer_with}, Names.fault_name, Refusals.refusal_text, Responses.fault_status}
use Rattle.office_replies.specs.{declared.deliver.Fault.Fault, declared.deliver.Fault.TheVariants.{Syntax, UnknownSender, WrongRecipient}}
use Rattle.office_replies.specs.declared.deliver.Response.{Response}
use Rattle.office_admission.specs.{Parties.Parties, Admission.{admission, sender_of}}
use Rattle.office_replies.specs.Kinds as kinds
use Rattle.office_replies.specs.declared.deliver.Response.TheVariants as response
use Rattle.office_replies.specs.declared.deliver.Worst.TheVariants as worst

-- the error code (0085) of the CONTRL that a refusal carries, if it carries one
abbrev pub error_of : Fault → Option ℕ
error_of (Syntax fault) = interchange_error fault
error_of UnknownSender = None
error_of WrongRecipient = Some 7

abbrev pub plain_refusal : Fault → AnswerContent
plain_refusal fault = answer_with (kinds.Refused fault) (fault_status fault) (refusal_text fault) worst.Refused

-- with the CONTRL that rejects the interchange of that header
abbrev pub rejection : Content → Fault → ℕ → AnswerContent
rejection header fault error =
    answer_with (kinds.Refused fault) (fault_status fault)
    (refused_text (encode_utf8_all (rejection_text header error)) (fault_name fault)) worst.Refused

-- a CONTRL goes only to a sender with an account
abbrev pub refusal_to : Content → Fault → Option ℕ → Option ℕ → AnswerContent
refusal_to header fault (Some partner) (Some error) = rejection header fault error
refusal_to header fault (Some partner) None = plain_refusal fault
refusal_to header fault None error = plain_refusal fault

abbrev pub refusal_of : Parties → Content → Fault → AnswerContent
refusal_of parties header fault = refusal_to header fault (sender_of parties header) (error_of fault)

-- the refusal carries no CONTRL: its sender has no account, or its fault no error code
abbrev pub HasNoContrl : Parties → Content → Fault → Type 0
HasNoContrl parties header fault = (sender_of parties header ≡ None) ⊎ (error_of fault ≡ None)

-- A text that is refused without a CONTRL has the fixed body of its fault, so it is never answered NotNow.
abbrev pub MayBeNotNow : Parties → List ℕ → Type 0
MayBeNotNow parties text =
    (fault : Fault) → admission parties text ≡ Err fault → HasNoContrl parties (header_of (segments_in text)) fault → ⊥

-- a text that is refused without a CONTRL is refused by the fault's fixed body
abbrev pub RefusedSurely : Parties → List ℕ → Response → Type 0
RefusedSurely parties text given =
    (fault : Fault) → admission parties text ≡ Err fault → HasNoContrl parties (header_of (segments_in text)) fault →
    given ≡ response.Refused fault
