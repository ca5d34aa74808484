-- Which texts the office takes.
use Rattle.std.specs.{Prelude.{ℕ, List, ◌==◌, Bool, false, Option, None, Some, Result, Ok, Err, if◌then◌else◌}, Option.unwrap_or, Str.bytes_eq}
use Rattle.edi_syntax.specs.{Text.Content, Interchange.segments_in, declared.interchange.SyntaxFault.SyntaxFault, Envelope.header_of, Faults.fault_of}
use Rattle.edi_syntax.specs.Header.{sender, recipient, control_number}
use Rattle.office_replies.specs.{declared.deliver.Fault.Fault, declared.deliver.Fault.TheVariants.{Syntax, UnknownSender, WrongRecipient}}
use Rattle.office_admission.specs.Parties.{Parties, partner_from}

-- the partner that a header names as the sender, counted from 1
abbrev pub sender_of : Parties → Content → Option ℕ
sender_of parties header = partner_from 1 (sender header 1) parties.partners

-- what the control reference writes. If a text has no fault it is from 1 to 999,999,999.
abbrev pub number_in : Content → ℕ
number_in header = unwrap_or (control_number header) 0

-- the number that a text says
abbrev pub number_said : List ℕ → ℕ
number_said text = number_in (header_of (segments_in text))

abbrev pub by_recipient : Parties → Content → Option ℕ → Result (ℕ × ℕ) Fault
by_recipient parties header None = Err UnknownSender
by_recipient parties header (Some partner) =
    if bytes_eq (recipient header 1) parties.terminal then Ok (partner, number_in header) else Err WrongRecipient

abbrev pub by_header : Parties → Content → Option SyntaxFault → Result (ℕ × ℕ) Fault
by_header parties header (Some fault) = Err (Syntax fault)
by_header parties header None = by_recipient parties header (sender_of parties header)

-- the partner and the number of a text, or the first refusal: its syntax fault, UnknownSender, WrongRecipient
abbrev pub admission : Parties → List ℕ → Result (ℕ × ℕ) Fault
admission parties text = by_header parties (header_of (segments_in text)) (fault_of text)

-- the text was admitted, and for this partner
abbrev pub is_for : ℕ → Result (ℕ × ℕ) Fault → Bool
is_for partner (Ok found) = found.0 == partner
is_for partner (Err fault) = false
