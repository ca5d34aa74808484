-- What is told of a text: which fault is named of it, where it stands, and which CONTRL tells it.
use Rattle.std.specs.{Prelude.{◌≡◌, ◌<◌, ◌≤◌, ℕ, List, length, take, Bool, true, false, Option, None, Some}, Option.option_map, Result.result_err}
use Rattle.edi_syntax.specs.{Cuts.{IsInterchange, IsPending, Faults}, declared.cutter.CutFault.CutFault, Interchange.segments_in, Envelope.header_of}
use Rattle.edi_syntax.specs.{declared.interchange.SyntaxFault.SyntaxFault, Faults.fault_of}
use Rattle.edi_messages.specs.declared.codes.PartnerKind.{PartnerKind}
use Rattle.office_admission.specs.{Admission.{admission, sender_of}, Refusals.error_of, Parties.{Parties, parties_of, partner_kinds}}
use Rattle.office_admission.specs.declared.setup.Setup.{Setup}
use Rattle.partner_core.specs.Numbered.{with_number}
use Rattle.office_replies.specs.{declared.deliver.Fault.Fault, declared.deliver.Fault.TheVariants.Syntax}
use Rattle.office_explain.specs.{Findings.IsFound, Messages.{IsReadOf, are_faultless}, declared.explaining.Told.Told, declared.partners.Partners.Partners}
use Rattle.office_explain.specs.declared.explaining.Told.TheVariants.{Cut, Refused, Read}
use Rattle.office_explain.specs.declared.finding.Subject.TheVariants as subject

-- ---- the fault, its code, and the sender's kind

abbrev pub fault_by : Bool → Parties → List ℕ → Option Fault
fault_by true parties text = result_err (admission parties text)
fault_by false parties text = option_map (λ (fault : SyntaxFault). Syntax fault) (fault_of text)

-- The fault that is named first of a text: that for which its delivery is refused. If the partners aren't known, each
-- sender has an account and each recipient is the terminal, so that only the text itself has faults.
abbrev pub fault_named : Partners → List ℕ → Option Fault
fault_named partners text = fault_by partners.are_known (parties_of partners.setup) text

abbrev pub code_to : Option ℕ → Fault → Option ℕ
code_to (Some partner) fault = error_of fault
code_to None fault = None

abbrev pub code_by : Bool → Parties → List ℕ → Fault → Option ℕ
code_by true parties text fault = code_to (sender_of parties (header_of (segments_in text))) fault
code_by false parties text fault = error_of fault

-- The error code (0085) of the CONTRL that tells a text's fault, if there is one: it goes only to a sender with an account.
abbrev pub code_named : Partners → List ℕ → Fault → Option ℕ
code_named partners text fault = code_by partners.are_known (parties_of partners.setup) text fault

-- the kind of the account with that number
abbrev pub kind_at : List PartnerKind → Option ℕ → Option PartnerKind
kind_at kinds None = None
kind_at kinds (Some partner) = with_number kinds partner

abbrev pub kind_by : Bool → Setup → List ℕ → Option PartnerKind
kind_by true setup text =
    kind_at (partner_kinds setup.partners.items) (sender_of (parties_of setup) (header_of (segments_in text)))
kind_by false setup text = None

-- What the sender of a text is, if the partners are known.
abbrev pub kind_known : Partners → List ℕ → Option PartnerKind
kind_known partners text = kind_by partners.are_known partners.setup text

-- ---- where an interchange ends

-- so many bytes at the front of the text are an interchange
abbrev pub BeginsWithInterchange : List ℕ → ℕ → Type 0
BeginsWithInterchange text len = (0 < len) × (len ≤ length text) × IsInterchange (take len text)

-- No interchange can be told apart at the front of the text: for the earliest fault of its bytes, or because it ends
-- before an interchange does.
abbrev pub IsCutFor : List ℕ → Option CutFault → Type 0
IsCutFor text None = IsPending text
IsCutFor text (Some fault) = (n : ℕ) × (n ≤ length text) × Faults (take n text) fault

-- ---- what is told

-- What is told of a text: why it can't be told apart; or, if it is an interchange, that it is refused for the fault that
-- is named of it, or what is read of it.
abbrev pub Explains : Partners → List ℕ → Told → Type 0
Explains partners text (Cut finding) =
    (fault : Option CutFault) × IsCutFor text fault × IsFound text (subject.Cut fault) None finding
Explains partners text (Refused finding) =
    (fault : Fault) × IsInterchange text × (fault_named partners text ≡ Some fault)
    × IsFound text (subject.Interchange fault) (code_named partners text fault) finding
Explains partners text (Read reading) =
    IsInterchange text × (fault_named partners text ≡ None) × IsReadOf partners text (kind_known partners text) reading

-- no fault was found
abbrev pub is_faultless : Told → Bool
is_faultless (Cut finding) = false
is_faultless (Refused finding) = false
is_faultless (Read reading) = are_faultless reading.messages.items
