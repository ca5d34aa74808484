-- What is known of a text that was admitted, and of one that was refused.
use Rattle.std.specs.Prelude.{◌≡◌, ℕ, ◌≤◌, List, length, None, Some, Ok, Err}
use Rattle.edi_syntax.specs.{Interchange.segments_in, Envelope.header_of, Envelopes.envelope_segments, Faults.head_fault_of, declared.head.Head.Head}
use Rattle.edi_syntax.specs.Heads.{head_segments}
use Rattle.partner_core.specs.Numbered.{with_number}
use Rattle.office_replies.specs.declared.deliver.Fault.{Fault}
use Rattle.office_admission.specs.{Parties.{parties_of, partner_kinds}, declared.setup.Setup.Setup, Admission.{admission, number_in, sender_of}}
use Rattle.office_admission.specs.{Refusals.{HasNoContrl, error_of}, declared.admission.Admitted.Admitted, declared.refusal.Refusal.Refusal}
use Rattle.office_admission.specs.declared.refusal.Refusal.TheVariants.{Plain, WithContrl}

-- the head is that of the text, which has no fault as far as its header
pub record IsOpened (text : List ℕ) (head : Head) : Type 0 where
  pub faultless : head_fault_of text ≡ None
  pub segments : head_segments head ≡ segments_in text

-- it is admitted for that partner under the number of its header, and these are its segments
pub record IsAdmitted (setup : Setup) (text : List ℕ) (admitted : Admitted) : Type 0 where
  pub admits : admission (parties_of setup) text ≡ Ok (admitted.partner, number_in (header_of (segments_in text)))
  pub kind : with_number (partner_kinds setup.partners.items) admitted.partner ≡ Some admitted.kind
  pub segments : envelope_segments admitted.envelope ≡ segments_in text
  pub from_one : 1 ≤ admitted.partner
  pub known : admitted.partner ≤ length setup.partners.items

abbrev pub fault_in : Refusal → Fault
fault_in (Plain fault) = fault
fault_in (WithContrl fault error head) = fault

-- It is refused for that fault. A CONTRL goes to a sender with an account, for a fault that has an error code.
abbrev pub IsRefused : Setup → List ℕ → Refusal → Type 0
IsRefused setup text (Plain fault) =
    (admission (parties_of setup) text ≡ Err fault)
    × HasNoContrl (parties_of setup) (header_of (segments_in text)) fault
IsRefused setup text (WithContrl fault error head) =
    (admission (parties_of setup) text ≡ Err fault) × (error_of fault ≡ Some error)
    × (head_segments head ≡ segments_in text)
    × ((partner : ℕ) × (sender_of (parties_of setup) (header_of (segments_in text)) ≡ Some partner))
