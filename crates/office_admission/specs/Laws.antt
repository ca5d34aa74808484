-- What one event more adds to the accounts and to what was delivered.
use Rattle.std.specs.Prelude.{◌≡◌, ℕ, ◌+◌, ◌<◌, List, [], ◌∷◌, ◌++◌, length, Ok, Err, None, Some}
use Rattle.edi_messages.specs.declared.codes.PartnerKind.{PartnerKind}
use Rattle.edi_syntax.specs.Interchange.{interchange_of}
use Rattle.partner_core.specs.Deliveries.{first_text, run}
use Rattle.office_replies.specs.{Events.{Event, delivered, added}, declared.deliver.Fault.Fault}
use Rattle.office_admission.specs.{Given.IsGiven, Kinds.kind_named, Limits.most_partners, Parties.partner_from, Admission.admission}
use Rattle.office_admission.specs.{Setups.{SetupContent, parties_in, setup_with_account}, Accounts.{account_answer, added_as, content_with, content_after}}
use Rattle.office_admission.specs.Deliveries.{with_delivery, deliveries_of}

-- ---- the accounts so far

-- the account is the last of the set-up's, under the next number; its code is new, and there was room
pub record IsAddedLast (content : SetupContent) (code kind : List ℕ) (id : ℕ) (own : PartnerKind) : Type 0 where
  pub id_is : id ≡ length content.partners + 1
  pub room : length content.partners < most_partners
  pub is_new : partner_from 1 code (parties_in content).partners ≡ None
  pub content_is : content_with content (added code kind) ≡ setup_with_account content code own

abbrev pub AddedIsLast : Type 0
AddedIsLast =
    (content : SetupContent) (code kind : List ℕ) (id : ℕ) (own : PartnerKind) → kind_named kind ≡ Some own →
    account_answer content.partners code kind ≡ added_as id
    → IsAddedLast content code kind id own

-- an account that is known or refused leaves the set-up as it was
abbrev pub UnaddedChangesNothing : Type 0
UnaddedChangesNothing =
    (content : SetupContent) (code kind : List ℕ) →
    ((id : ℕ) → account_answer content.partners code kind ≡ added_as id → ⊥)
    → content_with content (added code kind) ≡ content

-- the accounts so far, of a set-up as the files can give it, are those of one that they can give
abbrev pub ContentStaysGiven : Type 0
ContentStaysGiven = (content : SetupContent) (es : List Event) → IsGiven content → IsGiven (content_after content es)

-- ---- what was delivered

-- a text that is delivered adds what the accounts so far admit
abbrev pub DeliveryAdds : Type 0
DeliveryAdds =
    (content : SetupContent) (es : List Event) (sent : List ℕ) →
    deliveries_of content (es ++ delivered sent ∷ [])
    ≡ deliveries_of content es
    ++ with_delivery (interchange_of sent) (admission (parties_in (content_after content es)) (interchange_of sent)) []

-- an account that is added changes nothing of what was delivered before
abbrev pub AccountAddsNoDelivery : Type 0
AccountAddsNoDelivery =
    (content : SetupContent) (es : List Event) (code kind : List ℕ) →
    deliveries_of content (es ++ added code kind ∷ []) ≡ deliveries_of content es

-- a text that was refused when it came adds nothing, whatever comes later, an account of its sender too
abbrev pub RefusedAddsNoDelivery : Type 0
RefusedAddsNoDelivery =
    (content : SetupContent) (es later : List Event) (sent : List ℕ) (fault : Fault) →
    admission (parties_in (content_after content es)) (interchange_of sent) ≡ Err fault
    → deliveries_of content (es ++ delivered sent ∷ later) ≡ deliveries_of content (es ++ later)

-- the accounts so far admit each first text, for its partner under its number
abbrev pub FirstsAreAdmitted : Type 0
FirstsAreAdmitted =
    (content : SetupContent) (es : List Event) (partner number : ℕ) (text : List ℕ) →
    first_text (deliveries_of content es) partner number ≡ Some text
    → admission (parties_in (content_after content es)) text ≡ Ok (partner, number)

-- a partner without an account has no run
abbrev pub NoRunBeyond : Type 0
NoRunBeyond =
    (content : SetupContent) (es : List Event) →
    run (deliveries_of content es) (length (content_after content es).partners + 1) ≡ 0
