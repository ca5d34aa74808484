-- What the head of a text, and its body, tell of its admission.
use Rattle.std.{specs.{Option.is_none, List.{find, list_all}, Str.bytes_eq, Prelude.slice_get}, proofs.lemmas.Option.slice_get-map}
use Rattle.std.proofs.Common.{◌≡◌, ℕ, ◌+◌, Bool, true, false, cond, List, [], ◌∷◌, ◌++◌, Option, Some, None, Ok, Err, ◌&&◌, refl, sym, ap, ◌∙◌, inl, inr, ◌⊎◌, subst}
use Rattle.edi_syntax.specs.{Text.Content, Interchange.segments_in, declared.interchange.SyntaxFault.SyntaxFault, Envelope.header_of, Heads.head_segments}
use Rattle.edi_syntax.specs.{Header.{sender, recipient}, Faults.{applies, text_faults, header_faults, fault_of, head_fault_of, body_fault_of}}
use Rattle.edi_syntax.{specs.declared.head.Head.Head, proofs.BlockLemmas.of_body}
use Rattle.edi_messages.specs.ErrorCodes.{interchange_error}
use Rattle.office_replies.specs.{declared.deliver.Fault.TheVariants.{Syntax, UnknownSender, WrongRecipient}, declared.deliver.Fault.Fault}
use Rattle.office_replies.specs.{declared.deliver.Response.Response, Contents.GivesOrNotNow}
use Rattle.partner_core.{specs.Numbered.with_number, proofs.Keepings.with_number-at}
use Rattle.office_admission.specs.{declared.setup.Account.Account, Parties.{Parties, partner_from, partner_kinds}, Outcomes.IsOpened}
use Rattle.office_admission.specs.Admission.{admission, by_header, by_recipient, sender_of, number_in}
use Rattle.office_admission.specs.Refusals.{error_of, refusal_of, refusal_to, plain_refusal, rejection, RefusedSurely}
use Rattle.office_replies.specs.declared.deliver.Response.TheVariants as response

pub syntax_refused : (P : Parties) (text : List ℕ) (fault : SyntaxFault) → fault_of text ≡ Some fault → admission P text ≡ Err (Syntax fault)
syntax_refused P text fault e = ap (by_header P (header_of (segments_in text))) e

pub stranger_refused : (P : Parties) (text : List ℕ) → fault_of text ≡ None → sender_of P (header_of (segments_in text)) ≡ None → admission P text ≡ Err UnknownSender
stranger_refused P text e none = ap (by_header P (header_of (segments_in text))) e ∙ ap (by_recipient P (header_of (segments_in text))) none

pub stray_refused : (P : Parties) (text : List ℕ) (partner : ℕ) → fault_of text ≡ None → sender_of P (header_of (segments_in text)) ≡ Some partner →
    bytes_eq (recipient (header_of (segments_in text)) 1) P.terminal ≡ false → admission P text ≡ Err WrongRecipient
stray_refused P text partner e some other =
    ap (by_header P (header_of (segments_in text))) e ∙ ap (by_recipient P (header_of (segments_in text))) some
    ∙ ap (λ ours. cond ours (Ok (partner, number_in (header_of (segments_in text)))) (Err WrongRecipient)) other

pub sender_is : (P : Parties) (text : List ℕ) (segments : List Content) (code : List ℕ) (found : Option ℕ) → segments ≡ segments_in text → code ≡ sender (header_of segments) 1 →
    found ≡ partner_from 1 code P.partners → sender_of P (header_of (segments_in text)) ≡ found
sender_is P text segments code found same is search_is =
    ap (λ others. partner_from 1 (sender (header_of others) 1) P.partners) (sym same) ∙ ap (λ other. partner_from 1 other P.partners) (sym is) ∙ sym search_is

pub recipient_is : (P : Parties) (text : List ℕ) (segments : List Content) (code terminal : List ℕ) (found : Bool) → segments ≡ segments_in text → code ≡ recipient (header_of segments) 1 →
    terminal ≡ P.terminal → found ≡ bytes_eq code terminal → bytes_eq (recipient (header_of (segments_in text)) 1) P.terminal ≡ found
recipient_is P text segments code terminal found same is ours tested =
    ap (λ others. bytes_eq (recipient (header_of others) 1) P.terminal) (sym same) ∙ ap (λ other. bytes_eq other P.terminal) (sym is)
    ∙ ap (λ other. bytes_eq code other) (sym ours) ∙ sym tested

pub whole_fault : (text : List ℕ) (segments : List Content) (found : Option SyntaxFault) → segments ≡ segments_in text → head_fault_of text ≡ None →
    body_fault_of segments ≡ found → fault_of text ≡ found
whole_fault text segments found same none is = of_body text none ∙ ap body_fault_of (sym same) ∙ is

pub found_in : (p wanted : SyntaxFault → Bool) (faults : List SyntaxFault) (fault : SyntaxFault) → list_all wanted faults ≡ true → find p faults ≡ Some fault → wanted fault ≡ true
found_in p wanted [] fault all e = absurd cc
found_in p wanted (first ∷ faults) fault all e = by_case (p first) (wanted first) refl refl all e (found_in p wanted faults fault)
  where
    by_case : (passes good : Bool) → wanted first ≡ good → p first ≡ passes → (good && list_all wanted faults) ≡ true → cond passes (Some first) (find p faults) ≡ Some fault →
        (list_all wanted faults ≡ true → find p faults ≡ Some fault → wanted fault ≡ true) → wanted fault ≡ true
    by_case passes false is q all e later = absurd cc
    by_case true true is q all e later = let same : first ≡ fault = cc in rw same at is
    by_case false true is q all e later = later all e

-- there is no CONTRL for a text whose header can't be read
pub no_error : (text : List ℕ) (fault : SyntaxFault) → head_fault_of text ≡ Some fault → interchange_error fault ≡ None
no_error text fault e = is_none_is (interchange_error fault) (found_in (applies text) (λ f. is_none (interchange_error f)) (text_faults ++ header_faults) fault refl e)
  where
    is_none_is : (o : Option ℕ) → is_none o ≡ true → o ≡ None
    is_none_is None e = refl
    is_none_is (Some x) e = absurd cc

-- what kind the partner at an index is
pub kind_there : (accounts : List Account) (index : ℕ) (account : Account) → slice_get accounts index ≡ Some account →
    with_number (partner_kinds accounts) (index + 1) ≡ Some account.kind
kind_there accounts index account e = rw (with_number-at (partner_kinds accounts) index, slice_get-map (λ other. other.kind) accounts index, e) refl

-- the fault of an opened text is that of its body
pub body_fault_is : (text : List ℕ) (head : Head) (found : Option SyntaxFault) → IsOpened text head → body_fault_of (head_segments head) ≡ found → fault_of text ≡ found
body_fault_is text head found opened is = whole_fault text (head_segments head) found opened.segments opened.faultless is

pub text_admitted : (P : Parties) (text : List ℕ) (partner : ℕ) → fault_of text ≡ None → sender_of P (header_of (segments_in text)) ≡ Some partner →
    bytes_eq (recipient (header_of (segments_in text)) 1) P.terminal ≡ true → admission P text ≡ Ok (partner, number_in (header_of (segments_in text)))
text_admitted P text partner e some ours =
    ap (by_header P (header_of (segments_in text))) e ∙ ap (by_recipient P (header_of (segments_in text))) some
    ∙ ap (λ same. cond same (Ok (partner, number_in (header_of (segments_in text)))) (Err WrongRecipient)) ours

-- ==== Refusing: Answers to what is refused.

-- where there is none, or nobody to send it to
pub plain : (header : Content) (fault : Fault) (sender error : Option ℕ) → (sender ≡ None) ⊎ (error ≡ None) → refusal_to header fault sender error ≡ plain_refusal fault
plain header fault None error e = refl
plain header fault (Some partner) None e = refl
plain header fault (Some partner) (Some error) (inl e) = absurd cc
plain header fault (Some partner) (Some error) (inr e) = absurd cc

pub refused_plainly : (header : Content) (fault : Fault) (sender error : Option ℕ) → (sender ≡ None) ⊎ (error ≡ None) →
    GivesOrNotNow (refusal_to header fault sender error) (response.Refused fault)
refused_plainly header fault sender error e =
    sym (plain header fault sender error e)

-- a text is refused for one fault
one_fault : (P : Parties) (text : List ℕ) (fault other : Fault) → admission P text ≡ Err fault → admission P text ≡ Err other → fault ≡ other
one_fault P text fault other e e' = let same : Err fault ≡ Err other = sym e ∙ e' in cc

-- a refusal without a CONTRL is the fixed one
pub plainly_sure : (P : Parties) (text : List ℕ) (fault : Fault) → admission P text ≡ Err fault → RefusedSurely P text (response.Refused fault)
plainly_sure P text fault refused other e none = ap response.Refused (one_fault P text fault other refused e)

-- one that owes a CONTRL to a partner says so
pub owed : (P : Parties) (text : List ℕ) (fault : Fault) (error partner : ℕ) (segments : List Content) (given : Response) →
    error_of fault ≡ Some error → segments ≡ segments_in text → sender_of P (header_of (segments_in text)) ≡ Some partner →
    GivesOrNotNow (rejection (header_of segments) fault error) given → GivesOrNotNow (refusal_of P (header_of (segments_in text)) fault) given
owed P text fault error partner segments given has same some gives =
    let here : GivesOrNotNow (rejection (header_of (segments_in text)) fault error) given = subst (λ others. GivesOrNotNow (rejection (header_of others) fault error) given) same gives in
    subst (λ sender. GivesOrNotNow (refusal_to (header_of (segments_in text)) fault sender (error_of fault)) given) (sym some)
    (subst (λ found. GivesOrNotNow (refusal_to (header_of (segments_in text)) fault (Some partner) found) given) (sym has) here)

no_none : {A : Type 0} (o : Option A) (value : A) → o ≡ Some value → o ≡ None → ⊥
no_none o value is none = absurd cc

-- so it isn't refused without one
pub owed_sure : (P : Parties) (text : List ℕ) (fault : Fault) (error partner : ℕ) (given : Response) → admission P text ≡ Err fault →
    error_of fault ≡ Some error → sender_of P (header_of (segments_in text)) ≡ Some partner → RefusedSurely P text given
owed_sure P text fault error partner given refused has some other e (inl none) = absurd (no_none (sender_of P (header_of (segments_in text))) partner some none)
owed_sure P text fault error partner given refused has some other e (inr none) =
    absurd (no_none (error_of fault) error has (ap error_of (one_fault P text fault other refused e) ∙ none))
