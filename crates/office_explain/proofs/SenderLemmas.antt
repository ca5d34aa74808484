-- Who sent a text that is admitted, by which codes, and which CONTRL tells that it is refused.
use Rattle.std.specs.Str.{bytes_eq}
use Rattle.std.proofs.Common.{◌≡◌, ℕ, zero, suc, false, Option, List, [], ◌∷◌, ◌++◌, take, drop, None, Some, refl, ap, subst, ◌∙◌, ◌⊎◌, Bool, true, cond, Result, Ok, Err, sym, inl, inr}
use Rattle.edi_syntax.specs.{Characters.is_break, Reading.breaks_len, Advice.without_breaks, declared.cutter.CutFault.CutFault, Interchange.segments_in}
use Rattle.edi_syntax.specs.Cuts.{Cutting, pending_bytes, is_memory, IsInterchange, IsPending, Faults, Answers, FaultsWithin, Fails}
use Rattle.edi_syntax.specs.Text.{Content}
use Rattle.edi_syntax.specs.{declared.cutter.CutFault.TheVariants.{TooLong, Service as ServiceFault, Segment, Memory}, Envelope.header_of, Faults.fault_of}
use Rattle.edi_syntax.{specs.{declared.interchange.SyntaxFault.SyntaxFault, Header.recipient}, proofs.{CutLemmas.nothing_open, PositionLemmas.no_breaks}}
use Rattle.office_explain.specs.{Told.{BeginsWithInterchange, IsCutFor, code_to, kind_at}, Kinds.codes_of, Messages.IsFault}
use Rattle.edi_messages.specs.{ErrorCodes.message_error, Message.MessageContent, declared.code.CodeTable.CodeTable, declared.codes.Codes.Codes}
use Rattle.edi_messages.specs.{declared.codes.PartnerKind.PartnerKind, declared.message.MessageFault.MessageFault}
use Rattle.office_admission.specs.Admission.{by_header, by_recipient, number_in, sender_of}
use Rattle.office_admission.specs.Outcomes.{IsAdmitted}
use Rattle.office_admission.specs.Refusals.{HasNoContrl, error_of}
use Rattle.office_admission.specs.{declared.admission.Admitted.Admitted, Parties.{Parties, parties_of, partner_kinds}, declared.setup.Setup.Setup}
use Rattle.office_replies.specs.{declared.deliver.Fault.Fault, declared.deliver.Fault.TheVariants.WrongRecipient}

-- ==== CutLemmas: What a cutter gives for a text that begins with no line break, as the first bytes of a stream.

-- ---- no line break at the front

front_none : (text : List ℕ) (n : ℕ) → breaks_len text ≡ 0 → without_breaks (take n text) ≡ take n text
front_none text zero h = refl
front_none [] (suc n) h = refl
front_none (a ∷ text) (suc n) h = rw (no_breaks (is_break a) (breaks_len text) h) refl

all_none : (text : List ℕ) → breaks_len text ≡ 0 → without_breaks text ≡ text
all_none text none = ap (λ (n : ℕ). drop n text) none

-- ---- of a cutter at the beginning of a stream

abbrev pub begun : Cutting
begun = record { text = []; fault = None }

none_pending : pending_bytes begun ≡ []
none_pending = rw nothing_open refl

front_is : (text : List ℕ) (n : ℕ) → breaks_len text ≡ 0 → without_breaks (pending_bytes begun ++ take n text) ≡ take n text
front_is text n none = ap (λ (t : List ℕ). without_breaks (t ++ take n text)) none_pending ∙ front_none text n none

pub begins : (text : List ℕ) (n : ℕ) (answer : Option ℕ) (old new : Cutting) → old ≡ begun → breaks_len text ≡ 0
    → (old.fault ≡ None → Answers (pending_bytes old) text new answer) → answer ≡ Some n → BeginsWithInterchange text n
begins text n answer old new fresh none answers is =
    let from_begun = subst (λ (c : Cutting). c.fault ≡ None → Answers (pending_bytes c) text new answer) fresh answers in
    let some = subst (λ (o : Option ℕ). Answers (pending_bytes begun) text new o) is (from_begun refl) in
    (some.0, some.1, subst IsInterchange (front_is text n none) some.2)

pub pends : (text : List ℕ) (answer : Option ℕ) (old new : Cutting) → old ≡ begun → breaks_len text ≡ 0
    → (old.fault ≡ None → Answers (pending_bytes old) text new answer) → answer ≡ None → IsCutFor text None
pends text answer old new fresh none answers is =
    let from_begun = subst (λ (c : Cutting). c.fault ≡ None → Answers (pending_bytes c) text new answer) fresh answers in
    let open_ = subst (λ (o : Option ℕ). Answers (pending_bytes begun) text new o) is (from_begun refl) in
    subst IsPending (ap (λ (t : List ℕ). without_breaks (t ++ text)) none_pending ∙ all_none text none) open_.0

cut_within : (text : List ℕ) (fault : CutFault) (new : Cutting) → breaks_len text ≡ 0 → FaultsWithin (pending_bytes begun) text new fault → IsCutFor text (Some fault)
cut_within text fault new none (n, within, faulty, held) =
    (n, within, subst (λ (t : List ℕ). Faults t fault) (front_is text n none) faulty)

cut_for : (text : List ℕ) (fault : CutFault) (new : Cutting) → breaks_len text ≡ 0 → Fails begun (pending_bytes begun) text new fault
    → is_memory fault ≡ false → IsCutFor text (Some fault)
cut_for text TooLong new none fails other = cut_within text TooLong new none fails
cut_for text ServiceFault new none fails other = cut_within text ServiceFault new none fails
cut_for text Segment new none fails other = cut_within text Segment new none fails
cut_for text Memory new none fails other = absurd cc

pub faults : (text : List ℕ) (told fault : CutFault) (old new : Cutting) → old ≡ begun → breaks_len text ≡ 0
    → (old.fault ≡ None → Fails old (pending_bytes old) text new fault) → fault ≡ told → is_memory told ≡ false
    → IsCutFor text (Some told)
faults text told fault old new fresh none fails is other =
    let from_begun = subst (λ (c : Cutting). c.fault ≡ None → Fails c (pending_bytes c) text new fault) fresh fails in
    cut_for text told new none (subst (λ (f : CutFault). Fails begun (pending_bytes begun) text new f) is (from_begun refl)) other

-- ==== SenderLemmas: Who sent a text that is admitted, by which codes, and which CONTRL tells that it is refused.

-- ---- the code of a refusal

without_error : (sender : Option ℕ) (fault : Fault) → error_of fault ≡ None → None ≡ code_to sender fault
without_error (Some partner) fault none = sym none
without_error None fault none = refl

pub plain_code : (parties : Parties) (header : Content) (fault : Fault) → HasNoContrl parties header fault → None ≡ code_to (sender_of parties header) fault
plain_code parties header fault none =
    elim none [
      | inl unknown ↦ rw unknown refl
      | inr without ↦ without_error (sender_of parties header) fault without
    ]

pub told_code : (parties : Parties) (header : Content) (fault : Fault) (error : ℕ) → error_of fault ≡ Some error
    → (partner : ℕ) × (sender_of parties header ≡ Some partner) → Some error ≡ code_to (sender_of parties header) fault
told_code parties header fault error is (partner, known) = rw known (sym is)

-- ---- the kind of a sender

by_sender : (parties : Parties) (header : Content) (sender : Option ℕ) (found : ℕ × ℕ) → sender_of parties header ≡ sender
    → by_recipient parties header sender ≡ Ok found → sender_of parties header ≡ Some found.0
by_sender parties header None found is e = absurd cc
by_sender parties header (Some partner) found is e = by (bytes_eq (recipient header 1) parties.terminal) e
  where
    by : (b : Bool) → ◌≡◌ {A = Result (ℕ × ℕ) Fault} (cond b (Ok (partner, number_in header)) (Err WrongRecipient)) (Ok found)
        → sender_of parties header ≡ Some found.0
    by true e =
        let pair : (partner, number_in header) ≡ found = cc in
        is ∙ ap Some (ap (λ (q : ℕ × ℕ). q.0) pair)
    by false e = absurd cc

by_fault : (parties : Parties) (header : Content) (fault : Option SyntaxFault) (found : ℕ × ℕ)
    → by_header parties header fault ≡ Ok found → sender_of parties header ≡ Some found.0
by_fault parties header (Some fault) found e = absurd cc
by_fault parties header None found e = by_sender parties header (sender_of parties header) found refl e

pub known_kind : (setup : Setup) (text : List ℕ) (admitted : Admitted) → IsAdmitted setup text admitted
    → Some admitted.kind ≡ kind_at (partner_kinds setup.partners.items) (sender_of (parties_of setup) (header_of (segments_in text)))
known_kind setup text admitted is =
    let sender = by_fault (parties_of setup) (header_of (segments_in text)) (fault_of text) _ is.admits in
    rw sender (sym is.kind)

-- ---- codes and faults

pub codes_are : (codes : Codes) (table : CodeTable) (kind : PartnerKind) → codes.kind ≡ kind → codes.table ≡ table
    → codes ≡ codes_of table kind
codes_are codes table kind same_kind same_table = λ j. record { kind = same_kind j; table = same_table j }

-- a fault that has an error code is not lack of memory
pub lowest_fault : (read : Result MessageContent MessageFault) (fault : MessageFault) (code : ℕ) {told : Option ℕ} → IsFault read fault
    → told ≡ message_error fault → told ≡ Some code → read ≡ Err fault
lowest_fault (Ok content) fault code is coded some =
    let none : message_error fault ≡ None = ap message_error is in
    let both : None ≡ Some code = sym none ∙ sym coded ∙ some in
    absurd cc
lowest_fault (Err lowest) fault code is coded some = ap Err (sym is)
