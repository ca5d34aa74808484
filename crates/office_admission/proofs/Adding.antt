-- One event more.
use Rattle.std.{specs.{Str.bytes_eq, Prelude.{◌==◌, ◌&&◌, ◌⊎◌, is_some, nat_lt, slice_get, IsTrue}}, proofs.lemmas.Bool.{eqb-true, ltb-true}}
use Rattle.std.proofs.Common.{◌≡◌, ℕ, ◌+◌, ◌<◌, ◌≤◌, List, [], ◌∷◌, ◌++◌, length, Bool, true, false, cond, Option, None, Some, Result, Ok, Err, refl, ap, ◌∙◌, arith, zero, suc, inl, inr, map, sym, subst, IfOk, IfErr}
use Rattle.std.proofs.{lemmas.List.{map-append, length-map, length-append, append-nil}, lemmas.List.Elements.All-push, lemmas.Slice.Eq.bytes_eq-Decides}
use Rattle.edi_syntax.specs.{Text.Content, Interchange.{segments_in, interchange_of}, declared.interchange.SyntaxFault.SyntaxFault, Envelope.header_of}
use Rattle.edi_syntax.specs.{Faults.fault_of, Header.{sender, recipient}}
use Rattle.office_replies.specs.{declared.deliver.Fault.Fault, declared.deliver.Fault.TheVariants.WrongRecipient, Events.{Event, delivered, migrated, added}}
use Rattle.office_replies.specs.declared.accounts.AccountFault.TheVariants.{Partner, Accounts}
use Rattle.office_admission.specs.{Parties.{Parties, partner_from}, Admission.{admission, by_header, by_recipient, sender_of, number_in, number_said}}
use Rattle.office_admission.specs.{Given.IsGiven, Kinds.kind_named, PartyCodes.is_party_code, Setups.{SetupContent, parties_in}, Laws.IsAddedLast}
use Rattle.office_admission.specs.Accounts.{AccountContent, AccountPair, added_as, known_as, refused_for, by_own_kind, by_number, by_kind, account_answer, with_answer, accounts_with, content_with, content_after}
use Rattle.office_admission.specs.Deliveries.{with_delivery, deliveries_of}
use Rattle.edi_messages.specs.{declared.codes.PartnerKind.PartnerKind, declared.codes.PartnerKind.TheVariants.{Gate, Line, Quay, Yard}}
use Rattle.partner_core.{specs.{Deliveries.{Delivery, first_text, run}, Numbered.with_number}, proofs.Orders.used_within_run}
use Rattle.terminal_core.{specs.declared.change.Version.Version, proofs.Dropping.both_true}
pub use Rattle.office_admission.specs.Grown.{with_party}

-- ==== Growing: What was admitted stays so with an account more.

-- ---- a partner that is found

found_still : (number : ℕ) (code : List ℕ) (partners others : List (List ℕ)) (p : ℕ) → partner_from number code partners ≡ Some p → partner_from number code (partners ++ others) ≡ Some p
found_still number code [] others p e = cc
found_still number code (partner ∷ partners) others p e = by (bytes_eq code partner) (found_still (number + 1) code partners others p) e
  where
    by : (b : Bool) → (partner_from (number + 1) code partners ≡ Some p → partner_from (number + 1) code (partners ++ others) ≡ Some p)
        → cond b (Some number) (partner_from (number + 1) code partners) ≡ Some p → cond b (Some number) (partner_from (number + 1) code (partners ++ others)) ≡ Some p
    by true rest e = e
    by false rest e = rest e

pub found_low : (number : ℕ) (code : List ℕ) (partners : List (List ℕ)) (p : ℕ) → partner_from number code partners ≡ Some p → (number ≤ p) × (p < number + length partners)
found_low number code [] p e = cc
found_low number code (partner ∷ partners) p e = by (bytes_eq code partner) (found_low (number + 1) code partners p) e
  where
    by : (b : Bool) → (partner_from (number + 1) code partners ≡ Some p → (number + 1 ≤ p) × (p < number + 1 + length partners))
        → cond b (Some number) (partner_from (number + 1) code partners) ≡ Some p → (number ≤ p) × (p < number + length (partner ∷ partners))
    by true rest e = let same : number ≡ p = cc in (omega arith, omega arith)
    by false rest e = let is = rest e in (omega (arith, is.0), omega (arith, is.1))

-- ---- what is admitted

recipient_still : (P : Parties) (code : List ℕ) (header : Content) (o : Option ℕ) (found : ℕ × ℕ) → sender_of P header ≡ o → by_recipient P header o ≡ Ok found → by_recipient (with_party P code) header (sender_of (with_party P code) header) ≡ Ok found
recipient_still P code header None found is e = cc
recipient_still P code header (Some p) found is e = ap (by_recipient (with_party P code) header) (found_still 1 (sender header 1) P.partners (code ∷ []) p is) ∙ e

header_still : (P : Parties) (code : List ℕ) (header : Content) (fault : Option SyntaxFault) (found : ℕ × ℕ) → by_header P header fault ≡ Ok found → by_header (with_party P code) header fault ≡ Ok found
header_still P code header (Some fault) found e = cc
header_still P code header None found e = recipient_still P code header (sender_of P header) found refl e

pub admitted_still : (P : Parties) (code text : List ℕ) (found : ℕ × ℕ) → admission P text ≡ Ok found → admission (with_party P code) text ≡ Ok found
admitted_still P code text found e = header_still P code (header_of (segments_in text)) (fault_of text) found e

-- ---- whose it is, and under which number

-- one of the partners, and the number that the header says
abbrev pub IsTold : Parties → Content → ℕ × ℕ → Type 0
IsTold P header found = (1 ≤ found.0) × (found.0 ≤ length P.partners) × (number_in header ≡ found.1)

recipient_told : (P : Parties) (header : Content) (o : Option ℕ) (found : ℕ × ℕ) → sender_of P header ≡ o → by_recipient P header o ≡ Ok found → IsTold P header found
recipient_told P header None found is e = cc
recipient_told P header (Some p) found is e = by (bytes_eq (recipient header 1) P.terminal) e
  where
    by : (b : Bool) → ◌≡◌ {A = Result (ℕ × ℕ) Fault} (cond b (Ok (p, number_in header)) (Err WrongRecipient)) (Ok found) → IsTold P header found
    by true e =
        let pair : (p, number_in header) ≡ found = cc in
        let own : p ≡ found.0 = ap (λ (q : ℕ × ℕ). q.0) pair in
        let low = found_low 1 (sender header 1) P.partners p is in
        (omega (arith, own, low.0), omega (arith, own, low.1), ap (λ (q : ℕ × ℕ). q.1) pair)
    by false e = cc

header_told : (P : Parties) (header : Content) (fault : Option SyntaxFault) (found : ℕ × ℕ) → by_header P header fault ≡ Ok found → IsTold P header found
header_told P header (Some fault) found e = cc
header_told P header None found e = recipient_told P header (sender_of P header) found refl e

pub admitted_told : (P : Parties) (text : List ℕ) (found : ℕ × ℕ) → admission P text ≡ Ok found → IsTold P (header_of (segments_in text)) found
admitted_told P text found e = header_told P (header_of (segments_in text)) (fault_of text) found e

pub number_told : (P : Parties) (text : List ℕ) (found : ℕ × ℕ) → admission P text ≡ Ok found → number_said text ≡ found.1
number_told P text found e = (admitted_told P text found e).2

-- ==== Adding: One event more.

-- ---- an account

pub record IsNew (accounts : List AccountPair) (code kind : List ℕ) (id : ℕ) (own : PartnerKind) : Type 0 where
  pub id_is : id ≡ length accounts + 1
  pub room : length accounts < 999
  pub is_new : partner_from 1 code (map (λ (a : AccountPair). a.0) accounts) ≡ None
  pub coded : is_party_code code ≡ true
  pub named : kind_named kind ≡ Some own

own_kind_known : (number : ℕ) (kind : PartnerKind) (own : Option PartnerKind) (id : ℕ) → by_own_kind number kind own ≡ added_as id → ⊥
own_kind_known number Gate None id e = cc
own_kind_known number Gate (Some Gate) id e = cc
own_kind_known number Gate (Some Line) id e = cc
own_kind_known number Gate (Some Quay) id e = cc
own_kind_known number Gate (Some Yard) id e = cc
own_kind_known number Line None id e = cc
own_kind_known number Line (Some Gate) id e = cc
own_kind_known number Line (Some Line) id e = cc
own_kind_known number Line (Some Quay) id e = cc
own_kind_known number Line (Some Yard) id e = cc
own_kind_known number Quay None id e = cc
own_kind_known number Quay (Some Gate) id e = cc
own_kind_known number Quay (Some Line) id e = cc
own_kind_known number Quay (Some Quay) id e = cc
own_kind_known number Quay (Some Yard) id e = cc
own_kind_known number Yard None id e = cc
own_kind_known number Yard (Some Gate) id e = cc
own_kind_known number Yard (Some Line) id e = cc
own_kind_known number Yard (Some Quay) id e = cc
own_kind_known number Yard (Some Yard) id e = cc

module _ (accounts : List AccountPair) (code kind : List ℕ) (id : ℕ) where
  abbrev codes_of : List (List ℕ)
  codes_of = map (λ (a : AccountPair). a.0) accounts

  new_by_room : (own : PartnerKind) (b : Bool) → nat_lt (length accounts) 999 ≡ b → partner_from 1 code codes_of ≡ None → is_party_code code ≡ true → kind_named kind ≡ Some own
      → cond b (added_as (length accounts + 1)) (refused_for Accounts) ≡ added_as id → IsNew accounts code kind id own
  new_by_room own true low none coded named e =
      let same : length accounts + 1 ≡ id = cc in
      record { id_is = sym same; room = ltb-true (length accounts) 999 low; is_new = none; coded = coded; named = named }
  new_by_room own false low none coded named e = cc

  new_by_number : (own : PartnerKind) (found : Option ℕ) → partner_from 1 code codes_of ≡ found → is_party_code code ≡ true → kind_named kind ≡ Some own
      → by_number accounts own found ≡ added_as id → IsNew accounts code kind id own
  new_by_number own (Some number) is coded named e = absurd (own_kind_known number own (with_number (map (λ (a : AccountPair). a.1) accounts) number) id e)
  new_by_number own None is coded named e = new_by_room own (nat_lt (length accounts) 999) refl is coded named e

  new_by_kind : (own : Option PartnerKind) → kind_named kind ≡ own → is_party_code code ≡ true → by_kind accounts code own ≡ added_as id → (its : PartnerKind) × IsNew accounts code kind id its
  new_by_kind None named coded e = cc
  new_by_kind (Some own) named coded e = (own, new_by_number own (partner_from 1 code codes_of) refl coded named e)

  new_by_code : (b : Bool) → is_party_code code ≡ b → cond b (by_kind accounts code (kind_named kind)) (refused_for Partner) ≡ added_as id → (its : PartnerKind) × IsNew accounts code kind id its
  new_by_code true coded e = new_by_kind (kind_named kind) refl coded e
  new_by_code false coded e = cc

  new_if_added : account_answer accounts code kind ≡ added_as id → (its : PartnerKind) × IsNew accounts code kind id its
  new_if_added e = new_by_code (is_party_code code) refl e

  pub added_accounts : (own : PartnerKind) → kind_named kind ≡ Some own → account_answer accounts code kind ≡ added_as id → accounts_with accounts code kind ≡ accounts ++ (code, own) ∷ []
  added_accounts own named e = ap (λ o. with_answer accounts code o (account_answer accounts code kind)) named ∙ ap (with_answer accounts code (Some own)) e

pub added_last : (content : SetupContent) (code kind : List ℕ) (id : ℕ) (own : PartnerKind) → kind_named kind ≡ Some own → account_answer content.partners code kind ≡ added_as id → IsAddedLast content code kind id own
added_last content code kind id own named e =
    let new = new_if_added content.partners code kind id e in
    record {
      id_is = new.1.id_is;
      room = new.1.room;
      is_new = new.1.is_new;
      content_is = λ i. record content { partners = added_accounts content.partners code kind id own named e i };
    }

-- either the accounts stay, or one more follows them
pub data Grows (accounts grown : List AccountPair) (code kind : List ℕ) : Type 0 where
  stayed : grown ≡ accounts → Grows accounts grown code kind
  grew : (id : ℕ) (own : PartnerKind) → IsNew accounts code kind id own → grown ≡ accounts ++ (code, own) ∷ [] → Grows accounts grown code kind

pub grows : (accounts : List AccountPair) (code kind : List ℕ) → Grows accounts (accounts_with accounts code kind) code kind
grows accounts code kind = by (account_answer accounts code kind) refl
  where
    stays : (answer : AccountContent) (own : Option PartnerKind) → account_answer accounts code kind ≡ answer → with_answer accounts code own answer ≡ accounts → kind_named kind ≡ own → accounts_with accounts code kind ≡ accounts
    stays answer own is same named = ap (λ o. with_answer accounts code o (account_answer accounts code kind)) named ∙ ap (with_answer accounts code own) is ∙ same

    known_same : (id : ℕ) (own : Option PartnerKind) → with_answer accounts code own (known_as id) ≡ accounts
    known_same id None = refl
    known_same id (Some own) = refl

    by : (answer : AccountContent) → account_answer accounts code kind ≡ answer → Grows accounts (accounts_with accounts code kind) code kind
    by (added_as id) is =
        let new = new_if_added accounts code kind id is in
        grew id new.0 new.1 (added_accounts accounts code kind id new.0 new.1.named is)
    by (known_as id) is = stayed (stays (known_as id) (kind_named kind) is (known_same id (kind_named kind)) refl)
    by (refused_for fault) is = stayed (stays (refused_for fault) (kind_named kind) is (refused_same (kind_named kind)) refl)
      where
        refused_same : (own : Option PartnerKind) → with_answer accounts code own (refused_for fault) ≡ accounts
        refused_same None = refl
        refused_same (Some own) = refl

unadded_by : (accounts : List AccountPair) (code : List ℕ) (own : Option PartnerKind) (answer : AccountContent) → ((id : ℕ) → answer ≡ added_as id → ⊥) → with_answer accounts code own answer ≡ accounts
unadded_by accounts code own (added_as id) never = absurd (never id refl)
unadded_by accounts code None (known_as id) never = refl
unadded_by accounts code (Some own) (known_as id) never = refl
unadded_by accounts code None (refused_for fault) never = refl
unadded_by accounts code (Some own) (refused_for fault) never = refl

pub unadded : (content : SetupContent) (code kind : List ℕ) → ((id : ℕ) → account_answer content.partners code kind ≡ added_as id → ⊥) → content_with content (added code kind) ≡ content
unadded content code kind never i = record content { partners = unadded_by content.partners code (kind_named kind) (account_answer content.partners code kind) never i }

-- ---- the parties

pub parties_grown : (content : SetupContent) (code : List ℕ) (own : PartnerKind) → parties_in (record content { partners = content.partners ++ (code, own) ∷ [] }) ≡ with_party (parties_in content) code
parties_grown content code own i = record { terminal = content.terminal; partners = map-append (λ (a : AccountPair). a.0) content.partners ((code, own) ∷ []) i }

steady_by : (content : SetupContent) (code kind text : List ℕ) (found : ℕ × ℕ) → Grows content.partners (accounts_with content.partners code kind) code kind
    → admission (parties_in content) text ≡ Ok found → admission (parties_in (content_with content (added code kind))) text ≡ Ok found
steady_by content code kind text found (stayed same) e = ap (λ (partners : List AccountPair). admission (parties_in (record content { partners = partners })) text) same ∙ e
steady_by content code kind text found (grew id own new same) e =
    ap (λ (partners : List AccountPair). admission (parties_in (record content { partners = partners })) text) same
    ∙ ap (λ P. admission P text) (parties_grown content code own)
    ∙ admitted_still (parties_in content) code text found e

pub steady : (content : SetupContent) (code kind text : List ℕ) (found : ℕ × ℕ) → admission (parties_in content) text ≡ Ok found → admission (parties_in (content_with content (added code kind))) text ≡ Ok found
steady content code kind text found e = steady_by content code kind text found (grows content.partners code kind) e

-- what was admitted stays so
pub stays : (events : List Event) (content : SetupContent) (text : List ℕ) (found : ℕ × ℕ) → admission (parties_in content) text ≡ Ok found → admission (parties_in (content_after content events)) text ≡ Ok found
stays [] content text found e = e
stays (delivered before ∷ events) content text found e = stays events content text found e
stays (migrated version ∷ events) content text found e = stays events content text found e
stays (added code kind ∷ events) content text found e = stays events (content_with content (added code kind)) text found (steady content code kind text found e)

-- ---- the set-up so far

pub content_on : (events later : List Event) (content : SetupContent) → content_after content (events ++ later) ≡ content_after (content_after content events) later
content_on [] later content = refl
content_on (event ∷ events) later content = content_on events later (content_with content event)

-- ---- what was delivered

with_more : (text : List ℕ) (found : Result (ℕ × ℕ) Fault) (more others : List Delivery) → with_delivery text found (more ++ others) ≡ with_delivery text found more ++ others
with_more text (Err fault) more others = refl
with_more text (Ok found) more others = refl

pub deliveries_on : (events later : List Event) (content : SetupContent) → deliveries_of content (events ++ later) ≡ deliveries_of content events ++ deliveries_of (content_after content events) later
deliveries_on [] later content = refl
deliveries_on (delivered before ∷ events) later content =
    ap (with_delivery (interchange_of before) (admission (parties_in content) (interchange_of before))) (deliveries_on events later content)
    ∙ with_more (interchange_of before) (admission (parties_in content) (interchange_of before)) (deliveries_of content events) (deliveries_of (content_after content events) later)
deliveries_on (migrated version ∷ events) later content = deliveries_on events later content
deliveries_on (added code kind ∷ events) later content = deliveries_on events later (content_with content (added code kind))

pub account_adds : (events : List Event) (content : SetupContent) (code kind : List ℕ) → deliveries_of content (events ++ added code kind ∷ []) ≡ deliveries_of content events
account_adds events content code kind = deliveries_on events (added code kind ∷ []) content ∙ append-nil (deliveries_of content events)

pub migration_adds : (events : List Event) (content : SetupContent) (version : Version) → deliveries_of content (events ++ migrated version ∷ []) ≡ deliveries_of content events
migration_adds events content version = deliveries_on events (migrated version ∷ []) content ∙ append-nil (deliveries_of content events)

pub refused_adds_none : (events later : List Event) (content : SetupContent) (sent : List ℕ) (fault : Fault) → admission (parties_in (content_after content events)) (interchange_of sent) ≡ Err fault
    → deliveries_of content (events ++ delivered sent ∷ later) ≡ deliveries_of content (events ++ later)
refused_adds_none events later content sent fault is =
    deliveries_on events (delivered sent ∷ later) content
    ∙ ap (λ found. deliveries_of content events ++ with_delivery (interchange_of sent) found (deliveries_of (content_after content events) later)) is
    ∙ sym (deliveries_on events later content)

-- ---- first texts

first_with : (text : List ℕ) (found : Result (ℕ × ℕ) Fault) (later : List Delivery) (p k : ℕ) (first : List ℕ) (Admits : List ℕ → ℕ × ℕ → Type 0)
    → ((is : ℕ × ℕ) → found ≡ Ok is → Admits text is) → (first_text later p k ≡ Some first → Admits first (p, k)) → first_text (with_delivery text found later) p k ≡ Some first → Admits first (p, k)
first_with text (Err fault) later p k first Admits here rest e = rest e
first_with text (Ok is) later p k first Admits here rest e = by_under ((is.0 == p) && (is.1 == k)) refl e
  where
    by_under : (under : Bool) → ((is.0 == p) && (is.1 == k)) ≡ under → cond under (Some text) (first_text later p k) ≡ Some first → Admits first (p, k)
    by_under true u e =
        let both = both_true (is.0 == p) (is.1 == k) u in
        let same : text ≡ first = cc in
        let one : is.0 ≡ p = eqb-true is.0 p both.0 in
        let two : is.1 ≡ k = eqb-true is.1 k both.1 in
        let pair : is ≡ (p, k) = λ i. (one i, two i) in
        subst (λ t. Admits t (p, k)) same (subst (Admits text) pair (here is refl))
    by_under false u e = rest e

pub first_admitted : (events : List Event) (content : SetupContent) (p k : ℕ) (text : List ℕ) → first_text (deliveries_of content events) p k ≡ Some text → admission (parties_in (content_after content events)) text ≡ Ok (p, k)
first_admitted [] content p k text e = cc
first_admitted (delivered before ∷ events) content p k text e =
    first_with (interchange_of before) (admission (parties_in content) (interchange_of before)) (deliveries_of content events) p k text (λ t is. admission (parties_in (content_after content events)) t ≡ Ok is)
    (λ is here. stays events content (interchange_of before) is here) (first_admitted events content p k text) e
first_admitted (migrated version ∷ events) content p k text e = first_admitted events content p k text e
first_admitted (added code kind ∷ events) content p k text e = first_admitted events (content_with content (added code kind)) p k text e

module _ (events : List Event) (content : SetupContent) where
  abbrev beyond : ℕ
  beyond = length (content_after content events).partners + 1

  none_beyond : (found : Option (List ℕ)) → first_text (deliveries_of content events) beyond 1 ≡ found → found ≡ None
  none_beyond None e = refl
  none_beyond (Some text) e =
      let is = admitted_told (parties_in (content_after content events)) text (beyond, 1) (first_admitted events content beyond 1 text e) in
      let same : length (parties_in (content_after content events)).partners ≡ length (content_after content events).partners = length-map (content_after content events).partners _ in
      absurd (omega (arith, is.1, same))

  no_run : (n : ℕ) → run (deliveries_of content events) beyond ≡ n → n ≡ 0
  no_run zero e = refl
  no_run (suc n) e =
      let used = used_within_run (deliveries_of content events) beyond 1 (omega arith) (omega (arith, e)) in
      let never : is_some (first_text (deliveries_of content events) beyond 1) ≡ false = ap is_some (none_beyond (first_text (deliveries_of content events) beyond 1) refl) in
      absurd (let wrong : true ≡ false = sym used ∙ never in cc)

  pub no_run_beyond : run (deliveries_of content events) beyond ≡ 0
  no_run_beyond = no_run (run (deliveries_of content events) beyond) refl

-- ---- a set-up that can be given

at_push : (xs : List AccountPair) (x : AccountPair) (i : ℕ) (a : AccountPair) → slice_get (xs ++ x ∷ []) i ≡ Some a → (slice_get xs i ≡ Some a) ⊎ ((i ≡ length xs) × (a ≡ x))
at_push [] x zero a e = inr (refl, cc)
at_push [] x (suc i) a e = cc
at_push (y ∷ xs) x zero a e = inl e
at_push (y ∷ xs) x (suc i) a e = elim (at_push xs x i a e) [ inl old ↦ inl old | inr new ↦ inr (ap suc new.0, new.1) ]

not_named : (number : ℕ) (code : List ℕ) (xs : List AccountPair) (i : ℕ) (a : AccountPair) → partner_from number code (map (λ (x : AccountPair). x.0) xs) ≡ None → slice_get xs i ≡ Some a → a.0 ≡ code → ⊥
not_named number code [] i a none at same = cc
not_named number code (x ∷ xs) zero a none at same =
    let is : x ≡ a = cc in
    let equal : bytes_eq code x.0 ≡ true = (bytes_eq-Decides code x.0).1 (sym (ap (λ (y : AccountPair). y.0) is ∙ same)) in
    let found : Some number ≡ None = sym (ap (λ b. cond b (Some number) (partner_from (number + 1) code (map (λ (y : AccountPair). y.0) xs))) equal) ∙ none in
    cc
not_named number code (x ∷ xs) (suc i) a none at same = further (bytes_eq code x.0) none (λ rest. not_named (number + 1) code xs i a rest at same)
  where
    further : (b : Bool) → cond b (Some number) (partner_from (number + 1) code (map (λ (y : AccountPair). y.0) xs)) ≡ None → (partner_from (number + 1) code (map (λ (y : AccountPair). y.0) xs) ≡ None → ⊥) → ⊥
    further true e rest = cc
    further false e rest = rest e

grown_given : (content : SetupContent) (code kind : List ℕ) (id : ℕ) (own : PartnerKind) → IsNew content.partners code kind id own → IsGiven content → IsGiven (record content { partners = content.partners ++ (code, own) ∷ [] })
grown_given content code kind id own new given =
    let longer : length (content.partners ++ (code, own) ∷ []) ≡ length content.partners + 1 = length-append content.partners ((code, own) ∷ []) in
    record {
      terminal = given.terminal;
      counted = (omega (arith, longer), omega (arith, longer, new.room));
      coded = All-push (λ (partner : AccountPair). IsTrue (is_party_code partner.0)) content.partners (code, own) given.coded new.coded;
      distinct = λ i j a b one two same. elim (at_push content.partners (code, own) i a one) [
        | inl old ↦ elim (at_push content.partners (code, own) j b two) [
          | inl other ↦ given.distinct i j a b old other same
          | inr last ↦ absurd (not_named 1 code content.partners i a new.is_new old (same ∙ ap (λ (x : AccountPair). x.0) last.1))
        ]
        | inr its ↦ elim (at_push content.partners (code, own) j b two) [
          | inl other ↦ absurd (not_named 1 code content.partners j b new.is_new other (sym same ∙ ap (λ (x : AccountPair). x.0) its.1))
          | inr last ↦ its.0 ∙ sym last.0
        ]
      ];
      codes = given.codes;
      plan = given.plan;
      by_letter = given.by_letter;
      limit = given.limit;
    }

given_with : (content : SetupContent) (code kind : List ℕ) → Grows content.partners (accounts_with content.partners code kind) code kind → IsGiven content → IsGiven (content_with content (added code kind))
given_with content code kind (stayed same) given = subst (λ (partners : List AccountPair). IsGiven (record content { partners = partners })) (sym same) given
given_with content code kind (grew id own new same) given = subst (λ (partners : List AccountPair). IsGiven (record content { partners = partners })) (sym same) (grown_given content code kind id own new given)

pub given_after : (events : List Event) (content : SetupContent) → IsGiven content → IsGiven (content_after content events)
given_after [] content given = given
given_after (delivered text ∷ events) content given = given_after events content given
given_after (migrated version ∷ events) content given = given_after events content given
given_after (added code kind ∷ events) content given = given_after events (content_with content (added code kind)) (given_with content code kind (grows content.partners code kind) given)

-- ==== Results: A fact of a result for a weaker one.

pub ok_weaker : {T E : Type 0} (r : Result T E) (P Q : T → Type 0) → ((value : T) → P value → Q value) → IfOk r P → IfOk r Q
ok_weaker (Ok value) P Q on holds = on value holds
ok_weaker (Err error) P Q on holds = tt

pub err_weaker : {T E : Type 0} (r : Result T E) (P Q : E → Type 0) → ((error : E) → P error → Q error) → IfErr r P → IfErr r Q
err_weaker (Ok value) P Q on holds = tt
err_weaker (Err error) P Q on holds = on error holds
