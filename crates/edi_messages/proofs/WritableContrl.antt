-- What a CONTRL says may be written, if the header that it answers has no fault and its messages are referenced.
use Rattle.std.specs.{Prelude.{zip, decimal}, List.{list_all, AllByRecursion}, Option.{is_none, option_and_then}, Str.bytes_eq, Str.Parse.digits_value}
use Rattle.std.{specs.Fmt.{digit_glyph, digits_onto, digits}, proofs.{lemmas.Slice.Eq.bytes_eq-Decides, lemmas.List.Folds.list_all-append}}
use Rattle.std.proofs.Common.{◌≡◌, ℕ, zero, suc, ◌+◌, ◌≤◌, ◌/◌, ◌%◌, ◌-◌, ◌==◌, nat_le, nat_lt, Bool, true, false, cond, not, ◌&&◌, ◌||◌, List, [], ◌∷◌, ◌++◌, length, get_or, map, codes, Some, None, refl, sym, ◌∙◌, inl, inr, arith}
use Rattle.std.proofs.lemmas.Bool.{and_parts, and_from, cases_Bool, eqb-true, leb-true, le-leb, lt-ltb, true≢false, false≢true}
use Rattle.edi_syntax.specs.{Moments.{CivilMoment, is_moment, moment_written, are_moment_digits}, Text.{Content, component_of}, Written.IsWritableSegment}
use Rattle.edi_syntax.specs.{Characters.{is_tag_byte, is_data_byte, is_digit, is_printable}, Numbers.as_control_number}
use Rattle.edi_syntax.specs.Header.{control_reference, control_number, preparation, preparation_date, preparation_time, is_printable_element}
use Rattle.edi_syntax.specs.Messages.{Message, is_referenced, is_reference, message_reference, message_identity, is_printable_identity, is_printable_component}
use Rattle.edi_messages.specs.Contrl.{sender_of, recipient_of, identity_of, unb, unh, uci, ucm, unt, unz, verdict_elements, answer_segments}
use Rattle.edi_messages.specs.{declared.message.Verdict.Verdict, declared.message.Verdict.TheVariants.{Accepted, Rejected}}

-- ---- bytes

not_delete : (b : ℕ) → b ≤ 126 → not (b == 127) ≡ true
not_delete b high = elim (cases_Bool (b == 127)) [ inl is ↦ absurd (omega (arith, eqb-true b 127 is)) | inr other ↦ rw other refl ]

within_data : (b : ℕ) → 32 ≤ b → b ≤ 126 → is_data_byte b ≡ true
within_data b low high = and_from (nat_le 32 b) (not (b == 127)) (le-leb 32 b low) (not_delete b high)

printable_is_data : (value : List ℕ) → list_all is_printable value ≡ true → list_all is_data_byte value ≡ true
printable_is_data [] all = refl
printable_is_data (b ∷ value) all =
    let parts = and_parts (is_printable b) (list_all is_printable value) all in
    let within = and_parts (nat_le 32 b) (nat_le b 126) parts.0 in
    let here : is_data_byte b ≡ true = within_data b (leb-true 32 b within.0) (leb-true b 126 within.1) in
    and_from (is_data_byte b) (list_all is_data_byte value) here (printable_is_data value parts.1)

digits_are_data : (value : List ℕ) → list_all is_digit value ≡ true → list_all is_data_byte value ≡ true
digits_are_data [] all = refl
digits_are_data (b ∷ value) all =
    let parts = and_parts (is_digit b) (list_all is_digit value) all in
    let within = and_parts (nat_le 48 b) (nat_le b 57) parts.0 in
    let low = leb-true 48 b within.0 in
    let high = leb-true b 57 within.1 in
    let here : is_data_byte b ≡ true = within_data b (omega arith) (omega arith) in
    and_from (is_data_byte b) (list_all is_data_byte value) here (digits_are_data value parts.1)

glyph_is_data : (n : ℕ) → is_data_byte (digit_glyph false (n % 10)) ≡ true
glyph_is_data n = let below : nat_lt (n % 10) 10 ≡ true = lt-ltb (n % 10) 10 (omega arith) in rw below (within_data (48 + n % 10) (omega arith) (omega arith))

onto_is_data : (k n : ℕ) (behind : List ℕ) → list_all is_data_byte behind ≡ true → list_all is_data_byte (digits_onto k 10 false n behind) ≡ true
onto_is_data zero n behind all = all
onto_is_data (suc k) n behind all =
    let more : list_all is_data_byte (digit_glyph false (n % 10) ∷ behind) ≡ true = and_from (is_data_byte (digit_glyph false (n % 10))) (list_all is_data_byte behind) (glyph_is_data n) all in
    elim (cases_Bool (n / 10 == 0)) [
      | inl last ↦ rw last more
      | inr others ↦ rw others (onto_is_data k (n / 10) (digit_glyph false (n % 10) ∷ behind) more)
    ]

decimal_is_data : (n : ℕ) → list_all is_data_byte (decimal n) ≡ true
unfolding digits
decimal_is_data n = onto_is_data 64 n [] refl

-- ---- what is printed

value_passes : (P : List ℕ → Bool) → P [] ≡ true → (values : List (List ℕ)) (k : ℕ) → list_all P values ≡ true → P (get_or values k []) ≡ true
value_passes P empty [] k all = empty
value_passes P empty (value ∷ values) zero all = (and_parts (P value) (list_all P values) all).0
value_passes P empty (value ∷ values) (suc k) all = value_passes P empty values k (and_parts (P value) (list_all P values) all).1

component_passes : (P : List ℕ → Bool) → P [] ≡ true → (elements : List (List (List ℕ))) (i k : ℕ) → list_all P (get_or elements i ([] ∷ [])) ≡ true → P (get_or (get_or elements i []) k []) ≡ true
component_passes P empty [] i k all = empty
component_passes P empty (element ∷ elements) zero k all = value_passes P empty element k all
component_passes P empty (element ∷ elements) (suc i) k all = component_passes P empty elements i k all

pub printable_component : (segment : Content) (element component : ℕ) → is_printable_element segment element ≡ true → list_all is_printable (component_of segment element component) ≡ true
printable_component segment element component all = component_passes (list_all is_printable) refl segment.elements (element - 1) (component - 1) all

component_is_data : (segment : Content) (element component : ℕ) → is_printable_element segment element ≡ true → list_all is_data_byte (component_of segment element component) ≡ true
component_is_data segment element component all = printable_is_data (component_of segment element component) (printable_component segment element component all)

-- ---- numbers and moments

reference_is_data : (header : Content) → is_none (control_number header) ≡ false → list_all is_data_byte (control_reference header) ≡ true
reference_is_data header some =
    let reference = control_reference header in
    let limits : Bool = nat_le 1 (length reference) && nat_le (length reference) 14 in
    digits_are_data reference (and_parts limits (list_all is_digit reference) (taken (limits && list_all is_digit reference) (digits_value 10 reference) some)).1
  where
    taken : (is : Bool) (n : ℕ) → is_none (option_and_then as_control_number (cond is (Some n) None)) ≡ false → is ≡ true
    taken true n h = refl
    taken false n h = absurd (true≢false h)

moment_digits : (header : Content) → is_none (preparation header) ≡ false → list_all is_digit (codes "20" ++ preparation_date header ++ preparation_time header) ≡ true
moment_digits header some =
    let text : List ℕ = codes "20" ++ preparation_date header ++ preparation_time header in
    let sizes : Bool = (length text == 12) || (length text == 8) in
    let parts = and_parts (are_moment_digits text) (is_moment (moment_written text)) (taken ((length (preparation_date header) == 6) && (length (preparation_time header) == 4)) (are_moment_digits text && is_moment (moment_written text)) (moment_written text) some) in
    (and_parts sizes (list_all is_digit text) parts.0).1
  where
    taken : (sized is : Bool) (moment : CivilMoment) → is_none (cond sized (cond is (Some moment) None) None) ≡ false → is ≡ true
    taken true true moment h = refl
    taken true false moment h = absurd (true≢false h)
    taken false is moment h = absurd (true≢false h)

moment_is_data : (header : Content) → is_none (preparation header) ≡ false → (list_all is_data_byte (preparation_date header) ≡ true) × (list_all is_data_byte (preparation_time header) ≡ true)
moment_is_data header some =
    let date = preparation_date header in
    let time = preparation_time header in
    let parts = and_parts (list_all is_digit (codes "20" ++ date)) (list_all is_digit time) (sym (list_all-append is_digit (codes "20" ++ date) time) ∙ moment_digits header some) in
    (digits_are_data date (and_parts (list_all is_digit (codes "20")) (list_all is_digit date) (sym (list_all-append is_digit (codes "20") date) ∙ parts.0)).1, digits_are_data time parts.1)

-- ---- segments

written : (segment : Content) → length segment.tag ≡ 3 → list_all is_tag_byte segment.tag ≡ true → bytes_eq segment.tag (codes "UNA") ≡ false
    → list_all (list_all (list_all is_data_byte)) segment.elements ≡ true → IsWritableSegment segment
written segment three bytes other values = (((three, bytes), λ is. false≢true (sym other ∙ (bytes_eq-Decides segment.tag (codes "UNA")).1 is)), values)

-- what of a header is written
pub record IsWritableHeader (header : Content) : Type 0 where
  pub sender : list_all (list_all is_data_byte) (sender_of header) ≡ true
  pub recipient : list_all (list_all is_data_byte) (recipient_of header) ≡ true
  pub date : list_all is_data_byte (preparation_date header) ≡ true
  pub time : list_all is_data_byte (preparation_time header) ≡ true
  pub reference : list_all is_data_byte (control_reference header) ≡ true

pub writable_header : (header : Content) → is_printable_element header 2 ≡ true → is_printable_element header 3 ≡ true → is_none (control_number header) ≡ false → is_none (preparation header) ≡ false → IsWritableHeader header
writable_header header sender recipient numbered dated = record {
  sender = rw (component_is_data header 2 1 sender, component_is_data header 2 2 sender, component_is_data header 2 3 sender) refl;
  recipient = rw (component_is_data header 3 1 recipient, component_is_data header 3 2 recipient, component_is_data header 3 3 recipient) refl;
  date = (moment_is_data header dated).0;
  time = (moment_is_data header dated).1;
  reference = reference_is_data header numbered;
}

verdict_is_data : (verdict : Verdict) → list_all (list_all (list_all is_data_byte)) (verdict_elements verdict) ≡ true
verdict_is_data Accepted = refl
verdict_is_data (Rejected code) = rw (decimal_is_data code) refl

unb_written : (header : Content) → IsWritableHeader header → IsWritableSegment (unb header)
unb_written header h = written (unb header) refl refl refl (rw (h.recipient, h.sender, h.date, h.time, h.reference) refl)

pub uci_written : (header : Content) (verdict : Verdict) → IsWritableHeader header → IsWritableSegment (uci header verdict)
uci_written header verdict h = written (uci header verdict) refl refl refl (rw (h.reference, h.sender, h.recipient, verdict_is_data verdict) refl)

ucm_written : (verdict : Verdict) (message : Message) → is_referenced message ≡ true → IsWritableSegment (ucm (verdict, message))
ucm_written verdict message good =
    let reference = message_reference message in
    let same : Bool = bytes_eq (component_of message.trailer 2 1) reference in
    let parts = and_parts (is_reference reference && same) (is_printable_identity message.header) good in
    let sized : Bool = nat_le 1 (length reference) && nat_le (length reference) 14 in
    let named : list_all is_printable reference ≡ true = (and_parts sized (list_all is_printable reference) (and_parts (is_reference reference) same parts.0).0).1 in
    written (ucm (verdict, message)) refl refl refl (rw (printable_is_data reference named, identity_is_data message parts.1, verdict_is_data verdict) refl)
  where
    identity_is_data : (message : Message) → is_printable_identity message.header ≡ true → list_all (list_all is_data_byte) (identity_of message) ≡ true
    identity_is_data message good =
        let is : ℕ → Bool = λ component. is_printable_component message.header 2 component in
        let five = and_parts (is 1 && is 2 && is 3 && is 4) (is 5) good in
        let four = and_parts (is 1 && is 2 && is 3) (is 4) five.0 in
        let three = and_parts (is 1 && is 2) (is 3) four.0 in
        let two = and_parts (is 1) (is 2) three.0 in
        rw (
          printable_is_data (message_identity message 1) two.0,
          printable_is_data (message_identity message 2) two.1,
          printable_is_data (message_identity message 3) three.1,
          printable_is_data (message_identity message 4) four.1,
          printable_is_data (message_identity message 5) five.1,
        ) refl

pub ucms_written : (verdicts : List Verdict) (messages : List Message) → list_all is_referenced messages ≡ true → AllByRecursion IsWritableSegment (map ucm (zip verdicts messages))
ucms_written [] messages good = tt
ucms_written (verdict ∷ verdicts) [] good = tt
ucms_written (verdict ∷ verdicts) (message ∷ messages) good =
    let parts = and_parts (is_referenced message) (list_all is_referenced messages) good in
    (ucm_written verdict message parts.0, ucms_written verdicts messages parts.1)

unt_written : (n : ℕ) → IsWritableSegment (unt n)
unt_written n = written (unt n) refl refl refl (rw (decimal_is_data n) refl)

unz_written : (header : Content) → IsWritableHeader header → IsWritableSegment (unz header)
unz_written header h = written (unz header) refl refl refl (rw h.reference refl)

both_written : (segments others : List Content) → AllByRecursion IsWritableSegment segments → AllByRecursion IsWritableSegment others → AllByRecursion IsWritableSegment (segments ++ others)
both_written [] others all more = more
both_written (segment ∷ segments) others (first, all) more = (first, both_written segments others all more)

pub answer_writable : (header : Content) (between : List Content) → IsWritableHeader header → AllByRecursion IsWritableSegment between → AllByRecursion IsWritableSegment (answer_segments header between)
answer_writable header between h all =
    let n = length between + 2 in
    (unb_written header h, (written unh refl refl refl refl, both_written between (unt n ∷ unz header ∷ []) all (unt_written n, (unz_written header h, tt))))
