-- Segments that are the same have the same faults.
use Rattle.std.specs.{Prelude.{zip, decimal, unwrap_or}, List.{list_all, list_any, find, AllByRecursion}, Str.bytes_eq, Str.Parse.{AllDigits, digits_value}}
use Rattle.std.{specs.Option.{is_none, option_or, option_map_or}, proofs.{lemmas.Bool.{le-leb, and_parts, leb-true}, lemmas.List.length-append}}
use Rattle.std.proofs.Common.{◌≡◌, ℕ, ◌+◌, ◌<◌, ◌%◌, ◌^◌, true, false, List, [], ◌∷◌, ◌++◌, length, map, None, refl, ap, eq-eqb, arith, zero, suc, ◌-◌, Bool, cond, not, get_or, sym, ◌∙◌, ◌*◌, ◌≤◌, Option, ◌&&◌, nat_le, Some}
use Rattle.std.proofs.{lemmas.Fmt.{decimal_by_steps, decimal_nonempty, decimal_is_IsNumeral, length-decimal-le}, lemmas.List.Folds.find-append}
use Rattle.std.proofs.{lemmas.Option.cond_some, lemmas.Str.digit_value_digit, lemmas.Int.Digits.digits_value-lt, Math.Nat.pow-le-pow_right}
use Rattle.edi_syntax.specs.{Characters.{is_digit, is_printable}, Text.{Content, no_segment, IsSameSegment, component_of}, Numbers.{is_count, number_of}}
use Rattle.edi_syntax.specs.{Header.{control_reference, preparation, is_printable_element, is_known_syntax}, Written.{AreSameSegments, IsWritableSegment}}
use Rattle.edi_syntax.specs.Messages.{Message, begins_message, ends_message, is_inner, before_trailer, trailer_in, messages_in, are_messages, message_from, is_counted, is_referenced}
use Rattle.edi_syntax.specs.{Envelope.{last_of, header_of, behind_header, is_of_functional_group}, declared.interchange.SyntaxFault.SyntaxFault}
use Rattle.edi_syntax.specs.Faults.{body_fault_of, applies_to, applies, header_faults, body_faults, fault_of, header_fault_of}
use Rattle.edi_syntax.specs.declared.interchange.SyntaxFault.TheVariants.{TooLong, Service, Segment, NoEnvelope, Group, Version, Number, Moment, Test, MessageFrame, SegmentCount, MessageReference, Empty, ControlCount, ControlReference}
use Rattle.edi_syntax.specs.{Interchange.{most_bytes, segments_in, read_fault}, Spelling.{elements_text, segment_text, segments_text}}
use Rattle.edi_syntax.proofs.{BlockLemmas.{digits_one, past_bytes}, AdviceLemmas.{interchange_complete, reads_back}}
use Rattle.edi_messages.specs.{Contrl.{unh, uci, ucm, unt, unz, answer_segments, ContrlsAreCounted, IsReadAs}, declared.message.Verdict.Verdict, Orders.weight}
use Rattle.edi_messages.specs.{declared.message.Verdict.TheVariants.{Accepted, Rejected}, Parts.{EquipmentGroup, states_weight}}
use Rattle.edi_messages.proofs.SurveyLemmas.{length_ucms}

-- ==== ContrlCounts: The segments of a CONTRL are one message that is counted and referenced.

-- segments that neither begin nor end anything
abbrev pub AreInner : List Content → Type 0
AreInner [] = Unit {0}
AreInner (segment ∷ segments) = (begins_message segment ≡ false) × (ends_message segment ≡ false) × (is_inner segment ≡ true) × AreInner segments

pub ucms_inner : (verdicts : List Verdict) (messages : List Message) → AreInner (map ucm (zip verdicts messages))
ucms_inner [] messages = tt
ucms_inner (verdict ∷ verdicts) [] = tt
ucms_inner (verdict ∷ verdicts) (message ∷ messages) = (refl, refl, refl, ucms_inner verdicts messages)

framed : (between : List Content) (header : Content) (n : ℕ) → AreInner between → are_messages true (between ++ unt n ∷ unz header ∷ []) ≡ true
framed [] header n inner = refl
framed (segment ∷ between) header n (begins, ends, is, others) = rw (is, ends) (framed between header n others)

before : (between : List Content) (header : Content) (n : ℕ) → AreInner between → before_trailer (between ++ unt n ∷ unz header ∷ []) ≡ between
before [] header n inner = refl
before (segment ∷ between) header n (begins, ends, is, others) = rw ends (ap (λ (t : List Content). segment ∷ t) (before between header n others))

trailer : (between : List Content) (header : Content) (n : ℕ) → AreInner between → trailer_in (between ++ unt n ∷ unz header ∷ []) ≡ unt n
trailer [] header n inner = refl
trailer (segment ∷ between) header n (begins, ends, is, others) = rw ends (trailer between header n others)

none_begins : (between : List Content) (header : Content) (n : ℕ) → AreInner between → messages_in (between ++ unt n ∷ unz header ∷ []) ≡ []
none_begins [] header n inner = refl
none_begins (segment ∷ between) header n (begins, ends, is, others) = rw begins (none_begins between header n others)

pub last : (between : List Content) (first header : Content) (n : ℕ) → last_of first (between ++ unt n ∷ unz header ∷ []) ≡ unz header
last [] first header n = refl
last (segment ∷ between) first header n = last between segment header n

-- ---- the count

digits_all : (n : ℕ) → n < 2 ^ 64 → list_all is_digit (decimal n) ≡ true
digits_all n fits =
    decimal_by_steps (λ m ds. list_all is_digit ds ≡ true)
    (λ m small. digits_one [] (48 + m) refl (omega arith) (omega arith))
    (λ m ds big before. digits_one ds (48 + m % 10) before (omega arith) (omega arith))
    n fits

counted : (n : ℕ) → n < 10 ^ 6 → is_count (decimal n) n ≡ true
counted n fits =
    let some = decimal_nonempty n (omega (arith, fits)) in
    let short = length-decimal-le 6 n (omega arith) fits (omega (arith, fits)) in
    let value = (decimal_is_IsNumeral n (omega (arith, fits))).1 in
    rw (le-leb 1 (length (decimal n)) (omega (arith, some)), le-leb (length (decimal n)) 6 short, digits_all n (omega (arith, fits)), value) (eq-eqb n n refl)

same_bytes : (value : List ℕ) → bytes_eq value value ≡ true
same_bytes [] = refl
same_bytes (b ∷ value) = rw (eq-eqb b b refl) (same_bytes value)

pub faultless : (header : Content) (between : List Content) → AreInner between → length between + 2 < 10 ^ 6 → body_fault_of (answer_segments header between) ≡ None
faultless header between inner few =
    let n = length between + 2 in
    rw (
      framed between header n inner,
      before between header n inner,
      trailer between header n inner,
      none_begins between header n inner,
      last between unh header n,
      counted n few,
      same_bytes (control_reference header),
    ) refl

pub contrls_are_counted : ContrlsAreCounted
contrls_are_counted header = (
  λ messages verdicts same few. faultless header (uci header Accepted ∷ map ucm (zip verdicts messages)) (refl, refl, refl, ucms_inner verdicts messages) (omega (arith, few, length_ucms messages verdicts same)),
  λ code. faultless header (uci header (Rejected code) ∷ []) (refl, refl, refl, tt) (omega arith),
)

-- ==== SameSegments: Segments that are the same have the same faults.

-- ---- values

-- a test that an empty value passes holds for all values exactly if it holds for all that are the same by their places
same_values : (P : List ℕ → Bool) → P [] ≡ true → (xs ys : List (List ℕ)) → ((k : ℕ) → get_or xs k [] ≡ get_or ys k []) → list_all P xs ≡ list_all P ys
same_values P empty [] [] same = refl
same_values P empty [] (y ∷ ys) same = let here : P y ≡ true = ap P (sym (same zero)) ∙ empty in rw here (same_values P empty [] ys (λ k. same (suc k)))
same_values P empty (x ∷ xs) [] same = let here : P x ≡ true = ap P (same zero) ∙ empty in rw here (same_values P empty xs [] (λ k. same (suc k)))
same_values P empty (x ∷ xs) (y ∷ ys) same = rw (same zero, same_values P empty xs ys (λ k. same (suc k))) refl

-- a missing element passes as an empty one does
missing_passes : (P : List ℕ → Bool) → P [] ≡ true → (elements : List (List (List ℕ))) (i : ℕ) → list_all P (get_or elements i ([] ∷ [])) ≡ list_all P (get_or elements i [])
missing_passes P empty [] i = rw empty refl
missing_passes P empty (element ∷ elements) zero = refl
missing_passes P empty (element ∷ elements) (suc i) = missing_passes P empty elements i

same_printable : (a b : Content) (element : ℕ) → IsSameSegment a b → is_printable_element a element ≡ is_printable_element b element
same_printable a b element same =
    missing_passes (list_all is_printable) refl a.elements (element - 1)
    ∙ same_values (list_all is_printable) refl (get_or a.elements (element - 1) []) (get_or b.elements (element - 1) []) places
    ∙ sym (missing_passes (list_all is_printable) refl b.elements (element - 1))
  where
    places : (k : ℕ) → get_or (get_or a.elements (element - 1) []) k [] ≡ get_or (get_or b.elements (element - 1) []) k []
    places k =
        let before : k + 1 - 1 ≡ k = omega arith in
        let here : get_or (get_or a.elements (element - 1) []) (k + 1 - 1) [] ≡ get_or (get_or b.elements (element - 1) []) (k + 1 - 1) [] = same.components element (k + 1) in
        rw before at here

-- ---- segments

same_itself : (segment : Content) → IsSameSegment segment segment
same_itself segment = record { tag = refl; components = λ i k. refl }

same_chosen : (p q : Bool) (a b c d : Content) → p ≡ q → IsSameSegment a b → IsSameSegment c d → IsSameSegment (cond p a c) (cond q b d)
same_chosen true true a b c d is here there = here
same_chosen true false a b c d is here there = absurd cc
same_chosen false true a b c d is here there = absurd cc
same_chosen false false a b c d is here there = there

same_length : (read written : List Content) → AreSameSegments read written → length read ≡ length written
same_length [] [] same = refl
same_length [] (b ∷ written) same = absurd same
same_length (a ∷ read) [] same = absurd same
same_length (a ∷ read) (b ∷ written) (same, others) = rw (same_length read written others) refl

same_header : (read written : List Content) → AreSameSegments read written → IsSameSegment (header_of read) (header_of written)
same_header [] [] same = same_itself no_segment
same_header [] (b ∷ written) same = absurd same
same_header (a ∷ read) [] same = absurd same
same_header (a ∷ read) (b ∷ written) (same, others) = same

same_behind : (read written : List Content) → AreSameSegments read written → AreSameSegments (behind_header read) (behind_header written)
same_behind [] [] same = tt
same_behind [] (b ∷ written) same = absurd same
same_behind (a ∷ read) [] same = absurd same
same_behind (a ∷ read) (b ∷ written) (same, others) = others

same_last : (read written : List Content) (c d : Content) → IsSameSegment c d → AreSameSegments read written → IsSameSegment (last_of c read) (last_of d written)
same_last [] [] c d before same = before
same_last [] (b ∷ written) c d before same = absurd same
same_last (a ∷ read) [] c d before same = absurd same
same_last (a ∷ read) (b ∷ written) c d before (same, others) = same_last read written a b same others

same_group : (read written : List Content) → AreSameSegments read written → list_any is_of_functional_group read ≡ list_any is_of_functional_group written
same_group [] [] same = refl
same_group [] (b ∷ written) same = absurd same
same_group (a ∷ read) [] same = absurd same
same_group (a ∷ read) (b ∷ written) (same, others) = rw (same.tag, same_group read written others) refl

-- ---- messages

same_frames : (begun : Bool) (read written : List Content) → AreSameSegments read written → are_messages begun read ≡ are_messages begun written
same_frames begun [] [] same = refl
same_frames begun [] (b ∷ written) same = absurd same
same_frames begun (a ∷ read) [] same = absurd same
same_frames false (a ∷ read) (b ∷ written) (same, others) = rw (same.tag, same_frames true read written others, same_length read written others) refl
same_frames true (a ∷ read) (b ∷ written) (same, others) = rw (same.tag, same_frames true read written others, same_frames false read written others) refl

one_longer : (p q : Bool) (a b : Content) (read written : List Content) → p ≡ q → length read ≡ length written → length (cond p [] (a ∷ read)) ≡ length (cond q [] (b ∷ written))
one_longer true true a b read written is same = refl
one_longer true false a b read written is same = absurd cc
one_longer false true a b read written is same = absurd cc
one_longer false false a b read written is same = rw same refl

same_between : (read written : List Content) → AreSameSegments read written → length (before_trailer read) ≡ length (before_trailer written)
same_between [] [] same = refl
same_between [] (b ∷ written) same = absurd same
same_between (a ∷ read) [] same = absurd same
same_between (a ∷ read) (b ∷ written) (same, others) =
    one_longer (ends_message a) (ends_message b) a b (before_trailer read) (before_trailer written) (rw same.tag refl) (same_between read written others)

same_end : (read written : List Content) → AreSameSegments read written → IsSameSegment (trailer_in read) (trailer_in written)
same_end [] [] same = same_itself no_segment
same_end [] (b ∷ written) same = absurd same
same_end (a ∷ read) [] same = absurd same
same_end (a ∷ read) (b ∷ written) (same, others) =
    same_chosen (ends_message a) (ends_message b) a b (trailer_in read) (trailer_in written) (rw same.tag refl) same (same_end read written others)

-- a test of messages that sees no more than what the same segments have in common
abbrev IsSeen : (Message → Bool) → Type 0
IsSeen P = (a b : Content) (read written : List Content) → IsSameSegment a b → AreSameSegments read written → P (message_from a read) ≡ P (message_from b written)

counts_seen : IsSeen is_counted
counts_seen a b read written same others = rw ((same_end read written others).components 1 1, same_between read written others) refl

references_seen : IsSeen is_referenced
references_seen a b read written same others =
    rw (
      (same_end read written others).components 2 1,
      same.components 1 1,
      same.components 2 1,
      same.components 2 2,
      same.components 2 3,
      same.components 2 4,
      same.components 2 5,
    ) refl

one_more : (P : Message → Bool) (p q : Bool) (m n : Message) (ms ns : List Message) → p ≡ q → P m ≡ P n → list_all P ms ≡ list_all P ns → list_all P (cond p (m ∷ ms) ms) ≡ list_all P (cond q (n ∷ ns) ns)
one_more P true true m n ms ns is here there = rw (here, there) refl
one_more P true false m n ms ns is here there = absurd cc
one_more P false true m n ms ns is here there = absurd cc
one_more P false false m n ms ns is here there = there

same_messages : (P : Message → Bool) → IsSeen P → (read written : List Content) → AreSameSegments read written → list_all P (messages_in read) ≡ list_all P (messages_in written)
same_messages P seen [] [] same = refl
same_messages P seen [] (b ∷ written) same = absurd same
same_messages P seen (a ∷ read) [] same = absurd same
same_messages P seen (a ∷ read) (b ∷ written) (same, others) =
    one_more P (begins_message a) (begins_message b) (message_from a read) (message_from b written) (messages_in read) (messages_in written) (rw same.tag refl) (seen a b read written same others) (same_messages P seen read written others)

as_many_more : (p q : Bool) (m n : Message) (ms ns : List Message) → p ≡ q → length ms ≡ length ns → length (cond p (m ∷ ms) ms) ≡ length (cond q (n ∷ ns) ns)
as_many_more true true m n ms ns is same = rw same refl
as_many_more true false m n ms ns is same = absurd cc
as_many_more false true m n ms ns is same = absurd cc
as_many_more false false m n ms ns is same = same

as_many_messages : (read written : List Content) → AreSameSegments read written → length (messages_in read) ≡ length (messages_in written)
as_many_messages [] [] same = refl
as_many_messages [] (b ∷ written) same = absurd same
as_many_messages (a ∷ read) [] same = absurd same
as_many_messages (a ∷ read) (b ∷ written) (same, others) =
    as_many_more (begins_message a) (begins_message b) (message_from a read) (message_from b written) (messages_in read) (messages_in written) (rw same.tag refl) (as_many_messages read written others)

-- ---- faults

same_syntax : (a b : Content) → IsSameSegment a b → is_known_syntax a ≡ is_known_syntax b
same_syntax a b same = rw (same.components 1 1, same.components 1 2) refl

same_preparation : (a b : Content) → IsSameSegment a b → preparation a ≡ preparation b
same_preparation a b same = rw (same.components 4 1, same.components 4 2) refl

pub same_faults : (read written : List Content) → AreSameSegments read written → (fault : SyntaxFault) → applies_to read fault ≡ applies_to written fault
same_faults read written same TooLong = refl
same_faults read written same Service = refl
same_faults read written same Segment = refl
same_faults read written same NoEnvelope =
    let header = same_header read written same in
    let last = same_last read written no_segment no_segment (same_itself no_segment) same in
    rw (
      header.tag,
      last.tag,
      header.components 2 1,
      header.components 3 1,
      same_printable (header_of read) (header_of written) 2 header,
      same_printable (header_of read) (header_of written) 3 header,
    ) refl
same_faults read written same Group = same_group read written same
same_faults read written same Version = ap not (same_syntax (header_of read) (header_of written) (same_header read written same))
same_faults read written same Number = let header = same_header read written same in rw (header.components 5 1) refl
same_faults read written same Moment = ap is_none (same_preparation (header_of read) (header_of written) (same_header read written same))
same_faults read written same Test = let header = same_header read written same in rw (header.components 11 1) refl
same_faults read written same MessageFrame = rw (same_frames false (behind_header read) (behind_header written) (same_behind read written same)) refl
same_faults read written same SegmentCount = rw (same_messages is_counted counts_seen (behind_header read) (behind_header written) (same_behind read written same)) refl
same_faults read written same MessageReference = rw (same_messages is_referenced references_seen (behind_header read) (behind_header written) (same_behind read written same)) refl
same_faults read written same Empty = rw (as_many_messages (behind_header read) (behind_header written) (same_behind read written same)) refl
same_faults read written same ControlCount =
    let last = same_last read written no_segment no_segment (same_itself no_segment) same in
    rw (last.components 1 1, as_many_messages (behind_header read) (behind_header written) (same_behind read written same)) refl
same_faults read written same ControlReference =
    let header = same_header read written same in
    let last = same_last read written no_segment no_segment (same_itself no_segment) same in
    rw (last.components 2 1, header.components 5 1) refl

pub first_fault : (p q : SyntaxFault → Bool) → ((fault : SyntaxFault) → p fault ≡ q fault) → (faults : List SyntaxFault) → find p faults ≡ find q faults
first_fault p q same [] = refl
first_fault p q same (fault ∷ faults) = rw (same fault, first_fault p q same faults) refl

-- ==== WrittenText: The text of segments that may be written is read as these, with their faults.

-- a segment takes four bytes at least: its tag and the terminator
segment_bytes : (segment : Content) → IsWritableSegment segment → 4 ≤ length (segment_text segment)
segment_bytes segment ((tag, other), writable) =
    let body : List ℕ = segment.tag ++ elements_text segment.elements in
    let front : length body ≡ length segment.tag + length (elements_text segment.elements) = length-append segment.tag (elements_text segment.elements) in
    let whole : length (segment_text segment) ≡ length body + 1 = length-append body (39 ∷ []) in
    omega (arith, front, whole, tag.0)

pub four_bytes_each : (segments : List Content) → AllByRecursion IsWritableSegment segments → 4 * length segments ≤ length (segments_text segments)
four_bytes_each [] writable = omega arith
four_bytes_each (segment ∷ segments) (first, others) =
    let whole : length (segments_text (segment ∷ segments)) ≡ length (segment_text segment) + length (segments_text segments) = length-append (segment_text segment) (segments_text segments) in
    omega (arith, whole, segment_bytes segment first, four_bytes_each segments others)

no_first : (first second : Option SyntaxFault) → first ≡ None → second ≡ None → option_or first second ≡ None
no_first first second none also = rw none also

pub read_without_fault : (segments : List Content) → AllByRecursion IsWritableSegment segments → length (segments_text segments) ≤ most_bytes
    → header_fault_of segments ≡ None → body_fault_of segments ≡ None → IsReadAs segments (segments_text segments)
read_without_fault segments writable short header body =
    let text = segments_text segments in
    let back = reads_back segments writable in
    let complete = interchange_complete back.0 text back.2 in
    let readable : read_fault text ≡ None = rw (complete.0, complete.1) refl in
    let same : AreSameSegments (segments_in text) segments = rw back.3 back.1 in
    let as_written : (faults : List SyntaxFault) → find (applies_to (segments_in text)) faults ≡ find (applies_to segments) faults =
    first_fault (applies_to (segments_in text)) (applies_to segments) (same_faults (segments_in text) segments same) in
    let none : fault_of text ≡ None =
    past_bytes text (header_faults ++ body_faults) short readable ∙ find-append (applies text) header_faults body_faults
    ∙ no_first (find (applies text) header_faults) (find (applies text) body_faults) (as_written header_faults ∙ header) (as_written body_faults ∙ body) in (none, same)

-- ==== Weights: A gross weight has at most six digits.

digits : (text : List ℕ) → list_all is_digit text ≡ true → AllDigits 10 text
digits [] all = tt
digits (c ∷ text) all =
    let both = and_parts (is_digit c) (list_all is_digit text) all in
    let range = and_parts (nat_le 48 c) (nat_le c 57) both.0 in
    let high = leb-true c 57 range.1 in
    let value = digit_value_digit c (leb-true 48 c range.0, high) in
    (omega (arith, high), digits text both.1)

power : (n : ℕ) → n ≤ 6 → 10 ^ n ≤ 1000000
power n low = let one : zero < 10 = omega arith in pow-le-pow_right one low

-- six digits write a number up to 999,999
pub number_short : (text : List ℕ) (number : ℕ) → number_of 6 text ≡ Some number → number ≤ 999999
number_short text number is =
    let found = cond_some (nat_le 1 (length text) && nat_le (length text) 6 && list_all is_digit text) (digits_value 10 text) number is in
    let both = and_parts (nat_le 1 (length text) && nat_le (length text) 6) (list_all is_digit text) found.0 in
    let long = and_parts (nat_le 1 (length text)) (nat_le (length text) 6) both.0 in
    let below = digits_value-lt 10 text (digits text both.1) in
    let most = power (length text) (leb-true (length text) 6 long.1) in
    omega (arith, below, most, found.1)

or_none : (o : Option ℕ) → ((number : ℕ) → o ≡ Some number → number ≤ 999999) → unwrap_or o 0 ≤ 999999
or_none None small = omega arith
or_none (Some number) small = small number refl

found_short : (found : Option Content) → option_map_or (λ segment. unwrap_or (number_of 6 (component_of segment 3 2)) 0) found 0 ≤ 999999
found_short None = omega arith
found_short (Some segment) = or_none (number_of 6 (component_of segment 3 2)) (number_short (component_of segment 3 2))

pub weight_short : (group : EquipmentGroup) → weight group ≤ 999999
weight_short group = found_short (find states_weight group.details)
