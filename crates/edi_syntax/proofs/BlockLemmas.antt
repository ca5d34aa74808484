-- Messages one after the other.
use Rattle.std.specs.{Char.digit_value, List.{list_all, find, flat_map}, Str.Parse.digits_value, Option.{is_none, option_or}, Str.bytes_eq}
use Rattle.std.proofs.Common.{◌≡◌, ℕ, ◌+◌, ◌-◌, ◌*◌, ◌^◌, ◌<◌, ◌≤◌, true, List, [], ◌∷◌, ◌++◌, refl, sym, ap, ◌∙◌, add-one, arith, Bool, false, cond, not, ◌&&◌, nat_le, nat_eq, length, codes, Option, Some, None, inl, inr, IsSome, zero, suc, ◌==◌, subst, append_assoc, get_or}
use Rattle.std.proofs.{Math.Nat.{pow-suc, pow-le-pow_right}, lemmas.List.Folds.{list_all-append, find-append}, lemmas.Int.Digits.digits_value_push}
use Rattle.std.proofs.lemmas.Bool.{lt-ltb, le-ltb, and_from, le-leb, cases_Bool, not-false, and_parts, leb-true, true≢false, not-true, eqb-true, false≢true}
use Rattle.std.proofs.{lemmas.Option.{cond_some, option_and_then_some}, lemmas.List.{length-append, nil_from_length}, lemmas.Slice.Eq.bytes_eq-Decides}
use Rattle.edi_syntax.specs.{Characters.is_digit, Text.{Content, has_tag}, Advice.has_bad_advice, Segment.value_of_length}
use Rattle.edi_syntax.specs.{Interchange.{segments_in, is_segment_text, read_fault}, declared.interchange.SyntaxFault.SyntaxFault}
use Rattle.edi_syntax.specs.declared.interchange.SyntaxFault.TheVariants.{Service, Segment, NoEnvelope, Group, Version, Number, Moment, Test, MessageFrame, SegmentCount, MessageReference, Empty, ControlCount, ControlReference}
use Rattle.edi_syntax.specs.{Numbers.{number_of, as_control_number}, Header.{control_number, control_reference, preparation, test_indicator, is_known_syntax}}
use Rattle.edi_syntax.specs.Envelope.{header_of, behind_header, has_envelope, messages_of, counts_messages, repeats_reference, is_of_functional_group}
use Rattle.edi_syntax.specs.Messages.{messages_in, begins_message, are_messages, is_counted, is_referenced, Message, ends_message, is_inner, before_trailer, trailer_in, message_from}
use Rattle.edi_syntax.specs.Faults.{applies, applies_to, text_faults, header_faults, body_faults, fault_of, head_fault_of, header_fault_of, body_fault_of, segments_fault}
use Rattle.edi_syntax.specs.Laws.{IsMessage, message_segments, AreMessages, MessagesStand}

-- ==== NumberLemmas: The number that digits write, one digit more.

digit_is : (b : ℕ) → 48 ≤ b → b ≤ 57 → digit_value b ≡ b - 48
digit_is b low high = rw (le-ltb b 48 low, lt-ltb b 58 (omega arith)) refl

pub digits_value_one : (digits : List ℕ) (b : ℕ) → 48 ≤ b → b ≤ 57 → digits_value 10 digits * 10 + (b - 48) ≡ digits_value 10 (digits ++ b ∷ [])
digits_value_one digits b low high = sym (digits_value_push 10 digits b ∙ ap (λ (d : ℕ). digits_value 10 digits * 10 + d) (digit_is b low high))

pub digits_one : (digits : List ℕ) (b : ℕ) → list_all is_digit digits ≡ true → 48 ≤ b → b ≤ 57 → list_all is_digit (digits ++ b ∷ []) ≡ true
digits_one digits b all low high =
    let here : list_all is_digit (b ∷ []) ≡ true = and_from _ _ (and_from _ _ (le-leb 48 b low) (le-leb b 57 high)) refl in
    list_all-append is_digit digits (b ∷ []) ∙ and_from _ _ all here

pub small_one : (number len d : ℕ) → number < 10 ^ len → d ≤ 9 → number * 10 + d < 10 ^ (len + 1)
small_one number len d small digit = rw (add-one, pow-suc) (omega arith)

-- below fourteen digits another one fits
pub has_room : (number len limit : ℕ) → number < 10 ^ len → len < limit → limit ≤ 14 → number < 10000000000000
has_room number len limit small few within =
    let few' : len ≤ 13 = omega arith in
    let top : 10 ^ len ≤ 10 ^ 13 = pow-le-pow_right {n = 10} (omega arith) few' in omega arith

-- ==== FaultLemmas: The first fault of a text, from those of its bytes, its envelope and its messages.

-- ---- faults of the bytes

-- the faults after those of the bytes, where no fault of the bytes applies
pub past_bytes : (text : List ℕ) (others : List SyntaxFault) → length text ≤ 1048576 → read_fault text ≡ None → find (applies text) (text_faults ++ others) ≡ find (applies text) others
past_bytes text others short readable =
    let good : has_bad_advice text ≡ false = no_first (has_bad_advice text) _ readable in
    let rest : cond (is_segment_text text) None (Some Segment) ≡ None = rw good at readable in
    let sound : is_segment_text text ≡ true = no_second (is_segment_text text) rest in
    rw (le-ltb 1048576 (length text) short, good, sound) refl
  where
    no_first : (b : Bool) (o : Option SyntaxFault) → cond b (Some Service) o ≡ None → b ≡ false
    no_first true o e = absurd cc
    no_first false o e = refl

    no_second : (b : Bool) → cond b None (Some Segment) ≡ None → b ≡ true
    no_second true e = refl
    no_second false e = absurd cc

-- a fault of the bytes comes before others
pub of_bytes : (text : List ℕ) (others : List SyntaxFault) (fault : SyntaxFault) → length text ≤ 1048576 → read_fault text ≡ Some fault → find (applies text) (text_faults ++ others) ≡ Some fault
of_bytes text others fault short is = rw (le-ltb 1048576 (length text) short) (chosen (has_bad_advice text) (is_segment_text text) is)
  where
    chosen : (a b : Bool) → cond a (Some Service) (cond b None (Some Segment)) ≡ Some fault → cond a (Some Service) (cond (not b) (Some Segment) (find (applies text) others)) ≡ Some fault
    chosen true b e = e
    chosen false true e = absurd cc
    chosen false false e = e

-- the first fault of the bytes, the segments and their header, where the advice is good
pub head_fault_is : (text : List ℕ) → length text ≤ 1048576 → has_bad_advice text ≡ false → head_fault_of text ≡ segments_fault (is_segment_text text) (segments_in text)
head_fault_is text short good =
    elim (cases_Bool (is_segment_text text)) [
      | inl sound ↦
          let readable : read_fault text ≡ None = rw (good, sound) refl in
          past_bytes text header_faults short readable ∙ sym (ap (λ (b : Bool). segments_fault b (segments_in text)) sound)
      | inr other ↦
          let bad : read_fault text ≡ Some Segment = rw (good, other) refl in
          of_bytes text header_faults Segment short bad ∙ sym (ap (λ (b : Bool). segments_fault b (segments_in text)) other)
    ]

-- ---- what a header without fault has

past_first : (b : Bool) (fault : SyntaxFault) (o : Option SyntaxFault) → cond b (Some fault) o ≡ None → (b ≡ false) × (o ≡ None)
past_first true fault o e = absurd cc
past_first false fault o e = (refl, e)

-- what the header of segments without a header's fault has
pub record HasHeader (segments : List Content) : Type 0 where
  pub envelope : has_envelope segments ≡ true
  pub syntax : is_known_syntax (header_of segments) ≡ true
  pub numbered : is_none (control_number (header_of segments)) ≡ false
  pub dated : is_none (preparation (header_of segments)) ≡ false

pub header_found : (segments : List Content) → header_fault_of segments ≡ None → HasHeader segments
header_found segments none =
    let one = past_first (applies_to segments NoEnvelope) NoEnvelope _ none in
    let two = past_first (applies_to segments Group) Group _ one.1 in
    let three = past_first (applies_to segments Version) Version _ two.1 in
    let four = past_first (applies_to segments Number) Number _ three.1 in
    let five = past_first (applies_to segments Moment) Moment _ four.1 in
    record {
      envelope = not-false (has_envelope segments) one.0;
      syntax = not-false (is_known_syntax (header_of segments)) three.0;
      numbered = four.0;
      dated = five.0;
    }

-- what the segments of an interchange without fault have
pub record HasBody (segments : List Content) : Type 0 where
  pub no_test : bytes_eq (test_indicator (header_of segments)) (codes "1") ≡ false
  pub messages : are_messages false (behind_header segments) ≡ true
  pub counted : list_all is_counted (messages_of segments) ≡ true
  pub referenced : list_all is_referenced (messages_of segments) ≡ true
  pub some : nat_eq (length (messages_of segments)) 0 ≡ false
  pub count : counts_messages segments ≡ true
  pub reference : repeats_reference segments ≡ true

pub body_found : (segments : List Content) → body_fault_of segments ≡ None → HasBody segments
body_found segments none =
    let one = past_first (applies_to segments Test) Test _ none in
    let two = past_first (applies_to segments MessageFrame) MessageFrame _ one.1 in
    let three = past_first (applies_to segments SegmentCount) SegmentCount _ two.1 in
    let four = past_first (applies_to segments MessageReference) MessageReference _ three.1 in
    let five = past_first (applies_to segments Empty) Empty _ four.1 in
    let six = past_first (applies_to segments ControlCount) ControlCount _ five.1 in
    let seven = past_first (applies_to segments ControlReference) ControlReference _ six.1 in
    record {
      no_test = one.0;
      messages = not-false (are_messages false (behind_header segments)) two.0;
      counted = not-false (list_all is_counted (messages_of segments)) three.0;
      referenced = not-false (list_all is_referenced (messages_of segments)) four.0;
      some = five.0;
      count = not-false (counts_messages segments) six.0;
      reference = not-false (repeats_reference segments) seven.0;
    }

pub some_from : {A : Type 0} (o : Option A) → is_none o ≡ false → IsSome o
some_from None h = absurd (true≢false h)
some_from (Some x) h = refl

-- a control number is from 1 to 999,999,999
pub control_number_within : (header : Content) (number : ℕ) → control_number header ≡ Some number → (1 ≤ number) × (number ≤ 999999999)
control_number_within header number is =
    option_and_then_some {P = (1 ≤ number) × (number ≤ 999999999)} as_control_number (number_of 14 (control_reference header)) number is (λ n written kept. within n kept)
  where
    within : (n : ℕ) → as_control_number n ≡ Some number → (1 ≤ number) × (number ≤ 999999999)
    within n kept =
        let found = cond_some (nat_le 1 n && nat_le n 999999999) n number kept in
        let parts = and_parts (nat_le 1 n) (nat_le n 999999999) found.0 in
        (omega (arith, leb-true 1 n parts.0, found.1), omega (arith, leb-true n 999999999 parts.1, found.1))

-- ---- messages

-- each message takes at least one segment
pub length-messages_in : (segments : List Content) → length (messages_in segments) ≤ length segments
length-messages_in [] = omega arith
length-messages_in (segment ∷ segments) =
    elim (cases_Bool (begins_message segment)) [
      | inl begins ↦ rw begins (omega (arith, length-messages_in segments))
      | inr other ↦ rw other (omega (arith, length-messages_in segments))
    ]

-- ---- head and body

pub of_head : (text : List ℕ) (fault : SyntaxFault) → head_fault_of text ≡ Some fault → fault_of text ≡ Some fault
of_head text fault is =
    find-append (applies text) (text_faults ++ header_faults) body_faults ∙ ap (λ (o : Option SyntaxFault). option_or o (find (applies text) body_faults)) is

pub of_body : (text : List ℕ) → head_fault_of text ≡ None → fault_of text ≡ body_fault_of (segments_in text)
of_body text none =
    find-append (applies text) (text_faults ++ header_faults) body_faults ∙ ap (λ (o : Option SyntaxFault). option_or o (find (applies text) body_faults)) none

-- ---- arrays of digits

pub no_array : (size : ℕ) (value : List ℕ) → None ≡ value_of_length size value → nat_eq (length value) size ≡ false
no_array size value is = refused (nat_eq (length value) size) is
  where
    refused : (b : Bool) → None ≡ cond b (Some value) None → b ≡ false
    refused true e = absurd cc
    refused false e = refl

pub array_is : (size : ℕ) (value array : List ℕ) → Some array ≡ value_of_length size value → (nat_eq (length value) size ≡ true) × (value ≡ array)
array_is size value array is = cond_some (nat_eq (length value) size) value array (sym is)

-- ==== BlockLemmas: Messages one after the other.

-- a segment has one tag
pub other_tag : (segment : Content) (tag tag' : List ℕ) → bytes_eq tag tag' ≡ false → has_tag tag segment ≡ true → has_tag tag' segment ≡ false
other_tag segment tag tag' other is = decided (has_tag tag' segment) refl
  where
    decided : (b : Bool) → has_tag tag' segment ≡ b → has_tag tag' segment ≡ false
    decided true also =
        let same : tag ≡ tag' = sym ((bytes_eq-Decides segment.tag tag).0 is) ∙ (bytes_eq-Decides segment.tag tag').0 also in
        absurd (false≢true (sym other ∙ (bytes_eq-Decides tag tag').1 same))
    decided false not_also = not_also

pub inner_tags : (segment : Content) → is_inner segment ≡ true → (begins_message segment ≡ false) × (ends_message segment ≡ false)
inner_tags segment h =
    let one = and_parts (not (begins_message segment) && not (ends_message segment) && not (has_tag (codes "UNB") segment)) (not (has_tag (codes "UNZ") segment)) h in
    let two = and_parts (not (begins_message segment) && not (ends_message segment)) (not (has_tag (codes "UNB") segment)) one.0 in
    let three = and_parts (not (begins_message segment)) (not (ends_message segment)) two.0 in
    (not-true (begins_message segment) three.0, not-true (ends_message segment) three.1)

-- ---- a message that has begun

-- what stands of a message that has begun, and after it
record Ends (segments : List Content) : Type 0 where
  behind : List Content
  inner : list_all is_inner (before_trailer segments) ≡ true
  trailer : ends_message (trailer_in segments) ≡ true
  are : segments ≡ before_trailer segments ++ trailer_in segments ∷ behind
  further : are_messages false behind ≡ true
  others : messages_in segments ≡ messages_in behind

ends_from : (segments : List Content) → are_messages true segments ≡ true → Ends segments
ends_from [] h = absurd (false≢true h)
ends_from (segment ∷ segments) h =
    elim (cases_Bool (ends_message segment)) [
      | inl ends ↦
          let rest : are_messages false segments ≡ true = rw ends at h in
          let no_begin : begins_message segment ≡ false = other_tag segment (codes "UNT") (codes "UNH") refl ends in
          let front : before_trailer (segment ∷ segments) ≡ [] = rw ends refl in
          let last : trailer_in (segment ∷ segments) ≡ segment = rw ends refl in
          record {
            behind = segments;
            inner = ap (list_all is_inner) front;
            trailer = ap ends_message last ∙ ends;
            are = sym (ap (λ (t : List Content). t ++ trailer_in (segment ∷ segments) ∷ segments) front ∙ ap (λ (t : Content). t ∷ segments) last);
            further = rest;
            others = rw no_begin refl;
          }
      | inr other ↦
          let both : is_inner segment && are_messages true segments ≡ true =
          sym (ap (λ (b : Bool). cond b (are_messages false segments) (is_inner segment && are_messages true segments)) other) ∙ h in
          let parts = and_parts (is_inner segment) (are_messages true segments) both in
          let tags = inner_tags segment parts.0 in
          let later = ends_from segments parts.1 in
          let front : before_trailer (segment ∷ segments) ≡ segment ∷ before_trailer segments = rw other refl in
          let last : trailer_in (segment ∷ segments) ≡ trailer_in segments = rw other refl in
          record {
            behind = later.behind;
            inner = ap (list_all is_inner) front ∙ and_from (is_inner segment) (list_all is_inner (before_trailer segments)) parts.0 later.inner;
            trailer = ap ends_message last ∙ later.trailer;
            are = ap (λ (t : List Content). segment ∷ t) later.are
                ∙ sym (ap (λ (t : List Content). t ++ trailer_in (segment ∷ segments) ∷ later.behind) front ∙ ap (λ (t : Content). segment ∷ before_trailer segments ++ t ∷ later.behind) last);
            further = later.further;
            others = (let skipped : messages_in (segment ∷ segments) ≡ messages_in segments = rw tags.0 refl in skipped) ∙ later.others;
          }
    ]

-- ---- messages one after the other

regroup : (header : Content) (inner : List Content) (trailer : Content) (others last : List Content) → header ∷ (inner ++ trailer ∷ (others ++ last)) ≡ (header ∷ inner ++ trailer ∷ []) ++ others ++ last
regroup header inner trailer others last =
    ap (λ (t : List Content). header ∷ t) (sym (append_assoc (inner ++ trailer ∷ []) others last ∙ append_assoc inner (trailer ∷ []) (others ++ last)))

stand : (fuel : ℕ) (segments : List Content) → length segments ≤ fuel → are_messages false segments ≡ true → AreMessages segments (messages_in segments)
stand fuel [] h e = absurd (false≢true e)
stand zero (segment ∷ segments) h e = absurd (omega arith)
stand (suc fuel) (segment ∷ segments) h e =
    elim (cases_Bool (begins_message segment)) [
      | inl begins ↦
          let begun : are_messages true segments ≡ true = rw begins at e in
          let ends = ends_from segments begun in
          let shorter : length ends.behind ≤ fuel = omega (arith, ap length ends.are, length-append (before_trailer segments) (trailer_in segments ∷ ends.behind)) in
          first_stands segment segments begins ends (stand fuel ends.behind shorter ends.further)
      | inr other ↦
          let both : has_tag (codes "UNZ") segment && (length segments == 0) ≡ true = rw other at e in
          let parts = and_parts (has_tag (codes "UNZ") segment) (length segments == 0) both in
          let none : segments ≡ [] = nil_from_length segments (eqb-true (length segments) 0 parts.1) in
          let no_message : messages_in (segment ∷ segments) ≡ [] = (let skipped : messages_in (segment ∷ segments) ≡ messages_in segments = rw other refl in skipped) ∙ ap messages_in none in
          subst (AreMessages (segment ∷ segments)) (sym no_message) (record { trailer = segment; ends = parts.0; all = tt; are = ap (λ (t : List Content). segment ∷ t) none })
    ]
  where
    first_stands : (segment : Content) (segments : List Content) → begins_message segment ≡ true → (ends : Ends segments) → AreMessages ends.behind (messages_in ends.behind) → AreMessages (segment ∷ segments) (messages_in (segment ∷ segments))
    first_stands segment segments begins ends later =
        let first : messages_in (segment ∷ segments) ≡ message_from segment segments ∷ messages_in segments = rw begins refl in
        let here : messages_in (segment ∷ segments) ≡ message_from segment segments ∷ messages_in ends.behind = first ∙ ap (λ (m : List Message). message_from segment segments ∷ m) ends.others in
        let inner = before_trailer segments in
        let last = trailer_in segments in
        let whole : segment ∷ segments ≡ segment ∷ (inner ++ last ∷ (flat_map message_segments (messages_in ends.behind) ++ later.trailer ∷ [])) =
        ap (λ (t : List Content). segment ∷ t) (ends.are ∙ ap (λ (t : List Content). inner ++ last ∷ t) later.are) in
        subst (AreMessages (segment ∷ segments)) (sym here) (record {
          trailer = later.trailer;
          ends = later.ends;
          all = (record { header = begins; segments = ends.inner; trailer = ends.trailer }, later.all);
          are = whole ∙ regroup segment inner last (flat_map message_segments (messages_in ends.behind)) (later.trailer ∷ []);
        })

-- ---- the other way

-- what the tests say of a message that has begun
record Passes (inner : List Content) (trailer : Content) (behind : List Content) : Type 0 where
  test : are_messages true (inner ++ trailer ∷ behind) ≡ are_messages false behind
  before : before_trailer (inner ++ trailer ∷ behind) ≡ inner
  last : trailer_in (inner ++ trailer ∷ behind) ≡ trailer
  others : messages_in (inner ++ trailer ∷ behind) ≡ messages_in behind

passes : (inner : List Content) (trailer : Content) (behind : List Content) → list_all is_inner inner ≡ true → ends_message trailer ≡ true → Passes inner trailer behind
passes [] trailer behind all ends =
    let no_begin : begins_message trailer ≡ false = other_tag trailer (codes "UNT") (codes "UNH") refl ends in
    record { test = rw ends refl; before = rw ends refl; last = rw ends refl; others = rw no_begin refl }
passes (segment ∷ inner) trailer behind all ends =
    let parts = and_parts (is_inner segment) (list_all is_inner inner) all in
    let tags = inner_tags segment parts.0 in
    let later = passes inner trailer behind parts.1 ends in
    record {
      test = (let one : are_messages true (segment ∷ (inner ++ trailer ∷ behind)) ≡ (is_inner segment && are_messages true (inner ++ trailer ∷ behind)) = rw tags.1 refl in one)
          ∙ ap (λ (b : Bool). b && are_messages true (inner ++ trailer ∷ behind)) parts.0 ∙ later.test;
      before = (let one : before_trailer (segment ∷ (inner ++ trailer ∷ behind)) ≡ segment ∷ before_trailer (inner ++ trailer ∷ behind) = rw tags.1 refl in one)
          ∙ ap (λ (t : List Content). segment ∷ t) later.before;
      last = (let one : trailer_in (segment ∷ (inner ++ trailer ∷ behind)) ≡ trailer_in (inner ++ trailer ∷ behind) = rw tags.1 refl in one) ∙ later.last;
      others = (let one : messages_in (segment ∷ (inner ++ trailer ∷ behind)) ≡ messages_in (inner ++ trailer ∷ behind) = rw tags.0 refl in one) ∙ later.others;
    }

are_all : (messages : List Message) (segments : List Content) → AreMessages segments messages → (are_messages false segments ≡ true) × (messages_in segments ≡ messages)
are_all [] segments h =
    let no_begin : begins_message h.trailer ≡ false = other_tag h.trailer (codes "UNZ") (codes "UNH") refl h.ends in
    rw h.are (rw (no_begin, h.ends) refl, rw no_begin refl)
are_all (message ∷ messages) segments h =
    let rest : List Content = flat_map message_segments messages ++ h.trailer ∷ [] in
    let whole : segments ≡ message.header ∷ (message.segments ++ message.trailer ∷ rest) =
    h.are ∙ sym (regroup message.header message.segments message.trailer (flat_map message_segments messages) (h.trailer ∷ [])) in
    let one : IsMessage message = h.all.0 in
    let passed = passes message.segments message.trailer rest one.segments one.trailer in
    let later = are_all messages rest (record { trailer = h.trailer; ends = h.ends; all = h.all.1; are = refl }) in
    let behind : List Content = message.segments ++ message.trailer ∷ rest in
    let test : are_messages false (message.header ∷ behind) ≡ are_messages true behind = rw one.header refl in
    let found : messages_in (message.header ∷ behind) ≡ message_from message.header behind ∷ messages_in behind = rw one.header refl in
    let same : message_from message.header behind ≡ message = as_message message.header message.segments message.trailer behind passed.before passed.last in (
      ap (are_messages false) whole ∙ test ∙ passed.test ∙ later.0,
      ap messages_in whole ∙ found ∙ ap (λ (m : Message). m ∷ messages_in behind) same ∙ ap (λ (ms : List Message). message ∷ ms) (passed.others ∙ later.1),
    )
  where
    as_message : (header : Content) (inner : List Content) (trailer : Content) (behind : List Content) → before_trailer behind ≡ inner → trailer_in behind ≡ trailer → message_from header behind ≡ (let m : Message = record { header = header; segments = inner; trailer = trailer } in m)
    as_message header inner trailer behind e f = rw (e, f) refl

pub messages_stand : MessagesStand
messages_stand segments = (λ h. stand (length segments) segments (omega arith) h, λ messages h. are_all messages segments h)

-- ==== TagLemmas: Segments whose tags begin with another letter than those of service segments.

another : (tag rest : List ℕ) → get_or tag 0 0 == 85 ≡ false → bytes_eq tag (85 ∷ rest) ≡ false
another [] rest other = refl
another (first ∷ tag) rest other = rw other refl

pub of_no_group : (segment : Content) → get_or segment.tag 0 0 == 85 ≡ false → is_of_functional_group segment ≡ false
of_no_group segment other = rw (another segment.tag (78 ∷ 71 ∷ []) other, another segment.tag (78 ∷ 69 ∷ []) other) refl

pub of_inside : (segment : Content) → get_or segment.tag 0 0 == 85 ≡ false → is_inner segment ≡ true
of_inside segment other =
    rw (another segment.tag (78 ∷ 72 ∷ []) other, another segment.tag (78 ∷ 84 ∷ []) other, another segment.tag (78 ∷ 66 ∷ []) other, another segment.tag (78 ∷ 90 ∷ []) other) refl
