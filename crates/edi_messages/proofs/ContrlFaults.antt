-- A CONTRL's text is read as its segments, without fault.
use Rattle.std.{specs.{Prelude.zip, List.{list_any, AllByRecursion}, Option.is_none}, proofs.{lemmas.Bool.and_parts, lemmas.List.length-append}}
use Rattle.std.proofs.Common.{◌≡◌, ℕ, ◌+◌, ◌<◌, ◌≤◌, ◌^◌, ◌==◌, Bool, true, false, not, ◌&&◌, ◌||◌, List, [], ◌∷◌, ◌++◌, length, map, codes, None, refl, ap, ◌∙◌, arith}
use Rattle.std.proofs.lemmas.List.Folds.{list_any-append}
use Rattle.edi_syntax.specs.{Text.{Content, has_tag}, Interchange.most_bytes, Spelling.segments_text, Written.IsWritableSegment, Messages.Message}
use Rattle.edi_syntax.specs.{Header.{sender, recipient, control_number, preparation, names_partners, is_printable_element}, Faults.header_fault_of}
use Rattle.edi_syntax.{specs.Envelope.{header_of, trailer_of, messages_of, has_envelope, is_of_functional_group}, proofs.BlockLemmas.{header_found, body_found}}
use Rattle.edi_messages.specs.Contrl.{unb, unh, uci, ucm, unt, unz, answer_segments, contrl_text, rejection_text, IsReadAs, ContrlsAreWithoutFault}
use Rattle.edi_messages.specs.{declared.message.Verdict.Verdict, declared.message.Verdict.TheVariants.{Accepted, Rejected}}
use Rattle.edi_messages.proofs.SameSegments.{AreInner, ucms_inner, last, faultless, four_bytes_each, read_without_fault}
use Rattle.edi_messages.proofs.WritableContrl.{printable_component, writable_header, uci_written, ucms_written, answer_writable}

-- ---- its header

-- what a header that names its partners has
record NamesPartners (header : Content) : Type 0 where
  sender : not (length (sender header 1) == 0) ≡ true
  recipient : not (length (recipient header 1) == 0) ≡ true
  sender_printed : is_printable_element header 2 ≡ true
  recipient_printed : is_printable_element header 3 ≡ true

partners : (header : Content) → names_partners header ≡ true → NamesPartners header
partners header named =
    let sender_is : Bool = not (length (sender header 1) == 0) in
    let recipient_is : Bool = not (length (recipient header 1) == 0) in
    let three = and_parts (sender_is && recipient_is && is_printable_element header 2) (is_printable_element header 3) named in
    let two = and_parts (sender_is && recipient_is) (is_printable_element header 2) three.0 in
    let one = and_parts sender_is recipient_is two.0 in
    record { sender = one.0; recipient = one.1; sender_printed = two.1; recipient_printed = three.1 }

answer_names : (header : Content) → NamesPartners header → names_partners (unb header) ≡ true
answer_names header h =
    let from_sender = λ (component : ℕ). printable_component header 2 component h.sender_printed in
    let from_recipient = λ (component : ℕ). printable_component header 3 component h.recipient_printed in
    rw (h.sender, h.recipient, from_sender 1, from_sender 2, from_sender 3, from_recipient 1, from_recipient 2, from_recipient 3) refl

answer_envelope : (header : Content) (between : List Content) → NamesPartners header → has_envelope (answer_segments header between) ≡ true
answer_envelope header between h =
    rw (ap (has_tag (codes "UNZ")) (last between unh header (length between + 2)), answer_names header h) refl

answer_ungrouped : (header : Content) (between : List Content) → list_any is_of_functional_group between ≡ false → list_any is_of_functional_group (answer_segments header between) ≡ false
answer_ungrouped header between none =
    let n = length between + 2 in
    list_any-append is_of_functional_group between (unt n ∷ unz header ∷ []) ∙ ap (λ (some : Bool). some || false) none

answer_header : (header : Content) (between : List Content) → NamesPartners header → is_none (control_number header) ≡ false → is_none (preparation header) ≡ false
    → list_any is_of_functional_group between ≡ false → header_fault_of (answer_segments header between) ≡ None
answer_header header between named numbered dated ungrouped =
    rw (answer_envelope header between named, answer_ungrouped header between ungrouped, numbered, dated) refl

-- ---- the whole

ucms_ungrouped : (verdicts : List Verdict) (messages : List Message) → list_any is_of_functional_group (map ucm (zip verdicts messages)) ≡ false
ucms_ungrouped [] messages = refl
ucms_ungrouped (verdict ∷ verdicts) [] = refl
ucms_ungrouped (verdict ∷ verdicts) (message ∷ messages) = ucms_ungrouped verdicts messages

length_answer : (header : Content) (between : List Content) → length (answer_segments header between) ≡ length between + 4
length_answer header between =
    let behind : length (between ++ unt (length between + 2) ∷ unz header ∷ []) ≡ length between + 2 = length-append between (unt (length between + 2) ∷ unz header ∷ []) in
    omega (arith, behind)

-- an answer with these segments after UCI
answer_without_fault : (segments : List Content) (verdict : Verdict) (more : List Content) → header_fault_of segments ≡ None
    → AreInner more → list_any is_of_functional_group more ≡ false → AllByRecursion IsWritableSegment more
    → length (segments_text (answer_segments (header_of segments) (uci (header_of segments) verdict ∷ more))) ≤ most_bytes
    → IsReadAs (answer_segments (header_of segments) (uci (header_of segments) verdict ∷ more)) (segments_text (answer_segments (header_of segments) (uci (header_of segments) verdict ∷ more)))
answer_without_fault segments verdict more none inner ungrouped writable short =
    let header = header_of segments in
    let between : List Content = uci header verdict ∷ more in
    let found = header_found segments none in
    let ends : Bool = has_tag (codes "UNB") header && has_tag (codes "UNZ") (trailer_of segments) in
    let named = partners header (and_parts ends (names_partners header) found.envelope).1 in
    let may = writable_header header named.sender_printed named.recipient_printed found.numbered found.dated in
    let all = answer_writable header between may (uci_written header verdict may, writable) in
    let few : length between + 2 < 10 ^ 6 = omega (arith, four_bytes_each (answer_segments header between) all, length_answer header between, short) in
    read_without_fault (answer_segments header between) all short
    (answer_header header between named found.numbered found.dated ungrouped)
    (faultless header between (refl, refl, refl, inner) few)

pub contrls_are_without_fault : ContrlsAreWithoutFault
unfolding contrl_text rejection_text
contrls_are_without_fault segments none = (
  λ verdicts body short.
      let messages = messages_of segments in
      let ucms = map ucm (zip verdicts messages) in
      answer_without_fault segments Accepted ucms none (ucms_inner verdicts messages) (ucms_ungrouped verdicts messages) (ucms_written verdicts messages (body_found segments body).referenced) short,
  λ code short. answer_without_fault segments (Rejected code) [] none tt refl tt short,
)
