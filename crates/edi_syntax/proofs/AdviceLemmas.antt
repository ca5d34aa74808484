-- The service characters that an advice names, and the text of an interchange that has one.
use Rattle.std.{specs.{List.{list_all, AllByRecursion, list_any}, Str.bytes_eq}, proofs.{Math.Bool.Bool-set, lemmas.Slice.Eq.bytes_eq-Decides}}
use Rattle.std.proofs.Common.{◌≡◌, ℕ, ◌≤◌, Bool, true, false, cond, not, ◌&&◌, nat_eq, nat_le, List, [], ◌∷◌, ◌++◌, length, take, drop, Option, Some, None, refl, sym, ap, subst, ◌∙◌, IsTrue, inl, inr, arith, codes, zero, suc, ◌-◌, get_or, map, append_assoc, ◌<◌, ◌||◌}
use Rattle.std.proofs.lemmas.Bool.{and_parts, and_from, eqb-true, false≢true, true≢false, cases_Bool, le-leb, leb-true, or_left, or_parts, eq-eqb}
use Rattle.std.proofs.lemmas.List.{take-append-drop, drop_at, take_at, take_all, take-append-le, length-append, append-nil, nil_from_length}
use Rattle.edi_syntax.specs.{Characters.{are_service_characters, begins_with_advice, is_data_byte, is_release}, Reading.{breaks_len, are_segments, segments_of}}
use Rattle.edi_syntax.specs.Advice.{ServiceCharacters, characters, advised_characters, may_be_used, default_service, service_with, has_advice, service_at, has_bad_advice, behind_advice, without_breaks}
use Rattle.edi_syntax.specs.{Text.{Content, SegmentsText, IsSameSegment, SpellsByte, Spells, ElementText, ElementsText, SegmentText}, Parts.value_of}
use Rattle.edi_syntax.specs.{Interchange.{release_byte, AdviceText, InterchangeText, segments_in, is_segment_text}, declared.characters.Service.Service}
use Rattle.edi_syntax.specs.{Tokens.{is_service, token_of, releases}, Written.{IsWritableSegment, AreSameSegments, WritesSegments, ReadsBack}}
use Rattle.edi_syntax.specs.Spelling.{spelled_byte, spelling, is_empty_value, is_empty_element, composite, elements_text, segment_text, segments_text, Writing, with_tag, with_element, with_elements, with_segment}
use Rattle.edi_syntax.specs.{declared.token.Token.Token, declared.token.Token.TheVariants.{Data, Release, Component, Element, Terminator, Invalid}}
use Rattle.edi_syntax.proofs.{SegmentsLemmas.{segments_sound, segments_complete, breaks_at, breaks_only, no_break_before}, PartLemmas.length-value}
use Rattle.edi_syntax.proofs.SegmentLemmas.{MeansUnreleased, token_means}
use mathlib.Core.HLevel.{Σ_prop_path}

service_from : (c : ServiceCharacters) × IsTrue (may_be_used c) → Service
service_from (c, usable) = record { component = c.component; element = c.element; release = c.release; terminator = c.terminator; distinct = usable }

-- two values with the same characters are one
pub same_service : (s t : Service) → characters s ≡ characters t → s ≡ t
unfolding service_from
same_service s t e =
    ap service_from (Σ_prop_path {A = ServiceCharacters} {B = λ c. IsTrue (may_be_used c)} (λ c. Bool-set (may_be_used c) true) {u = (characters s, s.distinct)} {v = (characters t, t.distinct)} e)

pub with_characters : (c : ServiceCharacters) (b : Bool) (h : may_be_used c ≡ b) → b ≡ true → characters (service_with c b h) ≡ c
with_characters c true h is = refl
with_characters c false h is = absurd (false≢true is)

-- the advice of a text is good where a service has the characters that it names
pub service_of_advice : (text : List ℕ) (s : Service) → begins_with_advice text ≡ true → 9 ≤ length text → characters s ≡ advised_characters text → (has_bad_advice text ≡ false) × (s ≡ service_at text)
service_of_advice text s begins long same =
    let usable : may_be_used (advised_characters text) ≡ true = ap may_be_used (sym same) ∙ s.distinct in
    let reaches : nat_le 9 (length text) ≡ true = le-leb 9 (length text) long in
    let whole : has_advice text ≡ true = and_from (begins_with_advice text) (nat_le 9 (length text)) begins reaches in
    let named : characters s ≡ characters (service_with (advised_characters text) (may_be_used (advised_characters text)) refl) = same ∙ sym (with_characters (advised_characters text) (may_be_used (advised_characters text)) refl usable) in (
      rw (begins, reaches, usable) refl,
      same_service s (service_with (advised_characters text) (may_be_used (advised_characters text)) refl) named
          ∙ ap (λ (b : Bool). cond b (service_with (advised_characters text) (may_be_used (advised_characters text)) refl) default_service) (sym whole),
    )

-- ---- an advice as a text

release_may_serve : (component element : ℕ) (release : Option ℕ) (terminator r : ℕ) → are_service_characters component element release terminator ≡ true → release ≡ Some r → nat_eq r 32 ≡ false
release_may_serve component element None terminator r usable used = absurd cc
release_may_serve component element (Some q) terminator r usable used =
    elim (cases_Bool (nat_eq r 32)) [
      | inl space ↦
          let is : q ≡ 32 = inner used ∙ eqb-true r 32 space in
          absurd (refused component element terminator (ap (λ (q : ℕ). are_service_characters component element (Some q) terminator) (sym is) ∙ usable))
      | inr other ↦ other
    ]
  where
    inner : Some q ≡ Some r → q ≡ r
    inner e = cc

    refused : (component element terminator : ℕ) → are_service_characters component element (Some 32) terminator ≡ true → ⊥
    refused component element terminator h =
        let one = and_parts _ (not (nat_eq 32 terminator)) h in
        let two = and_parts _ (not (nat_eq 32 element)) one.0 in
        let three = and_parts _ (not (nat_eq 32 component)) two.0 in
        let four = and_parts _ false three.0 in
        false≢true four.1

release_back : (o : Option ℕ) → ((r : ℕ) → o ≡ Some r → nat_eq r 32 ≡ false) → cond (nat_eq (release_byte o) 32) None (Some (release_byte o)) ≡ o
release_back None other = refl
release_back (Some r) other = rw (other r refl) refl

release_kept : (b : ℕ) → release_byte (cond (nat_eq b 32) None (Some b)) ≡ b
release_kept b =
    elim (cases_Bool (nat_eq b 32)) [
      | inl is ↦ rw is (sym (eqb-true b 32 is))
      | inr other ↦ rw other refl
    ]

-- the characters of a text with an advice are those that it names
characters_at : (text : List ℕ) → begins_with_advice text ≡ true → has_bad_advice text ≡ false → (characters (service_at text) ≡ advised_characters text) × (9 ≤ length text)
characters_at text begins good =
    let whole : nat_le 9 (length text) && may_be_used (advised_characters text) ≡ true = not_not (begins_with_advice text) (nat_le 9 (length text) && may_be_used (advised_characters text)) begins good in
    let parts = and_parts (nat_le 9 (length text)) (may_be_used (advised_characters text)) whole in
    let has : has_advice text ≡ true = and_from (begins_with_advice text) (nat_le 9 (length text)) begins parts.0 in (
      ap (λ (b : Bool). characters (cond b (service_with (advised_characters text) (may_be_used (advised_characters text)) refl) default_service)) has
          ∙ with_characters (advised_characters text) (may_be_used (advised_characters text)) refl parts.1,
      leb-true 9 (length text) parts.0,
    )
  where
    not_not : (a b : Bool) → a ≡ true → a && not b ≡ false → b ≡ true
    not_not true true h e = refl
    not_not true false h e = absurd (true≢false e)
    not_not false b h e = absurd (false≢true h)

advice_named : (a b c d e f g h i : ℕ) (rest : List ℕ) (s : Service) → begins_with_advice (a ∷ b ∷ c ∷ d ∷ e ∷ f ∷ g ∷ h ∷ i ∷ rest) ≡ true → characters s ≡ advised_characters (a ∷ b ∷ c ∷ d ∷ e ∷ f ∷ g ∷ h ∷ i ∷ rest) → AdviceText s (a ∷ b ∷ c ∷ d ∷ e ∷ f ∷ g ∷ h ∷ i ∷ [])
advice_named a b c d e f g h i rest s begins same =
    let tag : a ∷ b ∷ c ∷ [] ≡ codes "UNA" = (bytes_eq-Decides (a ∷ b ∷ c ∷ []) (codes "UNA")).0 begins in
    let six : s.component ∷ s.element ∷ f ∷ release_byte s.release ∷ h ∷ s.terminator ∷ [] ≡ d ∷ e ∷ f ∷ release_byte (cond (nat_eq g 32) None (Some g)) ∷ h ∷ i ∷ [] =
    ap (λ (c : ServiceCharacters). c.component ∷ c.element ∷ f ∷ release_byte c.release ∷ h ∷ c.terminator ∷ []) same in
    let kept : s.component ∷ s.element ∷ f ∷ release_byte s.release ∷ h ∷ s.terminator ∷ [] ≡ d ∷ e ∷ f ∷ g ∷ h ∷ i ∷ [] =
    six ∙ ap (λ (r : ℕ). d ∷ e ∷ f ∷ r ∷ h ∷ i ∷ []) (release_kept g) in
    (f, h, ap (λ (t : List ℕ). t ++ d ∷ e ∷ f ∷ g ∷ h ∷ i ∷ []) tag ∙ ap (λ (t : List ℕ). codes "UNA" ++ t) (sym kept))

advice_sound_at : (text : List ℕ) (s : Service) → 9 ≤ length text → begins_with_advice text ≡ true → characters s ≡ advised_characters text → AdviceText s (take 9 text)
advice_sound_at [] s long begins same = absurd (omega arith)
advice_sound_at (a ∷ []) s long begins same = absurd (omega arith)
advice_sound_at (a ∷ b ∷ []) s long begins same = absurd (omega arith)
advice_sound_at (a ∷ b ∷ c ∷ []) s long begins same = absurd (omega arith)
advice_sound_at (a ∷ b ∷ c ∷ d ∷ []) s long begins same = absurd (omega arith)
advice_sound_at (a ∷ b ∷ c ∷ d ∷ e ∷ []) s long begins same = absurd (omega arith)
advice_sound_at (a ∷ b ∷ c ∷ d ∷ e ∷ f ∷ []) s long begins same = absurd (omega arith)
advice_sound_at (a ∷ b ∷ c ∷ d ∷ e ∷ f ∷ g ∷ []) s long begins same = absurd (omega arith)
advice_sound_at (a ∷ b ∷ c ∷ d ∷ e ∷ f ∷ g ∷ h ∷ []) s long begins same = absurd (omega arith)
advice_sound_at (a ∷ b ∷ c ∷ d ∷ e ∷ f ∷ g ∷ h ∷ i ∷ rest) s long begins same = advice_named a b c d e f g h i rest s begins same

advice_sound : (text : List ℕ) → begins_with_advice text ≡ true → has_bad_advice text ≡ false → AdviceText (service_at text) (take 9 text)
advice_sound text begins good =
    let named = characters_at text begins good in advice_sound_at text (service_at text) named.1 begins named.0

-- what a text with an advice is
record IsAdvised (s : Service) (more text : List ℕ) : Type 0 where
  begins : begins_with_advice text ≡ true
  good : has_bad_advice text ≡ false
  service : s ≡ service_at text
  behind : drop 9 text ≡ more

advice_complete : (s : Service) (advice more : List ℕ) → AdviceText s advice → IsAdvised s more (advice ++ more)
advice_complete s advice more (decimal, reserved, is) =
    let whole : List ℕ = 85 ∷ 78 ∷ 65 ∷ s.component ∷ s.element ∷ decimal ∷ release_byte s.release ∷ reserved ∷ s.terminator ∷ more in
    let used : cond (nat_eq (release_byte s.release) 32) None (Some (release_byte s.release)) ≡ s.release =
    release_back s.release (λ r e. release_may_serve s.component s.element s.release s.terminator r s.distinct e) in
    let with_release : Option ℕ → ServiceCharacters = λ r. record { component = s.component; element = s.element; release = r; terminator = s.terminator } in
    let same : characters s ≡ advised_characters whole = ap with_release (sym used) in
    let found = service_of_advice whole s refl (omega arith) same in
    let known : IsAdvised s more whole = record { begins = refl; good = found.0; service = found.1; behind = refl } in
    rw is known

-- ---- the text of an interchange

plain_service : (text : List ℕ) → begins_with_advice text ≡ false → service_at text ≡ default_service
plain_service text none = rw none refl

pub interchange_sound : (text : List ℕ) → has_bad_advice text ≡ false → is_segment_text text ≡ true → InterchangeText (segments_in text) text
interchange_sound text good sound =
    let spelled : SegmentsText (service_at text) (segments_in text) (behind_advice text) = segments_sound (service_at text) (behind_advice text) sound in
    elim (cases_Bool (begins_with_advice text)) [
      | inl begins ↦
          let behind : List ℕ = drop 9 text in
          let breaks : List ℕ = take (breaks_len behind) behind in
          let is : behind_advice text ≡ without_breaks behind = ap (λ (b : Bool). cond b (without_breaks (drop 9 text)) text) begins in
          let whole : text ≡ take 9 text ++ (breaks ++ behind_advice text) =
          sym (take-append-drop 9 text) ∙ ap (λ (t : List ℕ). take 9 text ++ t) (sym (take-append-drop (breaks_len behind) behind) ∙ ap (λ (t : List ℕ). breaks ++ t) (sym is)) in
          inl (service_at text, take 9 text, breaks, behind_advice text, advice_sound text begins good, breaks_at behind, spelled, whole)
      | inr none ↦
          let service = plain_service text none in
          let is : behind_advice text ≡ text = ap (λ (b : Bool). cond b (without_breaks (drop 9 text)) text) none in
          inr (none, subst (λ (t : List ℕ). SegmentsText default_service (segments_in text) t) is (subst (λ (s : Service). SegmentsText s (segments_in text) (behind_advice text)) service spelled))
    ]

-- what is read of a text
abbrev Reads : List Content → List ℕ → Type 0
Reads segments text = (has_bad_advice text ≡ false) × (is_segment_text text ≡ true) × (segments_in text ≡ segments)

reads_from : (segments : List Content) (text rest : List ℕ) (s : Service) → has_bad_advice text ≡ false → s ≡ service_at text → behind_advice text ≡ rest → SegmentsText s segments rest → Reads segments text
reads_from segments text rest s good service behind spelled =
    let found = segments_complete s segments rest spelled in (
      good,
      ap (λ (s : Service). are_segments s (behind_advice text)) (sym service) ∙ ap (are_segments s) behind ∙ found.0,
      ap (λ (s : Service). segments_of s (behind_advice text)) (sym service) ∙ ap (segments_of s) behind ∙ found.1,
    )

pub interchange_complete : (segments : List Content) (text : List ℕ) → InterchangeText segments text → Reads segments text
interchange_complete segments text (inl (s, advice, breaks, rest, named, are_breaks, spelled, whole)) =
    let found = advice_complete s advice (breaks ++ rest) named in
    let is : IsAdvised s (breaks ++ rest) text = subst (IsAdvised s (breaks ++ rest)) (sym whole) found in
    let skipped : breaks_len (breaks ++ rest) ≡ length breaks = breaks_only breaks rest are_breaks (no_break_before s segments rest spelled) in
    let behind : behind_advice text ≡ rest =
    ap (λ (b : Bool). cond b (without_breaks (drop 9 text)) text) is.begins
    ∙ ap without_breaks is.behind ∙ drop_at breaks rest (breaks_len (breaks ++ rest)) (sym skipped) in
    reads_from segments text rest s is.good is.service behind spelled
interchange_complete segments text (inr (none, spelled)) =
    let behind : behind_advice text ≡ text = ap (λ (b : Bool). cond b (without_breaks (drop 9 text)) text) none in
    reads_from segments text text default_service (ap (λ (b : Bool). b && not (nat_le 9 (length text) && may_be_used (advised_characters text))) none) (sym (plain_service text none)) behind spelled

-- ==== WriterLemmas: What the calls of a writer write is a text of the segments.

-- ---- the calls of a writer

nothing_kept : (elements : List (List (List ℕ))) → list_all is_empty_element elements ≡ true → elements_text elements ≡ []
nothing_kept [] h = refl
nothing_kept (element ∷ elements) h = rw h refl

-- one element in front of others, which are all empty or not
one_more : (empty others_empty : Bool) (text one others : List ℕ) (kept : ℕ) → kept ≤ length text → (others_empty ≡ true → others ≡ []) → cond others_empty (take (cond empty kept (length (text ++ one))) (text ++ one)) (text ++ one ++ others) ≡ cond (empty && others_empty) (take kept text) (text ++ cond (empty && others_empty) [] (one ++ others))
one_more true true text one others kept within none = take-append-le kept text one within
one_more true false text one others kept within none = append_assoc text one others
one_more false true text one others kept within none =
    take_all (length (text ++ one)) (text ++ one) (omega arith) ∙ ap (λ (t : List ℕ). text ++ t) (sym (append-nil one) ∙ ap (λ (t : List ℕ). one ++ t) (sym (none refl)))
one_more false false text one others kept within none = append_assoc text one others

kept_within : (empty : Bool) (text one : List ℕ) (kept : ℕ) → kept ≤ length text → cond empty kept (length (text ++ one)) ≤ length (text ++ one)
kept_within true text one kept within = omega (arith, length-append text one)
kept_within false text one kept within = omega arith

-- what stands of the elements that were written
elements_kept : (w : Writing) (elements : List (List (List ℕ))) → w.kept ≤ length w.text → take (with_elements w elements).kept (with_elements w elements).text ≡ cond (list_all is_empty_element elements) (take w.kept w.text) (w.text ++ elements_text elements)
elements_kept w [] within = refl
elements_kept w (element ∷ elements) within =
    elements_kept (with_element w element) elements (kept_within (is_empty_element element) w.text (43 ∷ composite element) w.kept within)
    ∙ one_more (is_empty_element element) (list_all is_empty_element elements) w.text (43 ∷ composite element) (elements_text elements) w.kept within (nothing_kept elements)

either_way : (b : Bool) (text others : List ℕ) → (b ≡ true → others ≡ []) → cond b (take (length text) text) (text ++ others) ≡ text ++ others
either_way true text others none = take_all (length text) text (omega arith) ∙ sym (ap (λ (t : List ℕ). text ++ t) (none refl) ∙ append-nil text)
either_way false text others none = refl

segment_written : (w : Writing) (segment : Content) → (with_segment w segment).text ≡ w.text ++ segment_text segment
segment_written w segment =
    let tagged : List ℕ = w.text ++ segment.tag in
    let stands : take (with_elements (with_tag w segment.tag) segment.elements).kept (with_elements (with_tag w segment.tag) segment.elements).text ≡ tagged ++ elements_text segment.elements =
    elements_kept (with_tag w segment.tag) segment.elements (omega arith) ∙ either_way (list_all is_empty_element segment.elements) tagged (elements_text segment.elements) (nothing_kept segment.elements) in
    ap (λ (t : List ℕ). t ++ 39 ∷ []) stands ∙ simp append_assoc

pub writes_segments : WritesSegments
writes_segments w [] between = (sym (append-nil w.text), between)
writes_segments w (segment ∷ segments) between =
    let rest = writes_segments (with_segment w segment) segments refl in
    (rest.0 ∙ ap (λ (t : List ℕ). t ++ segments_text segments) (segment_written w segment) ∙ append_assoc w.text (segment_text segment) (segments_text segments), rest.1)

-- ---- the text of segments

-- the values without the empty ones at the end, but for one
abbrev trimmed_values : List (List ℕ) → List (List ℕ)
trimmed_values [] = [] ∷ []
trimmed_values (value ∷ values) = value ∷ cond (list_all is_empty_value values) [] (trimmed_values values)

-- the elements without the empty ones at the end
abbrev trimmed_elements : List (List (List ℕ)) → List (List (List ℕ))
trimmed_elements [] = []
trimmed_elements (element ∷ elements) = cond (list_all is_empty_element (element ∷ elements)) [] (trimmed_values element ∷ trimmed_elements elements)

abbrev trimmed : Content → Content
trimmed segment = record { tag = segment.tag; elements = trimmed_elements segment.elements }

byte_spelled : (b : ℕ) → is_data_byte b ≡ true → SpellsByte default_service b (spelled_byte b)
byte_spelled b writable =
    elim (cases_Bool (is_service default_service b)) [
      | inl is ↦ rw is (refl, refl, or_left (is_data_byte b) (is_service default_service b) writable)
      | inr other ↦
          let plain : not (is_service default_service b) ≡ true = rw other refl in
          rw other (refl, and_from (is_data_byte b) (not (is_service default_service b)) writable plain)
    ]

value_spelled : (value : List ℕ) → list_all is_data_byte value ≡ true → Spells default_service value (spelling value)
value_spelled [] h = refl
value_spelled (b ∷ value) h =
    let parts = and_parts (is_data_byte b) (list_all is_data_byte value) h in
    (spelled_byte b, spelling value, byte_spelled b parts.0, value_spelled value parts.1, refl)

last_spelled : (value : List ℕ) → list_all is_data_byte value ≡ true → Spells default_service value (spelling value ++ [])
last_spelled value h = subst (Spells default_service value) (sym (append-nil (spelling value))) (value_spelled value h)

element_spelled : (values : List (List ℕ)) → list_all (list_all is_data_byte) values ≡ true → ElementText default_service (trimmed_values values) (composite values)
element_spelled [] h = refl
element_spelled (value ∷ []) h = last_spelled value (and_parts (list_all is_data_byte value) true h).0
element_spelled (value ∷ next ∷ values) h =
    let parts = and_parts (list_all is_data_byte value) (list_all (list_all is_data_byte) (next ∷ values)) h in
    elim (cases_Bool (list_all is_empty_value (next ∷ values))) [
      | inl empty ↦ rw empty (last_spelled value parts.0)
      | inr some ↦ rw some (spelling value, composite (next ∷ values), value_spelled value parts.0, element_spelled (next ∷ values) parts.1, refl)
    ]

elements_spelled : (elements : List (List (List ℕ))) → list_all (list_all (list_all is_data_byte)) elements ≡ true → ElementsText default_service (trimmed_elements elements) (elements_text elements)
elements_spelled [] h = refl
elements_spelled (element ∷ elements) h =
    let parts = and_parts (list_all (list_all is_data_byte) element) (list_all (list_all (list_all is_data_byte)) elements) h in
    elim (cases_Bool (is_empty_element element && list_all is_empty_element elements)) [
      | inl empty ↦ rw empty refl
      | inr some ↦ rw some (composite element, elements_text elements, element_spelled element parts.0, elements_spelled elements parts.1, refl)
    ]

segment_spelled : (segment : Content) → IsWritableSegment segment → SegmentText default_service (trimmed segment) (segment_text segment)
segment_spelled segment ((tag, other), writable) = (tag, elements_text segment.elements, elements_spelled segment.elements writable, refl)

segments_spelled : (segments : List Content) → AllByRecursion IsWritableSegment segments → SegmentsText default_service (map trimmed segments) (segments_text segments)
segments_spelled [] h = refl
segments_spelled (segment ∷ segments) (first, others) =
    (segment_text segment, [], segments_text segments, segment_spelled segment first, refl, segments_spelled segments others, ap (λ (t : List ℕ). t ++ segments_text segments) (sym (append-nil (segment_text segment))))

-- ---- the same segments

empty_value_at : (values : List (List ℕ)) (k : ℕ) → list_all is_empty_value values ≡ true → get_or values k [] ≡ []
empty_value_at [] k h = refl
empty_value_at (value ∷ values) zero h = nil_from_length value (eqb-true (length value) 0 (and_parts (is_empty_value value) (list_all is_empty_value values) h).0)
empty_value_at (value ∷ values) (suc k) h = empty_value_at values k (and_parts (is_empty_value value) (list_all is_empty_value values) h).1

empty_element_at : (elements : List (List (List ℕ))) (i k : ℕ) → list_all is_empty_element elements ≡ true → get_or (get_or elements i []) k [] ≡ []
empty_element_at [] i k h = refl
empty_element_at (element ∷ elements) zero k h = empty_value_at element k (and_parts (is_empty_element element) (list_all is_empty_element elements) h).0
empty_element_at (element ∷ elements) (suc i) k h = empty_element_at elements i k (and_parts (is_empty_element element) (list_all is_empty_element elements) h).1

same_value : (values : List (List ℕ)) (k : ℕ) → get_or (trimmed_values values) k [] ≡ get_or values k []
same_value [] zero = refl
same_value [] (suc k) = refl
same_value (value ∷ values) zero = refl
same_value (value ∷ values) (suc k) =
    elim (cases_Bool (list_all is_empty_value values)) [
      | inl empty ↦ rw empty (sym (empty_value_at values k empty))
      | inr some ↦ rw some (same_value values k)
    ]

same_element : (elements : List (List (List ℕ))) (i k : ℕ) → get_or (get_or (trimmed_elements elements) i []) k [] ≡ get_or (get_or elements i []) k []
same_element [] i k = refl
same_element (element ∷ elements) i k =
    elim (cases_Bool (is_empty_element element && list_all is_empty_element elements)) [
      | inl empty ↦ rw empty (sym (empty_element_at (element ∷ elements) i k empty))
      | inr some ↦ rw some (at (λ i. same_element elements i k) i)
    ]
  where
    at : ((i : ℕ) → get_or (get_or (trimmed_elements elements) i []) k [] ≡ get_or (get_or elements i []) k []) → (i : ℕ) → get_or (get_or (trimmed_values element ∷ trimmed_elements elements) i []) k [] ≡ get_or (get_or (element ∷ elements) i []) k []
    at others zero = same_value element k
    at others (suc i) = others i

same_trimmed : (segment : Content) → IsSameSegment (trimmed segment) segment
same_trimmed segment = record { tag = refl; components = λ i k. same_element segment.elements (i - 1) (k - 1) }

all_same : (segments : List Content) → AreSameSegments (map trimmed segments) segments
all_same [] = tt
all_same (segment ∷ segments) = (same_trimmed segment, all_same segments)

-- ---- no advice

no_advice : (segments : List Content) → AllByRecursion IsWritableSegment segments → begins_with_advice (segments_text segments) ≡ false
no_advice [] h = refl
no_advice (segment ∷ segments) (((tag, other), writable), others) =
    let rest : List ℕ = elements_text segment.elements ++ (39 ∷ [] ++ segments_text segments) in
    let whole : segments_text (segment ∷ segments) ≡ segment.tag ++ rest = simp append_assoc in
    let front : take 3 (segments_text (segment ∷ segments)) ≡ segment.tag = ap (take 3) whole ∙ take_at segment.tag rest 3 tag.0 in
    ap (λ (t : List ℕ). bytes_eq t (codes "UNA")) front ∙ other_tag (bytes_eq segment.tag (codes "UNA")) refl
  where
    other_tag : (b : Bool) → bytes_eq segment.tag (codes "UNA") ≡ b → bytes_eq segment.tag (codes "UNA") ≡ false
    other_tag true is = absurd (other ((bytes_eq-Decides segment.tag (codes "UNA")).0 is))
    other_tag false is = is

pub reads_back : ReadsBack
reads_back segments writable =
    let text : InterchangeText (map trimmed segments) (segments_text segments) = inr (no_advice segments writable, segments_spelled segments writable) in
    (map trimmed segments, all_same segments, text, (interchange_complete (map trimmed segments) (segments_text segments) text).2)

-- ==== PlainLemmas: A text with no release character among its bytes is the value that it spells.

pub releases_never : (text : List ℕ) → list_any (is_release None) text ≡ false
releases_never [] = refl
releases_never (b ∷ text) = releases_never text

pub releases_one : (r : ℕ) (text : List ℕ) → list_any (is_release (Some r)) text ≡ list_any (λ b. nat_eq b r) text
releases_one r [] = refl
releases_one r (b ∷ text) = ap (λ (rest : Bool). nat_eq b r || rest) (releases_one r text)

no_release : (s : Service) (b : ℕ) (t : Token) → MeansUnreleased s b t → is_release s.release b ≡ false → releases t ≡ false
no_release s b Data means h = refl
no_release s b Release means h = absurd (false≢true (sym h ∙ ap (λ (o : Option ℕ). is_release o b) means ∙ eq-eqb b b refl))
no_release s b Component means h = refl
no_release s b Element means h = refl
no_release s b Terminator means h = refl
no_release s b Invalid means h = refl

pub plain_value : (s : Service) (text : List ℕ) → list_any (is_release s.release) text ≡ false → value_of s false text ≡ text
unfolding value_of
plain_value s [] h = refl
plain_value s (b ∷ text) h =
    let parts = or_parts (is_release s.release b) (list_any (is_release s.release) text) h in
    let shows = no_release s b (token_of s false b) (token_means s b) parts.0 in
    rw shows (ap (λ (t : List ℕ). b ∷ t) (plain_value s text parts.1))

-- what all bytes of a text are, all bytes of the value are
pub value_all : (p : ℕ → Bool) (s : Service) (released : Bool) (text : List ℕ) → list_all p text ≡ true → list_all p (value_of s released text) ≡ true
unfolding value_of
value_all p s released [] h = refl
value_all p s released (b ∷ text) h =
    let t = token_of s released b in
    let parts = and_parts (p b) (list_all p text) h in
    let rest = value_all p s (releases t) text parts.1 in
    elim (cases_Bool (releases t)) [
      | inl e ↦ rw e (rw e at rest)
      | inr e ↦ rw e (and_from _ _ parts.0 (rw e at rest))
    ]

-- a text that is too short to spell these bytes
pub short_differs : (s : Service) (text other : List ℕ) → length text < length other → bytes_eq (value_of s false text) other ≡ false
short_differs s text other less =
    elim (cases_Bool (bytes_eq (value_of s false text) other)) [
      | inl e ↦ (let same = ap length ((bytes_eq-Decides (value_of s false text) other).0 e) in let most = length-value s text false in absurd (omega (arith, same, most)))
      | inr e ↦ e
    ]
