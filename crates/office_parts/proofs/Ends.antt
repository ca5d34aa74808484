-- What a text without fault has, and where it ends.
use Rattle.std.{specs.{Option.{option_map, option_map_or}, List.list_all, Str.bytes_eq}, proofs.lemmas.Slice.Eq.bytes_eq-Decides}
use Rattle.std.proofs.Common.{◌≡◌, ◌⊎◌, ℕ, ◌<◌, ◌≤◌, Bool, true, false, cond, not, ◌&&◌, nat_le, List, [], ◌∷◌, ◌++◌, length, take, codes, refl, sym, ap, subst, ◌∙◌, inl, inr, arith, suc, ◌+◌, ◌-◌, nat_eq, drop, Option, None, Some, append_assoc}
use Rattle.std.proofs.lemmas.Bool.{and_from, cases_Bool, cases_order, le-leb, and_parts, cond-false, ltb-false, eqb-true}
use Rattle.std.proofs.lemmas.List.{length-append, length-take, append-nil, length-drop, drop_at}
use Rattle.edi_syntax.specs.{Characters.{begins_with_advice, is_tag_byte, is_break}, Positions.position_after, declared.characters.Service.Service}
use Rattle.edi_syntax.specs.Advice.{advised_characters, may_be_used, default_service, service_with, has_advice, service_at, has_bad_advice, without_breaks}
use Rattle.edi_syntax.specs.{Cuts.{is_in_advice, breaks_advice, past_advice, is_closed, IsOpen}, Text.{Content, no_segment, has_tag, SegmentText, SegmentsText}}
use Rattle.edi_syntax.specs.{Interchange.{segments_in, is_segment_text, without_breaks_at_end, interchange_of}, Faults.{applies, fault_of}}
use Rattle.edi_syntax.{specs.Reading.{body_len, content_of, breaks_len, next_at, segments_of, are_segments}, proofs.CutLemmas.in_advice}
use Rattle.edi_syntax.specs.declared.interchange.SyntaxFault.TheVariants.{TooLong, Service as ServiceFault, Segment, NoEnvelope, Group, Version, Number, Moment, Test, MessageFrame}
use Rattle.edi_syntax.{specs.Messages.{begins_message, ends_message, is_inner, are_messages}, proofs.SegmentLemmas.{segment_at, segment_complete}}
use Rattle.edi_syntax.specs.Envelope.{header_of, behind_header, last_of, trailer_of, has_envelope}
use Rattle.edi_syntax.proofs.SegmentsLemmas.{break_at_end, breaks_only, tag_is_no_break, no_break_before, next_of_segments, next_of_are_segments}

-- ==== Advised: A front of a text is read as the text is, or ends within its advice.

-- the front has the text's service characters, and what stands after its advice is a front of what does in the text
pub record IsRead (front more : List ℕ) : Type 0 where
  pub service : service_at front ≡ service_at (front ++ more)
  pub past : past_advice (front ++ more) ≡ past_advice front ++ more
  pub unbroken : breaks_advice front ≡ false

read_plain : (front more : List ℕ) → begins_with_advice front ≡ false → begins_with_advice (front ++ more) ≡ false → IsRead front more
read_plain front more none none' = record {
  service = rw (none, none') refl;
  past = rw (none, none') refl;
  unbroken = rw none refl;
}

-- ---- after a whole advice

good_parts : (begins reaches usable : Bool) → begins ≡ true → begins && not (reaches && usable) ≡ false → (reaches ≡ true) × (usable ≡ true)
good_parts true true true is good = (refl, refl)
good_parts true true false is good = cc
good_parts true false usable is good = cc
good_parts false reaches usable is good = cc

has_nine : (a b c d e f g h i : ℕ) (rest more : List ℕ) → has_advice (a ∷ b ∷ c ∷ d ∷ e ∷ f ∷ g ∷ h ∷ i ∷ rest) ≡ has_advice (a ∷ b ∷ c ∷ d ∷ e ∷ f ∷ g ∷ h ∷ i ∷ rest ++ more)
has_nine a b c d e f g h i rest more =
    rw (le-leb 9 (length (a ∷ b ∷ c ∷ d ∷ e ∷ f ∷ g ∷ h ∷ i ∷ rest)) (omega arith), le-leb 9 (length (a ∷ b ∷ c ∷ d ∷ e ∷ f ∷ g ∷ h ∷ i ∷ rest ++ more)) (omega (arith, length-append rest more))) refl

read_long : (a b c d e f g h i : ℕ) (rest more : List ℕ) → begins_with_advice (a ∷ b ∷ c ∷ []) ≡ true → may_be_used (advised_characters (a ∷ b ∷ c ∷ d ∷ e ∷ f ∷ g ∷ h ∷ i ∷ [])) ≡ true
    → IsRead (a ∷ b ∷ c ∷ d ∷ e ∷ f ∷ g ∷ h ∷ i ∷ rest) more
read_long a b c d e f g h i rest more begins usable =
    let front : List ℕ = a ∷ b ∷ c ∷ d ∷ e ∷ f ∷ g ∷ h ∷ i ∷ rest in
    record {
      service = ap (λ (v : Bool). cond v (service_with (advised_characters front) (may_be_used (advised_characters front)) refl) default_service) (has_nine a b c d e f g h i rest more);
      past = (λ j. cond (begins j) (rest ++ more) (front ++ more)) ∙ sym (λ j. cond (begins j) rest front ++ more);
      unbroken = ap (λ (v : Bool). has_advice front && not v) usable ∙ never (has_advice front);
    }
  where
    never : (v : Bool) → v && not true ≡ false
    never true = refl
    never false = refl

read_nine : (front more : List ℕ) → 9 ≤ length front → begins_with_advice front ≡ true → may_be_used (advised_characters (front ++ more)) ≡ true → IsRead front more
read_nine [] more long begins usable = absurd (omega arith)
read_nine (a ∷ []) more long begins usable = absurd (omega arith)
read_nine (a ∷ b ∷ []) more long begins usable = absurd (omega arith)
read_nine (a ∷ b ∷ c ∷ []) more long begins usable = absurd (omega arith)
read_nine (a ∷ b ∷ c ∷ d ∷ []) more long begins usable = absurd (omega arith)
read_nine (a ∷ b ∷ c ∷ d ∷ e ∷ []) more long begins usable = absurd (omega arith)
read_nine (a ∷ b ∷ c ∷ d ∷ e ∷ f ∷ []) more long begins usable = absurd (omega arith)
read_nine (a ∷ b ∷ c ∷ d ∷ e ∷ f ∷ g ∷ []) more long begins usable = absurd (omega arith)
read_nine (a ∷ b ∷ c ∷ d ∷ e ∷ f ∷ g ∷ h ∷ []) more long begins usable = absurd (omega arith)
read_nine (a ∷ b ∷ c ∷ d ∷ e ∷ f ∷ g ∷ h ∷ i ∷ rest) more long begins usable = read_long a b c d e f g h i rest more begins usable

-- ---- before the end of an advice

open_none : IsOpen []
unfolding position_after
open_none = (refl, refl)

open_one : IsOpen (85 ∷ [])
unfolding position_after
open_one = (refl, refl)

open_two : IsOpen (85 ∷ 78 ∷ [])
unfolding position_after
open_two = (refl, refl)

open_within : (front more : List ℕ) → length front ≤ 2 → front ++ more ≡ codes "UNA" → IsOpen front
open_within [] more short is = open_none
open_within (a ∷ []) more short is =
    let one : a ≡ 85 = cc in subst (λ b. IsOpen (b ∷ [])) (sym one) open_one
open_within (a ∷ b ∷ []) more short is =
    let one : a ≡ 85 = cc in
    let two : b ≡ 78 = cc in
    subst (λ c. IsOpen (c ∷ b ∷ [])) (sym one) (subst (λ c. IsOpen (85 ∷ c ∷ [])) (sym two) open_two)
open_within (a ∷ b ∷ c ∷ front) more short is = absurd (omega arith)

open_advice : (front : List ℕ) → begins_with_advice front ≡ true → length front < 9 → IsOpen front
open_advice front begins short =
    let within : is_in_advice front ≡ true = and_from (begins_with_advice front) (nat_le (length front) 9) begins (le-leb (length front) 9 (omega arith)) in
    let read = in_advice front default_service refl within short in
    (read.1, ap is_closed (sym read.0.1))

-- ---- any front

short_is_plain : (text : List ℕ) → length text ≤ 2 → begins_with_advice text ≡ false
short_is_plain text short = elim (cases_Bool (begins_with_advice text)) [
  | inl is ↦ let same = (bytes_eq-Decides (take 3 text) (codes "UNA")).0 is in absurd (omega (arith, ap length same, length-take 3 text))
  | inr none ↦ none
]

same_beginning : (front more : List ℕ) → 3 ≤ length front → begins_with_advice (front ++ more) ≡ begins_with_advice front
same_beginning [] more long = absurd (omega arith)
same_beginning (a ∷ []) more long = absurd (omega arith)
same_beginning (a ∷ b ∷ []) more long = absurd (omega arith)
same_beginning (a ∷ b ∷ c ∷ front) more long = refl

take_short : (front more : List ℕ) → length front ≤ 2 → (rest : List ℕ) × (take 3 (front ++ more) ≡ front ++ rest)
take_short [] more short = (take 3 more, refl)
take_short (a ∷ []) more short = (take 2 more, refl)
take_short (a ∷ b ∷ []) more short = (take 1 more, refl)
take_short (a ∷ b ∷ c ∷ front) more short = absurd (omega arith)

-- Where the text has no advice or a good one, a front of it is read as the text is, or it ends within the advice.
pub read_front : (front more : List ℕ) → has_bad_advice (front ++ more) ≡ false → IsRead front more ⊎ IsOpen front
read_front front more good = elim (cases_Bool (begins_with_advice (front ++ more))) [
  | inl begins ↦
      let parts = good_parts (begins_with_advice (front ++ more)) (nat_le 9 (length (front ++ more))) (may_be_used (advised_characters (front ++ more))) begins good in
      elim (cases_order (length front) 2) [
        | inl same ↦ inr (short begins (omega arith))
        | inr o ↦ elim o [
          | inl below ↦ inr (short begins (omega arith))
          | inr above ↦
              let here : begins_with_advice front ≡ true = sym (same_beginning front more (omega arith)) ∙ begins in
              elim (cases_order (length front) 9) [
                | inl same ↦ inl (read_nine front more (omega arith) here parts.1)
                | inr p ↦ elim p [
                  | inl below ↦ inr (open_advice front here below)
                  | inr long ↦ inl (read_nine front more (omega arith) here parts.1)
                ]
              ]
        ]
      ]
  | inr none ↦ inl (read_plain front more (plain none) none)
]
  where
    short : begins_with_advice (front ++ more) ≡ true → length front ≤ 2 → IsOpen front
    short begins low =
        let tag : take 3 (front ++ more) ≡ codes "UNA" = (bytes_eq-Decides (take 3 (front ++ more)) (codes "UNA")).0 begins in
        let three = take_short front more low in
        open_within front three.0 low (sym three.1 ∙ tag)

    plain : begins_with_advice (front ++ more) ≡ false → begins_with_advice front ≡ false
    plain none = elim (cases_order (length front) 2) [
      | inl same ↦ never (omega arith)
      | inr o ↦ elim o [
        | inl below ↦ never (omega arith)
        | inr above ↦ sym (same_beginning front more (omega arith)) ∙ none
      ]
    ]
      where
        never : length front ≤ 2 → begins_with_advice front ≡ false
        never low = short_is_plain front low

-- ==== Ends: What a text without fault has, and where it ends.

-- ---- no fault

pub record HasNoFault (text : List ℕ) : Type 0 where
  pub short : length text ≤ 1048576
  pub good : has_bad_advice text ≡ false
  pub segments : is_segment_text text ≡ true
  pub envelope : has_envelope (segments_in text) ≡ true
  pub messages : are_messages false (behind_header (segments_in text)) ≡ true

not_first : {A : Type 0} (b : Bool) (x : A) (o : Option A) → cond b (Some x) o ≡ None → (b ≡ false) × (o ≡ None)
not_first true x o e = cc
not_first false x o e = (refl, e)

opposite : (b : Bool) → not b ≡ false → b ≡ true
opposite true e = refl
opposite false e = cc

pub faultless : (text : List ℕ) → fault_of text ≡ None → HasNoFault text
faultless text none =
    let long = not_first (applies text TooLong) TooLong _ none in
    let service = not_first (applies text ServiceFault) ServiceFault _ long.1 in
    let segment = not_first (applies text Segment) Segment _ service.1 in
    let envelope = not_first (applies text NoEnvelope) NoEnvelope _ segment.1 in
    let group = not_first (applies text Group) Group _ envelope.1 in
    let version = not_first (applies text Version) Version _ group.1 in
    let number = not_first (applies text Number) Number _ version.1 in
    let moment = not_first (applies text Moment) Moment _ number.1 in
    let test = not_first (applies text Test) Test _ moment.1 in
    let frame = not_first (applies text MessageFrame) MessageFrame _ test.1 in
    record {
      short = ltb-false 1048576 (length text) long.0;
      good = service.0;
      segments = opposite (is_segment_text text) segment.0;
      envelope = opposite (has_envelope (segments_in text)) envelope.0;
      messages = opposite (are_messages false (behind_header (segments_in text))) frame.0;
    }

-- ---- no CR and LF at the ends

breaks_within : (bytes : List ℕ) → breaks_len bytes ≤ length bytes
breaks_within [] = omega arith
breaks_within (b ∷ bytes) = on (is_break b) (breaks_len bytes) (length bytes) (breaks_within bytes)
  where
    on : (v : Bool) (m n : ℕ) → m ≤ n → cond v (suc m) 0 ≤ suc n
    on true m n h = omega arith
    on false m n h = omega arith

end_shorter : (bytes : List ℕ) → length (without_breaks_at_end bytes) ≤ length bytes
end_shorter [] = omega arith
end_shorter (b ∷ bytes) = on (list_all is_break (b ∷ bytes)) (end_shorter bytes)
  where
    on : (v : Bool) → length (without_breaks_at_end bytes) ≤ length bytes → length (cond v [] (b ∷ without_breaks_at_end bytes)) ≤ suc (length bytes)
    on true h = omega arith
    on false h = omega arith

pub begins_unbroken : (text : List ℕ) → interchange_of text ≡ text → breaks_len text ≡ 0
begins_unbroken text stripped =
    let h = end_shorter (without_breaks text) in
    let l : length (without_breaks text) ≡ length text - breaks_len text = length-drop (breaks_len text) text in
    let w = breaks_within text in
    let e : length (without_breaks_at_end (without_breaks text)) ≡ length text = ap length stripped in
    omega arith

pub ends_unbroken : (text : List ℕ) → interchange_of text ≡ text → without_breaks_at_end text ≡ text
ends_unbroken text stripped =
    ap (λ n. without_breaks_at_end (drop n text)) (sym (begins_unbroken text stripped)) ∙ stripped

breaks_at_end : (front breaks : List ℕ) → list_all is_break breaks ≡ true → without_breaks_at_end (front ++ breaks) ≡ without_breaks_at_end front
breaks_at_end front [] all = ap without_breaks_at_end (append-nil front)
breaks_at_end front (b ∷ breaks) all =
    let parts = and_parts (is_break b) (list_all is_break breaks) all in
    ap without_breaks_at_end (sym (append_assoc front (b ∷ []) breaks)) ∙ breaks_at_end (front ++ b ∷ []) breaks parts.1 ∙ break_at_end front b parts.0

-- no breaks stand at the end of a stripped text
pub none_at_end : (front breaks : List ℕ) → interchange_of (front ++ breaks) ≡ front ++ breaks → list_all is_break breaks ≡ true → breaks ≡ []
none_at_end front [] stripped all = refl
none_at_end front (b ∷ breaks) stripped all =
    let same : without_breaks_at_end front ≡ front ++ b ∷ breaks = sym (breaks_at_end front (b ∷ breaks) all) ∙ ends_unbroken (front ++ b ∷ breaks) stripped in
    let e : length (without_breaks_at_end front) ≡ length front + suc (length breaks) = ap length same ∙ length-append front (b ∷ breaks) in
    let h = end_shorter front in
    absurd (omega arith)

pub all_breaks : (bytes : List ℕ) → without_breaks bytes ≡ [] → list_all is_break bytes ≡ true
all_breaks [] none = refl
all_breaks (b ∷ bytes) none = elim (cases_Bool (is_break b)) [
  | inl e ↦
      let more : without_breaks (b ∷ bytes) ≡ without_breaks bytes = rw e refl in
      rw e (all_breaks bytes (sym more ∙ none))
  | inr e ↦ let same : without_breaks (b ∷ bytes) ≡ b ∷ bytes = rw e refl in cc
]

-- ---- segments at the front of bytes

unbroken_behind : Content × List ℕ → Content × List ℕ
unbroken_behind found = (found.0, without_breaks found.1)

next_by_segment : (s : Service) (bytes : List ℕ) → next_at s bytes ≡ option_map unbroken_behind (segment_at s bytes)
unfolding unbroken_behind
next_by_segment s bytes = on (body_len s bytes)
  where
    on : (n : Option ℕ) → option_map {U = Content × List ℕ} (λ n. (content_of s (take n bytes), drop (breaks_len (drop (n + 1) bytes)) (drop (n + 1) bytes))) n
        ≡ option_map unbroken_behind (option_map {U = Content × List ℕ} (λ n. (content_of s (take n bytes), drop (n + 1) bytes)) n)
    on None = refl
    on (Some n) = refl

next_is : (s : Service) (segment : Content) (first rest : List ℕ) → SegmentText s segment first → next_at s (first ++ rest) ≡ Some (segment, without_breaks rest)
unfolding unbroken_behind
next_is s segment first rest spelled = next_by_segment s (first ++ rest) ∙ ap (option_map unbroken_behind) (segment_complete s segment first rest spelled)

-- the segments of bytes are these, and then those of what stands after them
pub record Goes (s : Service) (bytes : List ℕ) (segments : List Content) (rest : List ℕ) : Type 0 where
  pub segments_are : segments_of s bytes ≡ segments ++ segments_of s rest
  pub are_all : are_segments s bytes ≡ are_segments s rest

pub one_goes : (s : Service) (segment : Content) (first rest : List ℕ) → SegmentText s segment first → Goes s (first ++ rest) (segment ∷ []) (without_breaks rest)
one_goes s segment first rest spelled = record {
  segments_are = next_of_segments s (first ++ rest) ∙ ap (λ (o : Option (Content × List ℕ)). option_map_or (λ (x : Content × List ℕ). x.0 ∷ segments_of s x.1) o []) (next_is s segment first rest spelled);
  are_all = next_of_are_segments s (first ++ rest) (λ none. not_empty spelled none)
      ∙ ap (λ (o : Option (Content × List ℕ)). option_map_or (λ (x : Content × List ℕ). are_segments s x.1) o false) (next_is s segment first rest spelled);
}
  where
    not_empty : SegmentText s segment first → length (first ++ rest) ≡ 0 → ⊥
    not_empty ((long, tag), elements, elements_are, parts) none =
        omega (arith, long, none, length-append first rest, ap length parts, length-append (segment.tag ++ elements) (s.terminator ∷ []), length-append segment.tag elements)

pub segment_unbroken : (s : Service) (segment : Content) (first rest : List ℕ) → SegmentText s segment first → breaks_len (first ++ rest) ≡ 0
segment_unbroken s segment first rest ((long, tag), elements, elements_are, parts) =
    ap breaks_len (ap (λ (t : List ℕ). t ++ rest) parts) ∙ begins segment.tag long tag elements (s.terminator ∷ []) rest
  where
    begins : (tag : List ℕ) → length tag ≡ 3 → list_all is_tag_byte tag ≡ true → (a b c : List ℕ) → breaks_len (((tag ++ a) ++ b) ++ c) ≡ 0
    begins [] long all a b c = absurd (omega (arith, long))
    begins (t ∷ tag) long all a b c = rw (tag_is_no_break t (and_parts (is_tag_byte t) (list_all is_tag_byte tag) all).0) refl

pub unbroken_more : (front more : List ℕ) → breaks_len front ≡ 0 → breaks_len more ≡ 0 → breaks_len (front ++ more) ≡ 0
unbroken_more [] more none none' = none'
unbroken_more (b ∷ front) more none none' = on (is_break b) (breaks_len front) (breaks_len (front ++ more)) none
  where
    on : (v : Bool) (m n : ℕ) → cond v (suc m) 0 ≡ 0 → cond v (suc n) 0 ≡ 0
    on true m n e = cc
    on false m n e = refl

pub without_all : (breaks rest : List ℕ) → list_all is_break breaks ≡ true → breaks_len rest ≡ 0 → without_breaks (breaks ++ rest) ≡ rest
without_all breaks rest all none = drop_at breaks rest (breaks_len (breaks ++ rest)) (sym (breaks_only breaks rest all none))

pub all_go : (s : Service) (segments : List Content) (front tail : List ℕ) → SegmentsText s segments front → breaks_len tail ≡ 0 → Goes s (front ++ tail) segments tail
all_go s [] front tail is none =
    subst (λ bytes. Goes s bytes [] tail) (ap (λ (t : List ℕ). t ++ tail) (sym is)) (record { segments_are = refl; are_all = refl })
all_go s (segment ∷ segments) front tail (first, breaks, rest, spelled, are_breaks, others, whole) none =
    let regrouped : front ++ tail ≡ first ++ (breaks ++ (rest ++ tail)) =
    ap (λ (t : List ℕ). t ++ tail) (whole ∙ append_assoc first breaks rest) ∙ append_assoc first (breaks ++ rest) tail ∙ ap (λ (t : List ℕ). first ++ t) (append_assoc breaks rest tail) in
    let here = one_goes s segment first (breaks ++ (rest ++ tail)) spelled in
    let left : without_breaks (breaks ++ (rest ++ tail)) ≡ rest ++ tail = without_all breaks (rest ++ tail) are_breaks (unbroken_more rest tail (no_break_before s segments rest others) none) in
    let later = all_go s segments rest tail others none in
    record {
      segments_are = ap (segments_of s) regrouped ∙ here.segments_are ∙ ap (λ t. segment ∷ segments_of s t) left ∙ ap (λ t. segment ∷ t) later.segments_are;
      are_all = ap (are_segments s) regrouped ∙ here.are_all ∙ ap (are_segments s) left ∙ later.are_all;
    }

-- ---- a UNZ stands last only

has_that_tag : (tag : List ℕ) (segment : Content) → segment.tag ≡ tag → (other : List ℕ) → has_tag other segment ≡ bytes_eq tag other
has_that_tag tag segment is other = ap (λ t. bytes_eq t other) is

last_only : (begun : Bool) (before : List Content) (trailer : Content) (later : List Content) → trailer.tag ≡ codes "UNZ" → are_messages begun (before ++ trailer ∷ later) ≡ true → later ≡ []
last_only false [] trailer later tag all =
    let not_header : begins_message trailer ≡ false = has_that_tag (codes "UNZ") trailer tag (codes "UNH") in
    let ends : has_tag (codes "UNZ") trailer && nat_eq (length later) 0 ≡ true = rw not_header at all in
    empty later (eqb-true (length later) 0 (and_parts (has_tag (codes "UNZ") trailer) (nat_eq (length later) 0) ends).1)
  where
    empty : (xs : List Content) → length xs ≡ 0 → xs ≡ []
    empty [] e = refl
    empty (x ∷ xs) e = absurd (omega arith)
last_only true [] trailer later tag all =
    let not_ends : ends_message trailer ≡ false = has_that_tag (codes "UNZ") trailer tag (codes "UNT") in
    let inner : is_inner trailer && are_messages true later ≡ true =
    sym (cond-false (ends_message trailer) (are_messages false later) (is_inner trailer && are_messages true later) not_ends) ∙ all in
    let is : is_inner trailer ≡ true = (and_parts (is_inner trailer) (are_messages true later) inner).0 in
    let parts = and_parts (not (begins_message trailer) && not (ends_message trailer) && not (has_tag (codes "UNB") trailer)) (not (has_tag (codes "UNZ") trailer)) is in
    let never : not (has_tag (codes "UNZ") trailer) ≡ false = ap not (has_that_tag (codes "UNZ") trailer tag (codes "UNZ")) in
    cc
last_only false (segment ∷ before) trailer later tag all = on (begins_message segment) (last_only true before trailer later tag) all
  where
    on : (b : Bool) → (are_messages true (before ++ trailer ∷ later) ≡ true → later ≡ []) → cond b (are_messages true (before ++ trailer ∷ later)) (has_tag (codes "UNZ") segment && nat_eq (length (before ++ trailer ∷ later)) 0) ≡ true → later ≡ []
    on true inside all = inside all
    on false inside all =
        let e = eqb-true (length (before ++ trailer ∷ later)) 0 (and_parts (has_tag (codes "UNZ") segment) (nat_eq (length (before ++ trailer ∷ later)) 0) all).1 in
        absurd (omega (arith, e, length-append before (trailer ∷ later)))
last_only true (segment ∷ before) trailer later tag all = on (ends_message segment) (last_only false before trailer later tag) (last_only true before trailer later tag) all
  where
    on : (b : Bool) → (are_messages false (before ++ trailer ∷ later) ≡ true → later ≡ []) → (are_messages true (before ++ trailer ∷ later) ≡ true → later ≡ []) → cond b (are_messages false (before ++ trailer ∷ later)) (is_inner segment && are_messages true (before ++ trailer ∷ later)) ≡ true → later ≡ []
    on true behind inside all = behind all
    on false behind inside all = inside (and_parts (is_inner segment) (are_messages true (before ++ trailer ∷ later)) all).1

-- of an interchange's segments
pub trailer_last : (segments before : List Content) (trailer : Content) (later : List Content) → has_envelope segments ≡ true → are_messages false (behind_header segments) ≡ true
    → segments ≡ before ++ trailer ∷ later → trailer.tag ≡ codes "UNZ" → later ≡ []
trailer_last segments before trailer later envelope messages parts tag = on before parts
  where
    header : has_tag (codes "UNB") (header_of segments) ≡ true
    header = (and_parts (has_tag (codes "UNB") (header_of segments)) _ (and_parts _ _ envelope).0).0

    on : (before : List Content) → segments ≡ before ++ trailer ∷ later → later ≡ []
    on [] is =
        let unb : has_tag (codes "UNB") trailer ≡ true = ap (λ s. has_tag (codes "UNB") (header_of s)) (sym is) ∙ header in
        let no : has_tag (codes "UNB") trailer ≡ false = has_that_tag (codes "UNZ") trailer tag (codes "UNB") in
        absurd (let wrong : true ≡ false = sym unb ∙ no in cc)
    on (segment ∷ before) is = last_only false before trailer later tag (ap (λ s. are_messages false (behind_header s)) (sym is) ∙ messages)

-- ---- the last segment

-- the last of these segments, and what stands before and after it
pub record EndsBy (s : Service) (last_is : Content) (text : List ℕ) : Type 0 where
  pub before : List Content
  pub front : List ℕ
  pub last : List ℕ
  pub breaks : List ℕ
  pub befores : SegmentsText s before front
  pub spelled : SegmentText s last_is last
  pub are_breaks : list_all is_break breaks ≡ true
  pub whole : text ≡ front ++ (last ++ breaks)

pub last_segment : (s : Service) (segment : Content) (segments : List Content) (text : List ℕ) → SegmentsText s (segment ∷ segments) text → EndsBy s (last_of segment segments) text
last_segment s segment [] text (first, breaks, rest, spelled, are_breaks, nothing, whole) = record {
  before = [];
  front = [];
  last = first;
  breaks = breaks;
  befores = refl;
  spelled = spelled;
  are_breaks = are_breaks;
  whole = whole ∙ ap (λ (t : List ℕ). (first ++ breaks) ++ t) nothing ∙ append-nil (first ++ breaks);
}
last_segment s segment (next ∷ segments) text (first, breaks, rest, spelled, are_breaks, others, whole) =
    let later = last_segment s next segments rest others in
    record {
      before = segment ∷ later.before;
      front = (first ++ breaks) ++ later.front;
      last = later.last;
      breaks = later.breaks;
      befores = (first, breaks, later.front, spelled, are_breaks, later.befores, refl);
      spelled = later.spelled;
      are_breaks = later.are_breaks;
      whole = whole ∙ ap (λ (t : List ℕ). (first ++ breaks) ++ t) later.whole ∙ sym (append_assoc (first ++ breaks) later.front (later.last ++ later.breaks));
    }

no_tag : has_tag (codes "UNZ") no_segment ≡ false
no_tag = refl

pub ends_of : (s : Service) (segments : List Content) (text : List ℕ) → SegmentsText s segments text → has_tag (codes "UNZ") (trailer_of segments) ≡ true → EndsBy s (trailer_of segments) text
ends_of s [] text spelled tag = absurd (let wrong : true ≡ false = sym tag ∙ no_tag in cc)
ends_of s (segment ∷ segments) text spelled tag = last_segment s segment segments text spelled
