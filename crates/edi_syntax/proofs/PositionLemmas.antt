-- The positions that bytes of segments lead to, and the texts of segments.
use Rattle.std.{specs.{Option.option_map, List.list_all}, proofs.lemmas.List.{length-drop, append-nil, take_at, length-append, take-append-le}}
use Rattle.std.proofs.Common.{◌≡◌, ◌⊎◌, ℕ, zero, suc, ◌+◌, ◌≤◌, Bool, true, false, cond, ◌&&◌, nat_eq, List, [], ◌∷◌, ◌++◌, length, take, drop, Some, None, refl, sym, ap, subst, ◌∙◌, inl, inr, append_assoc, arith, codes, ◌<◌, nat_lt}
use Rattle.std.proofs.lemmas.Bool.{and_parts, and_from, or_cases, or_parts, eqb-true, eq-eqb, false≢true, cases_Bool, ltb-true, ltb-false}
use Rattle.edi_syntax.specs.{Characters.{is_tag_byte, is_break}, Tokens.{token_of, releases}, Text.{Content, SegmentText, SegmentsText}, Steps.Holds}
use Rattle.edi_syntax.specs.{Reading.{with_end, end_of, begins_elements, body_len, content_of}, declared.characters.Service.Service, declared.token.Token.Token}
use Rattle.edi_syntax.specs.Positions.{position_by, inside_by, position_after, SegmentsBehindBreaks, Closes, RefusedWhereNothingGoesOn, ClosedWhereATrailerEnds, is_refused}
use Rattle.edi_syntax.specs.{declared.token.Token.TheVariants.{Data, Release, Component, Element, Terminator, Invalid}, declared.position.Position.Position}
use Rattle.edi_syntax.specs.{declared.position.Position.TheVariants.{Between, First, Second, Tagged, Inside, Refused}, Advice.{characters, default_service}}
use Rattle.edi_syntax.specs.Cuts.{Cutting, breaks_advice, position_of, is_closed, fault_of, is_whole, is_nil, pending_bytes, interchange, IsOpen, IsOpenBefore}
use Rattle.edi_syntax.specs.{declared.position.Reading.Reading, declared.cutter.CutFault.TheVariants.{TooLong, Service as ServiceFault, Segment, Memory}}
use Rattle.edi_syntax.proofs.SegmentLemmas.{service_distinct, released_data, element_token, terminator_token, body_sound, segment_found, segment_complete, mapped_some, mapped_suc, cond_none}
use Rattle.edi_syntax.proofs.{SegmentsLemmas.tag_is_no_break, AdviceLemmas.same_service}

pub refused_stays : (s : Service) (bytes : List ℕ) → position_after s Refused bytes ≡ Refused
unfolding position_after
refused_stays s [] = refl
refused_stays s (b ∷ bytes) = refused_stays s bytes

pub after_append : (s : Service) (position : Position) (a b : List ℕ) → position_after s position (a ++ b) ≡ position_after s (position_after s position a) b
unfolding position_after
after_append s position [] b = refl
after_append s position (x ∷ a) b = after_append s (position_by s position x) a b

-- ---- among the elements

abbrev EndsInside : Service → Bool → List ℕ → Type 0
EndsInside s closes bytes =
    (released : Bool) (n : ℕ) → end_of s released bytes ≡ Some n → position_after s (Inside released closes) bytes ≡ position_after s (Between closes) (drop (suc n) bytes)

ends_step : (s : Service) (closes : Bool) (bytes : List ℕ) (n : ℕ) (t : Token) → EndsInside s closes bytes → with_end t (end_of s (releases t) bytes) ≡ Some n → position_after s (inside_by t closes) bytes ≡ position_after s (Between closes) (drop n bytes)
ends_step s closes bytes n Data rest e = let (m, ends, is) = mapped_suc (end_of s false bytes) n e in rw is (rest false m ends)
ends_step s closes bytes n Release rest e = let (m, ends, is) = mapped_suc (end_of s true bytes) n e in rw is (rest true m ends)
ends_step s closes bytes n Component rest e = let (m, ends, is) = mapped_suc (end_of s false bytes) n e in rw is (rest false m ends)
ends_step s closes bytes n Element rest e = let (m, ends, is) = mapped_suc (end_of s false bytes) n e in rw is (rest false m ends)
ends_step s closes bytes n Terminator rest e = let none : n ≡ 0 = cc in rw none refl
ends_step s closes bytes n Invalid rest e = absurd cc

ends_inside : (s : Service) (closes : Bool) (bytes : List ℕ) → EndsInside s closes bytes
unfolding end_of position_after
ends_inside s closes [] released n e = absurd cc
ends_inside s closes (b ∷ bytes) released n e = ends_step s closes bytes n (token_of s released b) (ends_inside s closes bytes) e

abbrev HasEnd : Service → Bool → List ℕ → Type 0
HasEnd s closes bytes =
    (released closed : Bool) → position_after s (Inside released closes) bytes ≡ Between closed → (n : ℕ) × (end_of s released bytes ≡ Some n)

end_step : (s : Service) (closes closed : Bool) (bytes : List ℕ) (t : Token) → HasEnd s closes bytes → position_after s (inside_by t closes) bytes ≡ Between closed → (n : ℕ) × (with_end t (end_of s (releases t) bytes) ≡ Some n)
end_step s closes closed bytes Data rest e = let (n, ends) = rest false closed e in (suc n, ap (option_map suc) ends)
end_step s closes closed bytes Release rest e = let (n, ends) = rest true closed e in (suc n, ap (option_map suc) ends)
end_step s closes closed bytes Component rest e = let (n, ends) = rest false closed e in (suc n, ap (option_map suc) ends)
end_step s closes closed bytes Element rest e = let (n, ends) = rest false closed e in (suc n, ap (option_map suc) ends)
end_step s closes closed bytes Terminator rest e = (0, refl)
end_step s closes closed bytes Invalid rest e = let stays = refused_stays s bytes in absurd cc

has_end : (s : Service) (closes : Bool) (bytes : List ℕ) → HasEnd s closes bytes
unfolding end_of position_after
has_end s closes [] released closed e = absurd cc
has_end s closes (b ∷ bytes) released closed e = end_step s closes closed bytes (token_of s released b) (has_end s closes bytes) e

-- ---- after the tag

begins_inside : (s : Service) (closes : Bool) (b : ℕ) (bytes : List ℕ) → begins_elements s (b ∷ bytes) ≡ true → position_by s (Tagged closes) b ≡ position_by s (Inside false closes) b
begins_inside s closes b bytes h =
    elim (or_cases (nat_eq b s.element) (nat_eq b s.terminator) h) [
      | inl same ↦ rw (eqb-true b s.element same, element_token s, eq-eqb s.element s.element refl) refl
      | inr same ↦ rw (eqb-true b s.terminator same, terminator_token s, (service_distinct s).terminator_element, eq-eqb s.terminator s.terminator refl) refl
    ]

tagged_ends : (s : Service) (closes : Bool) (bytes : List ℕ) (n : ℕ) → begins_elements s bytes ≡ true → end_of s false bytes ≡ Some n → position_after s (Tagged closes) bytes ≡ position_after s (Between closes) (drop (suc n) bytes)
unfolding end_of position_after
tagged_ends s closes [] n h e = absurd cc
tagged_ends s closes (b ∷ bytes) n h e =
    ap (λ (p : Position). position_after s p bytes) (begins_inside s closes b bytes h) ∙ ends_inside s closes (b ∷ bytes) false n e

tagged_has_end : (s : Service) (closes closed : Bool) (bytes : List ℕ) → position_after s (Tagged closes) bytes ≡ Between closed → (n : ℕ) × (begins_elements s bytes ≡ true) × (end_of s false bytes ≡ Some n)
unfolding end_of position_after
tagged_has_end s closes closed [] e = absurd cc
tagged_has_end s closes closed (b ∷ bytes) e =
    elim (cases_Bool (begins_elements s (b ∷ bytes))) [
      | inl h ↦
          let inside : position_after s (position_by s (Inside false closes) b) bytes ≡ Between closed = ap (λ (p : Position). position_after s p bytes) (sym (begins_inside s closes b bytes h)) ∙ e in
          let (n, ends) = has_end s closes (b ∷ bytes) false closed inside in (n, h, ends)
      | inr none ↦
          let parts = or_parts (nat_eq b s.element) (nat_eq b s.terminator) none in
          let refused : position_after s Refused bytes ≡ Between closed = rw (parts.0, parts.1) at e in
          let stays = refused_stays s bytes in absurd cc
    ]

-- ---- a whole segment

-- the tag is that of the last segment
abbrev pub closes_tag : List ℕ → Bool
closes_tag [] = false
closes_tag (a ∷ []) = false
closes_tag (a ∷ b ∷ []) = false
closes_tag (a ∷ b ∷ c ∷ bytes) = nat_eq a 85 && nat_eq b 78 && nat_eq c 90

behind_tag : (s : Service) (closed : Bool) (a b c : ℕ) (bytes : List ℕ) → is_tag_byte a ≡ true → is_tag_byte b ≡ true → is_tag_byte c ≡ true → position_after s (Between closed) (a ∷ b ∷ c ∷ bytes) ≡ position_after s (Tagged (closes_tag (a ∷ b ∷ c ∷ bytes))) bytes
unfolding position_after
behind_tag s closed a b c bytes ha hb hc = rw (tag_is_no_break a ha, ha, hb, hc) refl

no_body : (b : Bool) (n : ℕ) → cond b None None ≡ Some n → ⊥
no_body true n e = absurd cc
no_body false n e = absurd cc

-- the position after the segment at the front
pub behind_body : (s : Service) (closed : Bool) (bytes : List ℕ) (n : ℕ) → body_len s bytes ≡ Some n → position_after s (Between closed) bytes ≡ position_after s (Between (closes_tag bytes)) (drop (n + 1) bytes)
unfolding end_of
behind_body s closed [] n e = absurd cc
behind_body s closed (a ∷ []) n e = absurd (no_body _ n e)
behind_body s closed (a ∷ b ∷ []) n e = absurd (no_body _ n e)
behind_body s closed (a ∷ b ∷ c ∷ bytes) n e =
    let (m, h) = body_sound s (a ∷ b ∷ c ∷ bytes) n e in
    let one = and_parts (is_tag_byte a) (is_tag_byte b && (is_tag_byte c && true)) h.tag in
    let two = and_parts (is_tag_byte b) (is_tag_byte c && true) one.1 in
    let three = and_parts (is_tag_byte c) true two.1 in
    let parts = cond_none (list_all is_tag_byte (take 3 (a ∷ b ∷ c ∷ bytes)) && begins_elements s bytes) (option_map (λ n. 3 + n) (end_of s false bytes)) n e in
    let (k, ends, sum) = mapped_some (λ n. 3 + n) (end_of s false bytes) n parts.1 in
    let long : n + 1 ≡ suc (suc (suc (suc k))) = omega (arith, sum) in
    behind_tag s closed a b c bytes one.0 two.0 three.0
    ∙ tagged_ends s (closes_tag (a ∷ b ∷ c ∷ bytes)) bytes k h.begins ends ∙ rw long refl

refused_end : (s : Service) (closed : Bool) (bytes : List ℕ) → position_after s Refused bytes ≡ Between closed → ⊥
refused_end s closed bytes e = let stays = refused_stays s bytes in absurd cc

-- the position leads on to the end of a segment only from a byte of a tag
tag_byte_there : (s : Service) (closed : Bool) (b : ℕ) (position : Position) (bytes : List ℕ) → position_after s (cond (is_tag_byte b) position Refused) bytes ≡ Between closed → (is_tag_byte b ≡ true) × (position_after s position bytes ≡ Between closed)
tag_byte_there s closed b position bytes e =
    elim (cases_Bool (is_tag_byte b)) [
      | inl h ↦ let rest : position_after s position bytes ≡ Between closed = rw h at e in (h, rest)
      | inr h ↦ let rest : position_after s Refused bytes ≡ Between closed = rw h at e in absurd (refused_end s closed bytes rest)
    ]

third_byte : (s : Service) (closes closed : Bool) (bytes : List ℕ) → position_after s (Second closes) bytes ≡ Between closed → (c : ℕ) × (rest : List ℕ) × (closes' : Bool) × (bytes ≡ c ∷ rest) × (is_tag_byte c ≡ true) × (position_after s (Tagged closes') rest ≡ Between closed)
unfolding position_after
third_byte s closes closed [] e = absurd cc
third_byte s closes closed (c ∷ rest) e =
    let (tag, there) = tag_byte_there s closed c (Tagged (closes && nat_eq c 90)) rest e in (c, rest, closes && nat_eq c 90, refl, tag, there)

second_byte : (s : Service) (closes closed : Bool) (bytes : List ℕ) → position_after s (First closes) bytes ≡ Between closed → (b : ℕ) × (rest : List ℕ) × (closes' : Bool) × (bytes ≡ b ∷ rest) × (is_tag_byte b ≡ true) × (position_after s (Second closes') rest ≡ Between closed)
unfolding position_after
second_byte s closes closed [] e = absurd cc
second_byte s closes closed (b ∷ rest) e =
    let (tag, there) = tag_byte_there s closed b (Second (closes && nat_eq b 78)) rest e in (b, rest, closes && nat_eq b 78, refl, tag, there)

body_there : (s : Service) (a b c n : ℕ) (bytes : List ℕ) → is_tag_byte a ≡ true → is_tag_byte b ≡ true → is_tag_byte c ≡ true → begins_elements s bytes ≡ true → end_of s false bytes ≡ Some n → body_len s (a ∷ b ∷ c ∷ bytes) ≡ Some (3 + n)
body_there s a b c n bytes ha hb hc begins ends = rw (ha, hb, hc, begins, ends) refl

pass_break : (s : Service) (closed : Bool) (b : ℕ) (bytes : List ℕ) → is_break b ≡ true → position_after s (Between closed) (b ∷ bytes) ≡ position_after s (Between false) bytes
unfolding position_after
pass_break s closed b bytes h = rw h refl

pass_other : (s : Service) (closed : Bool) (b : ℕ) (bytes : List ℕ) → is_break b ≡ false → position_after s (Between closed) (b ∷ bytes) ≡ position_after s (cond (is_tag_byte b) (First (nat_eq b 85)) Refused) bytes
unfolding position_after
pass_other s closed b bytes h = rw h refl

-- where the bytes lead to the end of a segment, a segment is at the front
has_body : (s : Service) (closed end : Bool) (a : ℕ) (bytes : List ℕ) → is_break a ≡ false → position_after s (Between closed) (a ∷ bytes) ≡ Between end → (n : ℕ) × (body_len s (a ∷ bytes) ≡ Some n)
unfolding position_after
has_body s closed end a bytes none e =
    let (ha, one) = tag_byte_there s end a (First (nat_eq a 85)) bytes (sym (pass_other s closed a bytes none) ∙ e) in
    let (b, rest, closes, is, hb, two) = second_byte s (nat_eq a 85) end bytes one in
    let (c, more, closes', is', hc, three) = third_byte s closes end rest two in
    let (n, begins, ends) = tagged_has_end s closes' end more three in
    (3 + n, ap (λ (t : List ℕ). body_len s (a ∷ t)) (is ∙ ap (λ (t : List ℕ). b ∷ t) is') ∙ body_there s a b c n more ha hb hc begins ends)

-- ---- segments one after the other

sound : (s : Service) (fuel : ℕ) (closed end : Bool) (bytes : List ℕ) → length bytes ≤ fuel → position_after s (Between closed) bytes ≡ Between end → (segments : List Content) × SegmentsBehindBreaks s segments bytes
unfolding position_after
sound s fuel closed end [] h e = ([], ([], [], refl, refl, refl))
sound s zero closed end (b ∷ bytes) h e = absurd (omega arith)
sound s (suc fuel) closed end (b ∷ bytes) h e =
    elim (cases_Bool (is_break b)) [
      | inl is ↦
          let behind : position_after s (Between false) bytes ≡ Between end = sym (pass_break s closed b bytes is) ∙ e in
          let (segments, (breaks, rest, all, text, whole)) = sound s fuel false end bytes (omega arith) behind in
          (segments, (b ∷ breaks, rest, and_from _ _ is all, text, ap (λ (t : List ℕ). b ∷ t) whole))
      | inr none ↦
          let (n, found) = has_body s closed end b bytes none e in
          let (m, body) = body_sound s (b ∷ bytes) n found in
          let (text, spelled, parts) = segment_found s (b ∷ bytes) n m body in
          let behind : position_after s (Between (closes_tag (b ∷ bytes))) (drop (n + 1) (b ∷ bytes)) ≡ Between end = sym (behind_body s closed (b ∷ bytes) n found) ∙ e in
          let shorter : length (drop (n + 1) (b ∷ bytes)) ≤ fuel = omega (arith, length-drop (n + 1) (b ∷ bytes)) in
          let (segments, (breaks, rest, all, others, whole)) = sound s fuel (closes_tag (b ∷ bytes)) end (drop (n + 1) (b ∷ bytes)) shorter behind in
          (content_of s (take n (b ∷ bytes)) ∷ segments, ([], b ∷ bytes, refl, (text, breaks, rest, spelled, all, others, parts ∙ ap (λ (t : List ℕ). text ++ t) whole ∙ sym (append_assoc text breaks rest)), refl))
    ]

-- line breaks lead to a position between segments
breaks_pass : (s : Service) (closed : Bool) (breaks : List ℕ) → list_all is_break breaks ≡ true → (closed' : Bool) × ((rest : List ℕ) → position_after s (Between closed) (breaks ++ rest) ≡ position_after s (Between closed') rest)
unfolding position_after
breaks_pass s closed [] h = (closed, λ rest. refl)
breaks_pass s closed (b ∷ breaks) h =
    let parts = and_parts (is_break b) (list_all is_break breaks) h in
    let (closed', passed) = breaks_pass s false breaks parts.1 in
    (closed', λ rest. pass_break s closed b (breaks ++ rest) parts.0 ∙ passed rest)

closes_tag_front : (tag rest : List ℕ) → length tag ≡ 3 → closes_tag (tag ++ rest) ≡ closes_tag tag
closes_tag_front [] rest h = absurd (omega arith)
closes_tag_front (a ∷ []) rest h = absurd (omega arith)
closes_tag_front (a ∷ b ∷ []) rest h = absurd (omega arith)
closes_tag_front (a ∷ b ∷ c ∷ tag) rest h = refl

regroup : (a b c d : List ℕ) → (a ++ b ++ c) ++ d ≡ a ++ (b ++ (c ++ d))
regroup a b c d = simp append_assoc

-- the position after the text of a segment
behind_segment : (s : Service) (closed : Bool) (segment : Content) (text rest : List ℕ) → SegmentText s segment text → position_after s (Between closed) (text ++ rest) ≡ position_after s (Between (closes_tag segment.tag)) rest
behind_segment s closed segment text rest spelled =
    let (n, found, parts) = mapped_some (λ n. (content_of s (take n (text ++ rest)), drop (n + 1) (text ++ rest))) (body_len s (text ++ rest)) (segment, rest) (segment_complete s segment text rest spelled) in
    let rest_is : drop (n + 1) (text ++ rest) ≡ rest = ap (λ (p : Content × List ℕ). p.1) parts in
    let tag_is : closes_tag (text ++ rest) ≡ closes_tag segment.tag = front segment.tag text rest spelled in
    behind_body s closed (text ++ rest) n found ∙ rw (rest_is, tag_is) refl
  where
    front : (tag text rest : List ℕ) → SegmentText s segment text → closes_tag (text ++ rest) ≡ closes_tag segment.tag
    front tag text rest ((long, all), elements, spelled, whole) =
        ap (λ (t : List ℕ). closes_tag (t ++ rest)) whole ∙ ap closes_tag (regroup segment.tag elements (s.terminator ∷ []) rest)
        ∙ closes_tag_front segment.tag (elements ++ (s.terminator ∷ [] ++ rest)) long

complete : (s : Service) (segments : List Content) (text : List ℕ) (closed : Bool) → SegmentsText s segments text → (end : Bool) × ((behind : List ℕ) → position_after s (Between closed) (text ++ behind) ≡ position_after s (Between end) behind)
complete s [] text closed h = (closed, λ behind. rw h refl)
complete s (segment ∷ segments) text closed (first, breaks, rest, spelled, all, others, whole) =
    let (closed', passed) = breaks_pass s (closes_tag segment.tag) breaks all in
    let (end, is) = complete s segments rest closed' others in (
      end,
      λ behind.
          ap (λ (t : List ℕ). position_after s (Between closed) (t ++ behind)) whole
          ∙ ap (position_after s (Between closed)) (regroup first breaks rest behind)
          ∙ behind_segment s closed segment first (breaks ++ (rest ++ behind)) spelled
          ∙ passed (rest ++ behind) ∙ is behind,
    )

complete_behind : (s : Service) (segments : List Content) (text : List ℕ) → SegmentsBehindBreaks s segments text → (end : Bool) × ((behind : List ℕ) → position_after s (Between false) (text ++ behind) ≡ position_after s (Between end) behind)
complete_behind s segments text (breaks, rest, all, others, whole) =
    let (closed, passed) = breaks_pass s false breaks all in
    let (end, is) = complete s segments rest closed others in (
      end,
      λ behind.
          ap (λ (t : List ℕ). position_after s (Between false) (t ++ behind)) whole
          ∙ ap (position_after s (Between false)) (append_assoc breaks rest behind)
          ∙ passed (rest ++ behind) ∙ is behind,
    )

-- ---- what can go on

goes_on_from : (s : Service) (position : Position) → (position ≡ Refused → ⊥) → (more : List ℕ) × (end : Bool) × (position_after s position more ≡ Between end)
unfolding position_after
goes_on_from s (Between closed) h = ([], closed, refl)
goes_on_from s (First closes) h = (65 ∷ 65 ∷ s.terminator ∷ [], closes && false && false, rw ((service_distinct s).terminator_element, eq-eqb s.terminator s.terminator refl) refl)
goes_on_from s (Second closes) h = (65 ∷ s.terminator ∷ [], closes && false, rw ((service_distinct s).terminator_element, eq-eqb s.terminator s.terminator refl) refl)
goes_on_from s (Tagged closes) h = (s.terminator ∷ [], closes, rw ((service_distinct s).terminator_element, eq-eqb s.terminator s.terminator refl) refl)
goes_on_from s (Inside false closes) h = (s.terminator ∷ [], closes, rw (terminator_token s) refl)
goes_on_from s (Inside true closes) h = (65 ∷ s.terminator ∷ [], closes, rw (released_data s 65 refl, terminator_token s) refl)
goes_on_from s Refused h = absurd (h refl)

pub nothing_more : (s : Service) (position : Position) → position_after s position [] ≡ position
unfolding position_after
nothing_more s position = refl

pub refused_where_nothing_goes_on : RefusedWhereNothingGoesOn
refused_where_nothing_goes_on s bytes = (
  λ refused. λ goes_on. (let (more, segments, text) = goes_on in
      let (end, is) = complete_behind s segments (bytes ++ more) text in
      let all : position_after s (Between false) (bytes ++ more) ≡ Between end = ap (position_after s (Between false)) (sym (append-nil (bytes ++ more))) ∙ is [] ∙ nothing_more s (Between end) in
      refused_end s end more (sym (ap (λ (p : Position). position_after s p more) refused) ∙ sym (after_append s (Between false) bytes more) ∙ all)),
  λ live. (let (more, end, is) = goes_on_from s (position_after s (Between false) bytes) live in
      let (segments, text) = sound s (length (bytes ++ more)) false end (bytes ++ more) (omega arith) (after_append s (Between false) bytes more ∙ is) in
      (more, segments, text)),
)

-- ---- the end of the last segment

abbrev ClosesOrIsEmpty : Service → Bool → List ℕ → Type 0
ClosesOrIsEmpty s closed bytes = (closed ≡ true) × (bytes ≡ []) ⊎ Closes s bytes

closes_behind_break : (s : Service) (b : ℕ) (bytes : List ℕ) → is_break b ≡ true → ClosesOrIsEmpty s false bytes → Closes s (b ∷ bytes)
closes_behind_break s b bytes is (inl (none, empty)) = absurd (false≢true none)
closes_behind_break s b bytes is (inr (before, trailer, front, last, (breaks, rest, all, text, whole), spelled, tag, parts)) =
    (before, trailer, b ∷ front, last, (b ∷ breaks, rest, and_from _ _ is all, text, ap (λ (t : List ℕ). b ∷ t) whole), spelled, tag, ap (λ (t : List ℕ). b ∷ t) parts)

trailer_tag : (tag : List ℕ) → length tag ≡ 3 → closes_tag tag ≡ true → tag ≡ codes "UNZ"
trailer_tag [] long h = absurd (omega arith)
trailer_tag (a ∷ []) long h = absurd (omega arith)
trailer_tag (a ∷ b ∷ []) long h = absurd (omega arith)
trailer_tag (a ∷ b ∷ c ∷ d ∷ tag) long h = absurd (omega arith)
trailer_tag (a ∷ b ∷ c ∷ []) long h =
    let last = and_parts (nat_eq a 85 && nat_eq b 78) (nat_eq c 90) h in
    let first = and_parts (nat_eq a 85) (nat_eq b 78) last.0 in
    rw (eqb-true a 85 first.0, eqb-true b 78 first.1, eqb-true c 90 last.1) refl

closes_behind_segment : (s : Service) (segment : Content) (text rest : List ℕ) → SegmentText s segment text → ClosesOrIsEmpty s (closes_tag segment.tag) rest → Closes s (text ++ rest)
closes_behind_segment s segment text rest spelled (inl (is, empty)) =
    ([], segment, [], text, ([], [], refl, refl, refl), spelled, trailer_tag segment.tag spelled.0.0 is, ap (λ (t : List ℕ). text ++ t) empty ∙ append-nil text)
closes_behind_segment s segment text rest spelled (inr (before, trailer, front, last, (breaks, more, all, others, whole), spells, tag, parts)) =
    (segment ∷ before, trailer, text ++ front, last, ([], text ++ front, refl, (text, breaks, more, spelled, all, others, ap (λ (t : List ℕ). text ++ t) whole ∙ sym (append_assoc text breaks more)), refl), spells, tag, ap (λ (t : List ℕ). text ++ t) parts ∙ sym (append_assoc text front last))

closed_sound : (s : Service) (fuel : ℕ) (closed : Bool) (bytes : List ℕ) → length bytes ≤ fuel → position_after s (Between closed) bytes ≡ Between true → ClosesOrIsEmpty s closed bytes
unfolding position_after
closed_sound s fuel closed [] h e = inl (cc, refl)
closed_sound s zero closed (b ∷ bytes) h e = absurd (omega arith)
closed_sound s (suc fuel) closed (b ∷ bytes) h e =
    elim (cases_Bool (is_break b)) [
      | inl is ↦ inr (closes_behind_break s b bytes is (closed_sound s fuel false bytes (omega arith) (sym (pass_break s closed b bytes is) ∙ e)))
      | inr none ↦
          let (n, found) = has_body s closed true b bytes none e in
          let (m, body) = body_sound s (b ∷ bytes) n found in
          let (text, spelled, parts) = segment_found s (b ∷ bytes) n m body in
          let behind = sym (behind_segment s closed (content_of s (take n (b ∷ bytes))) text (drop (n + 1) (b ∷ bytes)) spelled) ∙ ap (position_after s (Between closed)) (sym parts) ∙ e in
          let shorter : length (drop (n + 1) (b ∷ bytes)) ≤ fuel = omega (arith, length-drop (n + 1) (b ∷ bytes)) in
          inr (subst (Closes s) (sym parts)
          (closes_behind_segment s (content_of s (take n (b ∷ bytes))) text (drop (n + 1) (b ∷ bytes)) spelled
          (closed_sound s fuel (closes_tag (content_of s (take n (b ∷ bytes))).tag) (drop (n + 1) (b ∷ bytes)) shorter behind)))
    ]

closed_complete : (s : Service) (bytes : List ℕ) → Closes s bytes → position_after s (Between false) bytes ≡ Between true
closed_complete s bytes (before, trailer, front, last, behind, spelled, tag, parts) =
    let (end, is) = complete_behind s before front behind in
    ap (position_after s (Between false)) parts ∙ is last
    ∙ ap (position_after s (Between end)) (sym (append-nil last))
    ∙ behind_segment s end trailer last [] spelled
    ∙ nothing_more s (Between (closes_tag trailer.tag))
    ∙ ap (λ (t : List ℕ). Between (closes_tag t)) tag

only : (s : Service) (bytes : List ℕ) → ClosesOrIsEmpty s false bytes → Closes s bytes
only s bytes (inl (none, empty)) = absurd (false≢true none)
only s bytes (inr closes) = closes

pub closed_where_a_trailer_ends : ClosedWhereATrailerEnds
closed_where_a_trailer_ends s bytes = (
  λ closed. only s bytes (closed_sound s (length bytes) false bytes (omega arith) closed),
  λ closes. closed_complete s bytes closes,
)

-- ==== HoldLemmas: What a cutter holds stays sound.

pub holds_nothing : (text : List ℕ) (s : Service) → characters s ≡ characters default_service → text ≡ [] → Holds text record { service = s; position = Between false }
unfolding position_after
holds_nothing text s default none =
    subst (λ (t : List ℕ). Holds t record { service = s; position = Between false }) (sym none)
    (record { reads = (same_service s default_service default, refl, refl); front = refl; before = λ m h. absurd (omega (arith, h)); none = refl })

pub no_breaks : (b : Bool) (n : ℕ) → cond b (suc n) 0 ≡ 0 → b ≡ false
no_breaks true n h = absurd (omega (arith, h))
no_breaks false n h = refl

pub before_more : (text : List ℕ) (b : ℕ) → IsOpenBefore text → IsOpen text → IsOpenBefore (text ++ b ∷ [])
before_more text b before here m h =
    elim (cases_Bool (nat_lt m (length text))) [
      | inl less ↦
          let within : m < length text = ltb-true m (length text) less in
          subst IsOpen (sym (take-append-le m text (b ∷ []) (omega arith))) (before m within)
      | inr more ↦
          let past : length text ≤ m = ltb-false m (length text) more in
          let same : m ≡ length text = omega (arith, h, length-append text (b ∷ [])) in
          subst IsOpen (sym (take_at text (b ∷ []) m (sym same))) here
    ]

no_memory : (a b c : Bool) → cond a (Some TooLong) (cond b (Some ServiceFault) (cond c (Some Segment) None)) ≡ Some Memory → ⊥
no_memory true b c e = absurd cc
no_memory false true c e = absurd cc
no_memory false false true e = absurd cc
no_memory false false false e = absurd cc

pub never_memory : (text : List ℕ) → fault_of text ≡ Some Memory → ⊥
never_memory text e = no_memory (nat_lt 1048576 (length text)) (breaks_advice text) (is_refused (position_of text)) e

pub whole_is : (text : List ℕ) (reading : Reading) → Holds text reading → is_closed reading.position ≡ is_whole text
whole_is text reading h = ap is_closed h.reads.1

-- what is held stands for what is seen
pub record Shows (text : List ℕ) (reading : Reading) (c : Cutting) (whole : Bool) : Type 0 where
  pub holds : Holds text reading
  pub seen : text ≡ c.text
  pub found : is_closed reading.position ≡ whole

pub whole_seen : (text : List ℕ) (reading : Reading) (c : Cutting) (whole : Bool) → Shows text reading c whole → is_whole c.text ≡ whole
whole_seen text reading c whole s = sym (ap is_whole s.seen) ∙ sym (whole_is text reading s.holds) ∙ s.found

pub shows_interchange : (text : List ℕ) (reading : Reading) (c : Cutting) → Shows text reading c true → text ≡ interchange c
shows_interchange text reading c s = rw (whole_seen text reading c true s) s.seen

pub shows_none : (text : List ℕ) (reading : Reading) (c : Cutting) → Shows text reading c false → [] ≡ interchange c
shows_none text reading c s = rw (whole_seen text reading c false s) refl

pub rests_when_whole : (text : List ℕ) (reading : Reading) (c : Cutting) → Shows text reading c true → true ≡ is_nil (pending_bytes c)
rests_when_whole text reading c s = rw (whole_seen text reading c true s) refl

pub rests_when_nil : (text : List ℕ) (reading : Reading) (c : Cutting) → Shows text reading c false → is_nil text ≡ is_nil (pending_bytes c)
rests_when_nil text reading c s = rw (whole_seen text reading c false s) (ap is_nil s.seen)
