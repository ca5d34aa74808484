-- The segments that are read are those of the text.
use Rattle.std.{specs.{Option.{option_map, option_map_or}, List.{list_all, position_or_len}}, proofs.lemmas.Option.none-some}
use Rattle.std.proofs.Common.{◌≡◌, ℕ, suc, ◌+◌, ◌<◌, ◌≤◌, Bool, true, false, List, [], ◌∷◌, length, drop, get_or, Option, Some, None, refl, sym, ap, ◌∙◌, arith, inl, inr, ◌⊎◌, zero, ◌&&◌, nat_eq, ◌++◌, take, append_assoc, add-one, subst, not}
use Rattle.std.proofs.{lemmas.List.{at_drop_more, at_drop_all, drop-drop, drop_at, take-append-drop}, lemmas.List.Sums.{fails_before_first, passes_at_first}}
use Rattle.std.proofs.lemmas.Bool.{and_parts, and_from, and_right, or_cases, ne_eqb, eqb-true, false≢true, cases_Bool, not-true}
use Rattle.edi_syntax.specs.{Tokens.{token_of, releases, stays_unreleased, is_service}, declared.characters.Service.Service, declared.token.Token.Token}
use Rattle.edi_syntax.specs.Reading.{stays_inside, with_end, end_of, body_len, content_of, next_at, breaks_len, segments_from, are_segments_from, segments_of, are_segments}
use Rattle.edi_syntax.specs.{declared.token.Token.TheVariants.{Data, Release, Component, Element, Terminator, Invalid}, Characters.{is_tag_byte, is_break}}
use Rattle.edi_syntax.specs.{Text.{Content, SegmentsText}, Parts.{separates, separator_of}, Interchange.without_breaks_at_end, Advice.default_service}
use Rattle.edi_syntax.{specs.Spelling.spelling, proofs.SegmentLemmas.{released_means, segment_at, body_sound, segment_found, segment_complete, mapped_some}}

-- ==== LoopLemmas: One step of the loops over bytes.

mapped_on : (i : ℕ) (o : Option ℕ) → option_map (λ n. i + n) (option_map suc o) ≡ option_map (λ n. i + 1 + n) o
mapped_on i None = refl
mapped_on i (Some n) = ap Some (omega arith)

-- the end as it is seen from the byte at i
pub end_more : (s : Service) (released : Bool) (bytes : List ℕ) (i : ℕ) (t : Token) → i < length bytes → t ≡ token_of s released (get_or bytes i 0) → end_of s released (drop i bytes) ≡ with_end t (end_of s (releases t) (drop (i + 1) bytes))
unfolding end_of
end_more s released bytes i t within is = at_drop_more (end_of s released) bytes i 0 within ∙ rw is refl

pub end_inside : (s : Service) (released : Bool) (bytes : List ℕ) (i : ℕ) (t : Token) → i < length bytes → t ≡ token_of s released (get_or bytes i 0) → stays_inside t ≡ true → option_map (λ n. i + n) (end_of s released (drop i bytes)) ≡ option_map (λ n. i + 1 + n) (end_of s (releases t) (drop (i + 1) bytes))
end_inside s released bytes i t within is inside =
    ap (option_map (λ n. i + n)) (end_more s released bytes i t within is)
    ∙ moved t (end_of s (releases t) (drop (i + 1) bytes)) inside
  where
    moved : (t : Token) (o : Option ℕ) → stays_inside t ≡ true → option_map (λ n. i + n) (with_end t o) ≡ option_map (λ n. i + 1 + n) o
    moved Data o h = mapped_on i o
    moved Release o h = mapped_on i o
    moved Component o h = mapped_on i o
    moved Element o h = mapped_on i o
    moved Terminator o h = absurd cc
    moved Invalid o h = absurd cc

pub end_past : (s : Service) (released : Bool) (bytes : List ℕ) (i : ℕ) → length bytes ≤ i → end_of s released (drop i bytes) ≡ None
unfolding end_of
end_past s released bytes i past = at_drop_all (end_of s released) bytes i past

pub no_end : (s : Service) (released : Bool) (bytes : List ℕ) → length bytes ≡ 0 → end_of s released bytes ≡ None
unfolding end_of
no_end s released [] h = refl
no_end s released (b ∷ bytes) h = absurd (omega arith)

-- ---- several bytes at once

-- a byte that stays inside and releases nothing
pub end_passed : (s : Service) (bytes : List ℕ) (i : ℕ) (t : Token) → i < length bytes → t ≡ token_of s false (get_or bytes i 0) → stays_unreleased t ≡ true → option_map (λ n. i + n) (end_of s false (drop i bytes)) ≡ option_map (λ n. i + 1 + n) (end_of s false (drop (i + 1) bytes))
end_passed s bytes i Data within is h = end_inside s false bytes i Data within is refl
end_passed s bytes i Component within is h = end_inside s false bytes i Component within is refl
end_passed s bytes i Element within is h = end_inside s false bytes i Element within is refl
end_passed s bytes i Release within is h = absurd cc
end_passed s bytes i Terminator within is h = absurd cc
end_passed s bytes i Invalid within is h = absurd cc

-- bytes after those that were passed over before
pub end_joined : (s : Service) (bytes rest : List ℕ) (at more : ℕ) → rest ≡ drop at bytes → end_of s false bytes ≡ option_map (λ n. at + n) (end_of s false (drop at bytes)) → end_of s false rest ≡ option_map (λ n. more + n) (end_of s false (drop more rest)) → end_of s false bytes ≡ option_map (λ n. at + more + n) (end_of s false (drop (at + more) bytes))
end_joined s bytes rest at more is before behind =
    before ∙ ap (option_map (λ n. at + n)) (ap (end_of s false) (sym is) ∙ behind ∙ ap (λ (t : List ℕ). option_map (λ n. more + n) (end_of s false (drop more t))) is ∙ ap (λ (t : List ℕ). option_map (λ n. more + n) (end_of s false t)) (drop-drop more at bytes))
    ∙ twice (end_of s false (drop (at + more) bytes))
  where
    twice : (o : Option ℕ) → option_map (λ n. at + n) (option_map (λ n. more + n) o) ≡ option_map (λ n. at + more + n) o
    twice None = refl
    twice (Some n) = ap Some (omega arith)

-- a release character, and what it releases
pub end_released : (s : Service) (bytes : List ℕ) (i : ℕ) (t u : Token) → i + 1 < length bytes → t ≡ token_of s false (get_or bytes i 0) → t ≡ Release → u ≡ token_of s true (get_or bytes (i + 1) 0) → (u ≡ Invalid → ⊥) → option_map (λ n. i + n) (end_of s false (drop i bytes)) ≡ option_map (λ n. i + 2 + n) (end_of s false (drop (i + 2) bytes))
end_released s bytes i t u within is release after valid =
    end_inside s false bytes i Release (omega arith) (sym release ∙ is) refl
    ∙ elim (released_means s (get_or bytes (i + 1) 0)) [
      | inl (is_data, _) ↦ end_inside s true bytes (i + 1) Data within (sym is_data) refl ∙ moved (end_of s false (drop (i + 1 + 1) bytes)) ∙ ap (λ (n : ℕ). option_map (λ m. i + 2 + m) (end_of s false (drop n bytes))) (omega arith)
      | inr invalid ↦ absurd (valid (after ∙ invalid))
    ]
  where
    moved : (o : Option ℕ) → option_map (λ n. i + 1 + 1 + n) o ≡ option_map (λ n. i + 2 + n) o
    moved None = refl
    moved (Some n) = ap Some (omega arith)

-- a release character that releases nothing, or an invalid byte
pub no_released : (s : Service) (bytes : List ℕ) (i : ℕ) (t : Token) → i < length bytes → t ≡ token_of s false (get_or bytes i 0) → t ≡ Release → end_of s true (drop (i + 1) bytes) ≡ None → option_map (λ n. i + n) (end_of s false (drop i bytes)) ≡ None
no_released s bytes i t within is release none =
    end_inside s false bytes i Release within (sym release ∙ is) refl ∙ ap (option_map (λ n. i + 1 + n)) none

pub invalid_released : (s : Service) (bytes : List ℕ) (i : ℕ) (u : Token) → i < length bytes → u ≡ token_of s true (get_or bytes i 0) → u ≡ Invalid → end_of s true (drop i bytes) ≡ None
invalid_released s bytes i u within is invalid = end_more s true bytes i Invalid within (sym invalid ∙ is)

pub goes_on : (t : Token) → (t ≡ Release → ⊥) → (t ≡ Terminator → ⊥) → (t ≡ Invalid → ⊥) → stays_unreleased t ≡ true
goes_on Data a b c = refl
goes_on Component a b c = refl
goes_on Element a b c = refl
goes_on Release a b c = absurd (a refl)
goes_on Terminator a b c = absurd (b refl)
goes_on Invalid a b c = absurd (c refl)

-- ==== SegmentsLemmas: The segments that are read are those of the text.

-- ---- line breaks

pub breaks_at : (bytes : List ℕ) → list_all is_break (take (breaks_len bytes) bytes) ≡ true
breaks_at [] = refl
breaks_at (b ∷ bytes) =
    elim (cases_Bool (is_break b)) [
      | inl e ↦ rw e (and_from _ _ e (breaks_at bytes))
      | inr e ↦ rw e refl
    ]

-- no further line break follows
pub breaks_only : (breaks rest : List ℕ) → list_all is_break breaks ≡ true → breaks_len rest ≡ 0 → breaks_len (breaks ++ rest) ≡ length breaks
breaks_only [] rest h none = none
breaks_only (b ∷ breaks) rest h none =
    let parts = and_parts (is_break b) (list_all is_break breaks) h in
    rw parts.0 (ap suc (breaks_only breaks rest parts.1 none))

pub tag_is_no_break : (b : ℕ) → is_tag_byte b ≡ true → is_break b ≡ false
tag_is_no_break b h =
    elim (cases_Bool (is_break b)) [
      | inl e ↦ elim (or_cases (nat_eq b 13) (nat_eq b 10) e) [
        | inl same ↦ let none : false ≡ true = rw (eqb-true b 13 same) at h in absurd (false≢true none)
        | inr same ↦ let none : false ≡ true = rw (eqb-true b 10 same) at h in absurd (false≢true none)
      ]
      | inr e ↦ e
    ]

pub no_break_before : (s : Service) (segments : List Content) (text : List ℕ) → SegmentsText s segments text → breaks_len text ≡ 0
no_break_before s [] text h = rw h refl
no_break_before s (segment ∷ segments) text (first, breaks, rest, ((long, tag), elements, spelled, parts), are_breaks, others, whole) =
    rw (whole, parts) (begins segment.tag long tag elements (s.terminator ∷ []) breaks rest)
  where
    begins : (tag : List ℕ) → length tag ≡ 3 → list_all is_tag_byte tag ≡ true → (a b c d : List ℕ) → breaks_len (tag ++ a ++ b ++ c ++ d) ≡ 0
    begins [] long all a b c d = absurd (omega (arith, long))
    begins (t ∷ tag) long all a b c d = rw (tag_is_no_break t (and_parts (is_tag_byte t) (list_all is_tag_byte tag) all).0) refl

-- ---- one segment after the other

segments_skip : (s : Service) (skip : ℕ) (bytes : List ℕ) → segments_from s skip bytes ≡ segments_of s (drop skip bytes)
unfolding segments_from
segments_skip s zero [] = refl
segments_skip s (suc skip) [] = refl
segments_skip s zero (b ∷ bytes) = refl
segments_skip s (suc skip) (b ∷ bytes) = segments_skip s skip bytes

are_segments_skip : (s : Service) (skip : ℕ) (bytes : List ℕ) → are_segments_from s skip bytes ≡ are_segments s (drop skip bytes)
unfolding are_segments_from
are_segments_skip s zero [] = refl
are_segments_skip s (suc skip) [] = refl
are_segments_skip s zero (b ∷ bytes) = refl
are_segments_skip s (suc skip) (b ∷ bytes) = are_segments_skip s skip bytes

option_cases : {A : Type 0} (o : Option A) → ((x : A) × (o ≡ Some x)) ⊎ (o ≡ None)
option_cases None = inr refl
option_cases (Some x) = inl (x, refl)

pub segments_sound_from : (s : Service) (bytes : List ℕ) (skip : ℕ) → are_segments_from s skip bytes ≡ true → SegmentsText s (segments_from s skip bytes) (drop skip bytes)
unfolding segments_from are_segments_from
segments_sound_from s [] zero h = refl
segments_sound_from s [] (suc skip) h = refl
segments_sound_from s (b ∷ bytes) (suc skip) h = segments_sound_from s bytes skip h
segments_sound_from s (b ∷ bytes) zero h =
    elim (option_cases (body_len s (b ∷ bytes))) [
      | inl (n, found) ↦
          let rest_is : are_segments_from s (n + breaks_len (drop n bytes)) bytes ≡ true = rw found at h in
          let (m, body) = body_sound s (b ∷ bytes) n found in
          let (text, spelled, parts) = segment_found s (b ∷ bytes) n m body in
          let breaks : List ℕ = take (breaks_len (drop n bytes)) (drop n bytes) in
          let behind : drop (n + 1) (b ∷ bytes) ≡ breaks ++ drop (n + breaks_len (drop n bytes)) bytes =
          rw add-one (sym (take-append-drop (breaks_len (drop n bytes)) (drop n bytes)) ∙ ap (λ (t : List ℕ). breaks ++ t) (drop-drop (breaks_len (drop n bytes)) n bytes)) in
          rw found (
            text,
            breaks,
            drop (n + breaks_len (drop n bytes)) bytes,
            spelled,
            breaks_at (drop n bytes),
            segments_sound_from s bytes (n + breaks_len (drop n bytes)) rest_is,
            parts ∙ ap (λ (t : List ℕ). text ++ t) behind ∙ sym (append_assoc text breaks (drop (n + breaks_len (drop n bytes)) bytes)),
          )
      | inr none ↦ let no : false ≡ true = rw none at h in absurd (false≢true no)
    ]

none_in_nothing : (s : Service) → segment_at s [] ≡ None
unfolding end_of
none_in_nothing s = refl

-- the segments of a text that begins with one
one_more : (s : Service) (segment : Content) (segments : List Content) (bytes breaks rest : List ℕ) → segment_at s bytes ≡ Some (segment, breaks ++ rest) → list_all is_break breaks ≡ true → breaks_len rest ≡ 0 → are_segments s rest ≡ true → segments_of s rest ≡ segments → (are_segments s bytes ≡ true) × (segments_of s bytes ≡ segment ∷ segments)
unfolding segments_from are_segments_from
one_more s segment segments [] breaks rest found all none sound is = absurd (none-some (segment, breaks ++ rest) (sym (none_in_nothing s) ∙ found))
one_more s segment segments (b ∷ bytes) breaks rest found all none sound is =
    let (n, len, parts) = mapped_some (λ n. (content_of s (take n (b ∷ bytes)), drop (n + 1) (b ∷ bytes))) (body_len s (b ∷ bytes)) (segment, breaks ++ rest) found in
    let content_is : content_of s (take n (b ∷ bytes)) ≡ segment = ap (λ (p : Content × List ℕ). p.0) parts in
    let behind : drop n bytes ≡ breaks ++ rest = rw add-one at (ap (λ (p : Content × List ℕ). p.1) parts) in
    let skipped : breaks_len (drop n bytes) ≡ length breaks = ap breaks_len behind ∙ breaks_only breaks rest all none in
    let rest_is : drop (n + breaks_len (drop n bytes)) bytes ≡ rest =
    sym (drop-drop (breaks_len (drop n bytes)) n bytes) ∙ ap (drop (breaks_len (drop n bytes))) behind ∙ drop_at breaks rest (breaks_len (drop n bytes)) (sym skipped) in (
      ap (λ (o : Option ℕ). option_map_or (λ n. are_segments_from s (n + breaks_len (drop n bytes)) bytes) o false) len
          ∙ are_segments_skip s (n + breaks_len (drop n bytes)) bytes ∙ ap (are_segments s) rest_is ∙ sound,
      ap (λ (o : Option ℕ). option_map_or (λ n. content_of s (take n (b ∷ bytes)) ∷ segments_from s (n + breaks_len (drop n bytes)) bytes) o []) len
          ∙ ap (λ (c : Content). c ∷ segments_from s (n + breaks_len (drop n bytes)) bytes) content_is
          ∙ ap (λ (cs : List Content). segment ∷ cs) (segments_skip s (n + breaks_len (drop n bytes)) bytes ∙ ap (segments_of s) rest_is ∙ is),
    )

pub segments_complete : (s : Service) (segments : List Content) (text : List ℕ) → SegmentsText s segments text → (are_segments s text ≡ true) × (segments_of s text ≡ segments)
unfolding segments_from are_segments_from
segments_complete s [] text h = rw h (refl, refl)
segments_complete s (segment ∷ segments) text (first, breaks, rest, spelled, are_breaks, others, whole) =
    let behind = segments_complete s segments rest others in
    let found : segment_at s text ≡ Some (segment, breaks ++ rest) =
    ap (segment_at s) (whole ∙ append_assoc first breaks rest) ∙ segment_complete s segment first (breaks ++ rest) spelled in
    one_more s segment segments text breaks rest found are_breaks (no_break_before s segments rest others) behind.0 behind.1

pub segments_sound : (s : Service) (bytes : List ℕ) → are_segments s bytes ≡ true → SegmentsText s (segments_of s bytes) bytes
segments_sound s bytes h = segments_sound_from s bytes 0 h

-- ---- what the code does

pub next_of_segments : (s : Service) (bytes : List ℕ) → segments_of s bytes ≡ option_map_or (λ (x : Content × List ℕ). x.0 ∷ segments_of s x.1) (next_at s bytes) []
unfolding segments_from end_of
next_of_segments s [] = refl
next_of_segments s (b ∷ bytes) =
    elim (option_cases (body_len s (b ∷ bytes))) [
      | inl (n, found) ↦ rw (found, segments_skip s (n + breaks_len (drop n bytes)) bytes, add-one, drop-drop (breaks_len (drop n bytes)) n bytes) refl
      | inr none ↦ rw none refl
    ]

pub next_of_are_segments : (s : Service) (bytes : List ℕ) → (length bytes ≡ 0 → ⊥) → are_segments s bytes ≡ option_map_or (λ (x : Content × List ℕ). are_segments s x.1) (next_at s bytes) false
unfolding are_segments_from end_of
next_of_are_segments s [] some = absurd (some refl)
next_of_are_segments s (b ∷ bytes) some =
    elim (option_cases (body_len s (b ∷ bytes))) [
      | inl (n, found) ↦ rw (found, are_segments_skip s (n + breaks_len (drop n bytes)) bytes, add-one, drop-drop (breaks_len (drop n bytes)) n bytes) refl
      | inr none ↦ rw none refl
    ]

pub nothing_is_segments : (s : Service) (bytes : List ℕ) → length bytes ≡ 0 → are_segments s bytes ≡ true
unfolding are_segments_from
nothing_is_segments s [] h = refl
nothing_is_segments s (b ∷ bytes) h = absurd (omega arith)

-- each segment takes at least one byte
pub length-segments : (s : Service) (bytes : List ℕ) (skip : ℕ) → length (segments_from s skip bytes) ≤ length bytes
unfolding segments_from
length-segments s [] zero = omega arith
length-segments s [] (suc skip) = omega arith
length-segments s (b ∷ bytes) (suc skip) = omega (arith, length-segments s bytes skip)
length-segments s (b ∷ bytes) zero = one (λ skip. length-segments s bytes skip) (body_len s (b ∷ bytes))
  where
    one : ((skip : ℕ) → length (segments_from s skip bytes) ≤ length bytes) → (o : Option ℕ) → length (option_map_or (λ n. content_of s (take n (b ∷ bytes)) ∷ segments_from s (n + breaks_len (drop n bytes)) bytes) o []) ≤ suc (length bytes)
    one shorter None = omega arith
    one shorter (Some n) = omega (arith, shorter (n + breaks_len (drop n bytes)))

-- nothing is left where no segment is, and nothing else
pub at_end_is : (s : Service) (bytes : List ℕ) → nat_eq (length bytes) 0 ≡ (nat_eq (length (segments_of s bytes)) 0 && are_segments s bytes)
unfolding segments_from are_segments_from
at_end_is s [] = refl
at_end_is s (b ∷ bytes) =
    let some : length (b ∷ bytes) ≡ 0 → ⊥ = λ none. omega (arith, none) in
    elim (option_cases (next_at s (b ∷ bytes))) [
      | inl (first, found) ↦
          let left : segments_of s (b ∷ bytes) ≡ first.0 ∷ segments_of s first.1 =
          next_of_segments s (b ∷ bytes) ∙ ap (λ (o : Option (Content × List ℕ)). option_map_or (λ (x : Content × List ℕ). x.0 ∷ segments_of s x.1) o []) found in
          let more : nat_eq (length (segments_of s (b ∷ bytes))) 0 ≡ false = ne_eqb (length (segments_of s (b ∷ bytes))) 0 (λ none. omega (arith, none, ap length left)) in
          ne_eqb (length (b ∷ bytes)) 0 some ∙ sym (ap (λ (v : Bool). v && are_segments s (b ∷ bytes)) more)
      | inr none ↦
          let bad : are_segments s (b ∷ bytes) ≡ false =
          next_of_are_segments s (b ∷ bytes) some ∙ ap (λ (o : Option (Content × List ℕ)). option_map_or (λ (x : Content × List ℕ). are_segments s x.1) o false) none in
          ne_eqb (length (b ∷ bytes)) 0 some ∙ sym (ap (λ (v : Bool). nat_eq (length (segments_of s (b ∷ bytes))) 0 && v) bad ∙ and_right _ _ refl)
    ]

-- ==== FirstSeparators: Where the first separator stands, by the first byte that is one, released or not.

-- the byte at an index is released, as far as the byte before it tells
abbrev pub is_hidden : Service → Bool → List ℕ → ℕ → Bool
is_hidden s released bytes zero = released
is_hidden s released bytes (suc n) = releases (token_of s false (get_or bytes n 0))

is_hidden_behind : (s : Service) (released : Bool) (b : ℕ) (bytes : List ℕ) (n : ℕ) → releases (token_of s false (get_or (b ∷ bytes) n 0)) ≡ false → is_hidden s (releases (token_of s released b)) bytes n ≡ false
is_hidden_behind s true b bytes zero plain = elim (released_means s b) [ inl (is_data, _) ↦ rw is_data refl | inr invalid ↦ rw invalid refl ]
is_hidden_behind s false b bytes zero plain = plain
is_hidden_behind s released b bytes (suc n) plain = plain

separates_not : (separator : ℕ) (released : Bool) (b : ℕ) → nat_eq b separator ≡ false → separates separator released b ≡ false
separates_not separator true b other = refl
separates_not separator false b other = other

-- the first of them all separates, if the byte before it releases nothing
separator_first : (s : Service) (separator : ℕ) (released : Bool) (bytes : List ℕ) (at : ℕ) → at < length bytes → ((k : ℕ) → k < at → nat_eq (get_or bytes k 0) separator ≡ false) → nat_eq (get_or bytes at 0) separator ≡ true → is_hidden s released bytes at ≡ false → separator_of s separator released bytes ≡ Some at
unfolding separator_of
separator_first s separator released [] at within before here plain = absurd (omega arith)
separator_first s separator released (b ∷ bytes) zero within before here plain = rw (plain, here) refl
separator_first s separator released (b ∷ bytes) (suc at) within before here plain =
    rw (separates_not separator released b (before 0 (omega arith)))
    (ap (option_map suc) (separator_first s separator (releases (token_of s released b)) bytes at (omega arith) (λ k below. before (suc k) (omega arith)) here (is_hidden_behind s released b bytes at plain)))

-- there is none
separator_absent : (s : Service) (separator : ℕ) (released : Bool) (bytes : List ℕ) → ((k : ℕ) → k < length bytes → nat_eq (get_or bytes k 0) separator ≡ false) → separator_of s separator released bytes ≡ None
unfolding separator_of
separator_absent s separator released [] before = refl
separator_absent s separator released (b ∷ bytes) before =
    rw (separates_not separator released b (before 0 (omega arith)))
    (ap (option_map suc) (separator_absent s separator (releases (token_of s released b)) bytes (λ k below. before (suc k) (omega arith))))

-- how many bytes stand before the first separator, released or not
abbrev pub len_before : ℕ → List ℕ → ℕ
len_before separator bytes = position_or_len (λ (b : ℕ). nat_eq b separator) bytes

pub none_is : (s : Service) (separator at : ℕ) (bytes : List ℕ) → at ≡ len_before separator bytes → length bytes ≤ at → None ≡ separator_of s separator false bytes
none_is s separator at bytes is all =
    sym (separator_absent s separator false bytes (λ k below. fails_before_first (λ (b : ℕ). nat_eq b separator) bytes k 0 (omega (arith, is, all))))

pub first_is : (s : Service) (separator at : ℕ) (bytes : List ℕ) → at ≡ len_before separator bytes → at < length bytes → is_hidden s false bytes at ≡ false → Some at ≡ separator_of s separator false bytes
first_is s separator at bytes is within plain =
    let here : len_before separator bytes < length bytes = omega (arith, is) in
    sym (separator_first s separator false bytes at within (λ k below. fails_before_first (λ (b : ℕ). nat_eq b separator) bytes k 0 (omega (arith, is))) (subst (λ (n : ℕ). nat_eq (get_or bytes n 0) separator ≡ true) (sym is) (passes_at_first (λ (b : ℕ). nat_eq b separator) bytes 0 here)) plain)

-- the byte before it releases nothing
pub plain_before : (s : Service) (bytes : List ℕ) (at : ℕ) (before : ℕ) → suc before ≡ at → releases (token_of s false (get_or bytes before 0)) ≡ false → is_hidden s false bytes at ≡ false
plain_before s bytes at before is plain = subst (λ (n : ℕ). is_hidden s false bytes n ≡ false) is plain

-- no byte stands before it
pub plain_at_front : (s : Service) (bytes : List ℕ) (at : ℕ) → at ≡ 0 → is_hidden s false bytes at ≡ false
plain_at_front s bytes at is = subst (λ (n : ℕ). is_hidden s false bytes n ≡ false) (sym is) refl

-- ==== BreakLemmas: Line breaks at the ends of a text.

all_with_break : (bytes : List ℕ) (b : ℕ) → is_break b ≡ true → list_all is_break (bytes ++ b ∷ []) ≡ list_all is_break bytes
all_with_break [] b is = rw is refl
all_with_break (a ∷ bytes) b is = ap (λ (v : Bool). is_break a && v) (all_with_break bytes b is)

not_all_with : (bytes : List ℕ) (b : ℕ) → is_break b ≡ false → list_all is_break (bytes ++ b ∷ []) ≡ false
not_all_with [] b is = rw is refl
not_all_with (a ∷ bytes) b is = and_right (is_break a) (list_all is_break (bytes ++ b ∷ [])) (not_all_with bytes b is)

pub break_at_end : (bytes : List ℕ) (b : ℕ) → is_break b ≡ true → without_breaks_at_end (bytes ++ b ∷ []) ≡ without_breaks_at_end bytes
break_at_end [] b is = rw is refl
break_at_end (a ∷ bytes) b is = rw (all_with_break bytes b is, break_at_end bytes b is) refl

pub other_at_end : (bytes : List ℕ) (b : ℕ) → is_break b ≡ false → without_breaks_at_end (bytes ++ b ∷ []) ≡ bytes ++ b ∷ []
other_at_end [] b is = rw is refl
other_at_end (a ∷ bytes) b is =
    let other : is_break a && list_all is_break (bytes ++ b ∷ []) ≡ false = and_right (is_break a) (list_all is_break (bytes ++ b ∷ [])) (not_all_with bytes b is) in
    rw other (ap (λ (t : List ℕ). a ∷ t) (other_at_end bytes b is))

-- ==== SpelledLemmas: What serves nowhere is spelled as it is.

abbrev pub serves_nowhere : ℕ → Bool
serves_nowhere b = not (is_service default_service b)

pub spelled_as_it_is : (value : List ℕ) → list_all serves_nowhere value ≡ true → spelling value ≡ value
spelled_as_it_is [] none = refl
spelled_as_it_is (b ∷ value) none =
    let parts = and_parts (serves_nowhere b) (list_all serves_nowhere value) none in
    rw (not-true (is_service default_service b) parts.0) (ap (λ (rest : List ℕ). b ∷ rest) (spelled_as_it_is value parts.1))
