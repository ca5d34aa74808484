-- Where there is nothing but segments, the first terminator that is not released ends the first of them.
use Rattle.std.{specs.{Option.{option_map, option_map_or}, List.list_all}, proofs.lemmas.Bool.{eqb-true, eq-eqb, cases_Bool, false≢true}}
use Rattle.std.proofs.Common.{◌≡◌, ℕ, suc, ◌+◌, ◌<◌, ◌≤◌, Bool, true, false, cond, ◌&&◌, nat_eq, List, [], ◌∷◌, length, take, drop, Option, Some, None, refl, sym, ap, ◌∙◌, inl, inr, arith}
use Rattle.std.proofs.{lemmas.Option.some_pair_parts, lemmas.List.{length-drop, length-take, drop-drop}}
use Rattle.edi_syntax.specs.{Characters.is_tag_byte, Tokens.{token_of, releases}, Parts.{separates, separator_of, split_of}, Text.Content}
use Rattle.edi_syntax.specs.{Reading.{with_end, end_of, begins_elements, body_len, content_of, next_at, breaks_len, are_segments}, declared.token.Token.Token}
use Rattle.edi_syntax.specs.{declared.characters.Service.Service, declared.token.Token.TheVariants.{Data, Release, Component, Element, Terminator, Invalid}}
use Rattle.edi_syntax.proofs.SegmentLemmas.{MeansUnreleased, token_means, released_means, terminator_token, mapped_some, mapped_suc, cond_none}
use Rattle.edi_syntax.proofs.SegmentsLemmas.{next_of_are_segments, no_end}

-- ---- the terminator that is not released

abbrev is_terminator : Token → Bool
is_terminator Data = false
is_terminator Release = false
is_terminator Component = false
is_terminator Element = false
is_terminator Terminator = true
is_terminator Invalid = false

apart : (s : Service) (b : ℕ) (t : Token) → MeansUnreleased s b t → nat_eq b s.terminator ≡ false → false ≡ is_terminator t
apart s b Data means h = refl
apart s b Release means h = refl
apart s b Component means h = refl
apart s b Element means h = refl
apart s b Terminator means h = sym h ∙ eq-eqb b s.terminator means
apart s b Invalid means h = refl

terminator_separates : (s : Service) (released : Bool) (b : ℕ) → separates s.terminator released b ≡ is_terminator (token_of s released b)
terminator_separates s true b = elim (released_means s b) [ inl (is_data, _) ↦ rw is_data refl | inr invalid ↦ rw invalid refl ]
terminator_separates s false b =
    elim (cases_Bool (nat_eq b s.terminator)) [
      | inl e ↦ rw e (rw (eqb-true b s.terminator e, terminator_token s) refl)
      | inr e ↦ rw e (apart s b (token_of s false b) (token_means s b) e)
    ]

abbrev Finds : Service → List ℕ → Type 0
Finds s bytes =
    (released : Bool) (k : ℕ) → end_of s released bytes ≡ Some k → (separator_of s s.terminator released bytes ≡ Some k) × (k < length bytes)

step : (s : Service) (bytes : List ℕ) (k : ℕ) (t : Token) → Finds s bytes → with_end t (end_of s (releases t) bytes) ≡ Some k → (cond (is_terminator t) (Some 0) (option_map suc (separator_of s s.terminator (releases t) bytes)) ≡ Some k) × (k < suc (length bytes))
step s bytes k Data finds e = let (m, ends, is) = mapped_suc (end_of s false bytes) k e in let found = finds false m ends in (rw is (ap (option_map suc) found.0), omega (arith, is, found.1))
step s bytes k Release finds e = let (m, ends, is) = mapped_suc (end_of s true bytes) k e in let found = finds true m ends in (rw is (ap (option_map suc) found.0), omega (arith, is, found.1))
step s bytes k Component finds e = let (m, ends, is) = mapped_suc (end_of s false bytes) k e in let found = finds false m ends in (rw is (ap (option_map suc) found.0), omega (arith, is, found.1))
step s bytes k Element finds e = let (m, ends, is) = mapped_suc (end_of s false bytes) k e in let found = finds false m ends in (rw is (ap (option_map suc) found.0), omega (arith, is, found.1))
step s bytes k Terminator finds e = let none : 0 ≡ k = cc in (ap Some none, omega (arith, none))
step s bytes k Invalid finds e = absurd cc

finds_end : (s : Service) (bytes : List ℕ) → Finds s bytes
unfolding end_of separator_of
finds_end s [] released k e = absurd cc
finds_end s (b ∷ bytes) released k e = rw (terminator_separates s released b) (step s bytes k (token_of s released b) (finds_end s bytes) e)

-- ---- the first segment

pub none_short : (s : Service) (bytes : List ℕ) → length bytes < 3 → None ≡ next_at s bytes
none_short s bytes short = sym (ap (option_map (λ n. (content_of s (take n bytes), drop (breaks_len (drop (n + 1) bytes)) (drop (n + 1) bytes)))) none)
  where
    nothing : (b : Bool) (o : Option ℕ) → o ≡ None → cond b (option_map (λ n. 3 + n) o) None ≡ None
    nothing true o e = rw e refl
    nothing false o e = refl

    none : body_len s bytes ≡ None
    none = nothing (list_all is_tag_byte (take 3 bytes) && begins_elements s (drop 3 bytes)) (end_of s false (drop 3 bytes)) (no_end s false (drop 3 bytes) (omega (arith, short, length-drop 3 bytes)))

-- the end of the first segment, and what the terminator parts
record Begins (s : Service) (bytes : List ℕ) (k : ℕ) : Type 0 where
  body : body_len s bytes ≡ Some (3 + k)
  split : split_of s s.terminator (drop 3 bytes) ≡ Some (take k (drop 3 bytes), drop (k + 1) (drop 3 bytes))
  within : k < length (drop 3 bytes)

first_segment : (s : Service) (bytes : List ℕ) → are_segments s bytes ≡ true → 3 ≤ length bytes → (k : ℕ) × Begins s bytes k
first_segment s bytes valid long = found (body_len s bytes) refl
  where
    goes : option_map_or (λ (x : Content × List ℕ). are_segments s x.1) (next_at s bytes) false ≡ true
    goes = sym (next_of_are_segments s bytes (λ none. omega (arith, none, long))) ∙ valid

    found : (o : Option ℕ) → body_len s bytes ≡ o → (k : ℕ) × Begins s bytes k
    found None e =
        absurd (false≢true (sym (ap (λ (o : Option ℕ). option_map_or (λ (x : Content × List ℕ). are_segments s x.1) (option_map (λ n. (content_of s (take n bytes), drop (breaks_len (drop (n + 1) bytes)) (drop (n + 1) bytes))) o) false) e) ∙ goes))
    found (Some n) e =
        let parts = cond_none (list_all is_tag_byte (take 3 bytes) && begins_elements s (drop 3 bytes)) (option_map (λ n. 3 + n) (end_of s false (drop 3 bytes))) n e in
        let (k, ends, sum) = mapped_some (λ n. 3 + n) (end_of s false (drop 3 bytes)) n parts.1 in
        let there = finds_end s (drop 3 bytes) false k ends in
        (k, record { body = e ∙ ap Some (sym sum); split = ap (option_map (λ n. (take n (drop 3 bytes), drop (n + 1) (drop 3 bytes)))) there.0; within = there.1 })

-- the first segment by what the terminator parts
pub record IsFirst (s : Service) (bytes before behind : List ℕ) : Type 0 where
  pub at : next_at s bytes ≡ Some (content_of s (take (3 + length before) bytes), drop (breaks_len behind) behind)
  pub others : are_segments s (drop (breaks_len behind) behind) ≡ true

pub first_is : (s : Service) (bytes before behind : List ℕ) → are_segments s bytes ≡ true → 3 ≤ length bytes → Some (before, behind) ≡ split_of s s.terminator (drop 3 bytes) → IsFirst s bytes before behind
first_is s bytes before behind valid long is =
    let (k, first) = first_segment s bytes valid long in
    let parts = some_pair_parts before (take k (drop 3 bytes)) behind (drop (k + 1) (drop 3 bytes)) (is ∙ first.split) in
    let size : length before ≡ k = ap length parts.0 ∙ length-take k (drop 3 bytes) ∙ omega (arith, first.within) in
    let rest : drop (3 + k + 1) bytes ≡ behind = ap (λ (n : ℕ). drop n bytes) (omega arith) ∙ sym (drop-drop (k + 1) 3 bytes) ∙ sym parts.1 in
    let next : next_at s bytes ≡ Some (content_of s (take (3 + length before) bytes), drop (breaks_len behind) behind) =
    ap (option_map (λ n. (content_of s (take n bytes), drop (breaks_len (drop (n + 1) bytes)) (drop (n + 1) bytes)))) first.body
    ∙ ap (λ (t : List ℕ). Some (content_of s (take (3 + k) bytes), drop (breaks_len t) t)) rest
    ∙ ap (λ (n : ℕ). Some (content_of s (take (3 + n) bytes), drop (breaks_len behind) behind)) (sym size) in
    record {
      at = next;
      others = sym (next_of_are_segments s bytes (λ none. omega (arith, none, long)) ∙ ap (λ (o : Option (Content × List ℕ)). option_map_or (λ (x : Content × List ℕ). are_segments s x.1) o false) next) ∙ valid;
    }

pub not_none : (s : Service) (bytes : List ℕ) → are_segments s bytes ≡ true → 3 ≤ length bytes → None ≡ split_of s s.terminator (drop 3 bytes) → ⊥
not_none s bytes valid long is = let (k, first) = first_segment s bytes valid long in let both = is ∙ first.split in absurd cc
