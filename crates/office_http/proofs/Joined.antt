-- A text that is made of two, whatever the case of its letters.
use Rattle.std.{specs.{Char.to_ascii_lowercase, Str.{str_eq_ignore_ascii_case, str_to_ascii_lowercase}}, proofs.lemmas.Bool.false≢true}
use Rattle.std.proofs.Common.{◌≡◌, ◌≤◌, ℕ, List, ◌++◌, length, take, drop, Bool, true, false, ◌&&◌, refl, sym, ap, ap₂, ◌∙◌, take-append-drop}
use Rattle.std.proofs.{lemmas.List.{map-append, length-map, length-take-le, take_at, drop_at}, lemmas.Slice.Eq.bytes_eq-Decides}

abbrev lowered : List ℕ → List ℕ
lowered text = str_to_ascii_lowercase text

same : (a b : List ℕ) → str_eq_ignore_ascii_case a b ≡ true → lowered a ≡ lowered b
same a b is = (bytes_eq-Decides (lowered a) (lowered b)).0 is

equal : (a b : List ℕ) → lowered a ≡ lowered b → str_eq_ignore_ascii_case a b ≡ true
equal a b is = (bytes_eq-Decides (lowered a) (lowered b)).1 is

module _ (text front rest : List ℕ) (fits : length front ≤ length text) where
  abbrev begun : List ℕ
  begun = take (length front) text

  abbrev ended : List ℕ
  ended = drop (length front) text

  parts : lowered text ≡ lowered begun ++ lowered ended
  parts = ap lowered (sym (take-append-drop (length front) text)) ∙ map-append to_ascii_lowercase begun ended

  wanted : lowered (front ++ rest) ≡ lowered front ++ lowered rest
  wanted = map-append to_ascii_lowercase front rest

  size : length (lowered begun) ≡ length front
  size = length-map begun to_ascii_lowercase ∙ length-take-le (length front) text fits

  both : str_eq_ignore_ascii_case begun front ≡ true → str_eq_ignore_ascii_case ended rest ≡ true → str_eq_ignore_ascii_case text (front ++ rest) ≡ true
  both first second = equal text (front ++ rest) (parts ∙ ap₂ (λ (a b : List ℕ). a ++ b) (same begun front first) (same ended rest second) ∙ sym wanted)

  apart : str_eq_ignore_ascii_case text (front ++ rest) ≡ true → lowered begun ++ lowered ended ≡ lowered front ++ lowered rest
  apart is = sym parts ∙ same text (front ++ rest) is ∙ wanted

  first_too : str_eq_ignore_ascii_case text (front ++ rest) ≡ true → str_eq_ignore_ascii_case begun front ≡ true
  first_too is =
      equal begun front (sym (take_at (lowered begun) (lowered ended) (length front) size) ∙ ap (take (length front)) (apart is)
      ∙ take_at (lowered front) (lowered rest) (length front) (length-map front to_ascii_lowercase))

  second_too : str_eq_ignore_ascii_case text (front ++ rest) ≡ true → str_eq_ignore_ascii_case ended rest ≡ true
  second_too is =
      equal ended rest (sym (drop_at (lowered begun) (lowered ended) (length front) size) ∙ ap (drop (length front)) (apart is)
      ∙ drop_at (lowered front) (lowered rest) (length front) (length-map front to_ascii_lowercase))

  joined : (str_eq_ignore_ascii_case begun front && str_eq_ignore_ascii_case ended rest) ≡ str_eq_ignore_ascii_case text (front ++ rest)
  joined = by _ _ _ refl refl refl
    where
      by : (first second whole : Bool) → str_eq_ignore_ascii_case begun front ≡ first → str_eq_ignore_ascii_case ended rest ≡ second →
          str_eq_ignore_ascii_case text (front ++ rest) ≡ whole → (first && second) ≡ whole
      by true true true is is' is'' = refl
      by true true false is is' is'' = absurd (false≢true (sym is'' ∙ both is is'))
      by true false true is is' is'' = absurd (false≢true (sym is' ∙ second_too is''))
      by true false false is is' is'' = refl
      by false second true is is' is'' = absurd (false≢true (sym is ∙ first_too is''))
      by false second false is is' is'' = refl

-- by its parts as they were compared
pub joined_by : (text front rest first_part second_part : List ℕ) (first second : Bool) → length front ≤ length text → first_part ≡ take (length front) text → second_part ≡ drop (length front) text →
    first ≡ str_eq_ignore_ascii_case first_part front → second ≡ str_eq_ignore_ascii_case second_part rest → (first && second) ≡ str_eq_ignore_ascii_case text (front ++ rest)
joined_by text front rest first_part second_part first second fits begun_is ended_is first_is second_is =
    (λ i. first_is i && second_is i)
    ∙ (λ i. str_eq_ignore_ascii_case (begun_is i) front && str_eq_ignore_ascii_case (ended_is i) rest)
    ∙ joined text front rest fits
