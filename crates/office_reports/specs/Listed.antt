-- What is listed by texts.
use Rattle.std.specs.{Prelude.{ℕ, List, Contains}, List.Sorted.IsStrictlySortedBy, Map.keys_of, Ordering.nat_cmp, Cmp.Lexicographic.slice_cmp}

-- The list has each thing that goes under a text, and nothing else, in the order of the texts, of which none stands
-- twice.
pub record AreListed {X : Type 0} (GoesUnder : List ℕ → X → Type 0) (list : List (List ℕ × X)) : Type 0 where
  pub sorted : IsStrictlySortedBy (slice_cmp nat_cmp) (keys_of list)
  pub each : (text : List ℕ) (thing : X) → GoesUnder text thing → Contains list (text, thing)
  pub only : (text : List ℕ) (thing : X) → Contains list (text, thing) → GoesUnder text thing
