-- What one partner's numbers stand for: its texts in a map, its replies in a list from the number 1 on.
use Rattle.std.specs.{Prelude.{◌≡◌, ℕ, zero, suc, ◌≤◌, true, List, Option, None, is_some, slice_get}, Option.option_map, declared.vec.Vec.Vec, Ordering.nat_cmp}
use Rattle.std.specs.{declared.string.String.String, String.string_bytes, BTreeMap.{BTreeMap, get}}

-- the element with a number, from 1
abbrev pub with_number : {A : Type 0} → List A → ℕ → Option A
with_number xs zero = None
with_number xs (suc i) = slice_get xs i

-- the text under a number
abbrev pub text_in : {Z : Type 0} → BTreeMap ℕ (Vec ℕ Z) → ℕ → Option (List ℕ)
text_in texts k = option_map (λ text. text.items) (get nat_cmp texts k)

-- the bytes of the reply to a number
abbrev pub reply_in : {Y : Type 0} → List (String Y) → ℕ → Option (List ℕ)
reply_in replies k = option_map string_bytes (with_number replies k)

-- no kept text has a number above the last
abbrev pub HasNumbersTo : {Z : Type 0} → ℕ → BTreeMap ℕ (Vec ℕ Z) → Type 0
HasNumbersTo last texts = (k : ℕ) → is_some (get nat_cmp texts k) ≡ true → k ≤ last
