-- What is seen of a connection, for the log (our own).
use Rattle.std.specs.{Prelude.{◌≡◌, ℕ, ◌+◌, ◌-◌, ◌*◌, ◌^◌, min, List, [], ◌∷◌, ◌++◌, take, drop, length, codes, if◌then◌else◌}, Str.bytes_eq}

-- ---- a status

-- the digit that a byte writes; of other bytes the nearest one
abbrev pub digit : ℕ → ℕ
digit byte = min (byte - 48) 9

-- the number that the first three digits write
abbrev pub three_digits : List ℕ → ℕ
three_digits (a ∷ (b ∷ (c ∷ rest))) = digit a * 100 + digit b * 10 + digit c
three_digits bytes = 0

-- the status of a response that begins so; 0 if that doesn't reach so far
abbrev pub status_seen : List ℕ → ℕ
status_seen response = if bytes_eq (take 4 response) (codes "HTTP") then three_digits (drop 9 response) else 0

-- ---- what goes through

-- how many bytes are kept at most of what goes through
abbrev pub most_seen : ℕ
most_seen = 256

-- after more bytes the front of all is kept, and all are counted, up to the greatest number
pub record Notes (front : List ℕ) (count : ℕ) (bytes new_front : List ℕ) (new_count : ℕ) : Type 0 where
  pub keeps : new_front ≡ front ++ take (most_seen - length front) bytes
  pub counts : new_count ≡ min (count + length bytes) (2 ^ 64 - 1)
