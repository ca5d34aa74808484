-- What the parts of a path stand for (RFC 3986, section 2.1).
use Rattle.std.specs.{Prelude.{ℕ, ◌+◌, ◌*◌, ◌&&◌, ◌==◌, nat_lt, List, [], ◌∷◌, Option, None, Some, option_map, if◌then◌else◌}, Option.option_and_then}
use Rattle.std.specs.Char.{digit_value}

-- the byte that two hexadecimal digits write
abbrev pub byte_of : ℕ → ℕ → Option ℕ
byte_of high low =
    if nat_lt (digit_value high) 16 && nat_lt (digit_value low) 16 then Some (digit_value high * 16 + digit_value low)
    else None

-- a byte, and the bytes after it
abbrev pub with_first_byte : Option (List ℕ) → ℕ → Option (List ℕ)
with_first_byte behind byte = option_map (λ bytes. byte ∷ bytes) behind

-- The bytes that a text stands for: `%` (37) and two hexadecimal digits stand for a byte, and another `%` can't be
-- read. Every other byte stands for itself.
abbrev pub decoded_part : List ℕ → Option (List ℕ)
decoded_part [] = Some []
decoded_part (a ∷ []) = if a == 37 then None else Some (a ∷ [])
decoded_part (a ∷ b ∷ []) = if a == 37 then None else with_first_byte (decoded_part (b ∷ [])) a
decoded_part (a ∷ b ∷ c ∷ rest) =
    if a == 37 then option_and_then (with_first_byte (decoded_part rest)) (byte_of b c) else with_first_byte (decoded_part (b ∷ c ∷ rest)) a
