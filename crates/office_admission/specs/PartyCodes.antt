-- What the code of a terminal or of a partner may be.
use Rattle.std.specs.{Prelude.{ℕ, Bool, ◌&&◌, ◌||◌, ◌==◌, nat_le, List, length}, Char.{is_ascii_uppercase, is_ascii_lowercase, is_ascii_digit}, List.list_all}

-- a letter, a digit, a hyphen, a dot or an underscore
abbrev pub is_party_byte : ℕ → Bool
is_party_byte c = is_ascii_uppercase c || is_ascii_lowercase c || is_ascii_digit c || c == 45 || c == 46 || c == 95

-- the code of a terminal or of a partner: 1 to 35 of them
abbrev pub is_party_code : List ℕ → Bool
is_party_code code = nat_le 1 (length code) && nat_le (length code) 35 && list_all is_party_byte code
