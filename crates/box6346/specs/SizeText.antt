-- Size-type codes (ISO 6346, size and type codes).
use Rattle.std.specs.{Prelude.{ℕ, Bool, ◌&&◌, ◌||◌, ◌==◌, List, length, slice_index}, Char.{is_ascii_uppercase, is_ascii_digit}, List.list_all}
use Rattle.box6346.specs.Characters.{digit_two, digit_four, capital_l}

-- a character of a code: a capital or a digit
abbrev pub is_code_character : ℕ → Bool
is_code_character c = is_ascii_uppercase c || is_ascii_digit c

-- four of them
abbrev pub has_form : List ℕ → Bool
has_form text = length text == 4 && list_all is_code_character text

-- the first character is a length that the yard can place: 2 for 20 foot, 4 for 40, L for 45
abbrev pub has_length : List ℕ → Bool
has_length text = slice_index text 0 == digit_two || slice_index text 0 == digit_four || slice_index text 0 == capital_l

-- a code that the yard can place
unfoldable pub is_size : List ℕ → Bool
is_size text = has_form text && has_length text
