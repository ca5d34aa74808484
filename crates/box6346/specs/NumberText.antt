-- Container numbers (ISO 6346, container identification; annex A, the check digit).
use Rattle.std.specs.Prelude.{ℕ, ◌+◌, ◌-◌, ◌*◌, ◌^◌, ◌%◌, Bool, ◌&&◌, ◌||◌, ◌==◌, if◌then◌else◌, List, [], ◌∷◌, length, take, drop, slice_index}
use Rattle.std.specs.{Char.{is_ascii_uppercase, is_ascii_digit}, List.list_all}
use Rattle.box6346.specs.Characters.{digit_zero, capital_a, capital_j, capital_u, capital_z}

-- the letters from A to Z count from 10 upwards, 11 and its multiples left out
abbrev pub letter_values : List ℕ
letter_values =
    10 ∷ 12 ∷ 13 ∷ 14 ∷ 15 ∷ 16 ∷ 17 ∷ 18 ∷ 19 ∷ 20 ∷ 21 ∷ 23 ∷ 24
    ∷ 25 ∷ 26 ∷ 27 ∷ 28 ∷ 29 ∷ 30 ∷ 31 ∷ 32 ∷ 34 ∷ 35 ∷ 36 ∷ 37 ∷ 38 ∷ []

-- what a character counts: a digit itself, a letter by the table
abbrev pub value_of : ℕ → ℕ
value_of c =
    if is_ascii_digit c then c - digit_zero
    else (if is_ascii_uppercase c then slice_index letter_values (c - capital_a) else 0)

-- the values by their weights, the powers of two from the position on
abbrev pub weighted_sum : ℕ → List ℕ → ℕ
weighted_sum position [] = 0
weighted_sum position (c ∷ cs) = value_of c * 2 ^ position + weighted_sum (position + 1) cs

-- the check digit: the sum modulo 11, with the remainder 10 written as 0
abbrev pub check_digit_of : List ℕ → ℕ
check_digit_of text = weighted_sum 0 text % 11 % 10

-- the equipment category: U for freight containers, J for detachable equipment, Z for trailers
abbrev pub is_category : ℕ → Bool
is_category c = c == capital_u || c == capital_j || c == capital_z

-- owner code, equipment category and serial number: three capitals, U, J or Z, six digits
abbrev pub names_container : List ℕ → Bool
names_container text =
    list_all is_ascii_uppercase (take 3 text) && is_category (slice_index text 3)
    && list_all is_ascii_digit (take 6 (drop 4 text))

-- the form of a whole number, which has a digit more
abbrev pub has_form : List ℕ → Bool
has_form text = length text == 11 && names_container (take 10 text) && is_ascii_digit (slice_index text 10)

-- the last digit is the check digit of the characters before
abbrev pub is_checked : List ℕ → Bool
is_checked text = slice_index text 10 == digit_zero + check_digit_of (take 10 text)

-- a container number
unfoldable pub is_number : List ℕ → Bool
is_number text = has_form text && is_checked text
