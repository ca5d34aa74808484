-- Numbers as digits.
use Rattle.std.specs.{Prelude.{ℕ, Bool, ◌&&◌, ◌==◌, nat_le, List, length, Option, None, Some, false, if◌then◌else◌}, Option.option_map_or, List.list_all}
use Rattle.std.specs.Str.Parse.{digits_value}
use Rattle.edi_syntax.specs.Characters.{is_digit}

-- the number that one to `limit` digits write
abbrev pub number_of : ℕ → List ℕ → Option ℕ
number_of limit value =
    if nat_le 1 (length value) && nat_le (length value) limit && list_all is_digit value
    then Some (digits_value 10 value)
    else None

-- the value is one to six digits with this number
abbrev pub is_count : List ℕ → ℕ → Bool
is_count value number = option_map_or (λ n. n == number) (number_of 6 value) false

-- the last number that an interchange may have
abbrev pub last_number : ℕ
last_number = 999999999

-- a number that an interchange may have
abbrev pub as_control_number : ℕ → Option ℕ
as_control_number number = if nat_le 1 number && nat_le number last_number then Some number else None
