-- Bytes by what they may be in an EDIFACT text.
use Rattle.std.specs.{Prelude.{ℕ, Bool, false, not, ◌&&◌, ◌||◌, ◌==◌, nat_le, nat_lt, List, take, codes, Option, None, Some}, Str.bytes_eq}
use Rattle.edi_syntax.specs.Bytes.{line_feed, carriage_return, space, tilde, delete, digit_zero, digit_nine, capital_a, capital_z, small_a, small_z}

abbrev pub is_capital : ℕ → Bool
is_capital b = nat_le capital_a b && nat_le b capital_z

abbrev pub is_digit : ℕ → Bool
is_digit b = nat_le digit_zero b && nat_le b digit_nine

abbrev pub is_small_letter : ℕ → Bool
is_small_letter b = nat_le small_a b && nat_le b small_z

-- CR or LF
abbrev pub is_break : ℕ → Bool
is_break b = b == carriage_return || b == line_feed

-- a byte of a tag
abbrev pub is_tag_byte : ℕ → Bool
is_tag_byte b = is_capital b || is_digit b

-- a byte that stands in data, unless it is a service character
abbrev pub is_data_byte : ℕ → Bool
is_data_byte b = nat_le space b && not (b == delete)

-- a byte that may be a service character
abbrev pub may_serve : ℕ → Bool
may_serve b = nat_lt b 128 && not (is_capital b || is_digit b || is_small_letter b || is_break b || b == space)

-- the byte is the release character, if one is used
abbrev pub is_release : Option ℕ → ℕ → Bool
is_release None b = false
is_release (Some r) b = b == r

-- The three separators may serve and differ.
abbrev pub are_separators : ℕ → ℕ → ℕ → Bool
are_separators component element terminator =
    may_serve component && may_serve element && may_serve terminator
    && not (component == element) && not (component == terminator) && not (element == terminator)

-- so does a used release character
abbrev pub are_service_characters : ℕ → ℕ → Option ℕ → ℕ → Bool
are_service_characters component element None terminator = are_separators component element terminator
are_service_characters component element (Some release) terminator =
    are_separators component element terminator && may_serve release
    && not (release == component) && not (release == element) && not (release == terminator)

-- the text begins with `UNA`
abbrev pub begins_with_advice : List ℕ → Bool
begins_with_advice text = bytes_eq (take 3 text) (codes "UNA")

-- a byte from space to tilde
abbrev pub is_printable : ℕ → Bool
is_printable b = nat_le space b && nat_le b tilde
