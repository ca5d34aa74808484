-- What a person types for a container's number.
use Rattle.std.specs.Prelude.{ℕ, ◌+◌, ◌==◌, ◌||◌, List, length, map, filter, slice_set, take, not, Bool, Option, None, Some, Result, Ok, Err, if◌then◌else◌}
use Rattle.std.specs.{Char.to_ascii_uppercase, Str.is_utf8}
use Rattle.percent_encoding.specs.Percent.{percent_decode}
use Rattle.box6346.specs.{ContainerNumber.number_of, NumberText.check_digit_of, declared.box_number.BoxNumber.BoxNumber}
use Rattle.box6346.specs.declared.box_number.NumberFault.{NumberFault}
use Rattle.office_pages.specs.{declared.notices.Notice.Notice, declared.notices.Notice.TheVariants.{Form, CheckDigit}}
use Rattle.box6346.specs.declared.box_number.NumberFault.TheVariants as fault

-- a space, also as a form writes it (+), and a hyphen
abbrev pub is_left_out : ℕ → Bool
is_left_out c = c == 32 || c == 43 || c == 45

-- the characters that count, as capitals
abbrev pub typed_text : List ℕ → List ℕ
typed_text value = map to_ascii_uppercase (filter (λ c. not (is_left_out c)) (percent_decode value))

-- the check digit of the first ten characters in place of the eleventh
abbrev pub with_check_digit : List ℕ → List ℕ
with_check_digit text = slice_set text 10 (48 + check_digit_of (take 10 text))

-- the number with the right check digit, of a text that has the form of one
abbrev pub corrected : Result BoxNumber NumberFault → Result BoxNumber Notice
corrected (Ok number) = Err (CheckDigit number)
corrected (Err fault) = Err Form

abbrev pub number_in : List ℕ → Result BoxNumber NumberFault → Result BoxNumber Notice
number_in text (Ok number) = Ok number
number_in text (Err fault.Form) = Err Form
number_in text (Err fault.CheckDigit) = corrected (number_of (with_check_digit text))

-- a form writes a space as +
abbrev pub space_or_same : ℕ → ℕ
space_or_same c = if c == 43 then 32 else c

-- what is no UTF-8 is no text
abbrev pub text_by : List ℕ → Option (List ℕ)
text_by bytes = if is_utf8 bytes then Some bytes else None

-- nor is nothing
abbrev pub words_by : List ℕ → Option (List ℕ)
words_by bytes = if length bytes == 0 then None else text_by bytes

-- the bytes that a value of the form's field writes
abbrev pub typed_bytes : List ℕ → List ℕ
typed_bytes value = percent_decode (map space_or_same value)

-- the text that is meant by it
abbrev pub typed_words : List ℕ → Option (List ℕ)
typed_words value = words_by (typed_bytes value)

-- the number that is meant by a value of the form's field, or what to tell
abbrev pub typed : List ℕ → Result BoxNumber Notice
typed value = number_in (typed_text value) (number_of (typed_text value))
