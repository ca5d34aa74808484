-- The bytes that rules name, by their names in ISO 646.
use Rattle.std.specs.Prelude.{ℕ}

abbrev pub line_feed : ℕ
line_feed = 10

abbrev pub carriage_return : ℕ
carriage_return = 13

abbrev pub space : ℕ
space = 32

abbrev pub apostrophe : ℕ
apostrophe = 39

abbrev pub plus_sign : ℕ
plus_sign = 43

abbrev pub colon : ℕ
colon = 58

abbrev pub question_mark : ℕ
question_mark = 63

abbrev pub tilde : ℕ
tilde = 126

abbrev pub delete : ℕ
delete = 127

-- 0 and 9, A and Z, a and z
abbrev pub digit_zero : ℕ
digit_zero = 48

abbrev pub digit_nine : ℕ
digit_nine = 57

abbrev pub capital_a : ℕ
capital_a = 65

abbrev pub capital_z : ℕ
capital_z = 90

abbrev pub small_a : ℕ
small_a = 97

abbrev pub small_z : ℕ
small_z = 122
