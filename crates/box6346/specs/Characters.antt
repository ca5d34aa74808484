-- The characters that rules name, by their codes in ISO 646.
use Rattle.std.specs.Prelude.{ℕ}

abbrev pub digit_zero : ℕ
digit_zero = 48

abbrev pub digit_two : ℕ
digit_two = 50

abbrev pub digit_four : ℕ
digit_four = 52

abbrev pub capital_a : ℕ
capital_a = 65

abbrev pub capital_j : ℕ
capital_j = 74

abbrev pub capital_l : ℕ
capital_l = 76

abbrev pub capital_u : ℕ
capital_u = 85

abbrev pub capital_z : ℕ
capital_z = 90
