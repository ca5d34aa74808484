-- The digits of a moment are read as that moment.
use Rattle.std.{specs.List.list_all, proofs.lemmas.Bool.{and_parts, and_from, le-leb, leb-true, ltb-true}}
use Rattle.std.proofs.Common.{◌≡◌, ◌++◌, ℕ, ◌+◌, ◌-◌, ◌*◌, ◌/◌, ◌%◌, ◌<◌, ◌≤◌, Bool, true, false, cond, ◌&&◌, ◌||◌, nat_eq, ◌==◌, nat_le, nat_lt, Some, refl, ap, ◌∙◌, pos, arith}
use Rattle.jiff.specs.Words.{days_in_month, is_leap_year}
use Rattle.edi_syntax.specs.Moments.{CivilMoment, is_day, is_moment, is_digit, moment_written, moment_of, moment_digits}

two_back : (n : ℕ) → (48 + n / 10 - 48) * 10 + (48 + n % 10 - 48) ≡ n
two_back n = omega arith

high_digit : (n : ℕ) → n < 100 → is_digit (48 + n / 10) ≡ true
high_digit n small = and_from (nat_le 48 (48 + n / 10)) (nat_le (48 + n / 10) 57) (le-leb 48 (48 + n / 10) (omega arith)) (le-leb (48 + n / 10) 57 (omega arith))

low_digit : (n : ℕ) → is_digit (48 + n % 10) ≡ true
low_digit n = and_from (nat_le 48 (48 + n % 10)) (nat_le (48 + n % 10) 57) (le-leb 48 (48 + n % 10) (omega arith)) (le-leb (48 + n % 10) 57 (omega arith))

both : (b : Bool) (m n k : ℕ) → m ≤ k → n ≤ k → cond b m n ≤ k
both true m n k p q = p
both false m n k p q = q

month_length : (y : ℕ) (m : ℕ) → days_in_month (pos y) m ≤ 31
month_length y m =
    both (nat_eq m 2) _ _ 31 (both (is_leap_year (pos y)) 29 28 31 (omega arith) (omega arith))
    (both ((m == 4) || (m == 6) || (m == 9) || (m == 11)) 30 31 31 (omega arith) (omega arith))

-- each part has two digits, the year four
pub record IsSmall (m : CivilMoment) : Type 0 where
  pub year : m.year < 10000
  pub month : m.month < 100
  pub day : m.day < 100
  pub hour : m.hour < 100
  pub minute : m.minute < 100

small : (m : CivilMoment) → is_moment m ≡ true → IsSmall m
small m h =
    let one = and_parts (nat_le m.year 9999 && is_day m.year m.month m.day && nat_lt m.hour 24) (nat_lt m.minute 60) h in
    let two = and_parts (nat_le m.year 9999 && is_day m.year m.month m.day) (nat_lt m.hour 24) one.0 in
    let three = and_parts (nat_le m.year 9999) (is_day m.year m.month m.day) two.0 in
    let four = and_parts (nat_le 1 m.month && nat_le m.month 12 && nat_le 1 m.day) (nat_le m.day (days_in_month (pos m.year) m.month)) three.1 in
    let five = and_parts (nat_le 1 m.month && nat_le m.month 12) (nat_le 1 m.day) four.0 in
    let six = and_parts (nat_le 1 m.month) (nat_le m.month 12) five.0 in
    record {
      year = omega (arith, leb-true m.year 9999 three.0);
      month = omega (arith, leb-true m.month 12 six.1);
      day = omega (arith, leb-true m.day (days_in_month (pos m.year) m.month) four.1, month_length m.year m.month);
      hour = omega (arith, ltb-true m.hour 24 two.1);
      minute = omega (arith, ltb-true m.minute 60 one.1);
    }

year_back : (n : ℕ) → n / 100 * 100 + n % 100 ≡ n
year_back n = omega arith

written_back : (m : CivilMoment) → moment_written (moment_digits m) ≡ m
written_back m =
    rw (two_back (m.year / 100), two_back (m.year % 100), two_back m.month, two_back m.day, two_back m.hour, two_back m.minute, year_back m.year) refl

all_digits : (m : CivilMoment) → IsSmall m → list_all is_digit (moment_digits m) ≡ true
all_digits m s =
    rw (
      high_digit (m.year / 100) (omega (arith, s.year)),
      low_digit (m.year / 100),
      high_digit (m.year % 100) (omega arith),
      low_digit (m.year % 100),
      high_digit m.month s.month,
      low_digit m.month,
      high_digit m.day s.day,
      low_digit m.day,
      high_digit m.hour s.hour,
      low_digit m.hour,
      high_digit m.minute s.minute,
      low_digit m.minute,
    ) refl

pub read_back : (m : CivilMoment) → is_moment m ≡ true → moment_of (moment_digits m) ≡ Some m
read_back m h =
    let exists : is_moment (moment_written (moment_digits m)) ≡ true = ap is_moment (written_back m) ∙ h in
    rw (all_digits m (small m h), exists) (ap Some (written_back m))
