-- Moments of the civil calendar, their digits and their text.
use Rattle.std.specs.Prelude.{◌↔◌, ℕ, ◌+◌, ◌-◌, ◌*◌, ◌/◌, ◌%◌, ◌≤◌, Bool, ◌&&◌, ◌||◌, ◌==◌, nat_le, nat_lt, ℤ, pos, List, [], ◌∷◌, ◌++◌, length, get_or, codes, IsTrue, Option, None, Some, if◌then◌else◌}
use Rattle.std.specs.List.{list_all}
use Rattle.jiff.specs.Words.{IsDate, days_in_month}
use Rattle.jiff_core.specs.Calendar.{days_from_civil}

-- the characters `0` and `9` (ISO 646)
abbrev pub digit_zero : ℕ
digit_zero = 48

abbrev pub digit_nine : ℕ
digit_nine = 57

-- A day of the calendar, and an hour and a minute of that day.
pub record CivilMoment : Type 0 where
  pub year : ℕ
  pub month : ℕ
  pub day : ℕ
  pub hour : ℕ
  pub minute : ℕ

-- ---- which moments there are

-- the calendar has this day
abbrev pub is_day : ℕ → ℕ → ℕ → Bool
is_day year month day = nat_le 1 month && nat_le month 12 && nat_le 1 day && nat_le day (days_in_month (pos year) month)

-- the day exists, the hour is 00 to 23 and the minute 00 to 59
abbrev pub is_moment : CivilMoment → Bool
is_moment m = nat_le m.year 9999 && is_day m.year m.month m.day && nat_lt m.hour 24 && nat_lt m.minute 60

-- the day number, counted from 1 January 1970
abbrev pub day_number : CivilMoment → ℤ
day_number m = days_from_civil (pos m.year) m.month m.day

-- ---- which texts are moments

abbrev pub is_digit : ℕ → Bool
is_digit b = nat_le digit_zero b && nat_le b digit_nine

-- the number of the two digits at a place, 0 if there are none
abbrev pub number_at : List ℕ → ℕ → ℕ
number_at text i =
    if nat_le (i + 2) (length text) then (get_or text i 0 - digit_zero) * 10 + (get_or text (i + 1) 0 - digit_zero)
    else 0

-- what CCYYMMDDHHMM writes, and CCYYMMDD at 00:00
abbrev pub moment_written : List ℕ → CivilMoment
moment_written text = record {
  year = number_at text 0 * 100 + number_at text 2;
  month = number_at text 4;
  day = number_at text 6;
  hour = number_at text 8;
  minute = number_at text 10;
}

-- twelve digits or eight
abbrev pub are_moment_digits : List ℕ → Bool
are_moment_digits text = (length text == 12 || length text == 8) && list_all is_digit text

-- the moment of a text of twelve digits, or of eight
abbrev pub moment_of : List ℕ → Option CivilMoment
moment_of text = if are_moment_digits text && is_moment (moment_written text) then Some (moment_written text) else None

-- ---- texts of moments

-- two digits
abbrev pub two_digits : ℕ → List ℕ
two_digits n = (digit_zero + n / 10) ∷ (digit_zero + n % 10) ∷ []

-- CCYY-MM-DD HH:MM
abbrev pub moment_text : CivilMoment → List ℕ
moment_text m =
    two_digits (m.year / 100) ++ two_digits (m.year % 100) ++ codes "-" ++ two_digits m.month ++ codes "-"
    ++ two_digits m.day
    ++ codes " " ++ two_digits m.hour ++ codes ":" ++ two_digits m.minute

-- CCYYMMDDHHMM
abbrev pub moment_digits : CivilMoment → List ℕ
moment_digits m =
    two_digits (m.year / 100) ++ two_digits (m.year % 100) ++ two_digits m.month ++ two_digits m.day
    ++ two_digits m.hour
    ++ two_digits m.minute

-- ---- laws

-- The days are those of the calendar from the year 0 to the year 9999.
abbrev pub DaysAreTheCalendars : Type 0
DaysAreTheCalendars =
    (year month day : ℕ) → year ≤ 9999 → IsTrue (is_day year month day) ↔ IsDate (pos year) (pos month) (pos day)
