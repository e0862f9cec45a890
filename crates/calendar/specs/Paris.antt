-- Believe: 01, Rust forms that need another body. Document 01, `chrono_tz`: Paris is UTC+1, and UTC+2 from 01:00 UTC
-- on the last Sunday of March until 01:00 UTC on the last Sunday of October. Instants are seconds since 1970-01-01
-- 00:00:00 UTC.
use Rattle.std.specs.Prelude.{ℕ, ◌+◌, ◌-◌, ◌*◌, ◌/◌, ◌%◌, Bool, cond, ◌&&◌, List, [], ◌∷◌, ltb, leb}
use Rattle.calendar.specs.Civil.{leap_day, year_of, date_of, last_sunday}
use Rattle.calendar.specs.declared.Date.{Date}

-- 1 January of the year of day n
abbrev pub new_year : ℕ → ℕ
new_year n = n - (year_of n).day

-- 31 March and 31 October of the year of day n: 90 and 304 days have begun by then, or one more
abbrev pub march_end : ℕ → ℕ
march_end n = new_year n + 89 + leap_day (year_of n).year

abbrev pub october_end : ℕ → ℕ
october_end n = new_year n + 303 + leap_day (year_of n).year

-- 01:00 UTC on day n
abbrev pub one_o_clock : ℕ → ℕ
one_o_clock n = n * 86400 + 3600

-- whether the clocks of Paris are two hours ahead
unfoldable pub is_summer : ℕ → Bool
is_summer s =
    leb (one_o_clock (last_sunday (march_end (s / 86400)))) s && ltb s
    (one_o_clock (last_sunday (october_end (s / 86400))))

abbrev pub offset_at : ℕ → ℕ
offset_at s = cond (is_summer s) 7200 3600

-- the day and the date in Paris
abbrev pub paris_day : ℕ → ℕ
paris_day s = (s + offset_at s) / 86400

abbrev pub paris_date : ℕ → Date
paris_date s = date_of (paris_day s)

-- the last decimal digit, in ASCII
abbrev pub digit_of : ℕ → ℕ
digit_of n = 48 + n % 10

-- year, month and day as eight digits
abbrev pub digits_of : Date → List ℕ
digits_of d =
    digit_of (d.year / 1000) ∷ digit_of (d.year / 100) ∷ digit_of (d.year / 10) ∷ digit_of d.year
    ∷ digit_of (d.month / 10) ∷ digit_of d.month ∷ digit_of (d.day / 10) ∷ digit_of d.day ∷ []

abbrev pub paris_digits : ℕ → List ℕ
paris_digits s = digits_of (paris_date s)
