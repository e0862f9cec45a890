-- Believe: what every layer uses. The civil (Gregorian) calendar: the date of a day that is counted from 1 January
-- 1970.
use Rattle.std.specs.Prelude.{ℕ, zero, suc, ◌+◌, ◌-◌, ◌*◌, ◌/◌, ◌%◌, cond, List, [], ◌∷◌, ltb, eqb}
use Rattle.calendar.specs.declared.YearDay.{YearDay}
use Rattle.calendar.specs.declared.Date.{Date}

-- every fourth year has a day more, but of the full centuries only every fourth
unfoldable pub leap_day : ℕ → ℕ
leap_day year = cond (eqb (year % 400) 0) 1 (cond (eqb (year % 100) 0) 0 (cond (eqb (year % 4) 0) 1 0))

abbrev pub year_days : ℕ → ℕ
year_days year = 365 + leap_day year

-- the days of the months, February's with the leap day
abbrev pub month_days : ℕ → List ℕ
month_days leap = 31 ∷ (28 + leap) ∷ 31 ∷ 30 ∷ 31 ∷ 30 ∷ 31 ∷ 31 ∷ 30 ∷ 31 ∷ 30 ∷ 31 ∷ []

-- `day` days after 1 January of `year`, at most `more` years on
unfoldable pub year_from : ℕ → ℕ → ℕ → YearDay
year_from zero year day = record { year = year; day = day }
year_from (suc more) year day =
    cond (ltb day (year_days year)) (record { year = year; day = day })
    (year_from more (year + 1) (day - year_days year))

-- n days after 1 January 1970; 400 years have 146,097 days
abbrev pub year_of : ℕ → YearDay
year_of n = year_from 400 (1970 + n / 146097 * 400) (n % 146097)

-- `day` days after the first of `month`, whose days and those of the months behind it are given (no day of a year is
-- behind them all)
unfoldable pub month_from : ℕ → List ℕ → ℕ → ℕ → Date
month_from year [] month day = record { year = year; month = month; day = day }
month_from year (days ∷ more) month day =
    cond (ltb day days) (record { year = year; month = month; day = day + 1 })
    (month_from year more (month + 1) (day - days))

abbrev pub month_of : YearDay → Date
month_of at = month_from at.year (month_days (leap_day at.year)) 1 at.day

-- the date n days after 1 January 1970
abbrev pub date_of : ℕ → Date
date_of n = month_of (year_of n)

-- the last Sunday that is not after day n; day 0 was a Thursday, so day 3 was the first Sunday
abbrev pub last_sunday : ℕ → ℕ
last_sunday n = n - (n + 4) % 7
