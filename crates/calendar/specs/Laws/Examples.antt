-- Law. Worked dates: the instants of document 01, the hours of the change in 2026, and the calendar's corners.
use Rattle.std.specs.Prelude.{ℕ, ◌/◌, ◌≡◌, refl, true, false, List, [], ◌∷◌}
use Rattle.calendar.specs.Civil.{leap_day, year_from, month_from, date_of}
use Rattle.calendar.specs.Paris.{is_summer, digit_of, paris_digits}

-- a number's eight digits
abbrev eight : ℕ → List ℕ
eight n =
    digit_of (n / 10000000) ∷ digit_of (n / 1000000) ∷ digit_of (n / 100000) ∷ digit_of (n / 10000)
    ∷ digit_of (n / 1000) ∷ digit_of (n / 100) ∷ digit_of (n / 10) ∷ digit_of n ∷ []

-- midnight in Paris in winter and in summer, a second before it and on it; the last instant of document 01's times
winter_midnight_before : paris_digits 1767308399 ≡ eight 20260101
unfolding is_summer year_from month_from leap_day
winter_midnight_before = refl

winter_midnight : paris_digits 1767308400 ≡ eight 20260102
unfolding is_summer year_from month_from leap_day
winter_midnight = refl

summer_midnight_before : paris_digits 1782943199 ≡ eight 20260701
unfolding is_summer year_from month_from leap_day
summer_midnight_before = refl

summer_midnight : paris_digits 1782943200 ≡ eight 20260702
unfolding is_summer year_from month_from leap_day
summer_midnight = refl

last_hour : paris_digits 2145916799 ≡ eight 20380101
unfolding is_summer year_from month_from leap_day
last_hour = refl

-- the clocks go forward on 29 March 2026 and back on 25 October, at 01:00 UTC
forward_before : is_summer 1774745999 ≡ false
unfolding is_summer year_from leap_day
forward_before = refl

forward : is_summer 1774746000 ≡ true
unfolding is_summer year_from leap_day
forward = refl

back_before : is_summer 1792889999 ≡ true
unfolding is_summer year_from leap_day
back_before = refl

back : is_summer 1792890000 ≡ false
unfolding is_summer year_from leap_day
back = refl

-- 2000 had a leap day and 2100 has none; 400 years have 146,097 days
leap_2000 : date_of 11016 ≡ record { year = 2000; month = 2; day = 29 }
unfolding year_from month_from leap_day
leap_2000 = refl

common_2100 : date_of 47541 ≡ record { year = 2100; month = 3; day = 1 }
unfolding year_from month_from leap_day
common_2100 = refl

cycle : year_from 400 1970 146097 ≡ record { year = 2370; day = 0 }
unfolding year_from leap_day
cycle = refl
