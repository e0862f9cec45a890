-- The loops over years and months, on plain values.
use Prim.Native.Nat.{ℕ, suc, ◌+◌, ◌-◌, ◌≤◌, ◌<◌}
use mathlib.Core.Path.{◌≡◌, sym, ap, ◌∙◌}
use mathlib.Core.List.{List}
use native.Mathlib.Numerals.{add-one}
use native.Mathlib.Omega.{arith}
use lib.ListN.{length, get_or, drop, drop_of_length-le}
use lib.Seq.{drop-cons}
use borrow.Author.Tests.{lt-ltb, le-ltb}
use Rattle.calendar.specs.Civil.{leap_day, year_from, month_from}

-- the answer is that of what is left of 400 years
pub record Years (y₀ d₀ y d : ℕ) : Type 0 where
  pub within : d ≤ d₀
  pub same : year_from 400 y₀ d₀ ≡ year_from (y₀ + 400 - y) y d

module _ {y₀ d₀ y d k : ℕ} (Y : Years y₀ d₀ y d) (h : y < y₀ + 400) (leap : k ≡ leap_day y) where
  pub year_here : d < 365 + k → record { year = y; day = d } ≡ year_from 400 y₀ d₀
  unfolding year_from
  year_here l =
      let e : y₀ + 400 - y ≡ suc (y₀ + 399 - y) = omega arith in
      sym (Y.same ∙ rw (e, ← leap, lt-ltb d (365 + k) l))

  pub years_more : 365 + k ≤ d → Years y₀ d₀ (y + 1) (d - (365 + k))
  unfolding year_from
  years_more l =
      let e : y₀ + 400 - y ≡ suc (y₀ + 400 - (y + 1)) = omega arith in
      record { within = omega (arith, Y.within); same = Y.same ∙ rw (e, ← leap, le-ltb d (365 + k) l) }

pub years_last : {y₀ d₀ y d : ℕ} → Years y₀ d₀ y d → y ≡ y₀ + 400 → record { year = y; day = d } ≡ year_from 400 y₀ d₀
unfolding year_from
years_last {y₀} {d₀} {y} Y h = let e : y₀ + 400 - y ≡ 0 = omega arith in sym (Y.same ∙ rw e)

-- the answer is that of what is left of the months
pub record Months (y : ℕ) (days : List ℕ) (d₀ m d : ℕ) : Type 0 where
  pub same : month_from y days 1 d₀ ≡ month_from y (drop m days) (m + 1) d

module _ {y : ℕ} {days : List ℕ} {d₀ m d : ℕ} (M : Months y days d₀ m d) where
  pub month_here : m < length days → d < get_or days m 0
      → record { year = y; month = m + 1; day = d + 1 } ≡ month_from y days 1 d₀
  unfolding month_from
  month_here h l = sym (M.same ∙ rw (drop-cons days m 0 h, lt-ltb d (get_or days m 0) l))

  pub months_more : m < length days → get_or days m 0 ≤ d → Months y days d₀ (m + 1) (d - get_or days m 0)
  unfolding month_from
  months_more h l = record {
    same =
        M.same
        ∙ rw (drop-cons days m 0 h, le-ltb d (get_or days m 0) l)
        (ap (λ k. month_from y (drop k days) (m + 1 + 1) (d - get_or days m 0)) (sym (add-one m)));
  }

  pub month_last : length days ≤ m → record { year = y; month = m + 1; day = d } ≡ month_from y days 1 d₀
  unfolding month_from
  month_last h = sym (M.same ∙ rw (drop_of_length-le days h))
