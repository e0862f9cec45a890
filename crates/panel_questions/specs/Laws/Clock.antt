-- Law. The clock's time, as question 6 judges it.
use Rattle.std.specs.Prelude.{◌≡◌, refl, true, false, ℕ, ℤ, pos, negsuc, ◌-ℤ◌, T}
use Rattle.std.proofs.Common.{sym, ap, ◌∙◌, arith, le-leb, ltb-true, ltb-false, SFits, to_z, of_z, to_z-of_z}
use Rattle.std.specs.Int.Signed.{lt_z, non_neg}
use Rattle.std.proofs.lemmas.Bool.{lt-leb}
use Rattle.std.specs.Int.{w64}
use Rattle.basics.specs.Laws.Booleans.{false_true}
use Rattle.formats.specs.Number.{zag}
use Rattle.formats_judge.specs.Judged.{ok}
use Rattle.decode.specs.Trip.{instant}
use Rattle.panel_questions.specs.Promises.Numbers.{ClockIs}

early : (z : ℤ) → lt_z z (pos 0) ≡ true → false ≡ ok 6 instant z
early (pos n) h = absurd (omega (arith, ltb-true n 0 h))
early (negsuc n) h = refl

late : (z : ℤ) → lt_z (pos 4102444800) z ≡ true → false ≡ ok 6 instant z
late (pos n) h =
    sym (rw (le-leb 0 n (omega arith), lt-leb n 4102444800 (ltb-true 4102444800 n h)) refl)
late (negsuc n) h = refl

within : (z : ℤ) → lt_z z (pos 0) ≡ false → lt_z (pos 4102444800) z ≡ false → true ≡ ok 6 instant z
within (pos n) h k =
    sym (rw (le-leb 0 n (omega arith), le-leb n 4102444800 (ltb-false 4102444800 n k)) refl)
within (negsuc n) h k = false_true (sym h)

above : (z : ℤ) → lt_z z (pos 0) ≡ false → T (non_neg z)
above (pos n) h = tt
above (negsuc n) h = false_true (sym h)

module _ (z : ℤ) (f : SFits w64 z) where
  pub clock_early : {n : ℕ} → lt_z (to_z w64 (of_z w64 z)) (pos 0) ≡ true → ClockIs z false n
  clock_early h = record { six = early z (rw (to_z-of_z f) at h); limited = λ e. false_true e }

  pub clock_late : {n : ℕ} → lt_z (pos 4102444800) (to_z w64 (of_z w64 z)) ≡ true → ClockIs z false n
  clock_late h = record { six = late z (rw (to_z-of_z f) at h); limited = λ e. false_true e }

  pub clock_above : lt_z (to_z w64 (of_z w64 z)) (pos 0) ≡ false → T (non_neg (to_z w64 (of_z w64 z)))
  clock_above h = above (to_z w64 (of_z w64 z)) h

  pub clock_within : {n : ℕ} → lt_z (to_z w64 (of_z w64 z)) (pos 0) ≡ false
      → lt_z (pos 4102444800) (to_z w64 (of_z w64 z)) ≡ false → zag n ≡ to_z w64 (of_z w64 z) -ℤ pos 900
      → ClockIs z true n
  clock_within h k e = record {
    six = within z (rw (to_z-of_z f) at h) (rw (to_z-of_z f) at k);
    limited = λ t. e ∙ ap (λ z. z -ℤ pos 900) (to_z-of_z f);
  }
