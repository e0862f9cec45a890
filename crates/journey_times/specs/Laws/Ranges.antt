-- Law. Numbers within their ranges: 32 bits hold a delay, and a scheduled time leaves room for one.
use Rattle.std.specs.Prelude.{◌≡◌, refl, Bool, true, false, cond, List, ℕ, suc, ◌-◌, ◌/◌, ◌%◌, ◌≤◌, ◌<◌, ℤ, pos, negsuc, ◌-ℤ◌, leb, eqb}
use Rattle.std.proofs.Common.{ap, ◌∙◌, arith, lt-ltb, le-ltb, leb-true, SFits, to_z, of_z, to_z-of_z}
use Rattle.std.specs.Int.Signed.{mag}
use Rattle.std.specs.Int.{w64}
use Rattle.basics.specs.Integers.{wrap32}
use Rattle.basics.specs.Laws.Booleans.{both_true, false_true}
use Rattle.formats.specs.Number.{zig, zag}
use Rattle.formats.specs.Laws.Number.{zag_zig}
use Rattle.formats_judge.specs.Judged.{ok}
use Rattle.formats_read.specs.Laws.Here.{signed_here}
use Rattle.formats_read.specs.Promises.Reads.{ReadsNumber}
use Rattle.decode.specs.Trip.{delay}
use Rattle.journey.specs.Card.{scheduled}
use Rattle.journey_times.specs.Promises.Realtime.{Ranged, Schedules}

minus_zero : (z : ℤ) → z -ℤ pos 0 ≡ z
minus_zero (pos n) = ap pos (omega arith)
minus_zero (negsuc n) = rw (lt-ltb 0 (suc n) (omega arith)) (ap negsuc (omega arith))

-- a delay is its own low 32 bits
delay_wrapped : (z : ℤ) → ok 6 delay z ≡ true → wrap32 z ≡ z
delay_wrapped (pos n) e =
    let h : n ≤ 2147483647 = leb-true n 2147483647 e in
    let m : n % 4294967296 ≡ n = omega arith in
    rw (m, lt-ltb n 2147483648 (omega arith)) refl
delay_wrapped (negsuc n) e =
    let h : n ≤ 2147483647 = leb-true n 2147483647 (both_true (leb n 2147483647) true e).0 in
    let m : 4294967295 - n % 4294967296 ≡ 4294967295 - n = omega arith in
    rw (m, le-ltb (4294967295 - n) 2147483648 (omega arith)) (ap negsuc (omega arith))

pub narrowed : {d z : ℤ} → d ≡ wrap32 (z -ℤ pos 0) → ok 6 delay z ≡ true → d ≡ z
narrowed {d} {z} e h = e ∙ ap wrap32 (minus_zero z) ∙ delay_wrapped z h

scheduled_code : (z : ℤ) → ok 6 scheduled z ≡ true → zig z ≤ 4291833598
scheduled_code (pos n) e =
    let h : n ≤ 2145916799 = leb-true n 2145916799 (both_true (leb 946684800 n) (leb n 2145916799) e).1 in omega arith
scheduled_code (negsuc n) e = false_true e

code_mag : (n : ℕ) → mag (zag n) ≤ n / 2
code_mag n = go (eqb (n % 2) 0)
  where
    go : (b : Bool) → mag (cond b (pos (n / 2)) (negsuc (n / 2))) ≤ n / 2
    go true = omega arith
    go false = omega arith

module _ {s : List ℕ} {p n e : ℕ} (N : ReadsNumber s p n e) where
  code : {q : ℕ} {z : ℤ} → Ranged scheduled s p q z → n ≡ zig z
  code R = N.value (signed_here R.here)

  pub unscheduled : 4291833598 < n → Schedules s p (pos 0)
  unscheduled h = record {
    small = omega arith;
    is = λ {q} {z} R. absurd (omega (arith, code R, scheduled_code z R.six));
  }

  pub schedules : {x : ℤ} → n ≤ 4291833598 → SFits w64 x → x ≡ zag n → Schedules s p (to_z w64 (of_z w64 x))
  schedules {x} h f k =
      let j : to_z w64 (of_z w64 x) ≡ zag n = to_z-of_z f ∙ k in
      rw j (record {
        small = omega (arith, code_mag n);
        is = λ {q} {z} R. ap zag (code R) ∙ zag_zig z;
      })
