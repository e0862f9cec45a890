-- Law. One leg more, as the code gathers it.
use Rattle.std.specs.Prelude.{◌≡◌, refl, Bool, true, false, cond, ◌||◌, not, ℤ, pos, negsuc, eqb, Option, Some, None}
use Rattle.std.proofs.Common.{sym, ap, ◌∙◌, inr, arith, ne_eqb, SFits, to_z, of_z, to_z-of_z}
use Rattle.std.specs.Int.{w32, w64}
use Rattle.basics.specs.Options.{given_or}
use Rattle.formats_write.specs.Promises.Given.{given_signed}
use Rattle.journey.specs.Enrich.{is_zero, taken}
use Rattle.journey_leg.specs.declared.LegRealtime.{LegRealtime}
use Rattle.journey_leg.specs.Promises.Leg.{live_of}
use Rattle.journey_card.specs.Promises.Survey.{late_of, meets, gathered_of}
use Rattle.journey_card.specs.declared.Survey.{Survey}

-- a signed local holds bits
pub zero_is : (d : ℤ) → SFits w32 d → eqb (of_z w32 d) 0 ≡ is_zero d
zero_is (pos n) f = refl
zero_is (negsuc n) f = ne_eqb (of_z w32 (negsuc n)) 0 (λ e. omega (arith, e, f.sfits))

-- an endpoint is late
module _ (R : LegRealtime) {b : Bool} (e : b ≡ live_of R) where
  pub late_none : b ≡ false → false ≡ late_of R
  late_none f = rw (← e, f) refl

  module _ {x : Bool} (f : SFits w32 R.departs.delay) (g : x ≡ is_zero (to_z w32 (of_z w32 R.departs.delay))) where
    departs_zero : is_zero R.departs.delay ≡ x
    departs_zero = sym (g ∙ ap is_zero (to_z-of_z f))

    pub late_departs : b ≡ true → x ≡ false → true ≡ late_of R
    late_departs h i = rw (← e, h, departs_zero, i) refl

    pub late_arrives : {y : Bool} → SFits w32 R.arrives.delay
        → y ≡ is_zero (to_z w32 (of_z w32 R.arrives.delay)) → b ≡ true → x ≡ true → not y ≡ late_of R
    late_arrives h j k i = rw (← e, k, departs_zero, i, j, to_z-of_z h) refl

-- a time that is taken
pub took : {b : Bool} {t : ℤ} (old : Option ℤ) → SFits w64 t → b ≡ true
    → inr (to_z w64 (of_z w64 t)) ≡ taken b t (given_signed old)
took old f e = rw (e, to_z-of_z f) refl

module _ (old : ℤ) {o : Option ℤ} where
  pub not_given : SFits w64 old → o ≡ None → to_z w64 (of_z w64 old) ≡ given_or old (given_signed o)
  not_given f e = rw (e, to_z-of_z f) refl

  pub given : {z : ℤ} → SFits w64 z → o ≡ Some z → to_z w64 (of_z w64 z) ≡ given_or old (given_signed o)
  given f e = rw (e, to_z-of_z f) refl

given_cond : (b : Bool) (x y : Option ℤ) → given_signed (cond b x y) ≡ cond b (given_signed x) (given_signed y)
given_cond true x y = refl
given_cond false x y = refl

-- one leg more
module _ (S : Survey) (R : LegRealtime) (x : Bool) (d a : Option ℤ) where
  pub met : {live late b1 b2 b3 b4 : Bool} {first : Option ℤ} (last old : Option ℤ)
      → SFits w64 R.departs.time → SFits w64 R.arrives.time → live ≡ live_of R → late ≡ late_of R
      → given_signed last ≡ taken live (to_z w64 (of_z w64 R.arrives.time)) (given_signed a)
      → given_signed old ≡ taken live (to_z w64 (of_z w64 R.departs.time)) (given_signed d)
      → first ≡ cond S.began S.first old
      → b1 ≡ (S.cancel || R.cancels) → b2 ≡ (S.delay || late) → b3 ≡ (S.alert || x) → b4 ≡ (S.told || live)
      → gathered_of
      (record { cancel = b1; delay = b2; alert = b3; told = b4; began = true; first = first; last = last })
      ≡ meets (gathered_of S) R x (given_signed d) (given_signed a)
  met last old f g i j k l m n o p q =
      rw (n, o, p, q, m, given_cond S.began S.first old, j, k, l, to_z-of_z g, to_z-of_z f, i) refl
