-- Law. A clock that is not below zero, less 900 seconds: it fits, and its code is that of the limit.
use Rattle.std.specs.Prelude.{◌≡◌, refl, Bool, true, false, cond, ℕ, suc, ◌-◌, ℤ, pos, negsuc, ◌-ℤ◌, T, ltb}
use Rattle.std.proofs.Common.{ap, ◌∙◌, arith, SFits, to_z, of_z, to_z-of_z}
use Rattle.std.specs.Int.Signed.{non_neg}
use Rattle.std.specs.Int.{w64}
use Rattle.formats.specs.Number.{zig, zag}
use Rattle.formats.specs.Laws.Number.{zag_zig}

less_fits : (z : ℤ) → SFits w64 z → T (non_neg z) → SFits w64 (z -ℤ pos 900)
less_fits (pos n) f t = go (ltb n 900) refl
  where
    go : (b : Bool) → ltb n 900 ≡ b → SFits w64 (cond b (negsuc (900 - suc n)) (pos (n - 900)))
    go true e = record { sfits = omega arith }
    go false e = record { sfits = omega (arith, f.sfits) }
less_fits (negsuc n) f t = absurd t

module _ (z : ℤ) (f : SFits w64 z) (t : T (non_neg z)) where
  pub limit_fits : SFits w64 (to_z w64 (of_z w64 z) -ℤ pos 900)
  limit_fits = rw (to_z-of_z f) (less_fits z f t)

  pub limit_is : (r : ℕ) → r ≡ zig (to_z w64 (of_z w64 (to_z w64 (of_z w64 z) -ℤ pos 900))) → zag r ≡ z -ℤ pos 900
  limit_is r e =
      ap zag e ∙ zag_zig (to_z w64 (of_z w64 (to_z w64 (of_z w64 z) -ℤ pos 900))) ∙ to_z-of_z limit_fits
      ∙ ap (λ z. z -ℤ pos 900) (to_z-of_z f)
