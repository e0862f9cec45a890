-- Law. What the answers `zeros` and `same` say of the lists, for callers of this crate.
use Rattle.std.specs.Prelude.{ℕ, zero, suc, ◌≡◌, refl, Bool, true, false, ◌&&◌, List, [], ◌∷◌, T, eqb, length, replicate}
use Rattle.std.proofs.Common.{sym, subst, eqb-true}
use Rattle.slices.specs.Lists.{zeros}

never : {A : Type 0} → false ≡ true → A
never e = absurd (subst T (sym e) tt)

pub and_left : (p q : Bool) → (p && q) ≡ true → p ≡ true
and_left true q e = refl
and_left false q e = e

pub and_right : (p q : Bool) → (p && q) ≡ true → q ≡ true
and_right true q e = e
and_right false q e = never e

-- a list of zeros is as many zeros as it is long, and back
pub zeros_true : (s : List ℕ) → zeros s ≡ true → s ≡ replicate (length s) 0
unfolding zeros
zeros_true [] e = refl
zeros_true (x ∷ s) e =
    let x≡0 : x ≡ 0 = eqb-true x 0 (and_left (eqb x 0) (zeros s) e) in
    let rest : s ≡ replicate (length s) 0 = zeros_true s (and_right (eqb x 0) (zeros s) e) in
    cc

pub zeros_replicate : (n : ℕ) → zeros (replicate n 0) ≡ true
unfolding zeros
zeros_replicate zero = refl
zeros_replicate (suc n) = zeros_replicate n
