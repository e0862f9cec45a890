-- Law. Equality of texts says that they are one.
use Rattle.std.specs.Prelude.{◌≡◌, refl, List, [], ◌∷◌, true, ℕ}
use Rattle.std.proofs.Common.{eqb-true, eq-eqb}
use Rattle.basics.specs.Texts.{same}
use Rattle.basics.specs.Laws.Booleans.{false_true, and_true}
use Rattle.basics.specs.Laws.Lists.{headed}

-- equality of texts
pub same_refl : (s : List ℕ) → same s s ≡ true
same_refl [] = refl
same_refl (b ∷ s) = rw (eq-eqb b b refl) (same_refl s)

pub same_true : (s t : List ℕ) → same s t ≡ true → s ≡ t
same_true [] [] e = refl
same_true [] (b ∷ t) e = false_true e
same_true (a ∷ s) [] e = false_true e
same_true (a ∷ s) (b ∷ t) e = let h = and_true e in headed (eqb-true a b h.0) (same_true s t h.1)
