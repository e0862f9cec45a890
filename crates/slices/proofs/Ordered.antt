-- std's order of slices is the order by bytes. Assumes nothing.
use mathlib.Core.Path.{◌≡◌, refl}
use mathlib.Core.List.{List, [], ◌∷◌}
use Prim.Native.Nat.{ℕ}
use native.Mathlib.Omega.{arith}
use Rattle.std.proofs.lemmas.Bool.Decides.{nat_tests}
use Rattle.std.specs.Cmp.Lexicographic.{slice_cmp}
use Rattle.std.specs.Ordering.{nat_cmp}
use Rattle.slices.specs.Lists.{lex_of}

pub lex_is : (a b : List ℕ) → slice_cmp nat_cmp a b ≡ lex_of a b
unfolding lex_of
lex_is [] [] = refl
lex_is [] (y ∷ b) = refl
lex_is (x ∷ a) [] = refl
lex_is (x ∷ a) (y ∷ b) = let ih = lex_is a b in grind (arith, nat_tests)
