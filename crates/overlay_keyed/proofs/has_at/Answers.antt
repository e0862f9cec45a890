-- `overlay_keyed::has_at` meets its contract.
use mathlib.Core.Path.{◌≡◌, refl}
use mathlib.Core.List.{List, [], ◌∷◌}
use mathlib.Core.Bool.{◌||◌}
use Prim.Native.Nat.{ℕ}
use lib.Dec.{eqb}
use Rattle.std.proofs.Common.{ap, ◌∙◌}
use Rattle.std.specs.List.{list_any}
use Rattle.decode.specs.Leaves.{has_byte}
use Rattle.overlay_keyed.proofs.has_at.Goals as goal

any_is : (v : List ℕ) → list_any (λ y. eqb y 64) v ≡ has_byte 64 v
any_is [] = refl
any_is (b ∷ v) = ap (λ t. eqb b 64 || t) (any_is v)

pub returns : goal.returns
returns c = c.contains.ensures.value ∙ any_is c.args.v.now
