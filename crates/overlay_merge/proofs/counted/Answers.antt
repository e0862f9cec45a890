-- `counted` meets its contract.
use Prim.Native.Nat.{ℕ, ◌+◌}
use mathlib.Core.Path.{◌≡◌, refl}
use mathlib.Core.Bool.{Bool, true, false, cond}
use mir.Val.{bool_byte}
use native.Mathlib.Omega.{arith}
use Rattle.overlay_merge.proofs.counted.Goals as goal

one_more : (k : ℕ) (b : Bool) → k + bool_byte b ≡ cond b (k + 1) k
one_more k true = refl
one_more k false = omega arith

pub returns : goal.returns
returns c = rw c.from.ensures (one_more c.args.kept c.args.keep)
