-- `slices::clear` meets its contract: block after block. Assumes nothing.
use Prim.Native.Nat.{◌*◌}
use Rattle.slices.proofs.Filled.{Filled}
use Rattle.slices.proofs.clear.Given as goal

abbrev pub invariant-loop-k : goal.invariant-loop-k
invariant-loop-k l = Filled l.initial.s 0 (256 * l.k) l.s
