-- `slices::clear` meets its contract: block after block. Assumes nothing.
use Prim.Native.Nat.{◌+◌, ◌*◌, ◌/◌}
use mathlib.Core.Path.{◌≡◌}
use native.Mathlib.Omega.{arith}
use lib.ListN.{length}
use Rattle.slices.proofs.Filled.{filled_block, filled_all}
use Rattle.slices.proofs.clear.Goals as goal

pub loop-k-preserved : goal.loop-k-preserved
loop-k-preserved c =
    let e : 256 * (c.loop-k.k + 1) ≡ 256 * c.loop-k.k + 256 = omega arith in
    rw e (filled_block c.loop-k.invariant (256 * c.loop-k.k + 256) _ (omega arith) (omega arith) c.clear_block.ensures)

pub returns : goal.returns
returns c =
    let e : c.loop-k.k ≡ length c.args.s.now / 256 = omega arith in
    let F = rw e at c.loop-k.invariant in
    filled_all (filled_block F (length c.loop-k.s) _ (omega arith) (omega arith) c.clear_block-2.ensures) (omega arith)
