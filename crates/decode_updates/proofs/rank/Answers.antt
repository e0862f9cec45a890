-- `decode_updates::rank`: the rank lies between `lo` and `hi`. Assumes nothing.
use Prim.Native.Nat.{◌+◌, ◌-◌, ◌/◌}
use native.Mathlib.Omega.{arith}
use Rattle.decode_updates.proofs.Noting.{rank_most, rank_down, rank_up}
use Rattle.decode_updates.proofs.rank.Goals as goal

pub loop-lo-init : goal.loop-lo-init
loop-lo-init c = (omega arith, rank_most c.args.updates.now c.args.n c.requires c.args.sequence, omega arith)

pub offset_bounds-updates-mid : goal.offset_bounds-updates-mid
offset_bounds-updates-mid c = omega (arith, c.requires.counted)

pub bounds-updates-mid : goal.bounds-updates-mid
bounds-updates-mid c = omega (arith, c.requires.counted, c.requires.long)

pub loop-lo-preserved-then-updates-mid : goal.loop-lo-preserved-then-updates-mid
loop-lo-preserved-then-updates-mid c =
    let mid = c.loop-lo.lo + (c.loop-lo.hi - c.loop-lo.lo) / 2 in
    let h = rank_up c.args.updates.now c.args.n c.requires c.args.sequence mid
    (omega arith) c.if-updates-mid.true in
    (omega arith, omega arith, omega arith)

pub loop-lo-preserved : goal.loop-lo-preserved
loop-lo-preserved c =
    let mid = c.loop-lo.lo + (c.loop-lo.hi - c.loop-lo.lo) / 2 in
    let h = rank_down c.args.updates.now c.args.n c.requires c.args.sequence mid
    (omega arith) c.if-updates-mid.false in
    (omega arith, omega arith, omega arith)
