-- `decode_updates::rank`: the rank lies between `lo` and `hi`. Assumes nothing.
use Prim.Native.Nat.{◌-◌, ◌≤◌}
use Rattle.maps.specs.Order.{numbers}
use Rattle.decode_slots.specs.Promises.Index.{rank_of}
use Rattle.decode_updates.specs.Line.{laid}
use Rattle.decode_updates.proofs.rank.Given as goal

abbrev pub invariant-loop-lo : goal.invariant-loop-lo
invariant-loop-lo l =
    let r = rank_of numbers l.sequence (laid l.n l.updates) in
    (l.lo ≤ r) × (r ≤ l.hi) × (l.hi ≤ l.n)

abbrev pub decreases-loop-lo : goal.decreases-loop-lo
decreases-loop-lo l = l.hi - l.lo
