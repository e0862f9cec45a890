-- `decode_slots::rank`: the rank lies between `lo` and `hi`. Assumes nothing.
use Prim.Native.Nat.{◌-◌, ◌≤◌}
use Rattle.maps.specs.Order.{texts}
use Rattle.decode_slots.specs.Index.{index}
use Rattle.decode_slots.specs.Promises.Index.{key_in, rank_of}
use Rattle.decode_slots.proofs.rank.Given as goal

abbrev pub invariant-loop-lo : goal.invariant-loop-lo
invariant-loop-lo l =
    let r = rank_of texts (key_in l.keys l.n l.len) (index l.keys l.marks l.order l.n) in
    (l.lo ≤ r) × (r ≤ l.hi) × (l.hi ≤ l.n)

abbrev pub decreases-loop-lo : goal.decreases-loop-lo
decreases-loop-lo l = l.hi - l.lo
