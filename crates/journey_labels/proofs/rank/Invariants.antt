-- `journey_labels::rank`: the rank lies between `lo` and `hi`.
use Prim.Native.Nat.{◌-◌}
use Rattle.journey_labels.specs.Laws.Labels.{Between}
use Rattle.journey_labels.proofs.rank.Given as goal

abbrev pub invariant-loop-lo : goal.invariant-loop-lo
invariant-loop-lo l = Between l.old l.froms l.tos l.n (l.from, l.to) l.lo l.hi

abbrev pub decreases-loop-lo : goal.decreases-loop-lo
decreases-loop-lo l = l.hi - l.lo
