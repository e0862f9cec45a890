-- `overlay_places::feed_rank`: every feed at a lower rank comes before the one that is sought.
use Prim.Native.Nat.{◌-◌}
use Rattle.overlay_places.specs.Laws.Ranks.{Ranking}
use Rattle.overlay_places.proofs.feed_rank.Given as goal

abbrev pub invariant-loop-r : goal.invariant-loop-r
invariant-loop-r l = Ranking l.old l.noted l.feed (l.count - l.r) l.r
