-- `find_feed` meets its contract.
use Prim.Native.Nat.{◌-◌}
use Rattle.overlay_feeds.specs.Laws.Place.{Seeking}
use Rattle.overlay_feeds.proofs.find_feed.Given as goal

abbrev pub invariant-loop-i : goal.invariant-loop-i
invariant-loop-i l = Seeking l.old l.feed l.initial.p l.count l.p (l.count - l.i) l.i
