-- `feed_end` meets its contract.
use Rattle.overlay_ids.specs.Laws.Feed.{Scanned}
use Rattle.overlay_ids.proofs.feed_end.Given as goal

abbrev pub invariant-loop-i : goal.invariant-loop-i
invariant-loop-i l = Scanned l.id l.i
