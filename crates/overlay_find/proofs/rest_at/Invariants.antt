-- `overlay_find::rest_at`: what is sought stands from `lo` up to `hi`, if anywhere.
use Rattle.overlay_find.specs.Laws.Rest.{Searching}
use Prim.Native.Nat.{◌-◌}
use Rattle.overlay_find.proofs.rest_at.Given as goal

abbrev pub invariant-loop-lo : goal.invariant-loop-lo
invariant-loop-lo l = Searching l.old l.noted l.r l.rest l.lo l.hi

abbrev pub decreases-loop-lo : goal.decreases-loop-lo
decreases-loop-lo l = l.hi - l.lo
