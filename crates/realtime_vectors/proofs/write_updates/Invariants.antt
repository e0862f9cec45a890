-- `realtime_vectors::write_updates` is safe and ends: each item leaves fewer bytes ahead. Assumes nothing.
use Rattle.realtime_views.specs.Promises.Walks.{SoundWalk, ahead}
use Rattle.realtime_vectors.proofs.write_updates.Given as goal

abbrev pub invariant-loop-start : goal.invariant-loop-start
invariant-loop-start g l = SoundWalk l.s l.rest.outer l.rest.end l.rest.at

abbrev pub decreases-loop-start : goal.decreases-loop-start
decreases-loop-start g l = ahead l.s l.rest
