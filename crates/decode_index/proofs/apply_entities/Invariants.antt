-- `decode_index::apply_entities`: with what is left, the index gives that of the whole message. The measure: the bytes
-- behind the walk. Assumes nothing.
use Rattle.decode_slots.specs.Index.{index}
use Rattle.realtime_views.specs.Promises.Walks.{ahead}
use Rattle.decode_index.proofs.Entities.{Going}
use Rattle.decode_index.proofs.apply_entities.Given as goal

abbrev pub invariant-loop-at : goal.invariant-loop-at
invariant-loop-at l =
    Going l.feed l.message (index l.initial.keys l.initial.marks l.initial.order l.n) l.keys l.marks l.order l.m l.walk

abbrev pub decreases-loop-at : goal.decreases-loop-at
decreases-loop-at l = ahead l.message l.walk
