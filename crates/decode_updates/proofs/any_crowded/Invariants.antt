-- `decode_updates::any_crowded`: the slots so far have no crowded record. Assumes nothing.
use Rattle.decode_updates.proofs.Crowding.{Seeking}
use Rattle.decode_updates.proofs.any_crowded.Given as goal

abbrev pub invariant-loop-slot : goal.invariant-loop-slot
invariant-loop-slot l = Seeking l.message l.marks l.order l.n l.slot-index l.from l.to
