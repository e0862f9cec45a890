-- `alerts_ids::piece_start` meets its contract. The invariant: from a up to e there is no cut.
use Rattle.alerts_ids.specs.Laws.Pieces.{Uncut}
use Rattle.alerts_ids.proofs.piece_start.Given as goal

abbrev pub invariant-loop-a : goal.invariant-loop-a
invariant-loop-a l = Uncut l.x l.e l.a

abbrev pub decreases-loop-a : goal.decreases-loop-a
decreases-loop-a l = l.a
