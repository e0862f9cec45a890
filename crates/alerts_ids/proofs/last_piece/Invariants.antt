-- `alerts_ids::last_piece` meets its contract. The invariant: the pieces from e on aren't taken.
use Rattle.alerts_ids.specs.Laws.Pieces.{Sought}
use Rattle.alerts_ids.proofs.last_piece.Given as goal

abbrev pub invariant-loop-lettered : goal.invariant-loop-lettered
invariant-loop-lettered l = Sought l.lettered l.x l.e

abbrev pub decreases-loop-lettered : goal.decreases-loop-lettered
decreases-loop-lettered l = l.e
