-- `alerts_ids::last_piece` meets its contract. The invariant: the pieces from e on aren't taken.
use Rattle.alerts_ids.specs.Laws.Pieces.{sought_start, piece_taken, none_taken, sought_more}
use Rattle.alerts_ids.proofs.last_piece.Goals as goal

pub loop-lettered-init : goal.loop-lettered-init
loop-lettered-init c = sought_start _ _

pub returns-then-is_taken : goal.returns-then-is_taken
returns-then-is_taken c = search (piece_taken)

pub returns-then-a-eq0 : goal.returns-then-a-eq0
returns-then-a-eq0 c = search (none_taken)

pub loop-lettered-preserved : goal.loop-lettered-preserved
loop-lettered-preserved c = search (sought_more)
