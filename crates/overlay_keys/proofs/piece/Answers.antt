-- `overlay_keys::piece` meets its contract.
use Rattle.overlay_keys.specs.Laws.Piece.{piece_other, piece_short, piece_so}
use Rattle.overlay_keys.proofs.piece.Goals as goal

pub returns-then-e-at : goal.returns-then-e-at
returns-then-e-at c = search piece_short

pub returns-then-same : goal.returns-then-same
returns-then-same c = search piece_so

pub returns : goal.returns
returns c = search piece_other
