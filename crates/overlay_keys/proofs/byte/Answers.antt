-- `overlay_keys::byte` meets its contract.
use Rattle.overlay_keys.specs.Laws.Piece.{byte_end, byte_other, byte_so}
use Rattle.overlay_keys.proofs.byte.Goals as goal

pub returns-then-e-at : goal.returns-then-e-at
returns-then-e-at c = search byte_end

pub returns-then-from-x : goal.returns-then-from-x
returns-then-from-x c = search byte_so

pub returns : goal.returns
returns c = search byte_other
