-- `overlay_keys::decimal` meets its contract.
use Rattle.overlay_keys.specs.Laws.Piece.{piece_inside, decimal_none, decimal_one, decimal_stop, decimal_more}
use Rattle.overlay_keys.proofs.+decimal.Goals as goal

pub returns-then-k-eq0 : goal.returns-then-k-eq0
returns-then-k-eq0 t c = search decimal_none

pub returns-then-n-lt10 : goal.returns-then-n-lt10
returns-then-n-lt10 t c = search decimal_one

pub returns-in_err-m : goal.returns-in_err-m
returns-in_err-m t c = rw c.from_residual.ensures (search (decimal_stop, c.in_err-m.was))

pub byte-requires-2 : goal.byte-requires-2
byte-requires-2 t c = search (piece_inside, c.in_ok-m.was)

pub returns : goal.returns
returns t c = search (decimal_more, c.in_ok-m.was)
