-- `overlay_keys::tail` meets its contract.
use Rattle.overlay_keys.specs.Laws.Keys.{tail_between, tail_date, tail_mark, tail_so}
use Rattle.overlay_keys.specs.Laws.Piece.{piece_inside}
use Rattle.overlay_keys.proofs.tail.Goals as goal

pub returns-in_err-p : goal.returns-in_err-p
returns-in_err-p c = rw c.from_residual.ensures (search (tail_mark, c.in_err-p.was))

pub piece-requires-2 : goal.piece-requires-2
piece-requires-2 c = search (piece_inside, c.in_ok-p.was)

pub returns-in_err-q : goal.returns-in_err-q
returns-in_err-q c = rw c.from_residual-in_err-q.ensures (search (tail_date, c.in_ok-p.was, c.in_err-q.was))

pub piece-requires-3 : goal.piece-requires-3
piece-requires-3 c = search (piece_inside, c.in_ok-q.was)

pub returns-in_err-w : goal.returns-in_err-w
returns-in_err-w c = rw c.from_residual-in_err-w.ensures
    (search (tail_between, c.in_ok-p.was, c.in_ok-q.was, c.in_err-w.was))

pub piece-requires-4 : goal.piece-requires-4
piece-requires-4 c = search (piece_inside, c.in_ok-w.was)

pub returns : goal.returns
returns c = search (tail_so, c.in_ok-p.was, c.in_ok-q.was, c.in_ok-w.was)
