-- `overlay_keys::route` meets its contract.
use Rattle.overlay_keys.specs.Laws.Keys.{route_colon, route_feed, route_none, route_so}
use Rattle.overlay_keys.specs.Laws.Piece.{piece_inside}
use Rattle.overlay_keys.proofs.route.Goals as goal

pub returns-then-x-y : goal.returns-then-x-y
returns-then-x-y c = search route_none

pub returns-in_err-p : goal.returns-in_err-p
returns-in_err-p c = rw c.from_residual.ensures (search (route_feed, c.in_err-p.was))

pub byte-requires : goal.byte-requires
byte-requires c = search (piece_inside, c.in_ok-p.was)

pub returns-in_err-q : goal.returns-in_err-q
returns-in_err-q c = rw c.from_residual-in_err-q.ensures (search (route_colon, c.in_ok-p.was, c.in_err-q.was))

pub piece-requires-2 : goal.piece-requires-2
piece-requires-2 c = search (piece_inside, c.in_ok-q.was)

pub returns : goal.returns
returns c = search (route_so, c.in_ok-p.was, c.in_ok-q.was)
