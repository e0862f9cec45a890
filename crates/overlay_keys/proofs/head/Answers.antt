-- `overlay_keys::head` meets its contract.
use native.Mathlib.Omega.{arith}
use Rattle.overlay_keys.specs.Laws.Keys.{head_between, head_mark, head_route, head_so, route_inside}
use Rattle.overlay_keys.specs.Laws.Piece.{piece_inside, piece_forward}
use Rattle.overlay_keys.proofs.head.Goals as goal

pub returns-in_err-p : goal.returns-in_err-p
returns-in_err-p c = rw c.from_residual.ensures (search (head_mark, c.in_err-p.was))

pub route-requires-clause-inside_2 : goal.route-requires-clause-inside_2
route-requires-clause-inside_2 c = search (piece_inside, c.in_ok-p.was)

pub returns-in_err-q : goal.returns-in_err-q
returns-in_err-q c = rw c.from_residual-in_err-q.ensures (search (head_route, c.in_ok-p.was, c.in_err-q.was))

pub piece-requires-2 : goal.piece-requires-2
piece-requires-2 c = search (route_inside, piece_inside, c.in_ok-q.was)

pub returns-in_err-u : goal.returns-in_err-u
returns-in_err-u c = rw c.from_residual-in_err-u.ensures
    (search (head_between, c.in_ok-p.was, c.in_ok-q.was, c.in_err-u.was))

pub direction-requires : goal.direction-requires
direction-requires c = record { forward = search (piece_forward, c.in_ok-u.was); within = omega arith }

pub returns : goal.returns
returns c = search (head_so, c.in_ok-p.was, c.in_ok-q.was, c.in_ok-u.was)
