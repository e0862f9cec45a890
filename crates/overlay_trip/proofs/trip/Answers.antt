-- `overlay_trip::trip` meets its contract.
use Rattle.formats_check.specs.Laws.Checked.{behind_no, behind_so}
use Rattle.overlay_trip.proofs.trip.Goals as goal

pub returns-in_err-p : goal.returns-in_err-p
returns-in_err-p c = rw c.from_residual.ensures (search (behind_no, c.in_err-p.was))

pub returns-in_err-q : goal.returns-in_err-q
returns-in_err-q c = rw c.from_residual-in_err-q.ensures (search (behind_so, behind_no, c.in_ok-p.was, c.in_err-q.was))

pub returns-in_err-u : goal.returns-in_err-u
returns-in_err-u c = rw c.from_residual-in_err-u.ensures
    (search (behind_so, behind_no, c.in_ok-p.was, c.in_ok-q.was, c.in_err-u.was))

pub returns : goal.returns
returns c = search (behind_so, c.in_ok-p.was, c.in_ok-q.was, c.in_ok-u.was)
