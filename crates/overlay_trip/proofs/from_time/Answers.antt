-- `overlay_trip::from_time` meets its contract.
use Rattle.formats_check.specs.Laws.Checked.{behind_no, behind_so, tested}
use Rattle.overlay_trip.proofs.from_time.Goals as goal

pub returns-in_err-p : goal.returns-in_err-p
returns-in_err-p c = rw c.from_residual.ensures (search (behind_no, c.in_err-p.was))

pub returns : goal.returns
returns c = search (behind_so, tested, c.in_ok-p.was)
