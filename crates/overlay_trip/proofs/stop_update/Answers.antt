-- `overlay_trip::stop_update` meets its contract.
use Rattle.formats_check.specs.Laws.Checked.{then_no, then_so}
use Rattle.overlay_trip.proofs.stop_update.Goals as goal

pub returns-in_err-p : goal.returns-in_err-p
returns-in_err-p c = rw c.from_residual.ensures (search (then_no, c.in_err-p.was))

pub returns : goal.returns
returns c = search (then_so, c.in_ok-p.was)
