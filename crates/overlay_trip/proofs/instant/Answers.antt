-- `overlay_trip::instant` meets its contract.
use Rattle.overlay_trip.specs.Laws.Trip.{instant_no, instant_odd, instant_over, instant_so}
use Rattle.overlay_trip.proofs.instant.Goals as goal

pub returns-in_err-n : goal.returns-in_err-n
returns-in_err-n c = rw c.from_residual.ensures (search (instant_no, c.in_err-n.was))

pub returns-then-n-ne0 : goal.returns-then-n-ne0
returns-then-n-ne0 c = search (instant_odd, c.in_ok-n.was)

pub returns-then-n-gt8204889600 : goal.returns-then-n-gt8204889600
returns-then-n-gt8204889600 c = search (instant_over, c.in_ok-n.was)

pub returns : goal.returns
returns c = search (instant_so, c.in_ok-n.was)
