-- `overlay_trip::word` meets its contract.
use Rattle.overlay_trip.specs.Laws.Trip.{delay_no, delay_over, delay_so, number32_no, number32_over, number32_so}
use Rattle.overlay_trip.proofs.word.Goals as goal

pub returns-in_err-n-clause-fine : goal.returns-in_err-n-clause-fine
returns-in_err-n-clause-fine c = rw c.from_residual.ensures (search (delay_no, c.in_err-n.was))

pub returns-in_err-n-clause-fine_2 : goal.returns-in_err-n-clause-fine_2
returns-in_err-n-clause-fine_2 c = rw c.from_residual.ensures (search (number32_no, c.in_err-n.was))

pub returns-then-n-gt4294967295-clause-fine : goal.returns-then-n-gt4294967295-clause-fine
returns-then-n-gt4294967295-clause-fine c = search (delay_over, c.in_ok-n.was)

pub returns-then-n-gt4294967295-clause-fine_2 : goal.returns-then-n-gt4294967295-clause-fine_2
returns-then-n-gt4294967295-clause-fine_2 c = search (number32_over, c.in_ok-n.was)

pub returns-clause-fine : goal.returns-clause-fine
returns-clause-fine c = search (delay_so, c.in_ok-n.was)

pub returns-clause-fine_2 : goal.returns-clause-fine_2
returns-clause-fine_2 c = search (number32_so, c.in_ok-n.was)
