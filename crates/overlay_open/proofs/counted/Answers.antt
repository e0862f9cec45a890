-- `overlay_open::counted` meets its contract.
use Rattle.overlay_open.specs.Laws.Feed.{counted_no, counted_over, counted_so}
use Rattle.overlay_noted.specs.Laws.Passes.{unless_no}
use Rattle.overlay_open.specs.Laws.Records.{counted_put}
use Rattle.overlay_open.proofs.counted.Goals as goal

pub returns-in_err-c-clause-tested : goal.returns-in_err-c-clause-tested
returns-in_err-c-clause-tested c = rw c.from_residual.ensures (search (counted_no, c.in_err-c.was))

pub returns-in_err-c-clause-unless : goal.returns-in_err-c-clause-unless
returns-in_err-c-clause-unless c = rw c.from_residual.ensures unless_no

pub returns-then-c-gt2048-clause-tested : goal.returns-then-c-gt2048-clause-tested
returns-then-c-gt2048-clause-tested c = search (counted_over, c.in_ok-c.was)

pub returns-then-c-gt2048-clause-unless : goal.returns-then-c-gt2048-clause-unless
returns-then-c-gt2048-clause-unless c = unless_no

pub returns-clause-tested : goal.returns-clause-tested
returns-clause-tested c = search (counted_so, c.in_ok-c.was)

pub returns-clause-unless : goal.returns-clause-unless
returns-clause-unless c = search (counted_put, c.in_ok-c.was)
