-- `overlay_open::timestamp` meets its contract.
use Rattle.overlay_open.specs.Laws.Feed.{timestamp_no, timestamp_so}
use Rattle.overlay_open.proofs.timestamp.Goals as goal

pub returns-in_err-n : goal.returns-in_err-n
returns-in_err-n c = rw c.from_residual.ensures (search (timestamp_no, c.in_err-n.was))

pub returns : goal.returns
returns c = search (timestamp_so, c.in_ok-n.was)
