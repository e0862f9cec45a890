-- `overlay_open::feed` meets its contract.
use Rattle.formats_check.specs.Laws.Checked.{behind_no, behind_so}
use Rattle.overlay_noted.specs.Laws.Passes.{unless_no}
use Rattle.overlay_open.specs.Laws.Records.{feed_put}
use Rattle.overlay_open.proofs.feed.Goals as goal

pub returns-in_err-p-clause-tested : goal.returns-in_err-p-clause-tested
returns-in_err-p-clause-tested c = rw c.from_residual.ensures (search (behind_no, c.in_err-p.was))

pub returns-in_err-p-clause-unless : goal.returns-in_err-p-clause-unless
returns-in_err-p-clause-unless c = rw c.from_residual.ensures unless_no

pub returns-clause-tested : goal.returns-clause-tested
returns-clause-tested c = search (behind_so, c.in_ok-p.was)

pub returns-clause-unless : goal.returns-clause-unless
returns-clause-unless c = search (feed_put, c.in_ok-p.was)
