-- `overlay_open::records` meets its contract.
use Rattle.formats_check.specs.Laws.Checked.{both_no, both_so, tested}
use Rattle.overlay_noted.specs.Laws.Passes.{unless_no}
use Rattle.overlay_open.specs.Laws.Records.{records_put}
use Rattle.overlay_open.proofs.records.Goals as goal

pub returns-in_err-p-clause-tested : goal.returns-in_err-p-clause-tested
returns-in_err-p-clause-tested c = rw c.from_residual.ensures (search (both_no, c.in_err-p.was))

pub returns-in_err-p-clause-unless : goal.returns-in_err-p-clause-unless
returns-in_err-p-clause-unless c = rw c.from_residual.ensures unless_no

pub returns-in_err-q-clause-tested : goal.returns-in_err-q-clause-tested
returns-in_err-q-clause-tested c = rw c.from_residual-in_err-q.ensures
    (search (both_so, both_no, c.in_ok-p.was, c.in_err-q.was))

pub returns-in_err-q-clause-unless : goal.returns-in_err-q-clause-unless
returns-in_err-q-clause-unless c = rw c.from_residual-in_err-q.ensures unless_no

pub returns-clause-tested : goal.returns-clause-tested
returns-clause-tested c = search (both_so, tested, c.in_ok-p.was, c.in_ok-q.was)

pub returns-clause-unless : goal.returns-clause-unless
returns-clause-unless c = search (records_put, c.in_ok-p.was, c.in_ok-q.was)
