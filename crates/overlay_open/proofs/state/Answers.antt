-- `overlay_open::state` meets its contract.
use Rattle.overlay_open.specs.Laws.Feed.{state_layout, state_version, state_so}
use Rattle.overlay_noted.specs.Laws.Passes.{unless_no}
use Rattle.overlay_open.specs.Laws.Feeds.{state_put}
use Rattle.overlay_open.proofs.state.Goals as goal

pub returns-in_err-p-clause-tested : goal.returns-in_err-p-clause-tested
returns-in_err-p-clause-tested c = rw c.from_residual.ensures (search (state_layout, c.in_err-p.was))

pub returns-in_err-p-clause-unless : goal.returns-in_err-p-clause-unless
returns-in_err-p-clause-unless c = rw c.from_residual.ensures unless_no

pub returns-in_err-v-clause-tested : goal.returns-in_err-v-clause-tested
returns-in_err-v-clause-tested c = rw c.from_residual-in_err-v.ensures
    (search (state_version, c.in_ok-p.was, c.in_err-v.was))

pub returns-in_err-v-clause-unless : goal.returns-in_err-v-clause-unless
returns-in_err-v-clause-unless c = rw c.from_residual-in_err-v.ensures unless_no

pub returns-clause-tested : goal.returns-clause-tested
returns-clause-tested c = search (state_so, c.in_ok-p.was, c.in_ok-v.was)

pub returns-clause-unless : goal.returns-clause-unless
returns-clause-unless c = search (state_put, c.in_ok-p.was, c.in_ok-v.was)
