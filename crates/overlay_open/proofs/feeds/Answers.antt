-- `overlay_open::feeds` meets its contract.
use Rattle.formats_check.specs.Laws.Elements.{in_place}
use Rattle.formats_check.specs.Laws.Climbing.{climbs_no, climbs_many, climbs_so}
use Rattle.overlay_noted.specs.Laws.Passes.{unless_no}
use Rattle.overlay_open.specs.Laws.Feeds.{feeds_put}
use Rattle.overlay_open.proofs.feeds.Goals as goal

pub returns-in_err-n-clause-tested : goal.returns-in_err-n-clause-tested
returns-in_err-n-clause-tested c = rw c.from_residual.ensures (search (climbs_no, c.in_err-n.was))

pub returns-in_err-n-clause-unless : goal.returns-in_err-n-clause-unless
returns-in_err-n-clause-unless c = rw c.from_residual.ensures unless_no

pub returns-then-n-gt4-clause-tested : goal.returns-then-n-gt4-clause-tested
returns-then-n-gt4-clause-tested c = search (climbs_many, c.in_ok-n.was)

pub returns-then-n-gt4-clause-unless : goal.returns-then-n-gt4-clause-unless
returns-then-n-gt4-clause-unless c = unless_no

pub feeds_from-requires-clause-at_in_bounds : goal.feeds_from-requires-clause-at_in_bounds
feeds_from-requires-clause-at_in_bounds c = search (in_place, c.in_ok-n.was)

pub returns-clause-tested : goal.returns-clause-tested
returns-clause-tested c = search (climbs_so, c.in_ok-n.was)

pub returns-clause-unless : goal.returns-clause-unless
returns-clause-unless c = search (feeds_put, c.in_ok-n.was)
