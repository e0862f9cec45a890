-- `overlay_keyed::trips` meets its contract.
use Rattle.formats_check.specs.Laws.Elements.{in_place}
use Rattle.formats_check.specs.Laws.Climbing.{climbs_no, climbs_many, climbs_so}
use Rattle.overlay_noted.specs.Laws.Passes.{unless_no}
use Rattle.overlay_noted.specs.Laws.Entries.{trips_put}
use Rattle.overlay_keyed.proofs.trips.Goals as goal

pub returns-in_err-n-clause-tested : goal.returns-in_err-n-clause-tested
returns-in_err-n-clause-tested c = rw c.from_residual.ensures (search (climbs_no, c.in_err-n.was))

pub returns-in_err-n-clause-unless : goal.returns-in_err-n-clause-unless
returns-in_err-n-clause-unless c = rw c.from_residual.ensures unless_no

pub returns-then-n-gt2048-clause-tested : goal.returns-then-n-gt2048-clause-tested
returns-then-n-gt2048-clause-tested c = search (climbs_many, c.in_ok-n.was)

pub returns-then-n-gt2048-clause-unless : goal.returns-then-n-gt2048-clause-unless
returns-then-n-gt2048-clause-unless c = unless_no

pub trips_from-requires-clause-at_in_bounds : goal.trips_from-requires-clause-at_in_bounds
trips_from-requires-clause-at_in_bounds c = search (in_place, c.in_ok-n.was)

pub returns-clause-tested : goal.returns-clause-tested
returns-clause-tested c = search (climbs_so, c.in_ok-n.was)

pub returns-clause-unless : goal.returns-clause-unless
returns-clause-unless c = search (trips_put, c.in_ok-n.was)
