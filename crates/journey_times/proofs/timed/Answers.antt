-- `timed` meets its contract.
use Rattle.journey_times.specs.Laws.Events.{no_time, a_time}
use Rattle.journey_times.proofs.timed.Goals as goal

pub returns-in-None : goal.returns-in-None
returns-in-None c = search (no_time, c.ranges)

pub returns-in-Some : goal.returns-in-Some
returns-in-Some c = search (a_time, c.ranges)
