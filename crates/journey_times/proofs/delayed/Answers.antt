-- `delayed` meets its contract.
use Rattle.journey_times.specs.Laws.Events.{no_delay, a_delay}
use Rattle.journey_times.proofs.delayed.Goals as goal

pub returns-in-None : goal.returns-in-None
returns-in-None c = search (no_delay, c.ranges)

pub returns-in-Some : goal.returns-in-Some
returns-in-Some c = search (a_delay, c.ranges)
