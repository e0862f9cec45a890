-- `scheduled` meets its contract.
use Rattle.journey_times.specs.Laws.Ranges.{unscheduled, schedules}
use Rattle.journey_times.proofs.scheduled.Goals as goal

pub returns-then-n-gt4291833598 : goal.returns-then-n-gt4291833598
returns-then-n-gt4291833598 c = search (unscheduled)

pub returns : goal.returns
returns c = search (schedules)
