-- `event_by` meets its contract.
use Rattle.journey_times.specs.Laws.Events.{told_or}
use Rattle.journey_times.proofs.event_by.Goals as goal

pub returns : goal.returns
returns c =
    told_or c.ranges.at c.args.own c.args.other c.args.trip
    c.or-time.result c.or-delay.result c.or-late.result c.delayed.result c.timed.result
    c.or-delay.ensures c.or-late.ensures c.or-time.ensures c.delayed.ensures c.timed.ensures
