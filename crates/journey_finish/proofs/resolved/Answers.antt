-- `resolved` meets its contract.
use Rattle.journey_finish.specs.Laws.Finish.{resolved_in}
use Rattle.journey_finish.proofs.resolved.Goals as goal

pub returns : goal.returns
returns c =
    resolved_in c.leg-p.ensures c.optional_number-d.result c.text-trip.ensures c.text-route.ensures
    c.optional_number-d.ensures c.number-n.ensures c.resolve_leg.ensures
