-- `vehicle` meets its contract.
use Rattle.journey_finish.specs.Laws.Finish.{vehicle_in}
use Rattle.journey_finish.proofs.vehicle.Goals as goal

pub returns : goal.returns
returns c = vehicle_in c.leg-p.ensures c.text-trip.ensures c.vehicle.ensures
