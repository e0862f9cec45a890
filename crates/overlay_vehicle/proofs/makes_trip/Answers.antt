-- `makes_trip` meets its contract.
use Rattle.overlay_vehicle.specs.Laws.Vehicle.{trip_out, trip_absent, trip_given}
use Rattle.overlay_vehicle.proofs.makes_trip.Goals as goal

pub returns-then-old-at : goal.returns-then-old-at
returns-then-old-at c = search trip_out

pub returns-then-old-at-ne1 : goal.returns-then-old-at-ne1
returns-then-old-at-ne1 c = search trip_absent

pub returns : goal.returns
returns c = search trip_given
