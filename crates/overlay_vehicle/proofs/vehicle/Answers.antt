-- `vehicle` meets its contract.
use Rattle.overlay_vehicle.specs.Laws.Vehicle.{sees_none, sees_one}
use Rattle.overlay_vehicle.proofs.vehicle.Goals as goal

pub returns-in_err-p : goal.returns-in_err-p
returns-in_err-p c = search (sees_none, c.from_residual.ensures, c.in_err-p.was)

pub returns : goal.returns
returns c = search (sees_one, c.in_ok-p.was)
