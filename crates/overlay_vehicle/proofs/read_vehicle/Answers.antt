-- `read_vehicle` meets its contract.
use Rattle.overlay_vehicle.specs.Laws.Vehicle.{place_read}
use Rattle.overlay_vehicle.proofs.read_vehicle.Goals as goal

pub returns : goal.returns
returns c = search place_read
