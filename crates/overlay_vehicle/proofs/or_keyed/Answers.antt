-- `or_keyed` meets its contract.
use mathlib.Core.Path.{refl}
use Rattle.overlay_vehicle.specs.Laws.Vehicle.{seen_before}
use Rattle.overlay_vehicle.proofs.or_keyed.Goals as goal

pub returns-in-Some : goal.returns-in-Some
returns-in-Some c = rw c.in-Some.is (seen_before refl)
