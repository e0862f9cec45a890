-- Promise. Whether the keys of vehicles that stand at a place ascend.
use Rattle.std.specs.Prelude.{◌≡◌, Bool, List, ℕ}
use Rattle.maps.specs.Map.{ascending}
use Rattle.maps.specs.Order.{texts}
use Rattle.formats.specs.Format.{list}
use Rattle.formats_read.specs.Promises.Here.{Here}
use Rattle.overlay.specs.State.{Vehicles, vehicle_entry}

pub record Ascends (s : List ℕ) (p : ℕ) (r : Bool) : Type 0 where
  pub to : {xs : Vehicles} {q : ℕ} → Here (list 1024 vehicle_entry) s p q xs → r ≡ ascending texts xs
