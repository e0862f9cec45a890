-- Promise. A feed's body as a sheet leaves it: where its parts stand, and what is written.
use Rattle.std.specs.Prelude.{◌≡◌, true, List, ◌++◌, ℕ, ℤ, pos, ◌-ℤ◌, length, Option}
use Rattle.maps.specs.Map.{puts, ascending}
use Rattle.maps.specs.Order.{texts}
use Rattle.formats.specs.Number.{number_w, zag}
use Rattle.formats.specs.Format.{list, optional, write}
use Rattle.formats_write.specs.Promises.Adds.{Adds}
use Rattle.formats_read.specs.Promises.Here.{Here}
use Rattle.decode.specs.Sizes.{most_trips}
use Rattle.decode.specs.Trip.{trip_entry}
use Rattle.alerts.specs.Alert.{Alert, alert}
use Rattle.overlay.specs.State.{Feed, Vehicles, timestamp, vehicle_entry, feed_with}
use Rattle.overlay.specs.State.{timestamp_of, count_of, trips_of, vehicles_of, alerts_of}
use Rattle.overlay.specs.Change.{without_stale}
use Rattle.overlay_merge.specs.Promises.Merge.{Counted}

-- a sheet's alerts, from its second byte to its end
abbrev pub AlertsIn : List ℕ → List Alert → Type 0
AlertsIn sheet vs = Here (list 256 alert) sheet 1 (length sheet) vs

-- the vehicles of a sheet, from its second byte on, and those of a feed, at a place: both ascend
pub record VehiclesIn (sheet : List ℕ) (old : List ℕ) (at : ℕ) (xs ys : Vehicles) : Type 0 where
  pub sheet_here : Here (list 1024 vehicle_entry) sheet 1 (length sheet) xs
  pub sheet_ascends : ascending texts xs ≡ true
  pub till : ℕ
  pub old_here : Here (list 1024 vehicle_entry) old at till ys
  pub old_ascends : ascending texts ys ≡ true

-- the vehicles of a sheet
pub record VehiclesAlone (sheet : List ℕ) (xs : Vehicles) : Type 0 where
  pub here : Here (list 1024 vehicle_entry) sheet 1 (length sheet) xs
  pub ascends : ascending texts xs ≡ true

-- how many vehicles are left, `limit` being the code of the clock less 900: up to 1,024, or more than that
pub record Left (sheet old : List ℕ) (at limit r : ℕ) : Type 0 where
  pub of : (xs ys : Vehicles) (clock : ℤ) → zag limit ≡ clock -ℤ pos 900 → VehiclesIn sheet old at xs ys
      → Counted r (length (without_stale clock (puts texts xs ys)))

abbrev pub with_alerts : Feed → List Alert → Feed
with_alerts F vs = feed_with (timestamp_of F) (count_of F) (trips_of F) (vehicles_of F) vs

abbrev pub with_vehicles : Feed → Vehicles → Feed
with_vehicles F vs = feed_with (timestamp_of F) (length (trips_of F)) (trips_of F) vs (alerts_of F)

-- timestamp, count of all keys, trips
abbrev pub front_w : Feed → List ℕ
front_w F =
    write (optional timestamp) (timestamp_of F)
    ++ (number_w (length (trips_of F)) ++ write (list most_trips trip_entry) (trips_of F))

-- the list of the vehicles that are left: `kept` of them
pub record Lists (l : List ℕ) (r : Option ℕ) (m : List ℕ) (q : Option ℕ) (sheet old : List ℕ)
    (at limit kept : ℕ) : Type 0 where
  pub of : (xs ys : Vehicles) (clock : ℤ) → zag limit ≡ clock -ℤ pos 900 → VehiclesIn sheet old at xs ys
      → kept ≡ length (without_stale clock (puts texts xs ys))
      → Adds l r m q (write (list 1024 vehicle_entry) (without_stale clock (puts texts xs ys)))
