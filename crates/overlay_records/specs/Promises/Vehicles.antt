-- Promise. A feed's vehicles as they have to be: within their limits, ascending by key.
use Rattle.formats.specs.Class.{printable}
use Rattle.formats.specs.Format.{list}
use Rattle.formats_check.specs.Promises.Checked.{Test, own, behind, fine}
use Rattle.formats_check.specs.Laws.Climbing.{climb_test, weightless, whatever}
use Rattle.decode.specs.Trip.{id}
use Rattle.overlay.specs.State.{vehicle, vehicle_entry}

abbrev pub vehicle_good : Test vehicle_entry
vehicle_good = behind id (own vehicle (fine vehicle))

abbrev pub vehicles_good : Test (list 1024 vehicle_entry)
vehicles_good = climb_test 64 printable vehicle_good weightless whatever 1024
