-- Promise. A state as it has to be, in the order in which the walk asks: the tests of a feed, of the feeds, of the
-- state.
use Rattle.std.specs.Prelude.{List, ℕ}
use Rattle.formats.specs.Class.{token}
use Rattle.formats.specs.Format.{Format, number, text, constant, list, optional, ◌&◌}
use Rattle.formats_check.specs.Promises.Checked.{Test, own, behind, under, both, fine}
use Rattle.formats_check.specs.Laws.Climbing.{climb_test, weightless, whatever}
use Rattle.decode.specs.Trip.{trip_entry}
use Rattle.alerts.specs.Alert.{alert}
use Rattle.overlay.specs.State.{vehicle_entry, timestamp, feed, feed_entry, overlay}
use Rattle.overlay_keyed.specs.Promises.Trips.{trips_good}
use Rattle.overlay_records.specs.Promises.Vehicles.{vehicles_good}

-- what a feed has behind its count, and from its count on
abbrev pub records : Format
records = list 2048 trip_entry & list 1024 vehicle_entry & list 256 alert

abbrev pub counted : Format
counted = number 0 2048 & records

abbrev pub records_good : List ℕ → ℕ → Test records
records_good f c = both (trips_good f c) (both vehicles_good (own (list 256 alert) (fine (list 256 alert))))

abbrev pub counted_good : List ℕ → Test counted
counted_good f = under (number 0 2048) (records_good f)

abbrev pub feed_good : List ℕ → Test feed
feed_good f = behind (optional timestamp) (counted_good f)

abbrev pub entry_good : Test feed_entry
entry_good = under (text 16 token) feed_good

abbrev pub feeds_good : Test (list 4 feed_entry)
feeds_good = climb_test 16 token entry_good weightless whatever 4

abbrev pub state_good : Test overlay
state_good = behind (constant 1) (behind (number 0 18446744073709551615) feeds_good)
