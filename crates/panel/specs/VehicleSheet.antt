-- Believe: 01, Questions before work, History. A VEHICLE SHEET, with the caller's clock.
use Rattle.std.specs.Prelude.{ℕ, cond, ◌&&◌, List, ℤ, leb, length}
use Rattle.std.proofs.Math.Option.{Option, none, some}
use Rattle.formats.specs.Format.{Value}
use Rattle.formats_judge.specs.Judged.{ok}
use Rattle.decode.specs.Trip.{instant}
use Rattle.maps.specs.Map.{puts, ascending}
use Rattle.maps.specs.Order.{texts}
use Rattle.overlay.specs.State.{State, Vehicles, vehicle_sheet}
use Rattle.overlay.specs.Change.{without_stale, after_vehicles}
use Rattle.panel.specs.Outcome.{Asks, ask, ask_some}
use Rattle.panel.specs.Questions.{Lengths, whole, feed_ok, opened, changed}
use Rattle.panel.specs.Rule.{Rule, changes, Book, records_in, enter, if_read}

-- its keys ascend strictly: that is its form
abbrev pub keys_ascend : Option (Value vehicle_sheet) → Option (Value vehicle_sheet)
keys_ascend none = none
keys_ascend (some v) = cond (ascending texts v.1) (some v) none

abbrev pub vehicles_in : List ℕ → Option (Value vehicle_sheet)
vehicles_in sheet = keys_ascend (whole vehicle_sheet sheet)

unfoldable pub vehicles_ask : Lengths → List ℕ → List ℕ → ℤ → State → Value vehicle_sheet → Asks
vehicles_ask L old f clock s v =
    ask 5 (feed_ok f && ok 5 vehicle_sheet v)
    (ask 6 (ok 6 vehicle_sheet v && ok 6 instant clock) (changed L old (after_vehicles f v.1 clock s)))

unfoldable pub vehicle_sheet_asks : List ℕ → List ℕ → ℤ → ℕ → List ℕ → Lengths → List ℕ → Asks
vehicle_sheet_asks f sheet clock new work L old =
    opened L old new L.overlay work L.work.vehicle_sheet (λ s.
    ask 3 (leb (length sheet) 1048576) (ask_some 4 (vehicles_in sheet) (vehicles_ask L old f clock s)))

-- it puts its entries in, over old ones, then drops those updated before clock - 900
abbrev pub vehicles_enter : List ℕ → Vehicles → ℤ → Book → Book
vehicles_enter f vs clock bk =
    enter f (record {
      trips = (records_in bk f).trips;
      vehicles = without_stale clock (puts texts vs (records_in bk f).vehicles);
      alerts = (records_in bk f).alerts;
    }) bk

abbrev pub vehicle_sheet_rule : List ℕ → List ℕ → ℤ → ℕ → List ℕ → Rule
vehicle_sheet_rule f sheet clock new work = record {
  out = new;
  work = work;
  asks = vehicle_sheet_asks f sheet clock new work;
  does = changes (λ bk. if_read (vehicles_in sheet) bk (λ v. vehicles_enter f v.1 clock bk));
}
