-- Law. A vehicle sheet keeps what every call has to.
use Rattle.std.specs.Prelude.{◌≡◌, refl, List, ℕ, ℤ}
use Rattle.std.proofs.Common.{sym, ap, ◌∙◌}
use Rattle.basics.specs.Laws.Booleans.{both_true}
use Rattle.formats_judge.specs.Judged.{ok}
use Rattle.decode.specs.Trip.{instant}
use Rattle.maps.specs.Map.{puts}
use Rattle.maps.specs.Order.{texts}
use Rattle.overlay.specs.State.{State, Vehicles, vehicle_entry, vehicle_sheet}
use Rattle.overlay.specs.Records.{shown}
use Rattle.overlay.specs.Change.{without_stale, after_vehicles}
use Rattle.overlay.proofs.Laws.Within.{Judged56, elements, right}
use Rattle.overlay.proofs.Laws.StaysValid.{vehicles_kept}
use Rattle.panel.specs.Questions.{feed_ok, whole}
use Rattle.panel.specs.Rule.{enter}
use Rattle.panel.specs.VehicleSheet.{vehicles_ask, vehicle_sheet_asks, vehicles_enter, vehicle_sheet_rule}
use Rattle.panel.proofs.Laws.Lawful.{Lawful, due_is, opened_kept, whole_formed, changed_right, entered_put}
use Rattle.panel.proofs.Laws.Lawful.{records_at, read_is}
use Rattle.panel.proofs.Laws.RoundTrips.{ascend_some}

vehicles_shown : (f : List ℕ) (vs : Vehicles) (clock : ℤ) (s : State)
    → shown (after_vehicles f vs clock s) ≡ vehicles_enter f vs clock (shown s)
unfolding after_vehicles
vehicles_shown f vs clock s =
    entered_put f _ _ s
    ∙ ap (λ R. enter f
    (record { trips = R.trips; vehicles = without_stale clock (puts texts vs R.vehicles); alerts = R.alerts })
    (shown s)) (sym (records_at f s))

pub vehicle_sheet_lawful : (f sheet : List ℕ) (clock : ℤ) (new : ℕ) (work : List ℕ)
    → Lawful (vehicle_sheet_rule f sheet clock new work)
unfolding vehicle_sheet_asks vehicles_ask
vehicle_sheet_lawful f sheet clock new work = record {
  ordered = λ L old. (refl, (refl, λ s. (refl, (refl, λ v. (refl, (refl, (refl, tt)))))));
  right = λ L old bk h one s d three v is five six.
      let y = both_true (feed_ok f) (ok 5 vehicle_sheet v) five in
      let j : Judged56 vehicle_sheet v = record {
        formed = whole_formed vehicle_sheet sheet v (ascend_some (whole vehicle_sheet sheet) v is).0;
        five = y.1;
        six = (both_true (ok 6 vehicle_sheet v) (ok 6 instant clock) six).0;
      } in
      changed_right (after_vehicles f v.1 clock s) (due_is L old new L.overlay work L.work.vehicle_sheet one)
      (vehicles_kept f v.1 clock s y.0 (elements 1024 vehicle_entry v.1 (right j)) (opened_kept old s d))
      (vehicles_shown f v.1 clock s ∙ ap (vehicles_enter f v.1 clock) (h.same s d)
      ∙ read_is bk (λ v. vehicles_enter f v.1 clock bk) is);
}
