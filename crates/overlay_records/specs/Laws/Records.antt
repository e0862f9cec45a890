-- Law. Vehicles by checked reading: an entry and its key.
use Rattle.std.specs.Prelude.{◌≡◌, List, ℕ, Option, Some, None}
use Rattle.formats.specs.Class.{printable}
use Rattle.formats_check.specs.Promises.Checked.{own, fine, Fine}
use Rattle.formats_check.specs.Laws.Checked.{tested}
use Rattle.formats_check.specs.Laws.Climbing.{Spans, Entered, enter_no, enter_bad, enter_so, entry_no, entry_so}
use Rattle.overlay.specs.State.{vehicle}
use Rattle.overlay_records.specs.Promises.Vehicles.{vehicle_good}

module _ {s : List ℕ} {at : ℕ} {r : Option (ℕ × ℕ)} (S : Spans 64 printable s at r) where
  pub vehicle_key : r ≡ None → Entered 64 printable vehicle_good s at None
  vehicle_key h = enter_no (entry_no S (own vehicle (fine vehicle)) h)

  module _ {a e : ℕ} (h : r ≡ Some (a, e)) {x : Option ℕ} (F : Fine vehicle s e x) where
    pub vehicle_none : x ≡ None → Entered 64 printable vehicle_good s at None
    vehicle_none i = enter_bad (entry_so S h (tested F)) i

    pub vehicle_so : {q : ℕ} → x ≡ Some q → Entered 64 printable vehicle_good s at (Some (a, e, q))
    vehicle_so i = enter_so S h (entry_so S h (tested F)) i
