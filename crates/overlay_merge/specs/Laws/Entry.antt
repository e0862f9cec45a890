-- Law. An entry by its parts: key, trip, latitude, longitude, time.
use Rattle.std.specs.Prelude.{List, ℕ}
use Rattle.formats.specs.Class.{any}
use Rattle.formats.specs.Format.{float, text, optional, ◌&◌, Value}
use Rattle.formats_read.specs.Promises.Here.{Here}
use Rattle.formats_read.specs.Promises.Reads.{ReadsNumber, ReadsText}
use Rattle.formats_read.specs.Laws.Here.{halves, signed_here}
use Rattle.formats_skip.specs.Promises.Passes.{Passes}
use Rattle.formats_skip.specs.Laws.Passes.{any_optional_text}
use Rattle.decode.specs.Trip.{instant}
use Rattle.overlay.specs.State.{vehicle_entry, vehicle, updated_of}
use Rattle.overlay_merge.specs.Promises.Entry.{ReadsEntry}

module _ {s : List ℕ} {p a e b c d u r : ℕ} (K : ReadsText s p a e) (T : Passes (optional (text 0 any)) s e b)
    (X : Passes float s b c) (Y : Passes float s c d) (U : ReadsNumber s d u r) where
  module _ {v : Value vehicle_entry} {q : ℕ} (h : Here vehicle_entry s p q v) where
    at_vehicle : Here vehicle s e q v.1
    at_vehicle = rw (K.next (halves h).first) (halves h).second

    at_latitude : Here (float & float & instant) s b q v.1.1
    at_latitude = rw ((any_optional_text T).to (halves at_vehicle).first) (halves at_vehicle).second

    at_longitude : Here (float & instant) s c q v.1.1.1
    at_longitude = rw (X.to (halves at_latitude).first) (halves at_latitude).second

    at_time : Here instant s d q (updated_of v.1)
    at_time = rw (Y.to (halves at_longitude).first) (halves at_longitude).second

  pub entry_read : ReadsEntry s p a e u r
  entry_read = record {
    key = λ h. K.bytes (halves h).first;
    updated = λ h. U.value (signed_here (at_time h));
    next = λ h. U.next (signed_here (at_time h));
    forward = K.forward;
    within = K.within;
  }
