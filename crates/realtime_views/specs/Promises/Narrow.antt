-- Promise. The code's typed answers of a scalar, by its constructors.
use Rattle.std.specs.Prelude.{ℕ, Bool, false, eqb, Option, Some, None, ℤ}
use Rattle.realtime.specs.Typed.{uint32, int32, enum}
use Rattle.realtime_views.specs.declared.Scalar.{Scalar}
use Rattle.realtime_views.specs.declared.TextPart.{TextPart}
use Rattle.realtime_views.specs.declared.Scalars.{Scalars}
use Rattle.realtime_views.specs.declared.Header.{Header}
use Rattle.realtime_views.specs.declared.Trip.{Trip}

abbrev pub to_span : Scalar → TextPart
to_span (Scalar.Number n) = record { start = 0; len = 0 }
to_span (Scalar.Text i l) = record { start = i; len = l }
to_span Scalar.Nothing = record { start = 0; len = 0 }

abbrev pub to_timestamp : Scalar → Option ℕ
to_timestamp (Scalar.Number n) = Some n
to_timestamp (Scalar.Text i l) = None
to_timestamp Scalar.Nothing = None

abbrev pub to_direction : Scalar → Option ℕ
to_direction (Scalar.Number n) = Some (uint32 n)
to_direction (Scalar.Text i l) = None
to_direction Scalar.Nothing = None

abbrev pub to_delay : Scalar → Option ℤ
to_delay (Scalar.Number n) = Some (int32 n)
to_delay (Scalar.Text i l) = None
to_delay Scalar.Nothing = None

-- the enum's value is v
abbrev pub is_value : ℕ → Scalar → Bool
is_value v (Scalar.Number n) = eqb (enum n) v
is_value v (Scalar.Text i l) = false
is_value v Scalar.Nothing = false

-- the answers of the scalars of a message
abbrev pub to_header : Scalars → Header
to_header h = record { differential = is_value 1 h.f2; timestamp = to_timestamp h.f3 }

abbrev pub to_trip : Scalars → Scalar → Trip
to_trip d x = record {
  id = to_span d.f1;
  time = to_span d.f2;
  date = to_span d.f3;
  route = to_span d.f5;
  cancelled = is_value 3 d.f4;
  direction = to_direction d.f6;
  delay = to_delay x;
}
