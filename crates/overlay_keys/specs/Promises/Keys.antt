-- Promise. Whether a key that stands in front of a trip's record is one of the record's.
use Rattle.std.specs.Prelude.{◌≡◌, Bool, true, ◌||◌, List, ◌++◌, ℕ, drop, Option}
use Rattle.std.proofs.Math.Option.{some}
use Rattle.formats.specs.Class.{printable, in_class}
use Rattle.formats.specs.Format.{Format, optional, list, ◌&◌, Value, read}
use Rattle.formats_check.specs.Promises.Checked.{fine}
use Rattle.basics.specs.Texts.{same}
use Rattle.decode.specs.Trip.{Trip, id, number32, time, stop_update, trip, date_of}
use Rattle.basics.specs.Options.{Maybe}
use Rattle.decode.specs.Key.{direction_text, prefixed, head_of, tail_of, dated_ok, incomplete_key, key_ok}
use Rattle.overlay_keys.specs.Promises.Piece.{bytes, Piece, Moves}

-- what a record has from its route on
abbrev pub route_on : Format
route_on = id & optional number32 & time & list 128 (number32 & stop_update)

-- for the direction that stands at y: it is a piece; the head of the incomplete key is one, its route from x up to y
pub record Direction (s : List ℕ) (y at e : ℕ) (r : Option ℕ) : Type 0 where
  pub moves : Moves at e r
  pub on : (w : Maybe ℕ) (u : List ℕ) → read (optional number32) (drop y s) ≡ some (w, u)
      → Piece (direction_text w) s at e r

pub record Route (f s : List ℕ) (x y at e : ℕ) (r : Option ℕ) : Type 0 where
  pub is : Piece (prefixed f (bytes s x y)) s at e r

pub record Head (f s : List ℕ) (x y at e : ℕ) (r : Option ℕ) : Type 0 where
  pub moves : Moves at e r
  pub on : (w : Maybe ℕ) (u : List ℕ) → read (optional number32) (drop y s) ≡ some (w, u)
      → Piece (head_of f (bytes s x y) w) s at e r

-- the date from b up to d, the time from u up to v
pub record Tail (s : List ℕ) (b d u v at e : ℕ) (r : Option ℕ) : Type 0 where
  pub is : Piece (tail_of (bytes s b d) (bytes s u v)) s at e r

pub record Matches (f s : List ℕ) (a e b d x y u v : ℕ) (t : Bool) : Type 0 where
  pub on : (w : Maybe ℕ) (z : List ℕ) → read (optional number32) (drop y s) ≡ some (w, z)
      → t ≡ same (bytes s a e) (head_of f (bytes s x y) w ++ tail_of (bytes s b d) (bytes s u v))

-- the key from a up to e is the incomplete one, where the record's date stands from b up to d
pub record Incomplete (f s : List ℕ) (a e b d : ℕ) (t : Bool) : Type 0 where
  pub on : (v : Value route_on) (u : List ℕ) → read route_on (drop d s) ≡ some (v, u) → fine route_on v ≡ true
      → t ≡ same (bytes s a e) (head_of f v.0 v.1.0 ++ tail_of (bytes s b d) v.1.1.0)

pub record Dated (s : List ℕ) (a e b d : ℕ) (t : Bool) : Type 0 where
  pub on : in_class printable (bytes s a e) ≡ true → t ≡ dated_ok (bytes s b d) (bytes s a e)

-- the key from a up to e is one of the record that stands at e, with its date or without a trip id; or any of them
pub record Longer (f s : List ℕ) (a e : ℕ) (t : Bool) : Type 0 where
  pub on : in_class printable (bytes s a e) ≡ true → (v : Trip) (u : List ℕ) → read trip (drop e s) ≡ some (v, u)
      → fine trip v ≡ true → t ≡ (dated_ok (date_of v) (bytes s a e) || same (bytes s a e) (incomplete_key f v))

pub record Keys (f s : List ℕ) (a e : ℕ) (t : Bool) : Type 0 where
  pub on : in_class printable (bytes s a e) ≡ true → (v : Trip) (u : List ℕ) → read trip (drop e s) ≡ some (v, u)
      → fine trip v ≡ true → t ≡ key_ok f (bytes s a e) v
