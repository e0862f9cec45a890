-- Promise. The record that was written last stands in the output, and can be copied.
use Rattle.std.specs.Prelude.{ℕ, ◌-◌, ◌≤◌, ◌≡◌, Bool, true, List, length, Option, Some, None}
use Rattle.std.proofs.Math.Seq.{slice}
use Rattle.formats.specs.Format.{write}
use Rattle.formats_write.specs.Promises.Adds.{Adds}
use Rattle.decode.specs.Trip.{trip, trip_entry}
use Rattle.decode_slots.specs.Index.{slot_entry}
use Rattle.decode_slots.specs.Places.{held_at}
use Rattle.decode_trips.specs.declared.Last.{Last}
use Rattle.decode_trips.specs.declared.Entered.{Entered}
use Rattle.decode_write.specs.Promises.Slots.{held_entry}

-- the longest record that is copied
abbrev pub most_copied : ℕ
most_copied = 1024

abbrev pub place_of : Option ℕ → ℕ
place_of (Some p) = p
place_of None = 0

-- the bytes x stand from a up to e, in front of p
pub record Behind (l : List ℕ) (p a e : ℕ) (x : List ℕ) : Type 0 where
  pub forward : a ≤ e
  pub low : e ≤ p
  pub is : slice a e l ≡ x

-- the place w lies inside the output, and in front of it stands the record of L's place, where L says
pub record Ready (s o l : List ℕ) (w : Option ℕ) (L : Last) : Type 0 where
  pub inside : (p : ℕ) → w ≡ Some p → p ≤ length l
  pub last : (p : ℕ) → w ≡ Some p → L.from ≤ L.to
      → Behind l p L.start L.end (write trip (held_at s o (L.from, L.to)))

-- whether the record of a place is L's, and short
pub record IsLast (L : Last) (from to : ℕ) (b : Bool) : Type 0 where
  pub same_from : b ≡ true → from ≡ L.from
  pub same_to : b ≡ true → to ≡ L.to
  pub short : b ≡ true → L.end - L.start ≤ most_copied

-- what stands from a up to e is written again
pub record Again (l : List ℕ) (w : Option ℕ) (m : List ℕ) (r : Option ℕ) (a e : ℕ) : Type 0 where
  pub size : length m ≡ length l
  pub full : w ≡ None → r ≡ None
  pub adds : (p : ℕ) → w ≡ Some p → p ≤ length l → (x : List ℕ) → Behind l p a e x → e - a ≤ most_copied
      → Adds l w m r x

-- a slot's entry is written, and the next can follow
pub record EntryPut (s o keys marks : List ℕ) (j : ℕ) (l : List ℕ) (w : Option ℕ) (m : List ℕ)
    (r : Entered) : Type 0 where
  pub adds : Adds l w m r.put (write trip_entry (held_entry s o (slot_entry keys marks j)))
  pub ready : Ready s o m r.put r.last
