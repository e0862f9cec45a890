-- Law. Two old trips in bytes, computed: they stand, and the places of their records hold them.
use Rattle.std.specs.Prelude.{ℕ, ◌≡◌, refl, List, [], ◌∷◌, pos}
use Rattle.std.proofs.Common.{inl, inr, arith}
use Rattle.formats.specs.Format.{list}
use Rattle.formats_read.specs.Laws.Here.{whole_here}
use Rattle.decode.specs.Trip.{trip_entry, update_with, trip_with}
use Rattle.decode.specs.Leaves.{Trips}
use Rattle.decode_slots.specs.Places.{old_at, held}
use Rattle.decode_old.specs.Promises.Old.{Stands}

-- "a": a delay of 60. "b": cancelled, with stop "S" at sequence 5, skipped
bytes : List ℕ
bytes =
    2
    ∷ 1 ∷ 97 ∷ 1 ∷ 120 ∷ 0 ∷ 0 ∷ 0 ∷ 0 ∷ 0 ∷ 0
    ∷ 1 ∷ 98 ∷ 0 ∷ 1 ∷ 0 ∷ 0 ∷ 0 ∷ 0 ∷ 1 ∷ 5 ∷ 1 ∷ 83 ∷ 0 ∷ 0 ∷ 0 ∷ 0 ∷ 1 ∷ []

trips : Trips
trips =
    (97 ∷ [], trip_with (inr (pos 60)) 0 [] [] (inl tt) [] [])
    ∷ (
      98 ∷ [],
      trip_with (inl tt) 1 [] [] (inl tt) []
          ((5, update_with (83 ∷ []) (inl tt) (inl tt) (inl tt) (inl tt) 1) ∷ []),
    ) ∷ []

stand : Stands bytes 0
unfolding bytes trips
stand = record {
  trips = trips;
  end = 28;
  here = whole_here (list 2048 trip_entry) bytes trips refl;
  few = omega arith;
  short = (omega arith, (omega arith, tt));
  small = omega arith;
}

-- records from 3 to 11 and from 13 to 28
holds : held [] bytes ((97 ∷ [], (1048580, 1048588)) ∷ (98 ∷ [], (1048590, 1048605)) ∷ []) ≡ trips
unfolding bytes trips held old_at
holds = refl
