-- Law. A feed's vehicles sought where they stand, and one of them read.
use Rattle.std.specs.Prelude.{◌≡◌, Bool, true, false, cond, List, ℕ, ◌+◌, ◌-◌, ◌≤◌, ◌<◌, length, get_or, Option, Some, None}
use Rattle.std.proofs.Math.Path.{refl}
use Rattle.std.proofs.Common.{sym, ap, ◌∙◌, arith, lt-ltb}
use Rattle.basics.specs.Options.{given_and}
use Rattle.basics.specs.Texts.{same}
use Rattle.formats.specs.Class.{any}
use Rattle.formats.specs.Format.{text, float, optional, ◌&◌}
use Rattle.formats_read.specs.Promises.Here.{Here}
use Rattle.formats_read.specs.Promises.Reads.{ReadsNumber}
use Rattle.formats_read.specs.Laws.Here.{halves, choice_in, first, second}
use Rattle.formats_skip.specs.Promises.Passes.{Passes}
use Rattle.formats_skip.specs.Laws.Passes.{any_text, any_optional_text, pair}
use Rattle.decode.specs.Trip.{id, instant}
use Rattle.overlay.specs.Lookup.{vehicle_for_trip}
use Rattle.overlay.specs.State.{vehicle, vehicle_entry, trip_of}
use Rattle.overlay_seek.specs.Promises.Answers.{Tests, IsText, Seeks}
use Rattle.overlay_seek.specs.Laws.Answers.{reworded, first_found, second_found}
use Rattle.overlay_seek.specs.Laws.First.{get_text}
use Rattle.overlay_seek.specs.Laws.Seek.{Seeking, seek_start, seek_on, seek_hit, seek_miss}
use Rattle.vehicle_place.specs.declared.VehiclePlace.{VehiclePlace}
use Rattle.vehicle_place.specs.Promises.Place.{ReadsPlace}
use Rattle.overlay_vehicle.specs.Promises.Vehicle.{MakesTrip, riding, keyed, Seen, FindsVehicle, ReadsVehicle}
use Rattle.overlay_vehicle.specs.Promises.Vehicle.{SeesVehicle}

no_place : {q : ℕ} → ◌≡◌ {A = Option ℕ} None (Some q) → ⊥
no_place e = let z : ◌≡◌ {A = ℕ} 0 1 = cc in omega arith

-- the trip id of a vehicle, which may be absent
module _ {s : List ℕ} {p : ℕ} {x : List ℕ} where
  pub trip_out : length s ≤ p → MakesTrip s p x false
  trip_out o = record { to = λ {v} h. absurd (omega (arith, choice_in (trip_of v) (halves h).first)) }

  module _ (l : p < length s) where
    pub trip_absent : (get_or s p 0 ≡ 1 → ⊥) → MakesTrip s p x false
    trip_absent t = record {
      to = λ {v} h.
          let F = first (trip_of v) (halves h).first (λ e. t (rw (lt-ltb p (length s) l) at e)) in
          ap (given_and (λ y. same y x)) (sym F.is);
    }

    pub trip_given : {r : Bool} → get_or s p 0 ≡ 1 → IsText s (p + 1) x r → MakesTrip s p x r
    trip_given t I = record {
      to = λ {v} h.
          let S = second (trip_of v) (halves h).first (rw (lt-ltb p (length s) l) t) in
          I.to S.stands ∙ ap (given_and (λ y. same y x)) (sym S.is);
    }

-- by the trip id
module _ {s x : List ℕ} {p m : ℕ} (P : Passes (text 0 any) s p m) where
  riding_told : {r : Bool} → MakesTrip s m x r → Tests vehicle_entry (riding x) s p r
  riding_told M = record {
    to = λ {v} {q} h.
        let y = halves h in
        let e = (any_text P).to y.first in
        M.to {v = v.1} {q = q} (rw e y.second);
  }

  module _ {a n left : ℕ} {r : Bool} (z : 0 < left) where
    pub riding_hit : {at : ℕ} → Seeking vehicle_entry (riding x) s a n p left → MakesTrip s m x r → r ≡ true
        → ReadsNumber s at n a → Seeks id vehicle (riding x) s at (Some m)
    riding_hit S M e N = seek_hit S N z (riding_told M) e (any_text P)

    pub riding_on : {e : ℕ} → Seeking vehicle_entry (riding x) s a n p left → MakesTrip s m x r → r ≡ false
        → Passes vehicle s m e → Seeking vehicle_entry (riding x) s a n e (left - 1)
    riding_on S M e Q = seek_on S z (riding_told M) e (pair (any_text P) Q)

-- by the key
module _ {s x : List ℕ} {p : ℕ} {r : Bool} (I : IsText s p x r) where
  keyed_told : Tests vehicle_entry (keyed x) s p r
  keyed_told = record { to = λ h. I.to (halves h).first }

  module _ {seen : Option ℕ} (j : seen ≡ None) {m : ℕ} where
    pub seen_here : r ≡ true → Seen seen s p m x (Some m)
    seen_here e = record { stays = λ h. absurd (no_place (sym j ∙ h)); asks = λ h. (r, I, rw e refl) }

    pub seen_not : r ≡ false → Seen seen s p m x None
    seen_not e = record { stays = λ h. absurd (no_place (sym j ∙ h)); asks = λ h. (r, I, rw e refl) }

pub seen_before : {seen : Option ℕ} {s x : List ℕ} {p m q : ℕ} → seen ≡ Some q → Seen seen s p m x (Some q)
seen_before j = record { stays = λ h. sym j ∙ h; asks = λ h. absurd (no_place (sym h ∙ j)) }

-- n vehicles from a on: what was seen of x as a key, where `left` are left from p on
pub record Keying (s : List ℕ) (at : ℕ) (x : List ℕ) (a n p left : ℕ) (seen : Option ℕ) : Type 0 where
  pub none_yet : seen ≡ None → Seeking vehicle_entry (keyed x) s a n p left
  pub one : {m : ℕ} → seen ≡ Some m → ReadsNumber s at n a → Seeks id vehicle (keyed x) s at (Some m)

pub keying_start : {s : List ℕ} {at : ℕ} {x : List ℕ} {a n : ℕ} → Keying s at x a n a n None
keying_start = record { none_yet = λ e. seek_start; one = λ e. absurd (no_place e) }

module _ {s x : List ℕ} {at a n p left m e : ℕ} {seen r : Option ℕ} (K : Keying s at x a n p left seen) (z : 0 < left)
    (P : Passes (text 0 any) s p m) (Q : Passes vehicle s m e) (S : Seen seen s p m x r) where
  asked : seen ≡ None → (t : Bool) → IsText s p x t → r ≡ cond t (Some m) None → Keying s at x a n e (left - 1) r
  asked h true I i = record {
    none_yet = λ j. absurd (no_place (sym j ∙ i));
    one = λ j N. rw (sym i ∙ j) at (seek_hit (K.none_yet h) N z (keyed_told I) refl (any_text P));
  }
  asked h false I i = record {
    none_yet = λ j. seek_on (K.none_yet h) z (keyed_told I) refl (pair (any_text P) Q);
    one = λ j. absurd (no_place (sym i ∙ j));
  }

  pub keying_on : Keying s at x a n e (left - 1) r
  keying_on = go seen refl
    where
      go : (f : Option ℕ) → seen ≡ f → Keying s at x a n e (left - 1) r
      go None h = let y = S.asks h in asked h y.0 y.1 y.2
      go (Some q) h = record {
        none_yet = λ j. absurd (no_place (sym j ∙ S.stays h));
        one = λ j N. rw (sym (S.stays h) ∙ j) at (K.one h N);
      }

-- by the trip id, else by the key
module _ {s x : List ℕ} {at a n p left : ℕ} (S : Seeking vehicle_entry (riding x) s a n p left)
    (N : ReadsNumber s at n a) where
  pub trip_found : {m : ℕ} {r : Bool} → 0 < left → Passes (text 0 any) s p m → MakesTrip s m x r → r ≡ true
      → FindsVehicle s at x (Some m)
  unfolding vehicle_for_trip
  trip_found z P M e = record { to = λ {vs} h. first_found _ ((riding_hit P z S M e N).to h) refl }

  pub trip_missing : {seen : Option ℕ} → left ≤ 0 → Keying s at x a n p left seen → FindsVehicle s at x seen
  unfolding vehicle_for_trip
  trip_missing {seen} z K = record {
    to = λ {vs} h. second_found ((seek_miss S N z).to h) refl (reworded (get_text x vs) ((go seen refl).to h));
  }
    where
      go : (f : Option ℕ) → seen ≡ f → Seeks id vehicle (keyed x) s at seen
      go None e = rw e (seek_miss (K.none_yet e) N z)
      go (Some m) e = rw e (K.one e N)

-- the place of a vehicle
module _ {s : List ℕ} {p a b c : ℕ} {r : VehiclePlace} where
  pub place_read : Passes (optional (text 0 any)) s p a → Passes float s a b → Passes float s b c
      → ReadsPlace s a b c r → ReadsVehicle s p r
  place_read P Q R T = record {
    to = λ {v} {q} h.
        let x = halves h in
        let e = (any_optional_text P).to x.first in
        let h1 : Here (float & float & instant) s a q v.1 = rw e x.second in
        let y = halves h1 in
        let f = Q.to y.first in
        let h2 : Here (float & instant) s b q v.1.1 = rw f y.second in
        let z = halves h2 in
        let g = R.to z.first in
        let h3 : Here instant s c q v.1.1.1 = rw g z.second in
        record {
          is = T.is y.first z.first h3;
          latitude = y.first.fits;
          longitude = z.first.fits;
        };
  }

-- the place of the vehicle that is found
module _ {s x : List ℕ} {p : ℕ} {k : Option ℕ} (F : FindsVehicle s p x k) where
  pub sees_none : k ≡ None → SeesVehicle s p x None
  sees_none e = record { to = λ h. (F.to h).missing e }

  pub sees_one : {q : ℕ} {r : VehiclePlace} → k ≡ Some q → ReadsVehicle s q r → SeesVehicle s p x (Some r)
  sees_one {q} e R = record {
    to = λ h.
        let S = (F.to h).found q e in
        let P = R.to S.here in
        (S.it, S.is, P.is, P.latitude, P.longitude);
  }
