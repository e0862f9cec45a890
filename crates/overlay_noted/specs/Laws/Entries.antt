-- Law. The places of trips, noted one after the other.
use Rattle.std.specs.Prelude.{◌≡◌, refl, List, [], ◌∷◌, ℕ, ◌+◌, ◌-◌, ◌≤◌, ◌<◌, length, get_or, Option, Some, None}
use Rattle.std.proofs.Common.{sym, ◌∙◌, arith, length-append}
use Rattle.formats.specs.Class.{printable}
use Rattle.formats_check.specs.Promises.Checked.{Number, Test}
use Rattle.formats_check.specs.Laws.Climbing.{Entered}
use Rattle.formats_read.specs.Laws.Walk.{Walk, begin, onward, ended, of_list}
use Rattle.decode.specs.Leaves.{Trips}
use Rattle.decode.specs.Sizes.{most_trips, most_old}
use Rattle.decode.specs.Trip.{trip_entry}
use Rattle.overlay_noted.specs.Promises.Noted.{TripsAt}
use Rattle.overlay_noted.specs.Promises.Noting.{Unless, Fits, Put, EntriesPut, TripsPut}
use Rattle.overlay_noted.specs.Laws.Places.{trips_kept, trips_more}
use Rattle.overlay_noted.specs.Laws.Parts.{put_kept, put_else, put_same}
use Rattle.overlay_noted.specs.Laws.Passes.{begins, entered_passes, number_reads, unless_map, fits_as}

-- the trips behind stand at their places
pub record Behind (s : List ℕ) (base i : ℕ) (l : List ℕ) (us : Trips) : Type 0 where
  pub count : base + length us ≡ i
  pub stand : TripsAt s l base us

-- n trips from a on: i numbers are in use up to here, and `left` trips are left
pub record Noting (s : List ℕ) (a n base : ℕ) (old : List ℕ) (p i left : ℕ) (l : List ℕ) : Type 0 where
  pub walk : Fits s l → Walk trip_entry s a n p left (Behind s base i l)
  pub sum : i + left ≡ base + n
  pub from : base ≤ i
  pub kept : length l ≡ length old
  pub below : (j : ℕ) → j < base → get_or l j 0 ≡ get_or old j 0
  pub above : (j : ℕ) → base + n ≤ j → get_or l j 0 ≡ get_or old j 0

module _ {s : List ℕ} {a n base : ℕ} {old : List ℕ} where
  pub noting_start : Noting s a n base old a base n old
  noting_start = record {
    walk = λ h. begin (record { count = omega arith; stand = tt });
    sum = refl;
    from = omega arith;
    kept = refl;
    below = λ j h. refl;
    above = λ j h. refl;
  }

  module _ {p i left : ℕ} {l : List ℕ} (N : Noting s a n base old p i left l) where
    pub noting_kept : length l ≡ length old
    noting_kept = N.kept

    pub noting_on : {t : Test trip_entry} {r : Option (ℕ × ℕ × ℕ)} {m : List ℕ} {x y e : ℕ} → n ≤ most_trips
        → base ≤ 6144 → 0 < left
        → p ≤ length s → Put l i p m → Entered 137 printable t s p r → r ≡ Some (x, y, e)
        → Noting s a n base old e (i + 1) (left - 1) m
    noting_on {m} {e} k b z f Q E h = record {
      walk = λ F. onward (N.walk (fits_as (sym (put_kept Q)) F)) e z
          (λ v q g. (entered_passes E h).to g) (λ us v B g.
          let c = B.count in
          let d = F.room in
          let u : p ≤ most_old = omega (arith, F.small) in
          let j : get_or m (base + length us) 0 ≡ p = rw c (put_same Q (omega (arith, N.sum)) u) in
          record {
            count = omega (arith, length-append us (v ∷ []));
            stand = trips_more s m base us
                (trips_kept s l m base us (λ j x y. put_else Q j (λ o. omega arith)) B.stand)
                (begins (sym j) g);
          });
      sum = omega (arith, N.sum);
      from = omega (arith, N.from);
      kept = put_kept Q ∙ N.kept;
      below = λ j h. put_else Q j (λ o. omega (arith, N.from)) ∙ N.below j h;
      above = λ j h. put_else Q j (λ o. omega (arith, N.sum)) ∙ N.above j h;
    }

    pub noting_end : n ≤ most_trips → left ≤ 0 → {r : Option ℕ} → Unless r None (EntriesPut s a n base old l)
    noting_end k z = record {
      so = λ _. record {
        row = record { kept = N.kept; below = N.below; above = λ j h. N.above j (omega arith) };
        each = λ m vs q c g. (ended (N.walk m) z vs q c g).stand;
      };
    }

-- the list, behind whose count the trips stand
pub trips_put : {s : List ℕ} {at base : ℕ} {old new : List ℕ} {o : Option (ℕ × ℕ)} → Number s at o → {n p : ℕ}
    → o ≡ Some (n, p)
    → {r : Option ℕ} → Unless r None (EntriesPut s p n base old new) → Unless r None (TripsPut s at base old new)
trips_put {s} {base} {new} N h U =
    unless_map (λ E. record {
      row = E.row;
      each = λ m x. of_list {P = TripsAt s new base} x (number_reads N h) (E.each m);
    }) U
