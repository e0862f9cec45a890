-- Law. Noted places: of one trip more, in numbers that agree, and of the trip behind some.
use Rattle.std.specs.Prelude.{◌≡◌, List, [], ◌∷◌, ◌++◌, ℕ, suc, ◌+◌, ◌*◌, ◌≤◌, ◌<◌, length, get_or}
use Rattle.std.proofs.Common.{arith}
use Rattle.formats_read.specs.Promises.Here.{Here}
use Rattle.decode.specs.Leaves.{Trips}
use Rattle.decode.specs.Trip.{Trip, trip_entry}
use Rattle.overlay.specs.State.{Feed, trips_of}
use Rattle.overlay_noted.specs.Promises.Noted.{TripsAt, FeedNoted, FeedsNoted}

-- numbers that agree from j on
module _ (s old new : List ℕ) where
  pub trips_kept : (j : ℕ) (vs : Trips)
      → ((i : ℕ) → j ≤ i → i < j + length vs → get_or new i 0 ≡ get_or old i 0) → TripsAt s old j vs
      → TripsAt s new j vs
  trips_kept j [] a h = tt
  trips_kept j (e ∷ vs) a h =
      let k = a j (omega arith) (omega arith) in
      ((h.0.0, rw k h.0.1), trips_kept (suc j) vs (λ i x y. a i (omega arith) (omega arith)) h.1)

module _ (s places : List ℕ) where
  -- one trip more
  pub trips_more : (j : ℕ) (us : Trips) {v : List ℕ × Trip} {e : ℕ} → TripsAt s places j us
      → Here trip_entry s (get_or places (j + length us) 0) e v → TripsAt s places j (us ++ (v ∷ []))
  trips_more j [] {v} {e} t h = let k : j + 0 ≡ j = omega arith in ((e, rw k at h), tt)
  trips_more j (u ∷ us) t h =
      let k : j + suc (length us) ≡ suc j + length us = omega arith in
      (t.0, trips_more (suc j) us t.1 (rw k at h))

  -- the trip behind some
  pub trip_behind : (j : ℕ) (us : Trips) (v : List ℕ × Trip) (ws : Trips)
      → TripsAt s places j (us ++ v ∷ ws) → (q : ℕ) × Here trip_entry s (get_or places (j + length us) 0) q v
  trip_behind j [] v ws t = let k : j + 0 ≡ j = omega arith in rw k t.0
  trip_behind j (u ∷ us) v ws t =
      let k : j + suc (length us) ≡ suc j + length us = omega arith in rw k (trip_behind (suc j) us v ws t.1)

-- FEEDS at lower ranks
module _ (s old new : List ℕ) (n : ℕ) (k : length new ≡ length old)
    (t : (j : ℕ) → j < 2048 * n → get_or new j 0 ≡ get_or old j 0)
    (p : (j : ℕ) → 8192 ≤ j → j < 8192 + 4 * n → get_or new j 0 ≡ get_or old j 0) where
  feed_kept : (r : ℕ) (e : List ℕ × Feed) → r < n → FeedNoted s old r e → FeedNoted s new r e
  feed_kept r e l N =
      let a = p (8192 + 4 * r) (omega arith) (omega arith) in
      let b = p (8192 + 4 * r + 1) (omega arith) (omega arith) in
      let c = p (8192 + 4 * r + 2) (omega arith) (omega arith) in
      let d = p (8192 + 4 * r + 3) (omega arith) (omega arith) in
      let f = N.few in
      record {
        low = N.low;
        room = rw k N.room;
        id_end = N.id_end;
        id_here = rw a N.id_here;
        count = rw b N.count;
        few = f;
        up = N.up;
        trips = trips_kept s old new (2048 * r) (trips_of e.1) (λ i x y. t i (omega arith)) N.trips;
        vehicles_end = N.vehicles_end;
        vehicles_here = rw c N.vehicles_here;
        alerts_end = N.alerts_end;
        alerts_here = rw d N.alerts_here;
      }

  pub feeds_kept : (r : ℕ) (l : List (List ℕ × Feed)) → r + length l ≤ n → FeedsNoted s old r l → FeedsNoted s new r l
  feeds_kept r [] h N = tt
  feeds_kept r (e ∷ l) h N = (feed_kept r e (omega arith) N.0, feeds_kept (suc r) l (omega arith) N.1)

module _ (s places : List ℕ) where
  pub feeds_more : (r : ℕ) (us : List (List ℕ × Feed)) {v : List ℕ × Feed} → FeedsNoted s places r us
      → FeedNoted s places (r + length us) v → FeedsNoted s places r (us ++ (v ∷ []))
  feeds_more r [] N h = let k : r + 0 ≡ r = omega arith in (rw k at h, tt)
  feeds_more r (u ∷ us) N h =
      let k : r + suc (length us) ≡ suc r + length us = omega arith in
      (N.0, feeds_more (suc r) us N.1 (rw k at h))

  pub feed_behind : (r : ℕ) (us : List (List ℕ × Feed)) (v : List ℕ × Feed) (ws : List (List ℕ × Feed))
      → FeedsNoted s places r (us ++ v ∷ ws) → FeedNoted s places (r + length us) v
  feed_behind r [] v ws N = let k : r + 0 ≡ r = omega arith in rw k N.0
  feed_behind r (u ∷ us) v ws N =
      let k : r + suc (length us) ≡ suc r + length us = omega arith in rw k (feed_behind (suc r) us v ws N.1)
