-- Law. The record of a leg, by the searches that it is made of.
use Rattle.std.specs.Prelude.{◌≡◌, refl, true, false, List, [], ◌∷◌, ℕ, length, take, Option, Some, None}
use Rattle.std.proofs.Common.{sym, arith}
use Rattle.std.proofs.Math.Path.{ap}
use Rattle.std.proofs.lemmas.Option.{some_pair_parts}
use Rattle.std.proofs.Math.Option.{Option as LogicOption, none}
use Rattle.basics.specs.Lists.{is_empty}
use Rattle.basics.specs.Options.{or_else, bind_o}
use Rattle.formats_write.specs.Promises.Given.{given_number}
use Rattle.decode.specs.Leaves.{Trips}
use Rattle.decode.specs.Trip.{Trip}
use Rattle.overlay.specs.Records.{shown}
use Rattle.overlay.specs.Lookup.{FeedTrip, feed_of, in_feed, get_trip, find_trip_by_descriptor, resolve_trip_rt}
use Rattle.overlay_feeds.specs.Laws.Head.{begins}
use Rattle.overlay_noted.specs.Promises.Noted.{entry_at}
use Rattle.overlay_places.specs.Promises.Ranks.{RanksFeed}
use Rattle.overlay_ids.specs.Promises.Ids.{FeedEnd}
use Rattle.overlay_find.specs.Promises.Finds.{Finds}
use Rattle.overlay_resolve.specs.Promises.Shown.{ResolvedAt, FoundIn, Resolves}
use Rattle.overlay_resolve.specs.Promises.Shown.{in_trips, by_route, record_for}
use Rattle.overlay_resolve.specs.Laws.Shown.{shown_some, shown_none}

found_at : {b : List ℕ} {p e : ℕ} {o : LogicOption FeedTrip} → ResolvedAt b p e o → FoundIn b o (Some (p, e))
found_at {b} {p} {e} R = record {
  found = λ q d h. let k = some_pair_parts p q e d h in rw (k.0, k.1) at R;
  missing = λ h. absurd (let z : ◌≡◌ {A = ℕ} 0 1 = cc in omega arith);
}

found_none : {b : List ℕ} {o : LogicOption FeedTrip} → o ≡ none → FoundIn b o None
found_none e = record { found = λ q d h. absurd (let z : ◌≡◌ {A = ℕ} 0 1 = cc in omega arith); missing = λ h. e }

-- A FEED'S RECORD
module _ (look : Trips → LogicOption Trip) {f b places : List ℕ} {x : Option ℕ} (F : RanksFeed b places f x) where
  pub feed_missing : x ≡ None → Resolves (in_trips f look) b None
  unfolding in_trips
  feed_missing e = record {
    to = λ {st} h o. found_none (ap (λ x. bind_o x (λ R. in_feed f (look R.trips)))
        (shown_none st f ((F.to h).lost e)));
  }

  module _ {r : ℕ} {t : Option ℕ} (w : x ≡ Some r) (A : Finds look b places r t) where
    pub record_missing : t ≡ None → Resolves (in_trips f look) b None
    unfolding in_trips
    record_missing n = record {
      to = λ {st} h o.
          let M = (F.to h).found r w in
          let s = shown_some st f M.it M.got in
          found_none (rw s (ap (in_feed f) ((A.to M.noted).missing n)));
    }

    pub record_found : {q e : ℕ} → t ≡ Some q → e ≡ entry_at places r → Resolves (in_trips f look) b (Some (q, e))
    unfolding in_trips
    record_found {q} n i = record {
      to = λ {st} h o.
          let M = (F.to h).found r w in
          let s = shown_some st f M.it M.got in
          let S = (A.to M.noted).found q n in
          found_at (record {
            feed = f;
            id_end = M.noted.id_end;
            id_here = begins (sym i) M.noted.id_here;
            it = S.it;
            end = S.end;
            here = S.here;
            is = rw s (ap (in_feed f) S.is);
          });
    }

-- THE RECORD OF A LEG by its descriptor
some_bytes : (s : List ℕ) → (length s ≡ 0 → ⊥) → is_empty s ≡ false
some_bytes [] n = absurd (n refl)
some_bytes (b ∷ s) n = refl

no_bytes : (s : List ℕ) → length s ≡ 0 → is_empty s ≡ true
no_bytes [] n = refl
no_bytes (b ∷ s) n = absurd (omega arith)

module _ (route : List ℕ) (d : Option ℕ) (date : List ℕ) {b : List ℕ} where
  pub route_empty : length route ≡ 0 → Resolves (by_route route (given_number d) date) b None
  unfolding by_route
  route_empty n = record { to = λ h o. found_none (rw (no_bytes route n) refl) }

  pub route_named : {n : ℕ} {r : Option (ℕ × ℕ)} → (length route ≡ 0 → ⊥) → FeedEnd route n
      → Resolves (in_trips (take n route) (find_trip_by_descriptor (take n route) route (given_number d) date)) b r
      → Resolves (by_route route (given_number d) date) b r
  unfolding by_route
  route_named {n} {r} k E I =
      let J : Resolves (in_trips (feed_of route)
      (find_trip_by_descriptor (feed_of route) route (given_number d) date)) b r =
      rw E.is at I in
      record { to = λ h o. rw (some_bytes route k) (J.to h o) }

-- and by its trip id first
module _ (trip route : List ℕ) (d : Option ℕ) (date : List ℕ) {b : List ℕ} {n : ℕ} {r : Option (ℕ × ℕ)}
    (E : FeedEnd trip n) (I : Resolves (in_trips (take n trip) (get_trip (take n trip) trip)) b r) where
  own : Resolves (in_trips (feed_of trip) (get_trip (feed_of trip) trip)) b r
  own = rw E.is at I

  pub by_id : {p e : ℕ} → r ≡ Some (p, e) → Resolves (record_for trip route (given_number d) date) b (Some (p, e))
  unfolding record_for resolve_trip_rt in_trips by_route
  by_id {p} {e} w = record {
    to = λ {st} h o.
        let S = (own.to h o).found p e w in
        found_at (record {
          feed = S.feed;
          id_end = S.id_end;
          id_here = S.id_here;
          it = S.it;
          end = S.end;
          here = S.here;
          is = ap (λ x. or_else x (by_route route (given_number d) date (shown st))) S.is;
        });
  }

  pub by_leg : {t : Option (ℕ × ℕ)} → r ≡ None → Resolves (by_route route (given_number d) date) b t
      → Resolves (record_for trip route (given_number d) date) b t
  unfolding record_for resolve_trip_rt in_trips by_route
  by_leg w R = record {
    to = λ h o. let n = (own.to h o).missing w in rw n (R.to h o);
  }

-- the date that a call works out
pub dated : (trip route : List ℕ) (d : Option ℕ) {date e b : List ℕ} {r : Option (ℕ × ℕ)} → date ≡ e
    → Resolves (record_for trip route (given_number d) date) b r
    → Resolves (record_for trip route (given_number d) e) b r
dated trip route d w R = rw w at R
