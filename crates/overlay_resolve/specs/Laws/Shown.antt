-- Law. What a state shows of a feed that was found, or was not.
use Rattle.std.specs.Prelude.{◌≡◌, List, ℕ, take, Option, Some, None}
use Rattle.std.proofs.Common.{sym, ◌∙◌, arith}
use Rattle.std.proofs.Math.Path.{ap}
use Rattle.std.proofs.Math.Option.{Option as LogicOption, none, some, map}
use Rattle.basics.specs.Options.{bind_o}
use Rattle.maps.specs.Map.{get}
use Rattle.maps.specs.Order.{texts}
use Rattle.overlay.specs.State.{Feed, State, feeds_of}
use Rattle.overlay.specs.Records.{records_of, shown}
use Rattle.overlay.specs.Lookup.{feed_of, vehicle_for_trip, get_vehicle_for_trip}
use Rattle.overlay_feeds.specs.Laws.Head.{begins}
use Rattle.overlay_ids.specs.Promises.Ids.{FeedEnd}
use Rattle.overlay_noted.specs.Promises.Noted.{vehicles_at, alerts_at}
use Rattle.overlay_places.specs.Promises.Ranks.{RankedAt, RanksFeed}
use Rattle.overlay_vehicle.specs.Promises.Vehicle.{SeesVehicle}
use Rattle.overlay_resolve.specs.Promises.Shown.{ShowsVehicle, AlertsAt, ShowsAlerts}
use Rattle.vehicle_place.specs.declared.VehiclePlace.{VehiclePlace}

pub shown_some : (st : State) (f : List ℕ) (F : Feed) → get texts f (feeds_of st) ≡ some F
    → shown st f ≡ some (records_of F)
unfolding shown
shown_some st f F e = ap (map records_of) e

pub shown_none : (st : State) (f : List ℕ) → get texts f (feeds_of st) ≡ none → shown st f ≡ none
unfolding shown
shown_none st f e = ap (map records_of) e

-- A TRIP'S VEHICLE AND ALERTS, in the feed of the trip's id
module _ (trip : List ℕ) {b places : List ℕ} {n : ℕ} {x : Option ℕ} (E : FeedEnd trip n)
    (F : RanksFeed b places (take n trip) x) where
  got_as : (st : State) (o : LogicOption Feed) → get texts (take n trip) (feeds_of st) ≡ o
      → get texts (feed_of trip) (feeds_of st) ≡ o
  got_as st o e = ap (λ f. get texts f (feeds_of st)) (sym E.is) ∙ e

  module _ (e : x ≡ None) where
    pub no_feed_holds : ShowsVehicle b trip None
    unfolding get_vehicle_for_trip
    no_feed_holds = record {
      to = λ {st} h o.
          ap (λ x. bind_o x (λ R. vehicle_for_trip trip R.vehicles))
          (shown_none st (feed_of trip) (got_as st none ((F.to h).lost e)));
    }

    pub no_alerts : ShowsAlerts b trip None
    no_alerts = record {
      to = λ {st} h. record {
        found = λ p k. absurd (let z : ◌≡◌ {A = ℕ} 0 1 = cc in omega arith);
        missing = λ k. shown_none st (feed_of trip) (got_as st none ((F.to h).lost e));
      };
    }

  module _ {r p : ℕ} (e : x ≡ Some r) where
    pub in_feed : {q : Option VehiclePlace} → p ≡ vehicles_at places r → SeesVehicle b p trip q → ShowsVehicle b trip q
    unfolding get_vehicle_for_trip
    in_feed w A = record {
      to = λ {st} h o.
          let M = (F.to h).found r e in
          let s = shown_some st (feed_of trip) M.it (got_as st (some M.it) M.got) in
          rw s (A.to (begins (sym w) M.noted.vehicles_here));
    }

    pub alerts_in : p ≡ alerts_at places r → ShowsAlerts b trip (Some p)
    alerts_in w = record {
      to = λ {st} h.
          let M = (F.to h).found r e in
          record {
            found = λ q k.
                let i : p ≡ q = cc in
                rw i at (alerts_at_places w M st (got_as st (some M.it) M.got));
            missing = λ k. absurd (let z : ◌≡◌ {A = ℕ} 0 1 = cc in omega arith);
          };
    }
      where
        alerts_at_places : p ≡ alerts_at places r → {st : State} (M : RankedAt b places (take n trip) st r) (u : State)
            → get texts (feed_of trip) (feeds_of u) ≡ some M.it → AlertsAt b (shown u (feed_of trip)) p
        alerts_at_places w M u g = record {
          records = records_of M.it;
          end = M.noted.alerts_end;
          here = begins (sym w) M.noted.alerts_here;
          is = shown_some u (feed_of trip) M.it g;
        }
