-- Law. The first pass gathers what the finished card says.
use Rattle.std.specs.Prelude.{◌≡◌, Bool, true, false, cond, ◌||◌, ℤ}
use Rattle.std.proofs.Math.Path.{refl}
use Rattle.std.proofs.Common.{sym, ap, ◌∙◌, inl, inr}
use mathlib.Core.List.{List, [], ◌∷◌, map, foldl}
use Rattle.basics.specs.Lists.{any}
use Rattle.basics.specs.Options.{Maybe}
use Rattle.basics.specs.Laws.Booleans.{or_false, or_assoc}
use Rattle.formats.specs.Format.{Value}
use Rattle.overlay.specs.Records.{Feeds}
use Rattle.journey.specs.Card.{leg, transit, Transit, transit_of, transit_value}
use Rattle.journey.specs.Enrich.{cancels, late, disrupted, live, departs, arrives, enrich_transit, enrich_leg, transits}
use Rattle.journey.specs.Enrich.{first_departure, last_arrival, status_of}
use Rattle.journey_times.specs.Promises.Realtime.{realtime_of}
use Rattle.journey_leg.specs.declared.LegRealtime.{LegRealtime}
use Rattle.journey_card.specs.Promises.Survey.{Gathered, nothing, look, meets, status_by}

module _ (B : Feeds) where
  -- each of the four tests
  tests : (get : Gathered → Bool) (p : Transit → Bool)
      → ((G : Gathered) (v : Value transit) → get (look B G (inr v)) ≡ (get G || p (transit_of v)))
      → (G : Gathered) (l : List (Value leg)) → get (foldl (look B) G l) ≡ (get G || any p (transits l))
  tests get p h G [] = sym (or_false (get G))
  tests get p h G (inl x ∷ l) = tests get p h G l
  tests get p h G (inr v ∷ l) =
      tests get p h (look B G (inr v)) l ∙ ap (λ b. b || any p (transits l)) (h G v)
      ∙ or_assoc (get G) (p (transit_of v)) (any p (transits l))

  pub status_is : (l : List (Value leg)) → status_by (foldl (look B) nothing l) ≡ status_of B (transits l)
  unfolding status_of
  status_is l =
      rw (
        tests (λ G. G.cancel) (cancels B) (λ G v. refl) nothing l,
        tests (λ G. G.delay) (late B) (λ G v. refl) nothing l,
        tests (λ G. G.alert) (disrupted B) (λ G v. refl) nothing l,
        tests (λ G. G.told) (live B) (λ G v. refl) nothing l,
      ) refl

  -- the first leg's departure, once one was met
  kept_first : (G : Gathered) (l : List (Value leg)) → G.began ≡ true → (foldl (look B) G l).first ≡ G.first
  kept_first G [] e = refl
  kept_first G (inl x ∷ l) e = kept_first G l e
  kept_first G (inr v ∷ l) e =
      kept_first (look B G (inr v)) l refl
      ∙ ap (λ b. cond b G.first (enrich_transit B (transit_of v)).realtime_departure) e

  first_from : (G : Gathered) (l : List (Value leg)) → G.began ≡ false → G.first ≡ inl tt
      → (foldl (look B) G l).first ≡ first_departure (transits (map (enrich_leg B) l))
  first_from G [] e f = f
  first_from G (inl x ∷ l) e f = first_from G l e f
  first_from G (inr v ∷ l) e f =
      kept_first (look B G (inr v)) l refl
      ∙ ap (λ b. cond b G.first (enrich_transit B (transit_of v)).realtime_departure) e

  pub first_is : (l : List (Value leg))
      → (foldl (look B) nothing l).first ≡ first_departure (transits (map (enrich_leg B) l))
  first_is l = first_from nothing l refl refl

  -- the last leg's arrival
  abbrev behind : Maybe ℤ → List Transit → Maybe ℤ
  behind old [] = old
  behind old (t ∷ ts) = last_arrival (t ∷ ts)

  behind_one : (t : Transit) (ts : List Transit) → behind t.realtime_arrival ts ≡ last_arrival (t ∷ ts)
  behind_one t [] = refl
  behind_one t (u ∷ ts) = refl

  last_from : (G : Gathered) (l : List (Value leg))
      → (foldl (look B) G l).last ≡ behind G.last (transits (map (enrich_leg B) l))
  last_from G [] = refl
  last_from G (inl x ∷ l) = last_from G l
  last_from G (inr v ∷ l) =
      last_from (look B G (inr v)) l
      ∙ behind_one (transit_of (transit_value (enrich_transit B (transit_of v)))) (transits (map (enrich_leg B) l))

  behind_none : (ts : List Transit) → behind (inl tt) ts ≡ last_arrival ts
  behind_none [] = refl
  behind_none (t ∷ ts) = refl

  pub last_is : (l : List (Value leg))
      → (foldl (look B) nothing l).last ≡ last_arrival (transits (map (enrich_leg B) l))
  last_is l = last_from nothing l ∙ behind_none (transits (map (enrich_leg B) l))

  -- a leg by what look-ups gave for it
  pub look_is : (G : Gathered) (R : LegRealtime) (x : Bool) (v : Value transit)
      → realtime_of R.departs ≡ departs B (transit_of v) → realtime_of R.arrives ≡ arrives B (transit_of v)
      → R.cancels ≡ cancels B (transit_of v) → x ≡ disrupted B (transit_of v)
      → meets G R x (transit_of v).realtime_departure (transit_of v).realtime_arrival ≡ look B G (inr v)
  unfolding enrich_transit live late
  look_is G R x v e f g h = rw (← e, ← f, ← g, ← h) refl
