-- Promise. What a first pass over a card's legs gathers: what decides the status, and the card's times.
use Rattle.std.specs.Prelude.{Bool, true, false, cond, ◌&&◌, ◌||◌, not, ℕ, ℤ}
use Rattle.std.proofs.Common.{inl, inr}
use Rattle.basics.specs.Options.{Maybe}
use Rattle.formats.specs.Format.{Value}
use Rattle.formats_write.specs.Promises.Given.{given_signed}
use Rattle.overlay.specs.Records.{Feeds}
use Rattle.journey.specs.Card.{leg, transit_of}
use Rattle.journey.specs.Enrich.{cancels, late, disrupted, live, is_zero, taken, enrich_transit}
use Rattle.journey_leg.specs.declared.LegRealtime.{LegRealtime}
use Rattle.journey_leg.specs.Promises.Leg.{live_of}
use Rattle.journey_card.specs.declared.Survey as code

pub record Gathered : Type 0 where
  pub cancel : Bool
  pub delay : Bool
  pub alert : Bool
  pub told : Bool
  pub began : Bool
  pub first : Maybe ℤ
  pub last : Maybe ℤ

abbrev pub nothing : Gathered
nothing =
    record { cancel = false; delay = false; alert = false; told = false; began = false; first = inl tt; last = inl tt }

abbrev pub gathered_of : code.Survey → Gathered
gathered_of S = record {
  cancel = S.cancel;
  delay = S.delay;
  alert = S.alert;
  told = S.told;
  began = S.began;
  first = given_signed S.first;
  last = given_signed S.last;
}

-- one leg more
abbrev pub look : Feeds → Gathered → Value leg → Gathered
look B G (inl p) = G
look B G (inr v) =
    let t = transit_of v in
    record {
      cancel = G.cancel || cancels B t;
      delay = G.delay || late B t;
      alert = G.alert || disrupted B t;
      told = G.told || live B t;
      began = true;
      first = cond G.began G.first (enrich_transit B t).realtime_departure;
      last = (enrich_transit B t).realtime_arrival;
    }

-- the same by what look-ups gave for the leg, whether an alert applies, and its realtime times as they arrived
abbrev pub late_of : LegRealtime → Bool
late_of R = live_of R && not (is_zero R.departs.delay && is_zero R.arrives.delay)

abbrev pub meets : Gathered → LegRealtime → Bool → Maybe ℤ → Maybe ℤ → Gathered
meets G R x d a = record {
  cancel = G.cancel || R.cancels;
  delay = G.delay || late_of R;
  alert = G.alert || x;
  told = G.told || live_of R;
  began = true;
  first = cond G.began G.first (taken (live_of R) R.departs.time d);
  last = taken (live_of R) R.arrives.time a;
}

-- the first status that holds
abbrev pub status_by : Gathered → ℕ
status_by G = cond G.cancel 4 (cond G.delay 3 (cond G.alert 2 (cond G.told 1 0)))
