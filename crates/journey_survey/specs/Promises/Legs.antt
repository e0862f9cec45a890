-- Promise. One leg more in the first pass, and legs one after another.
use Rattle.std.specs.Prelude.{◌≡◌, Bool, true, ℕ, length}
use mathlib.Core.List.{List, [], ◌∷◌, foldl}
use Rattle.basics.specs.Lists.{All}
use Rattle.formats.specs.Format.{Value}
use Rattle.formats_judge.specs.Judged.{ok}
use Rattle.formats_read.specs.Promises.Here.{Here}
use Rattle.formats_read.specs.Promises.Lists.{Many}
use Rattle.overlay.specs.State.{State, overlay}
use Rattle.overlay.specs.Records.{shown}
use Rattle.overlay.proofs.Laws.Within.{Judged56}
use Rattle.journey.specs.Card.{transit, leg, transit_of}
use Rattle.journey.specs.Enrich.{transits, labels_of}
use Rattle.journey_finish.specs.Promises.Finish.{StateIn}
use Rattle.journey_leg.specs.declared.LegRealtime.{LegRealtime}
use Rattle.journey_card.specs.declared.Survey as code
use Rattle.journey_card.specs.Promises.Survey.{gathered_of, look, meets}
use Rattle.journey_labels.specs.Promises.Labels.{SoundLabels}
use Rattle.alerts_apply.specs.Promises.Known.{Knows}
use Rattle.journey_alerts.specs.Promises.Places.{most_text}
use Rattle.journey_alerts.specs.Promises.Alerts.{Notes}
use Rattle.journey_survey.specs.declared.CardSurvey.{CardSurvey}
use Rattle.journey_survey.specs.Promises.Surveyed.{Gathers}

-- the transit leg at p, by what look-ups gave for it
pub record MeetsLeg (s : List ℕ) (p : ℕ) (G : code.Survey) (R : LegRealtime) (x : Bool) (r : code.Survey) : Type 0 where
  pub is : {q : ℕ} {v : Value transit} → Here transit s p q v → gathered_of r
      ≡ meets (gathered_of G) R x (transit_of v).realtime_departure (transit_of v).realtime_arrival

-- the legs vs, after what c says
pub record LegsSeen (st : State) (vs : List (Value leg)) (b f g : List ℕ) (c : CardSurvey) (f' g' : List ℕ)
    (r : CardSurvey) : Type 0 where
  pub gathered : gathered_of r.seen ≡ foldl (look (shown st)) (gathered_of c.seen) vs
  pub notes : Notes b f g c.labels f' g' r.labels (labels_of (shown st) (transits vs))

-- the leg at p, and the n legs from p on; w is what is known of alerts then
pub record LegSurveyed (s : List ℕ) (p : ℕ) (b f g : List ℕ) (c : CardSurvey) (f' g' : List ℕ) (r : CardSurvey)
    (w : List ℕ) : Type 0 where
  pub sound : SoundLabels b f' g' r.labels
  pub knows : Knows most_text b w
  pub of : {st : State} → StateIn b st → ok 7 overlay st ≡ true → {q : ℕ} {v : Value leg} → Here leg s p q v
      → Judged56 leg v → LegsSeen st (v ∷ []) b f g c f' g' r

pub record EachSurveyed (s : List ℕ) (p n : ℕ) (b f g : List ℕ) (r : CardSurvey) : Type 0 where
  pub sound : SoundLabels b f g r.labels
  pub of : {st : State} → StateIn b st → ok 7 overlay st ≡ true → (vs : List (Value leg)) (q : ℕ) → length vs ≡ n
      → Many leg s p q vs → All (Judged56 leg) vs → Gathers st vs b f g r.seen r.labels
