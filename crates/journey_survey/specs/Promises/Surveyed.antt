-- Promise. The first pass over the legs of a card: what decides its head, and the labels of the alerts that apply.
use Rattle.std.specs.Prelude.{◌≡◌, true, ℕ, ◌≤◌}
use mathlib.Core.List.{List, [], map, foldl}
use Rattle.maps.specs.Map.{puts}
use Rattle.maps.specs.Order.{texts}
use Rattle.formats.specs.Format.{Value, list}
use Rattle.formats_judge.specs.Judged.{ok}
use Rattle.formats_read.specs.Promises.Here.{Here}
use Rattle.overlay.specs.State.{State, overlay}
use Rattle.overlay.specs.Records.{shown}
use Rattle.overlay.proofs.Laws.Within.{Judged56}
use Rattle.journey.specs.Card.{leg}
use Rattle.journey.specs.Enrich.{transits, labels_of}
use Rattle.journey.proofs.Laws.Headers.{entry}
use Rattle.journey_finish.specs.Promises.Finish.{StateIn}
use Rattle.journey_card.specs.declared.Survey as code
use Rattle.journey_card.specs.Promises.Survey.{nothing, gathered_of, look}
use Rattle.journey_labels.specs.Promises.Labels.{most_labels, labels, SoundLabels}
use Rattle.journey_survey.specs.declared.CardSurvey.{CardSurvey}

-- of the legs vs, over the state st of b: what was gathered, and the n labels whose places are in f and g. Their texts,
-- ascending and each once, are the card's headers
pub record Gathers (st : State) (vs : List (Value leg)) (b f g : List ℕ) (G : code.Survey) (n : ℕ) : Type 0 where
  pub gathered : gathered_of G ≡ foldl (look (shown st)) nothing vs
  pub few : n ≤ most_labels
  pub sound : SoundLabels b f g n
  pub noted : labels b f g n ≡ puts texts (map entry (labels_of (shown st) (transits vs))) []

-- of the list of legs at p
pub record Surveyed (s : List ℕ) (p : ℕ) (b f g : List ℕ) (r : CardSurvey) : Type 0 where
  pub of : {st : State} → StateIn b st → ok 7 overlay st ≡ true → {q : ℕ} {vs : List (Value leg)}
      → Here (list 16 leg) s p q vs → Judged56 (list 16 leg) vs → Gathers st vs b f g r.seen r.labels
