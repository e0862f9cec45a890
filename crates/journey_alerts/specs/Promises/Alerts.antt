-- Promise. Alerts met one after another: whether one applies to the leg, and the labels of those that do, noted.
use Rattle.std.specs.Prelude.{◌≡◌, Bool, true, false, not, ◌||◌, List, [], ◌∷◌, map, ℕ, ◌≤◌, ◌<◌, length}
use Rattle.basics.specs.Lists.{All, any, filter, is_empty}
use Rattle.maps.specs.Map.{puts}
use Rattle.maps.specs.Order.{texts}
use Rattle.formats.specs.Format.{Value, list}
use Rattle.formats_judge.specs.Judged.{ok}
use Rattle.formats_read.specs.Promises.Here.{Here}
use Rattle.decode_slots.specs.Index.{Place}
use Rattle.decode_slots.specs.Places.{bytes_in}
use Rattle.alerts.specs.Alert.{Alert, alert}
use Rattle.alerts.specs.Text.{trim}
use Rattle.alerts.specs.Label.{label}
use Rattle.alerts_search.specs.Laws.Found.{Step, behind}
use Rattle.alerts_apply.specs.Promises.Hits.{Room}
use Rattle.alerts_apply.specs.Promises.Known.{Knows}
use Rattle.overlay.specs.State.{State, overlay}
use Rattle.overlay.specs.Records.{Feeds, shown}
use Rattle.overlay.proofs.Laws.Within.{Judged56}
use Rattle.journey.specs.Card.{Transit, transit, transit_of}
use Rattle.journey.specs.Enrich.{disrupted, labels_of}
use Rattle.journey.specs.ByIndex.{passes}
use Rattle.journey.proofs.Laws.Headers.{entry}
use Rattle.journey_finish.specs.Promises.Finish.{StateIn}
use Rattle.journey_labels.specs.Promises.Labels.{most_labels, labels, SoundLabels}
use Rattle.journey_alerts.specs.declared.LegTexts.{LegTexts}
use Rattle.journey_alerts.specs.declared.LegAlerts.{LegAlerts}
use Rattle.journey_alerts.specs.Promises.Texts.{TextsOf}
use Rattle.journey_alerts.specs.Promises.Places.{most_text, is_candidate}

-- a leg within reach of the alert at p; n is the room for its texts, w what is known of alerts then
pub record LegApplies (s : List ℕ) (T : LegTexts) (b : List ℕ) (p n : ℕ) (r : Bool) (w : List ℕ) : Type 0 where
  pub knows : Knows n b w
  pub is : {t : Transit} → TextsOf s T t → {a : Alert} {q : ℕ} → Here alert b p q a → Room a (trim t.short) n
      → r ≡ passes t a

-- ---- labels

-- the labels l were noted, after those of f and g: all of them, or there are too many
pub record Notes (b f g : List ℕ) (n : ℕ) (f' g' : List ℕ) (n' : ℕ) (l : List (List ℕ)) : Type 0 where
  pub grows : n ≤ n'
  pub noted : n' ≤ most_labels → labels b f' g' n' ≡ puts texts (map entry l) (labels b f g n)
  pub over : most_labels < n' → most_labels < length (puts texts (map entry l) (labels b f g n))

abbrev pub nonempty : List (List ℕ) → List (List ℕ)
nonempty l = filter (λ x. not (is_empty x)) l

pub record LabelAdded (b f g : List ℕ) (n : ℕ) (p : Place) (f' g' : List ℕ) (n' : ℕ) : Type 0 where
  pub sound : SoundLabels b f' g' n'
  pub notes : Notes b f g n f' g' n' (nonempty (bytes_in b p ∷ []))

-- ---- alerts

-- the labels of those alerts that pass for leg t
abbrev pub labels_by : Transit → List Alert → List (List ℕ)
labels_by t l = nonempty (map label (filter (passes t) l))

-- the alerts l were met
pub record AlertsMet (t : Transit) (l : List Alert) (b f g : List ℕ) (h : LegAlerts) (f' g' : List ℕ) (r : LegAlerts) :
    Type 0 where
  pub hit : r.hit ≡ (h.hit || any (passes t) l)
  pub notes : Notes b f g h.labels f' g' r.labels (labels_by t l)

-- the alert at p
pub record AlertMet (s : List ℕ) (T : LegTexts) (b : List ℕ) (p n : ℕ) (f g : List ℕ) (h : LegAlerts)
    (f' g' : List ℕ) (r : LegAlerts) (w : List ℕ) : Type 0 where
  pub sound : SoundLabels b f' g' r.labels
  pub knows : Knows n b w
  pub met : {t : Transit} → TextsOf s T t → {a : Alert} {q : ℕ} → Here alert b p q a → Room a (trim t.short) n
      → AlertsMet t (a ∷ []) b f g h f' g' r

-- the first k of m candidates
pub record EachMet (s : List ℕ) (T : LegTexts) (b c : List ℕ) (m : ℕ) (places : List ℕ) (k n : ℕ) (f g : List ℕ)
    (h : LegAlerts) (f' g' : List ℕ) (r : LegAlerts) (w : List ℕ) : Type 0 where
  pub within : k ≤ m
  pub sound : SoundLabels b f' g' r.labels
  pub knows : Knows n b w
  pub met : {t : Transit} → TextsOf s T t → {l : List Alert} → All (λ a. Room a (trim t.short) n) l
      → ((j : ℕ) → j < m → Step b l c places j) → AlertsMet t (behind l c k) b f g h f' g' r

-- nothing met yet
abbrev pub unmet : ℕ → LegAlerts
unmet n = record { hit = false; labels = n }

-- the candidates among the alerts at p
pub record AlertsAtMet (s : List ℕ) (T : LegTexts) (b : List ℕ) (p m : ℕ) (f g : List ℕ) (n : ℕ)
    (f' g' : List ℕ) (r : LegAlerts) (w : List ℕ) : Type 0 where
  pub sound : SoundLabels b f' g' r.labels
  pub knows : Knows m b w
  pub met : {t : Transit} → TextsOf s T t → {l : List Alert} {q : ℕ} → Here (list 256 alert) b p q l → length l ≤ 256
      → All (λ a. Room a (trim t.short) m) l
      → AlertsMet t (filter (is_candidate t) l) b f g (unmet n) f' g' r

-- THE ALERTS OF A LEG
pub record LegMet (B : Feeds) (t : Transit) (b f g : List ℕ) (n : ℕ) (f' g' : List ℕ) (r : LegAlerts) : Type 0 where
  pub hit : r.hit ≡ disrupted B t
  pub notes : Notes b f g n f' g' r.labels (labels_of B (t ∷ []))

pub record LegAlerted (s : List ℕ) (p : ℕ) (b f g : List ℕ) (n : ℕ) (f' g' : List ℕ) (r : LegAlerts) (w : List ℕ) :
    Type 0 where
  pub sound : SoundLabels b f' g' r.labels
  pub knows : Knows most_text b w
  pub met : {q : ℕ} {v : Value transit} → Here transit s p q v → Judged56 transit v → {st : State} → StateIn b st
      → ok 7 overlay st ≡ true → LegMet (shown st) (transit_of v) b f g n f' g' r
