-- Law. The alerts of a leg: those of its trip's feed that are candidates and apply.
use Rattle.std.specs.Prelude.{◌≡◌, refl, Bool, true, false, cond, ◌&&◌, List, [], ◌∷◌, map, ℕ, ◌≤◌, leb, length, Option, Some, None}
use Rattle.std.proofs.Common.{sym, ap, ◌∙◌, append-nil, inl, inr, arith, leb-true}
use Rattle.std.proofs.Math.Option
use Rattle.std.proofs.Math.Option.{Option as LogicOption, none, some}
use Rattle.basics.specs.Lists.{All, filter}
use Rattle.basics.specs.Options.{Maybe}
use Rattle.basics.specs.Laws.Booleans.{both_true}
use Rattle.maps.specs.Map.{get}
use Rattle.maps.specs.Order.{texts}
use Rattle.maps.proofs.Laws.Order.{texts_order}
use Rattle.formats.specs.Class.{Class, printable, utf8, in_class}
use Rattle.formats.specs.Format.{text, list, optional, ◌&◌, Value}
use Rattle.formats_judge.specs.Judged.{ok}
use Rattle.decode.specs.Laws.Fine.{Given}
use Rattle.decode.specs.Trip.{trip_entry}
use Rattle.alerts.specs.Alert.{Alert, alert, header, description, cause, or_empty_text}
use Rattle.alerts.specs.Text.{trim}
use Rattle.alerts.specs.Label.{label}
use Rattle.alerts_apply.specs.Promises.Hits.{Room}
use Rattle.alerts_apply.specs.Promises.Known.{Knows}
use Rattle.alerts_apply.specs.Laws.Room.{room}
use Rattle.overlay.specs.State.{State, Feed, overlay, timestamp, vehicle_entry, feed_entry, feeds_of}
use Rattle.overlay.specs.State.{timestamp_of, trips_of, vehicles_of, alerts_of}
use Rattle.overlay.specs.Records.{Records, Feeds, records_of, shown}
use Rattle.overlay.specs.Lookup.{feed_of}
use Rattle.overlay.proofs.Laws.Within.{Judged56, left, right, few, counted}
use Rattle.overlay.proofs.Laws.EveryEntry.{each_of, each_map, get_each}
use Rattle.overlay_resolve.specs.Promises.Shown.{ShowsAlerts}
use Rattle.journey.specs.Card.{Transit, transit, transit_of}
use Rattle.journey.specs.Enrich.{alerts_in, applies, alerts_of_transit, disrupted, labels_of}
use Rattle.journey.specs.ByIndex.{passes}
use Rattle.journey.proofs.Laws.Found.{RecordsJudged}
use Rattle.journey.proofs.Laws.Labels.{any_filter}
use Rattle.journey_labels.specs.Promises.Labels.{SoundLabels}
use Rattle.journey_alerts.specs.declared.LegTexts.{LegTexts}
use Rattle.journey_alerts.specs.declared.LegAlerts.{LegAlerts}
use Rattle.journey_alerts.specs.Promises.Texts.{bytes_of, LegTextsAt}
use Rattle.journey_alerts.specs.Promises.Places.{is_candidate, most_text}
use Rattle.journey_alerts.specs.Promises.Alerts.{nonempty, labels_by, AlertsMet, unmet, AlertsAtMet}
use Rattle.journey_alerts.specs.Promises.Alerts.{LegMet, LegAlerted}
use Rattle.journey_alerts.specs.Laws.Alerts.{met_none}

filter_filter : {A : Type 0} (p q : A → Bool) (l : List A) → filter p (filter q l) ≡ filter (λ a. q a && p a) l
filter_filter p q [] = refl
filter_filter p q (a ∷ l) = go (q a) (filter_filter p q l)
  where
    go : (t : Bool) → filter p (filter q l) ≡ filter (λ a. q a && p a) l
        → filter p (cond t (a ∷ filter q l) (filter q l))
        ≡ cond (t && p a) (a ∷ filter (λ a. q a && p a) l) (filter (λ a. q a && p a) l)
    go true e = ap (λ x. cond (p a) (a ∷ x) x) e
    go false e = e

-- the alerts of the leg's feed, met
leg_met : (B : Feeds) (t : Transit) {l : List Alert} {b f g : List ℕ} {n : ℕ} {f' g' : List ℕ} {r : LegAlerts}
    → l ≡ alerts_in (B (feed_of t.trip)) → AlertsMet t (filter (is_candidate t) l) b f g (unmet n) f' g' r
    → LegMet B t b f g n f' g' r
unfolding disrupted labels_of alerts_of_transit applies
leg_met B t {l} e A = record {
  hit = A.hit ∙ any_filter (passes t) (is_candidate t) l ∙ rw e refl;
  notes =
      let y : alerts_of_transit B t ≡ filter (passes t) (filter (is_candidate t) l) =
      rw (← e) (sym (filter_filter (passes t) (is_candidate t) l)) in
      let w : labels_of B (t ∷ []) ≡ labels_by t (filter (is_candidate t) l) =
      ap nonempty (append-nil (map label (alerts_of_transit B t)) ∙ ap (λ k. map label k) y) in
      rw w A.notes;
}

-- ---- limits

text_few : (l : ℕ) (c : Class) (v : List ℕ) → ok 5 (text l c) v ≡ true → length v ≤ l
text_few l c v e = leb-true (length v) l (both_true (leb (length v) l) (in_class c v) e).0

optional_few : (l : ℕ) (c : Class) (v : Maybe (List ℕ)) → ok 5 (optional (text l c)) v ≡ true
    → length (or_empty_text v) ≤ l
optional_few l c (inl x) e = omega arith
optional_few l c (inr v) e = text_few l c v e

-- room for the texts of a feed's alerts, and of a leg's name
rooms : (l : List Alert) {v : Value transit} → Judged56 transit v → All (Judged56 alert) l
    → All (λ a. Room a (trim (transit_of v).short) most_text) l
rooms l {v} J h =
    each_map {P = Judged56 alert} (λ a j.
    room a (transit_of v).short most_text (optional_few 512 utf8 (header a) (left j).five)
    (optional_few 2048 utf8 (description a) (left (right j)).five)
    (optional_few 64 utf8 (cause a) (left (right (right j))).five)
    (text_few 64 printable (transit_of v).short (left (right J)).five) (omega arith)) l h

feed_judged : (o : LogicOption Records) → Given RecordsJudged o → All (Judged56 alert) (alerts_in o)
feed_judged none h = tt
feed_judged (some R) h = h.alerts

feed_few : (e : List ℕ × Feed) → ok 7 feed_entry e ≡ true → length (alerts_of e.1) ≤ 256
feed_few e h =
    let F = e.1 in
    let a = both_true (ok 7 (optional timestamp) (timestamp_of F))
    (ok 7 (list 2048 trip_entry & list 1024 vehicle_entry & list 256 alert) F.1.1) h in
    let b = both_true (ok 7 (list 2048 trip_entry) (trips_of F))
    (ok 7 (list 1024 vehicle_entry & list 256 alert) F.1.1.1) a.1 in
    few 256 alert (alerts_of F)
    (both_true (ok 7 (list 1024 vehicle_entry) (vehicles_of F)) (ok 7 (list 256 alert) (alerts_of F)) b.1).1

alerts_few : (st : State) → ok 7 overlay st ≡ true → (f : List ℕ) → length (alerts_in (shown st f)) ≤ 256
unfolding shown
alerts_few st h f = go (get texts f (feeds_of st)) refl
  where
    go : (o : LogicOption Feed) → get texts f (feeds_of st) ≡ o → length (alerts_in (Option.map records_of o)) ≤ 256
    go none e = omega arith
    go (some F) e =
        feed_few (f, F)
        (get_each texts_order (λ e. ok 7 feed_entry e ≡ true) f F (feeds_of st)
        (each_of (ok 7 feed_entry) (feeds_of st) (counted 4 feed_entry (feeds_of st) h)) e)

-- THE ALERTS OF A LEG
module _ {s : List ℕ} {p : ℕ} {T : LegTexts} (X : LegTextsAt s p T) {b : List ℕ} {x : Option ℕ}
    (A : ShowsAlerts b (bytes_of s T.trip) x) {f g : List ℕ} {n : ℕ} where
  pub leg_none : {w : List ℕ} → x ≡ None → SoundLabels b f g n → Knows most_text b w
      → LegAlerted s p b f g n f g (unmet n) w
  leg_none e S K = record {
    sound = S;
    knows = K;
    met = λ {q} {v} H J {st} W seven.
        let z = rw (X.of H).trip at ((A.to W.here).missing e) in
        leg_met (shown st) (transit_of v) {l = []} (sym (ap alerts_in z)) met_none;
  }

  pub leg_some : {i : ℕ} {f' g' : List ℕ} {r : LegAlerts} {w : List ℕ} → x ≡ Some i
      → AlertsAtMet s T b i most_text f g n f' g' r w → LegAlerted s p b f g n f' g' r w
  leg_some {i} e M = record {
    sound = M.sound;
    knows = M.knows;
    met = λ {q} {v} H J {st} W seven.
        let Y = X.of H in
        let t = transit_of v in
        let l = alerts_in (shown st (feed_of t.trip)) in
        let h = rw Y.trip at ((A.to W.here).found i e) in
        leg_met (shown st) t {l = l} refl
        (M.met Y (rw (← ap alerts_in h.is) at h.here) (alerts_few st seven (feed_of t.trip))
        (rooms l {v = v} J (feed_judged (shown st (feed_of t.trip)) (W.judged (feed_of t.trip)))));
  }
