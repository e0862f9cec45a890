-- Law. One leg more in the first pass, legs one after another, and what they come to.
use Rattle.std.specs.Prelude.{◌≡◌, refl, Bool, true, false, ℕ, suc, ◌+◌, ◌-◌, ◌≤◌, ◌<◌, ℤ, leb, length, Option}
use Rattle.std.proofs.Common.{sym, ap, ◌∙◌, inl, inr, arith, leb-true, leb-false}
use mathlib.Core.List.{List, [], ◌∷◌, ◌++◌, append_assoc, map, foldl}
use Rattle.basics.specs.Lists.{All, concat_map}
use Rattle.maps.specs.Map.{puts}
use Rattle.maps.specs.Order.{texts}
use Rattle.formats.specs.Format.{Value, number, signed, optional}
use Rattle.formats.specs.Promises.Outcome.{tag_at}
use Rattle.formats_judge.specs.Judged.{ok}
use Rattle.formats_read.specs.Promises.Here.{Here}
use Rattle.formats_read.specs.Promises.Reads.{ReadsNumber}
use Rattle.formats_read.specs.Laws.Here.{halves, branch, choice_in}
use Rattle.formats_read.specs.Laws.Walk.{Walk, begin, onward, ended, of_list}
use Rattle.formats_skip.specs.Promises.Passes.{Passes}
use Rattle.formats_skip.specs.Laws.Passes.{any_optional_signed}
use Rattle.formats_skip.specs.Laws.Leads.{lead_field}
use Rattle.formats_write.specs.Promises.Given.{given_signed}
use Rattle.alerts.specs.Label.{label}
use Rattle.overlay.specs.State.{State, overlay}
use Rattle.overlay.specs.Records.{Feeds, shown}
use Rattle.overlay.proofs.Laws.Within.{Judged56, elements}
use Rattle.journey.specs.Card.{Transit, transit, leg, transit_of}
use Rattle.journey.specs.Enrich.{alerts_of_transit, transits, keys, labels_of, headers_of}
use Rattle.journey.proofs.Laws.Headers.{Entry, entry, headers_few}
use Rattle.journey_places.specs.declared.LegPlaces.{LegPlaces}
use Rattle.journey_places.specs.Promises.Places.{LegAt}
use Rattle.journey_leg.specs.declared.LegRealtime.{LegRealtime}
use Rattle.journey_finish.specs.Promises.Finish.{StateIn, Looks}
use Rattle.journey_card.specs.declared.Survey as code
use Rattle.journey_card.specs.Promises.Survey.{nothing, gathered_of, look, meets}
use Rattle.journey_card.specs.Laws.Survey.{look_is}
use Rattle.journey_labels.specs.Promises.Labels.{most_labels, labels_length, labels, SoundLabels}
use Rattle.journey_alerts.specs.declared.LegAlerts.{LegAlerts}
use Rattle.alerts_apply.specs.Promises.Known.{Knows}
use Rattle.journey_alerts.specs.Promises.Places.{most_text, Lent}
use Rattle.journey_alerts.specs.Promises.Alerts.{nonempty, Notes, LegAlerted}
use Rattle.journey_alerts.specs.Laws.Notes.{notes_none, notes_then}
use Rattle.journey_alerts.specs.Laws.Alerts.{nonempty_append}
use Rattle.journey_survey.specs.declared.CardSurvey.{CardSurvey}
use Rattle.journey_survey.specs.Promises.Surveyed.{Gathers, Surveyed}
use Rattle.journey_survey.specs.Promises.Legs.{MeetsLeg, LegsSeen, LegSurveyed, EachSurveyed}

-- the leg's realtime times as they arrived
pub meets_leg : {s : List ℕ} {p : ℕ} {P : LegPlaces} {m : ℕ} (d a : Option ℤ) {G : code.Survey} {R : LegRealtime}
    {x : Bool} {r : code.Survey} → LegAt s p P
    → ((lo hi : ℤ) (v : Value (optional (signed lo hi))) (q : ℕ) → Here (optional (signed lo hi)) s P.realtime q v
    → given_signed d ≡ v)
    → Passes (optional (number 0 0)) s P.realtime m
    → ((lo hi : ℤ) (v : Value (optional (signed lo hi))) (q : ℕ) → Here (optional (signed lo hi)) s m q v
    → given_signed a ≡ v)
    → gathered_of r ≡ meets (gathered_of G) R x (given_signed d) (given_signed a) → MeetsLeg s p G R x r
meets_leg d a {G} {R} {x} L D M A e = record {
  is = λ H.
      let y = halves (lead_field L.realtime tt H).here in
      let i = (any_optional_signed M).to y.first in
      let z = halves (rw (← i) at y.second) in
      e ∙ ap (λ k. meets (gathered_of G) R x k (given_signed a)) (D _ _ _ _ y.first)
      ∙ ap (meets (gathered_of G) R x _) (A _ _ _ _ z.first);
}

-- ---- legs one after another

foldl_append : {A B : Type 0} (k : B → A → B) (z : B) (us vs : List A)
    → foldl k z (us ++ vs) ≡ foldl k (foldl k z us) vs
foldl_append k z [] vs = refl
foldl_append k z (u ∷ us) vs = foldl_append k (k z u) us vs

transits_append : (us vs : List (Value leg)) → transits (us ++ vs) ≡ transits us ++ transits vs
transits_append [] vs = refl
transits_append (inl x ∷ us) vs = transits_append us vs
transits_append (inr t ∷ us) vs = ap (λ l. transit_of t ∷ l) (transits_append us vs)

concat_append : {A B : Type 0} (k : A → List B) (us vs : List A)
    → concat_map k (us ++ vs) ≡ concat_map k us ++ concat_map k vs
concat_append k [] vs = refl
concat_append k (u ∷ us) vs =
    ap (λ l. k u ++ l) (concat_append k us vs) ∙ sym (append_assoc (k u) (concat_map k us) (concat_map k vs))

labels_append : (B : Feeds) (us vs : List Transit) → labels_of B (us ++ vs) ≡ labels_of B us ++ labels_of B vs
unfolding labels_of
labels_append B us vs =
    let k : Transit → List (List ℕ) = λ t. map label (alerts_of_transit B t) in
    ap nonempty (concat_append k us vs) ∙ nonempty_append (concat_map k us) (concat_map k vs)

seen_none : {st : State} {b f g : List ℕ} {c : CardSurvey} → LegsSeen st [] b f g c f g c
unfolding labels_of
seen_none = record { gathered = refl; notes = notes_none }

seen_then : {st : State} {us vs : List (Value leg)} {b f g : List ℕ} {c : CardSurvey} {f' g' : List ℕ} {r : CardSurvey}
    {f'' g'' : List ℕ} {r' : CardSurvey} → LegsSeen st us b f g c f' g' r → LegsSeen st vs b f' g' r f'' g'' r'
    → LegsSeen st (us ++ vs) b f g c f'' g'' r'
seen_then {st} {us} {vs} {c = c} X Y = record {
  gathered = Y.gathered ∙ ap (λ G. foldl (look (shown st)) G vs) X.gathered
      ∙ sym (foldl_append (look (shown st)) (gathered_of c.seen) us vs);
  notes =
      let e = ap (labels_of (shown st)) (transits_append us vs)
      ∙ labels_append (shown st) (transits us) (transits vs) in
      rw e (notes_then X.notes Y.notes);
}

-- ---- one leg more

module _ {s : List ℕ} {p : ℕ} {b f g : List ℕ} {c : CardSurvey} where
  pub leg_out : {y : List ℕ} → length s ≤ p → SoundLabels b f g c.labels → Knows most_text b y
      → LegSurveyed s p b f g c f g c y
  leg_out o S K = record { sound = S; knows = K; of = λ W w {v = v} H J. absurd (omega (arith, choice_in v H)) }

  module _ {t : ℕ} (e : t ≡ tag_at s p) where
    walked : {st : State} {q : ℕ} (v : Value leg) → Here leg s p q v → (t ≡ 1 → ⊥) → LegsSeen st (v ∷ []) b f g c f g c
    unfolding labels_of
    walked (inl x) H n = record { gathered = refl; notes = notes_none }
    walked (inr x) H n = absurd (n (e ∙ (branch (inr x) H).0))

    pub leg_walk : {y : List ℕ} → (t ≡ 1 → ⊥) → SoundLabels b f g c.labels → Knows most_text b y
        → LegSurveyed s p b f g c f g c y
    leg_walk n S K = record { sound = S; knows = K; of = λ W w {v = v} H J. walked v H n }

    module _ {R : LegRealtime} {f' g' : List ℕ} {a : LegAlerts} {x : code.Survey} {y : List ℕ} (k : t ≡ 1)
        (L : Looks s (p + 1) b R) (A : LegAlerted s (p + 1) b f g c.labels f' g' a y)
        (M : MeetsLeg s (p + 1) c.seen R a.hit x) where
      taken : {st : State} → StateIn b st → ok 7 overlay st ≡ true → {q : ℕ} (v : Value leg) → Here leg s p q v
          → Judged56 leg v → LegsSeen st (v ∷ []) b f g c f' g' (record { seen = x; labels = a.labels })
      taken W w (inl u) H J = absurd (omega (arith, (branch (inl u) H).0, k, e))
      taken {st} W w (inr u) H J =
          let h = (branch (inr u) H).1 in
          let j : Judged56 transit u = record { formed = J.formed; five = J.five; six = J.six } in
          let m = A.met h j W w in
          record {
            gathered = M.is h ∙ look_is (shown st) (gathered_of c.seen) R a.hit u (L.departs h j W)
                (L.arrives h j W) (L.cancels h j W) m.hit;
            notes = m.notes;
          }

      pub leg_taken : LegSurveyed s p b f g c f' g' (record { seen = x; labels = a.labels }) y
      leg_taken = record { sound = A.sound; knows = A.knows; of = λ W w {v = v} H J. taken W w v H J }

-- ---- the loop over the legs

pub record Walking (s : List ℕ) (a n p left : ℕ) (b f g : List ℕ) (c : CardSurvey) (f' g' : List ℕ) (r : CardSurvey)
    (y : List ℕ) : Type 0 where
  pub sound : SoundLabels b f' g' r.labels
  pub knows : Knows most_text b y
  pub of : {st : State} → StateIn b st → ok 7 overlay st ≡ true
      → Walk leg s a n p left (λ us. All (Judged56 leg) us → LegsSeen st us b f g c f' g' r)

pub sound_none : {b f g : List ℕ} → length f ≡ labels_length → length g ≡ labels_length → SoundLabels b f g 0
sound_none h i = record { counted = omega arith; long_from = h; long_to = i; inside = tt; ascends = refl }

-- what is lent keeps its lengths
pub lent_kept : {b c m c' m' : List ℕ} → Lent b c m → length c' ≡ length c → length m' ≡ length m → Lent b c' m'
lent_kept L i j = record { numbers = i ∙ L.numbers; marks = j ∙ L.marks; small = L.small }

module _ {A : Type 0} (P : A → Type 0) where
  each_front : (us : List A) (v : A) → All P (us ++ (v ∷ [])) → All P us
  each_front [] v x = tt
  each_front (u ∷ us) v x = (x.0, each_front us v x.1)

  each_last : (us : List A) (v : A) → All P (us ++ (v ∷ [])) → P v
  each_last [] v x = x.0
  each_last (u ∷ us) v x = each_last us v x.1

module _ {s : List ℕ} {a n : ℕ} {b f g : List ℕ} {c : CardSurvey} {y : List ℕ} where
  pub walk_start : SoundLabels b f g c.labels → Knows most_text b y → Walking s a n a n b f g c f g c y
  walk_start S K = record { sound = S; knows = K; of = λ W w. begin (λ x. seen_none) }

  module _ {p left : ℕ} {f' g' : List ℕ} {r : CardSurvey} (Z : Walking s a n p left b f g c f' g' r y) where
    pub walk_step : {e : ℕ} {f'' g'' : List ℕ} {r' : CardSurvey} {y' : List ℕ} → 0 < left
        → LegSurveyed s p b f' g' r f'' g'' r' y' → Passes leg s p e
        → Walking s a n e (left - 1) b f g c f'' g'' r' y'
    walk_step {e} z L Q = record {
      sound = L.sound;
      knows = L.knows;
      of = λ W w. onward (Z.of W w) e z (λ v q h. Q.to h) (λ us v d h x.
          seen_then (d (each_front (Judged56 leg) us v x)) (L.of W w h (each_last (Judged56 leg) us v x)));
    }

-- ---- what they come to

keys_length : (l : List Entry) → length (keys l) ≡ length l
keys_length [] = refl
keys_length (e ∷ l) = ap suc (keys_length l)

labels_few : {b f g f' g' : List ℕ} {n : ℕ} (st : State) (ts : List Transit) → ok 7 overlay st ≡ true
    → Notes b f g 0 f' g' n (labels_of (shown st) ts) → n ≤ most_labels
unfolding headers_of
labels_few {n = n} st ts w N = go (leb n most_labels) refl
  where
    go : (t : Bool) → leb n most_labels ≡ t → n ≤ most_labels
    go true e = leb-true n most_labels e
    go false e =
        let m = puts texts (map entry (labels_of (shown st) ts)) [] in
        absurd (omega (arith, N.over (leb-false n most_labels e), keys_length m, headers_few st w ts))

gathers : {st : State} {vs : List (Value leg)} {b f g : List ℕ} {c : CardSurvey} {f' g' : List ℕ} {r : CardSurvey}
    → ok 7 overlay st ≡ true → gathered_of c.seen ≡ nothing → c.labels ≡ 0 → SoundLabels b f' g' r.labels
    → LegsSeen st vs b f g c f' g' r → Gathers st vs b f' g' r.seen r.labels
gathers {st} {vs} {b} {f} {g} {c} {f'} {g'} {r} w e z S X =
    let N : Notes b f g 0 f' g' r.labels (labels_of (shown st) (transits vs)) = rw z at X.notes in
    let few = labels_few st (transits vs) w N in
    record {
      gathered = X.gathered ∙ ap (λ G. foldl (look (shown st)) G vs) e;
      few = few;
      sound = S;
      noted = N.noted few;
    }

module _ {s : List ℕ} {a n : ℕ} {b f g : List ℕ} {c : CardSurvey} {p left : ℕ} {f' g' : List ℕ} {r : CardSurvey}
    {y : List ℕ} (Z : Walking s a n p left b f g c f' g' r y) where
  pub walk_stop : left ≤ 0 → gathered_of c.seen ≡ nothing → c.labels ≡ 0 → EachSurveyed s a n b f' g' r
  walk_stop z e o = record {
    sound = Z.sound;
    of = λ W w vs q k m j. gathers w e o Z.sound (ended (Z.of W w) z vs q k m j);
  }

pub surveyed : {s : List ℕ} {p n e : ℕ} {b f g : List ℕ} {r : CardSurvey} → ReadsNumber s p n e
    → EachSurveyed s e n b f g r → Surveyed s p b f g r
surveyed N E = record {
  of = λ {st} W w {q} {vs} H J.
      of_list {P = λ us. All (Judged56 leg) us → Gathers st us _ _ _ _ _} H N (λ us q k m j. E.of W w us q k m j)
      (elements 16 leg vs J);
}
