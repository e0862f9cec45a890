-- Law. Alerts met one after another, by number.
use Rattle.std.specs.Prelude.{◌≡◌, refl, Bool, true, false, cond, not, ◌||◌, List, [], ◌∷◌, ◌++◌, map, ℕ, zero, suc, ◌+◌, ◌≤◌, ◌<◌, get_or, take}
use Rattle.std.proofs.Common.{sym, ap, ◌∙◌, arith}
use Rattle.basics.specs.Lists.{All, any, filter, is_empty, concat_map}
use Rattle.basics.specs.Laws.Booleans.{or_false, or_assoc}
use Rattle.basics.specs.Laws.Lists.{any_append}
use Rattle.formats_write.specs.Laws.Slices.{slice_is}
use Rattle.decode_slots.specs.Places.{bytes_in}
use Rattle.alerts.specs.Alert.{Alert, alert}
use Rattle.alerts.specs.Text.{trim}
use Rattle.alerts.specs.Label.{label}
use Rattle.alerts.specs.Index.{numbered}
use Rattle.alerts_search.specs.Laws.Found.{behind}
use Rattle.alerts_apply.specs.Promises.Hits.{Room}
use Rattle.alerts_apply.specs.Promises.Known.{Knows}
use Rattle.alerts_apply.specs.Promises.Texts.{Labelled}
use Rattle.journey.specs.Card.{Transit}
use Rattle.journey.specs.ByIndex.{passes}
use Rattle.journey_labels.specs.Promises.Labels.{SoundLabels}
use Rattle.journey_alerts.specs.declared.LegTexts.{LegTexts}
use Rattle.journey_alerts.specs.declared.LegAlerts.{LegAlerts}
use Rattle.journey_alerts.specs.Promises.Places.{Prepared}
use Rattle.journey_alerts.specs.Promises.Alerts.{LegApplies, nonempty, LabelAdded, labels_by, AlertsMet}
use Rattle.journey_alerts.specs.Promises.Alerts.{AlertMet, EachMet, unmet, AlertsAtMet}
use Rattle.journey_alerts.specs.Laws.Notes.{notes_none, notes_then}

-- ---- lists

filter_append : {A : Type 0} (p : A → Bool) (k l : List A) → filter p (k ++ l) ≡ filter p k ++ filter p l
filter_append p [] l = refl
filter_append p (a ∷ k) l = go (p a) (filter_append p k l)
  where
    go : (t : Bool) → filter p (k ++ l) ≡ filter p k ++ filter p l
        → cond t (a ∷ filter p (k ++ l)) (filter p (k ++ l)) ≡ cond t (a ∷ filter p k) (filter p k) ++ filter p l
    go true e = ap (λ x. a ∷ x) e
    go false e = e

map_append : {A B : Type 0} (g : A → B) (k l : List A) → map g (k ++ l) ≡ map g k ++ map g l
map_append g [] l = refl
map_append g (a ∷ k) l = ap (λ x. g a ∷ x) (map_append g k l)

pub nonempty_append : (k l : List (List ℕ)) → nonempty (k ++ l) ≡ nonempty k ++ nonempty l
nonempty_append k l = filter_append (λ x. not (is_empty x)) k l

labels_append : (t : Transit) (k l : List Alert) → labels_by t (k ++ l) ≡ labels_by t k ++ labels_by t l
labels_append t k l =
    ap (λ x. nonempty (map label x)) (filter_append (passes t) k l)
    ∙ ap nonempty (map_append label (filter (passes t) k) (filter (passes t) l))
    ∙ nonempty_append (map label (filter (passes t) k)) (map label (filter (passes t) l))

module _ {A : Type 0} (P : A → Type 0) where
  each_last : (l : List A) (a : A) → All P (l ++ (a ∷ [])) → P a
  each_last [] a h = h.0
  each_last (b ∷ l) a h = each_last l a h.1

  each_append : (k l : List A) → All P k → All P l → All P (k ++ l)
  each_append [] l h i = i
  each_append (a ∷ k) l h i = (h.0, each_append k l h.1 i)

each_numbered : (P : Alert → Type 0) (l : List Alert) → All P l → (i : ℕ) → All P (numbered l i)
each_numbered P [] h i = tt
each_numbered P (a ∷ l) h zero = (h.0, tt)
each_numbered P (a ∷ l) h (suc i) = each_numbered P l h.1 i

each_behind : (P : Alert → Type 0) (l : List Alert) → All P l → (c : List ℕ) → All P (concat_map (numbered l) c)
each_behind P l h [] = tt
each_behind P l h (i ∷ c) = each_append P (numbered l i) _ (each_numbered P l h i) (each_behind P l h c)

-- ---- alerts met

module _ {t : Transit} {b f g : List ℕ} {h : LegAlerts} where
  pub met_none : AlertsMet t [] b f g h f g h
  met_none = record { hit = sym (or_false h.hit); notes = notes_none }

  met_then : {k l : List Alert} {f' g' : List ℕ} {r : LegAlerts} {f'' g'' : List ℕ} {r' : LegAlerts}
      → AlertsMet t k b f g h f' g' r → AlertsMet t l b f' g' r f'' g'' r' → AlertsMet t (k ++ l) b f g h f'' g'' r'
  met_then {k} {l} A B = record {
    hit = B.hit ∙ ap (λ x. x || any (passes t) l) A.hit
        ∙ or_assoc h.hit (any (passes t) k) (any (passes t) l)
        ∙ ap (λ x. h.hit || x) (sym (any_append (passes t) k l));
    notes = rw (labels_append t k l) (notes_then A.notes B.notes);
  }

-- one alert more
module _ {s : List ℕ} {T : LegTexts} {b : List ℕ} {p n : ℕ} {x : Bool} {w : List ℕ} (L : LegApplies s T b p n x w)
    {f g : List ℕ} {h : LegAlerts} where
  pub alert_not : x ≡ false → SoundLabels b f g h.labels → AlertMet s T b p n f g h f g h w
  alert_not e S = record {
    sound = S;
    knows = L.knows;
    met = λ {t} X {a} H R.
        let z : passes t a ≡ false = sym (L.is X H R) ∙ e in
        record { hit = rw z (sym (or_false h.hit)); notes = rw z notes_none };
  }

  pub alert_does : {i j : ℕ} {f' g' : List ℕ} {r : ℕ} → x ≡ true → Labelled b p i j
      → LabelAdded b f g h.labels (i, j) f' g' r
      → AlertMet s T b p n f g h f' g' (record { hit = true; labels = r }) w
  alert_does {i} {j} e M A = record {
    sound = A.sound;
    knows = L.knows;
    met = λ {t} X {a} H R.
        let z : passes t a ≡ true = sym (L.is X H R) ∙ e in
        let y : bytes_in b (i, j) ≡ label a = slice_is i j b M.forward M.within ∙ M.is H in
        record { hit = rw z (sym (or_true h.hit)); notes = rw (z, ← y) A.notes };
  }
    where
      or_true : (y : Bool) → y || true ≡ true
      or_true true = refl
      or_true false = refl

-- ---- the loop over the candidates

module _ {s : List ℕ} {T : LegTexts} {b c : List ℕ} {m : ℕ} {places : List ℕ} {n : ℕ} {f g : List ℕ}
    {h : LegAlerts} where
  pub each_start : {w : List ℕ} → SoundLabels b f g h.labels → Knows n b w
      → EachMet s T b c m places 0 n f g h f g h w
  each_start S K = record { within = omega arith; sound = S; knows = K; met = λ X R J. met_none }

  module _ {k : ℕ} {f' g' : List ℕ} {r : LegAlerts} {w : List ℕ}
      (E : EachMet s T b c m places k n f g h f' g' r w) where
    pub each_step : {i p n' : ℕ} {f'' g'' : List ℕ} {r' : LegAlerts} {w' : List ℕ} → k < m → i ≡ get_or c k 0
        → p ≡ get_or places i 0 → n' ≡ n → AlertMet s T b p n' f' g' r f'' g'' r' w'
        → EachMet s T b c m places (k + 1) n f g h f'' g'' r' w'
    each_step {i} {p} j d e q A = record {
      within = omega arith;
      sound = A.sound;
      knows = rw q at A.knows;
      met = λ {t} X {l} R J.
          let Z = J k j in
          let x : get_or places (get_or c k 0) 0 ≡ p = sym (e ∙ ap (λ y. get_or places y 0) d) in
          let room = each_last (λ a. Room a (trim t.short) n) (behind l c k) Z.alert
          (rw Z.more at (each_behind (λ a. Room a (trim t.short) n) l R (take (k + 1) c))) in
          rw Z.more (met_then (E.met X R J) (A.met X (rw x at Z.stands.1) (rw q room)));
    }

    pub each_stop : m ≤ k → EachMet s T b c m places m n f g h f' g' r w
    each_stop i = let e : k ≡ m = omega (arith, E.within) in rw e at E

-- the candidates among the alerts at p
pub at_met : {s : List ℕ} {T : LegTexts} {b : List ℕ} {p m : ℕ} {c places : List ℕ} {n : ℕ} {f g : List ℕ} {k : ℕ}
    {f' g' : List ℕ} {r : LegAlerts} {w : List ℕ} → Prepared s T b p m c places
    → EachMet s T b c m places m n f g (unmet k) f' g' r w → AlertsAtMet s T b p n f g k f' g' r w
at_met P E = record {
  sound = E.sound;
  knows = E.knows;
  met = λ X H w R. rw (P.every X H w) at (E.met X R (P.step X H w));
}
