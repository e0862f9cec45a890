-- Law. Status and headers as the Rust finds them, by the numbers that a feed's alert index gives for a leg, are those
-- of `Enrich`, which asks each alert of the feed whether it is a candidate.
use Rattle.std.specs.Prelude.{◌≡◌, refl, true, false, ◌&&◌, ℕ}
use Rattle.std.proofs.Math.Path.{sym, ap}
use Rattle.std.proofs.Common.{◌∙◌}
use Rattle.std.proofs.Math.Bool.{Bool, cond, not}
use mathlib.Core.List.{List, map}
use Rattle.basics.specs.Lists.{any, filter, is_empty, concat_map}
use Rattle.basics.specs.Texts.{same}
use Rattle.alerts.specs.Alert.{Alert}
use Rattle.alerts.specs.Index.{candidate}
use Rattle.alerts.specs.Label.{label}
use Rattle.basics.specs.Laws.Lists.{any_same, any_join}
use Rattle.alerts.proofs.Laws.Numbers.{any_candidate}
use Rattle.overlay.specs.Records.{Feeds}
use Rattle.overlay.specs.Lookup.{feed_of}
use Rattle.journey.specs.Card.{Transit}
use Rattle.journey.specs.Enrich.{cancels, live, late, alerts_in, applies, alerts_of_transit}
use Rattle.journey.specs.Enrich.{disrupted, status_of, labels_of, headers_of}
use Rattle.journey.specs.ByIndex.{passes, candidates_of, disrupted_by_index, status_by_index, labels_by_index}
use Rattle.journey.specs.ByIndex.{headers_by_index}
use Rattle.journey.proofs.Laws.Labels.{any_filter, any_map, set_same, nonempty_has}

and_assoc : (x y z : Bool) → x && (y && z) ≡ x && y && z
and_assoc true y z = refl
and_assoc false y z = refl

module _ (B : Feeds) where
  -- DISRUPTED
  pub disrupted_by_index_same : (t : Transit) → disrupted_by_index B t ≡ disrupted B t
  unfolding disrupted applies
  disrupted_by_index_same t =
      any_candidate (alerts_in (B (feed_of t.trip))) t.trip t.route t.from t.to (passes t)

  -- THE STATUS
  pub status_by_index_same : (ts : List Transit) → status_by_index B ts ≡ status_of B ts
  unfolding status_of
  status_by_index_same ts =
      ap (λ d. cond (any (cancels B) ts) 4 (cond (any (late B) ts) 3 (cond d 2 (cond (any (live B) ts) 1 0))))
      (any_same _ _ disrupted_by_index_same ts)

  -- a leg's labels
  one_leg : (x : List ℕ) (t : Transit)
      → any (same x) (map label (filter (passes t) (candidates_of B t)))
      ≡ any (same x) (map label (alerts_of_transit B t))
  unfolding alerts_of_transit applies
  one_leg x t =
      let l = alerts_in (B (feed_of t.trip)) in
      let has : Alert → Bool = λ a. same x (label a) in
      let is : Alert → Bool = candidate t.trip t.route t.from t.to in
      any_map (same x) label (filter (passes t) (candidates_of B t))
      ∙ any_filter has (passes t) (candidates_of B t)
      ∙ any_candidate l t.trip t.route t.from t.to (λ a. passes t a && has a)
      ∙ any_same _ _ (λ a. and_assoc (is a) (passes t a) (has a)) l
      ∙ sym (any_filter has (λ a. is a && passes t a) l)
      ∙ sym (any_map (same x) label (filter (λ a. is a && passes t a) l))

  legs : (x : List ℕ) (ts : List Transit)
      → any (same x) (concat_map (λ t. map label (filter (passes t) (candidates_of B t))) ts)
      ≡ any (same x) (concat_map (λ t. map label (alerts_of_transit B t)) ts)
  legs x ts =
      any_join (same x) (λ t. map label (filter (passes t) (candidates_of B t))) ts
      ∙ any_same _ _ (one_leg x) ts
      ∙ sym (any_join (same x) (λ t. map label (alerts_of_transit B t)) ts)

  -- THE HEADERS: a set, so that the order in which candidates come decides nothing
  pub headers_by_index_same : (ts : List Transit) → headers_by_index B ts ≡ headers_of B ts
  unfolding headers_of labels_of
  headers_by_index_same ts =
      set_same (labels_by_index B ts) (labels_of B ts) (λ x.
      nonempty_has x (concat_map (λ t. map label (filter (passes t) (candidates_of B t))) ts)
      ∙ ap (λ b. not (is_empty x) && b) (legs x ts)
      ∙ sym (nonempty_has x (concat_map (λ t. map label (alerts_of_transit B t)) ts)))
