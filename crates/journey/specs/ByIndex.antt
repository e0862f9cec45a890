-- Believe: 01, Times and status. Status and headers as the Rust finds them, in a loop over the numbers that a feed's
-- alert index gives for a leg. `Enrich` defines cards without an index; that both give the same is a theorem.
use Rattle.std.specs.Prelude.{ℕ, Bool, cond, not, List, [], map}
use Rattle.basics.specs.Lists.{any, filter, is_empty, concat_map}
use Rattle.maps.specs.Map.{puts}
use Rattle.maps.specs.Order.{texts}
use Rattle.alerts.specs.Alert.{Alert}
use Rattle.alerts.specs.Index.{candidate_alerts}
use Rattle.alerts.specs.Applies.{alert_applies_to_leg_with_mode}
use Rattle.alerts.specs.Label.{label}
use Rattle.overlay.specs.Records.{Feeds}
use Rattle.overlay.specs.Lookup.{feed_of}
use Rattle.journey.specs.Card.{Transit}
use Rattle.journey.specs.Enrich.{cancels, live, late, alerts_in, keys}

-- what a candidate is asked
abbrev pub passes : Transit → Alert → Bool
passes t a = alert_applies_to_leg_with_mode a t.trip t.route t.short t.from t.to t.mode

-- the alerts at the numbers that the index gives, in that order
abbrev pub candidates_of : Feeds → Transit → List Alert
candidates_of B t = candidate_alerts (alerts_in (B (feed_of t.trip))) t.trip t.route t.from t.to

abbrev pub disrupted_by_index : Feeds → Transit → Bool
disrupted_by_index B t = any (passes t) (candidates_of B t)

abbrev pub status_by_index : Feeds → List Transit → ℕ
status_by_index B ts =
    cond (any (cancels B) ts) 4
    (cond (any (late B) ts) 3 (cond (any (disrupted_by_index B) ts) 2 (cond (any (live B) ts) 1 0)))

abbrev pub labels_by_index : Feeds → List Transit → List (List ℕ)
labels_by_index B ts =
    filter (λ x. not (is_empty x)) (concat_map (λ t. map label (filter (passes t) (candidates_of B t))) ts)

abbrev pub headers_by_index : Feeds → List Transit → List (List ℕ)
headers_by_index B ts = keys (puts texts (map {B = List ℕ × Unit {0}} (λ x. (x, tt)) (labels_by_index B ts)) [])
