-- Promise. The walks over a message of alerts, and what is counted on them.
use Rattle.std.specs.Prelude.{ℕ, ◌+◌, ◌≤◌, min, ◌≡◌, cond, List, length}
use Rattle.std.proofs.Math.Option.{some}
use Rattle.realtime.specs.Tree.{Tree}
use Rattle.realtime.specs.Schema.{feed, alert_message, alert_entity, alert, entity_selector}
use Rattle.realtime_views.specs.declared.Walk.{Walk}
use Rattle.realtime_views.specs.declared.Item.{Item}
use Rattle.realtime_views.specs.Promises.Walks.{Yields}
use Rattle.alerts_feed.specs.Sheet.{has_alert}
use Rattle.alerts_views.specs.Promises.Views.{entity_at, selectors, few}

-- the entities, 2, of a message; the selectors, 5, of all the alerts, 5, of an entity
abbrev pub NextEntity : List ℕ → Walk → Item → Type 0
NextEntity s w r = Yields feed alert_message 0 alert_message 2 alert_entity s w r

abbrev pub NextSelector : List ℕ → Walk → Item → Type 0
NextSelector s w r = Yields feed alert_entity 5 alert 5 entity_selector s w r

-- THE ANSWER r of how many selectors an entity's alert has; above 32 it is 33
pub record SelectorsCounted (s : List ℕ) (i l : ℕ) (r : ℕ) : Type 0 where
  pub of : (e : Tree) → entity_at s i l ≡ some e → r ≡ min 33 (length (selectors e))

-- n alerts, and with that of an entity: as many where it is not kept, 257 where it has too many ids
abbrev pub with_alert : ℕ → Tree → ℕ
with_alert n e = cond (has_alert e) (cond (few e) (n + 1) 257) n

pub record AlertCounted (s : List ℕ) (i l n : ℕ) (r : ℕ) : Type 0 where
  pub of : (e : Tree) → entity_at s i l ≡ some e → r ≡ with_alert n e
  pub most : r ≤ 257
