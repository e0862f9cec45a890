-- The walks over the entities of a message and over the selectors of an entity. Assumes nothing.
use Prim.Native.Nat.{ℕ, ◌+◌, ◌≤◌}
use mathlib.Core.Path.{◌≡◌, refl, ap, ◌∙◌}
use mathlib.Core.List.{List}
use native.Mathlib.Omega.{arith}
use lib.ListN.{length, take}
use Rattle.realtime.specs.Tree.{Tree}
use Rattle.realtime.specs.Schema.{field_rows, feed, alert_message, alert_entity, alert, entity_selector}
use Rattle.realtime_views.specs.declared.Walk.{Walk}
use Rattle.realtime_views.specs.declared.Item.{Item}
use Rattle.realtime_views.specs.Promises.Starts.{at_merged}
use Rattle.realtime_views.specs.Promises.Walks.{NextItem, left}
use Rattle.realtime_views.specs.Laws.Turns as turns
use Rattle.realtime_views.specs.Laws.Starts.{merged_sound, left_merged}
use Rattle.alerts_views.specs.Promises.Views.{selectors}
use Rattle.alerts_views.specs.Promises.Walks as walks

-- the types of the wrappers' items
pub next_entity : {s : List ℕ} {w : Walk} {r : Item} → NextItem 0 2 s w r → walks.NextEntity s w r
unfolding feed field_rows
next_entity N = record {
  of = N.of alert_message alert_message alert_entity (λ z. absurd (z refl)) (λ z. refl);
  lying = N.lying;
}

pub next_selector : {s : List ℕ} {w : Walk} {r : Item} → NextItem 5 5 s w r → walks.NextSelector s w r
unfolding feed field_rows
next_selector N = record {
  of = N.of alert_entity alert entity_selector (λ z. refl) (λ z. refl);
  lying = N.lying;
}

-- over the selectors of the entity e in `len` bytes at `start`: P e holds of what is left
abbrev pub Walked : List ℕ → ℕ → ℕ → (Tree → List Tree → Type 0) → Walk → Type 0
Walked s start len P w = turns.Walked feed alert_entity 5 alert 5 alert_entity s start len P w

-- all are left
pub starts : (s : List ℕ) (start len : ℕ) {P : Tree → List Tree → Type 0} {w : Walk} → start + len ≤ length s
    → w ≡ at_merged start → ((e : Tree) → P e (selectors e)) → Walked s start len P w
starts s start len i e p =
    turns.starts s start len selectors i
    (merged_sound start (omega (arith, turns.front_length s (start + len) i)) e)
    (ap (left feed alert_entity 5 alert 5 (take (start + len) s)) e
    ∙ left_merged feed alert_entity 5 alert 5 s start len i) p
