-- Law. A step of a walk yields the next message at the field.
use Rattle.std.specs.Prelude.{ℕ, ◌≡◌, List}
use Rattle.std.proofs.Common.{subst}
use Rattle.std.proofs.Math.Option.{Option, some}
use Rattle.realtime.specs.Tree.{Schema, Tree}
use Rattle.realtime.specs.Schema.{feed, feed_message, feed_entity, trip_update}
use Rattle.realtime_views.specs.declared.Walk.{Walk}
use Rattle.realtime_views.specs.declared.Item.{Item}
use Rattle.realtime_views.specs.Promises.Walks.{left, Yield, FoundItem, Lying, Yields}

-- what is known of an item, and that none is left, by what the answer was taken apart to
module _ {σ : Schema} {t a u k v : ℕ} {s : List ℕ} {w : Walk} {r : Item} (Y : Yields σ t a u k v s w r) where
  pub found : {i n : ℕ} {w' : Walk} → r ≡ Item.At i n w' → FoundItem s w i n w'
  found e = subst (Lying s w) e Y.lying

  pub yielded : {q : Item} → r ≡ q → (l : List Tree) → left σ t a u k s w ≡ some l → Yield σ t a u k v s l q
  yielded e l h = subst (Yield σ t a u k v s l) e (Y.of l h)

-- of a message: its entities, 2. Of an entity, whose last byte is the last of s: the stop_time_updates, 2, of all
-- its trip_updates, 3
abbrev pub left_entities : List ℕ → Walk → Option (List Tree)
left_entities s w = left feed feed_message 0 feed_message 2 s w

abbrev pub left_updates : List ℕ → Walk → Option (List Tree)
left_updates s w = left feed feed_entity 3 trip_update 2 s w
