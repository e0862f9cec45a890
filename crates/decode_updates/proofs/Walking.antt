-- A loop over the updates of an entity: the walk that it takes. Assumes nothing.
use Prim.Native.Nat.{ℕ, ◌+◌, ◌≤◌}
use mathlib.Core.Path.{◌≡◌}
use mathlib.Core.List.{List}
use native.Mathlib.Omega.{arith}
use lib.ListN.{length}
use Rattle.realtime.specs.Tree.{Tree, sub, rep}
use Rattle.realtime.specs.Schema.{feed, feed_entity, trip_update}
use Rattle.realtime_views.specs.Laws.Turns as turns
use Rattle.realtime_views.specs.Laws.Starts.{merged_sound, updates_left}
use Rattle.realtime_views.specs.Promises.Starts.{at_merged}
use Rattle.realtime_views.specs.declared.Walk.{Walk}

-- over the entity e in `len` bytes at `start`: P e holds of what is left
abbrev pub Walked : List ℕ → ℕ → ℕ → (Tree → List Tree → Type 0) → Walk → Type 0
Walked s start len P w = turns.Walked feed feed_entity 3 trip_update 2 feed_entity s start len P w

-- all are left
pub starts : (s : List ℕ) (start len : ℕ) {P : Tree → List Tree → Type 0} {w : Walk} → start + len ≤ length s
    → w ≡ at_merged start → ((e : Tree) → P e (rep 2 (sub 3 e)))
    → Walked s start len P w
starts s start len i e p =
    turns.starts s start len (λ t. rep 2 (sub 3 t)) i
    (merged_sound start (omega (arith, turns.front_length s (start + len) i)) e) (updates_left s start len i e) p
