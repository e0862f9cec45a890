-- Law. Added fields leave what a message leaves.
use Rattle.std.specs.Prelude.{ℕ, ◌≡◌, List}
use Rattle.std.proofs.Common.{ap}
use Rattle.std.proofs.Math.Option.{Option, map}
use Rattle.realtime.specs.Tree.{tree}
use Rattle.realtime.specs.Schema.{feed_message}
use Rattle.realtime.specs.Schema as schema
use Rattle.realtime.specs.Gains.{Gains}
use Rattle.realtime.proofs.Laws.Gains.{gains_same_tree}
use Rattle.decode.specs.Leaves.{Trips, leaves}

-- and by its bytes, where it is not broken
abbrev pub left : List ℕ → List ℕ → Trips → Option Trips
left feed bytes old = map (λ m. leaves feed m old) (tree schema.feed feed_message bytes)

-- ADDED FIELDS leave what a message leaves
pub gains_left : {x y : List ℕ} (feed : List ℕ) (old : Trips) → Gains schema.feed feed_message x y
    → left feed y old ≡ left feed x old
gains_left feed old g = ap (map (λ m. leaves feed m old)) (gains_same_tree g)
