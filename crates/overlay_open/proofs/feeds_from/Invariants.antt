-- `overlay_open::feeds_from` meets its contract.
use mathlib.Core.Path.{◌≡◌}
use Prim.Native.Nat.{◌≤◌, ◌-◌}
use lib.ListN.{length}
use Rattle.formats.specs.Class.{token}
use Rattle.formats_check.specs.Laws.Climbing.{known, Climbing, weightless, whatever}
use Rattle.overlay_open.specs.Promises.State.{entry_good}
use Rattle.overlay_open.specs.Laws.Feeds.{Feeding}
use Rattle.overlay_open.proofs.feeds_from.Given as goal

abbrev pub invariant-loop-r : goal.invariant-loop-r
invariant-loop-r l =
    (l.p ≤ length l.old) × (l.b ≤ l.d) × (l.d ≤ length l.old)
    × (length l.noted ≡ length l.initial.noted)
    × Climbing 16 token entry_good weightless (whatever l.n) l.n l.old l.at (known l.first l.old l.b l.d) 0
    (l.n - l.r) l.p
    × Feeding l.old l.at l.n l.p (l.n - l.r) l.r l.noted
