-- `each_middle` meets its contract.
use Rattle.formats.specs.Format.{write}
use Rattle.journey.specs.Card.{middle}
use Rattle.journey_stops.specs.Laws.Advance.{Advance}
use Rattle.journey_stops.specs.Promises.Stops.{Holds, stop_by}
use Rattle.overlay.specs.Lookup.{FeedTrip}
use Rattle.overlay.proofs.Laws.Within.{Judged56}
use lib.ListN.{length}
use mathlib.Core.Option.{Option}
use mathlib.Core.Path.{◌≡◌}
use Rattle.journey_stops.proofs.each_middle.Given as goal

abbrev pub invariant-loop-left : goal.invariant-loop-left
invariant-loop-left l =
    (length l.out ≡ length l.initial.out) × ((o : Option FeedTrip) → Holds l.old l.row l.feed o
    → Advance middle (Judged56 middle) (λ v. write middle (stop_by o v)) l.card l.at l.n l.p l.left
    l.initial.out l.initial.k l.out l.k)

abbrev pub decreases-loop-left : goal.decreases-loop-left
decreases-loop-left l = l.left
