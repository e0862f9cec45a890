-- `each_leg` meets its contract.
use Rattle.formats.specs.Format.{write}
use Rattle.journey.specs.Card.{leg}
use Rattle.journey.specs.Enrich.{enrich_leg}
use Rattle.journey_finish.specs.Promises.Finish.{StateIn}
use Rattle.journey_stops.specs.Laws.Advance.{Advance}
use Rattle.overlay.specs.Records.{shown}
use Rattle.overlay.specs.State.{State}
use Rattle.overlay.proofs.Laws.Within.{Judged56}
use lib.ListN.{length}
use mathlib.Core.Path.{◌≡◌}
use Rattle.journey_finish.proofs.each_leg.Given as goal

abbrev pub invariant-loop-left : goal.invariant-loop-left
invariant-loop-left l =
    (length l.out ≡ length l.initial.out) × ((st : State) → StateIn l.old st
    → Advance leg (Judged56 leg) (λ v. write leg (enrich_leg (shown st) v)) l.card l.at l.n l.p l.left
    l.initial.out l.initial.k l.out l.k)

abbrev pub decreases-loop-left : goal.decreases-loop-left
decreases-loop-left l = l.left
