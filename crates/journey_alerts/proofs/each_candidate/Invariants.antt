-- `each_candidate`: the candidates behind k are met.
use Rattle.journey_alerts.specs.Promises.Alerts.{EachMet}
use Rattle.journey_alerts.specs.Laws.Alerts.{each_start, each_step, each_stop}
use Prim.Native.Nat.{◌-◌}
use mathlib.Core.Path.{◌≡◌, refl}
use lib.ListN.{length}
use borrow.Author.Rules.{rules}
use Rattle.journey_alerts.proofs.each_candidate.Given as goal

abbrev pub invariant-loop-k : goal.invariant-loop-k
invariant-loop-k l =
    (length l.text ≡ length l.initial.text) × (length l.known ≡ length l.initial.known)
    × (length l.froms ≡ length l.initial.froms)
    × (length l.tos ≡ length l.initial.tos)
    × EachMet l.card l.t l.old l.candidates l.n l.places l.k (length l.initial.text) l.initial.froms l.initial.tos
    l.initial.r l.froms l.tos l.r l.known

abbrev pub decreases-loop-k : goal.decreases-loop-k
decreases-loop-k l = l.n - l.k
