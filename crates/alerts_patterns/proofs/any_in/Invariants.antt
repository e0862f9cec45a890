-- `alerts_patterns::any_in` meets its contract. The invariant: the patterns from `at` on are still to be tried.
use Prim.Native.Nat.{◌-◌}
use lib.ListN.{length}
use Rattle.alerts.specs.Text.{contains}
use Rattle.alerts_patterns.specs.Promises.Tables.{name_filled}
use Rattle.alerts_patterns.specs.Laws.Patterns.{Untried}
use Rattle.alerts_patterns.proofs.any_in.Given as goal

abbrev pub invariant-loop-e : goal.invariant-loop-e
invariant-loop-e l =
    Untried 0x7c (λ p. contains (name_filled l.name p) l.s) l.table l.at l.e

abbrev pub decreases-loop-e : goal.decreases-loop-e
decreases-loop-e l = length l.table - l.e
