-- `alerts_patterns::find_around` meets its contract. The invariant: the first place is the first from i on.
use Prim.Native.Nat.{◌-◌}
use mathlib.Core.List.{◌++◌}
use lib.ListN.{length}
use Rattle.alerts_patterns.specs.Laws.Searching.{Unfound}
use Rattle.alerts_patterns.proofs.find_around.Given as goal

abbrev pub invariant-loop-i : goal.invariant-loop-i
invariant-loop-i l = Unfound (l.before ++ l.name ++ l.after) l.s l.i

abbrev pub decreases-loop-i : goal.decreases-loop-i
decreases-loop-i l = length l.s - l.i
