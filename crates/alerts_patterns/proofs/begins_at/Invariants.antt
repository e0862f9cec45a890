-- `alerts_patterns::begins_at` meets its contract. The invariant: p stands at i where the rest of p stands at k.
use Prim.Native.Nat.{◌-◌}
use lib.ListN.{length}
use Rattle.alerts_patterns.specs.Laws.Searching.{Stands}
use Rattle.alerts_patterns.proofs.begins_at.Given as goal

abbrev pub invariant-loop-j : goal.invariant-loop-j
invariant-loop-j l = Stands l.p l.s l.i l.j l.k

abbrev pub decreases-loop-j : goal.decreases-loop-j
decreases-loop-j l = length l.p - l.j
