-- `count_entries` meets its contract.
use Prim.Native.Nat.{◌+◌}
use Rattle.overlay_merge.specs.Laws.Loops.{Counting}
use Rattle.overlay_merge.proofs.count_entries.Given as goal

abbrev pub invariant-loop-i : goal.invariant-loop-i
invariant-loop-i l = Counting l.sheet l.a l.n l.old l.b l.m l.limit l.p l.i l.q l.j l.kept

abbrev pub decreases-loop-i : goal.decreases-loop-i
decreases-loop-i l = l.i + l.j
