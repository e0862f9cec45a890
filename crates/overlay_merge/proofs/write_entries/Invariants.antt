-- `write_entries` meets its contract.
use mathlib.Core.Path.{◌≡◌}
use Prim.Native.Nat.{◌+◌}
use lib.ListN.{length}
use Rattle.overlay_merge.specs.Laws.Loops.{Writing}
use Rattle.overlay_merge.proofs.write_entries.Given as goal

abbrev pub invariant-loop-i : goal.invariant-loop-i
invariant-loop-i l =
    (length l.out ≡ length l.initial.out)
    × Writing l.initial.out l.initial.k l.out l.k l.sheet l.a l.n l.old l.b l.m l.limit l.p l.i l.q l.j

abbrev pub decreases-loop-i : goal.decreases-loop-i
decreases-loop-i l = l.i + l.j
