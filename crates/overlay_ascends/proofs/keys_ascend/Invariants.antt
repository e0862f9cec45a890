-- `keys_ascend` meets its contract.
use Prim.Native.Nat.{◌-◌}
use Rattle.overlay_ascends.specs.Laws.Ascends.{Climb}
use Rattle.overlay_ascends.proofs.keys_ascend.Given as goal

abbrev pub invariant-loop : goal.invariant-loop
invariant-loop l =
    Climb l.sheet l.first l.end l.before.from l.before.to l.p (l.end - l.counter)
