-- `alerts_skip::past_alerts` meets its contract. The invariant: what is left of the list stands at p.
use Prim.Native.Nat.{◌-◌}
use Rattle.alerts.specs.Alert.{alert}
use Rattle.formats_skip.specs.Laws.Passes.{Passing}
use Rattle.alerts_skip.proofs.past_alerts.Given as goal

abbrev pub invariant-loop : goal.invariant-loop
invariant-loop l = Passing alert l.s l.initial.p l.end l.p (l.end - l.counter)
