-- `alerts_search::ids::any_id` meets its contract. The invariant: `hit` says whether an id that was read said yes.
use Prim.Native.Nat.{◌-◌}
use Rattle.alerts_search.specs.Laws.Ids.{Asking}
use Rattle.alerts_search.proofs.ids.any_id.Given as goal

abbrev pub invariant-loop : goal.invariant-loop
invariant-loop l = Asking l.ask l.x l.y l.s l.initial.p l.end l.p (l.end - l.counter) l.hit
