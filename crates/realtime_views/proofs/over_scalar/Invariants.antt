-- `realtime_views::over_scalar` meets its contract: a reading of one field, for each type. Assumes nothing.
use Prim.Native.Nat.{◌-◌}
use lib.ListN.{length}
use Rattle.realtime_views.proofs.Ones.{Ones}
use Rattle.realtime_views.proofs.over_scalar.Given as goal

abbrev pub invariant-loop-at : goal.invariant-loop-at
invariant-loop-at l = Ones l.k l.s l.initial.at l.initial.d l.at l.d

abbrev pub decreases-loop-at : goal.decreases-loop-at
decreases-loop-at l = length l.s - l.at
