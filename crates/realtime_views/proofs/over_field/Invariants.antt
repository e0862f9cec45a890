-- `realtime_views::over_field` meets its contract. The invariant: what is left, over what is known now, makes what
-- the whole makes. Assumes nothing.
use Prim.Native.Nat.{◌-◌}
use mathlib.Core.Path.{◌≡◌}
use lib.ListN.{length}
use Rattle.realtime_views.specs.Promises.Scalars.{scalars, own}
use Rattle.realtime_views.proofs.Finding.{Finding}
use Rattle.realtime_views.proofs.over_field.Given as goal

abbrev pub invariant-loop-start : goal.invariant-loop-start
invariant-loop-start l =
    Finding scalars own (λ u. u ≡ l.inner) l.a l.s l.initial.at l.initial.d l.at l.d

abbrev pub decreases-loop-start : goal.decreases-loop-start
decreases-loop-start l = length l.s - l.at
