-- `realtime_views::over_scalar_in` meets its contract. The invariant: what is left, over what is known now, makes what
-- the whole makes. Assumes nothing.
use Prim.Native.Nat.{◌-◌}
use mathlib.Core.Path.{◌≡◌}
use mathlib.Core.Bool.{true}
use lib.ListN.{length}
use Rattle.realtime.specs.Schema.{feed}
use Rattle.realtime_views.specs.Promises.Last.{taking}
use Rattle.realtime_views.specs.Promises.Scalars.{scalar, scalar_at, is_scalar}
use Rattle.realtime_views.proofs.Finding.{Finding}
use Rattle.realtime_views.proofs.over_scalar_in.Given as goal

abbrev pub invariant-loop-start : goal.invariant-loop-start
invariant-loop-start l =
    Finding scalar (taking (scalar_at l.k)) (λ u. is_scalar (feed u l.k) ≡ true) l.a l.s l.initial.at l.initial.d l.at
    l.d

abbrev pub decreases-loop-start : goal.decreases-loop-start
decreases-loop-start l = length l.s - l.at
