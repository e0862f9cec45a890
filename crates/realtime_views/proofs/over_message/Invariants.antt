-- `realtime_views::over_message` meets its contract. The invariant: what is left, over what is known now, makes what
-- the whole makes. Assumes nothing.
use Prim.Native.Nat.{◌-◌}
use lib.ListN.{length}
use Rattle.realtime.specs.Schema.{feed}
use Rattle.realtime_views.specs.Promises.Scalars.{scalars, own}
use Rattle.realtime_views.proofs.Reader.{Reading}
use Rattle.realtime_views.proofs.over_message.Given as goal

abbrev pub invariant-loop-d : goal.invariant-loop-d
invariant-loop-d l =
    Reading scalars own feed l.message l.s l.initial.at l.initial.d l.at l.d

abbrev pub decreases-loop-d : goal.decreases-loop-d
decreases-loop-d l = length l.s - l.at
