-- `realtime_views::next_item` meets its contract. The invariant: what was left at the start is left here. The measure:
-- the bytes behind both places, outside and inside. Assumes nothing.
use Prim.Native.Nat.{◌+◌, ◌-◌}
use lib.ListN.{length}
use Rattle.realtime_views.proofs.Walking.{Leads}
use Rattle.realtime_views.proofs.next_item.Given as goal

abbrev pub invariant-loop-start : goal.invariant-loop-start
invariant-loop-start l =
    Leads l.a l.k l.s (record { outer = l.initial.outer; end = l.initial.end; at = l.initial.at }) l.outer l.end l.at

abbrev pub decreases-loop-start : goal.decreases-loop-start
decreases-loop-start l = length l.s - l.outer + (length l.s - l.at)
