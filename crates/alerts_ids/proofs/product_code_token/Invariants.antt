-- `alerts_ids::product_code_token` meets its contract. The invariant: the first code is the first from a on.
use Prim.Native.Nat.{◌-◌}
use lib.ListN.{length}
use Rattle.alerts_ids.specs.Laws.Pieces.{Uncoded}
use Rattle.alerts_ids.proofs.product_code_token.Given as goal

abbrev pub invariant-loop-a : goal.invariant-loop-a
invariant-loop-a l = Uncoded l.x l.a

abbrev pub decreases-loop-a : goal.decreases-loop-a
decreases-loop-a l = length l.x - l.a
