-- `alerts_text::blob::write` meets its contract. The invariant: what is written, and what is left, is the text as it
-- is searched.
use Prim.Native.Nat.{◌-◌}
use lib.ListN.{length}
use Rattle.alerts_text.proofs.Folding.{Writing}
use Rattle.alerts_text.proofs.blob.write.Given as goal

abbrev pub invariant-loop-i : goal.invariant-loop-i
invariant-loop-i l = Writing l.initial.out l.out l.at l.s l.fold l.i l.k

abbrev pub decreases-loop-i : goal.decreases-loop-i
decreases-loop-i l = length l.s - l.i
