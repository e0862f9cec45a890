-- `alerts_label::characters_end` meets its contract. The invariant: the characters are the bytes passed and those
-- that are left.
use Prim.Native.Nat.{◌-◌}
use lib.ListN.{length}
use Rattle.alerts_label.proofs.Characters.{Passed}
use Rattle.alerts_label.proofs.characters_end.Given as goal

abbrev pub invariant-loop-i : goal.invariant-loop-i
invariant-loop-i l = Passed l.s l.n l.left l.i

abbrev pub decreases-loop-i : goal.decreases-loop-i
decreases-loop-i l = length l.s - l.i
