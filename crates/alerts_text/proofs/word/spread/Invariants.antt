-- `alerts_text::word::spread` meets its contract.
use Prim.Native.Nat.{◌-◌}
use Rattle.alerts_text.specs.Laws.Word.{Spreading}
use Rattle.alerts_text.proofs.word.spread.Given as goal

abbrev pub invariant-loop-k : goal.invariant-loop-k
invariant-loop-k l = Spreading l.word l.marks l.left l.k

abbrev pub decreases-loop-k : goal.decreases-loop-k
decreases-loop-k l = 32 - l.k
