-- `alerts_lines::any_line` meets its contract. The invariant: the lines from k on are still to be asked.
use Prim.Native.Nat.{◌-◌}
use Rattle.alerts_lines.specs.Promises.Marks.{picks}
use Rattle.alerts_lines.specs.Laws.Choosing.{Unasked}
use Rattle.alerts_lines.proofs.any_line.Given as goal

abbrev pub invariant-loop-k : goal.invariant-loop-k
invariant-loop-k l = Unasked (picks l.pick l.named l.subject l.own) l.k

abbrev pub decreases-loop-k : goal.decreases-loop-k
decreases-loop-k l = 32 - l.k
