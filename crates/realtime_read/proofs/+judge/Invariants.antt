-- It calls itself on the bytes of a message inside: the measure is the bytes. The judgement so far, and then that of
-- what is left, is the whole's.
use Prim.Native.Nat.{◌-◌}
use lib.ListN.{length}
use Rattle.realtime.specs.Judge.{rules_by}
use Rattle.realtime.specs.Schema.{feed}
use Rattle.realtime_read.proofs.Judging.{Judged}
use Rattle.realtime_read.proofs.+judge.Given as goal

abbrev pub decreases-judge : goal.decreases-judge
decreases-judge l = length l.s.now

abbrev pub invariant-loop-at : goal.invariant-loop-at
invariant-loop-at l = Judged (rules_by l.ids) feed l.message l.s l.at l.worst

abbrev pub decreases-loop-at : goal.decreases-loop-at
decreases-loop-at l = length l.s - l.at
