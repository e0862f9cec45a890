-- `alerts_text::word::gather` meets its contract.
use Rattle.alerts_text.specs.Laws.Word.{Gathering}
use Rattle.alerts_text.proofs.word.gather.Given as goal

abbrev pub invariant-loop-k : goal.invariant-loop-k
invariant-loop-k l = Gathering l.marks l.word l.k

abbrev pub decreases-loop-k : goal.decreases-loop-k
decreases-loop-k l = l.k
