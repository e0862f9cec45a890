-- `alerts_patterns::next` meets its contract. The invariant: the first b from i on is the first from k on.
use Rattle.alerts_patterns.specs.Laws.Patterns.{first_here, first_more, first_end}
use Rattle.alerts_patterns.proofs.next.Goals as goal

pub returns-then-s-k : goal.returns-then-s-k
returns-then-s-k c = search (first_here)

pub loop-k-preserved : goal.loop-k-preserved
loop-k-preserved c = search (first_more)

pub returns : goal.returns
returns c = search (first_end)
