-- `alerts_patterns::begins_at` meets its contract. The invariant: p stands at i where the rest of p stands at k.
use Rattle.alerts_patterns.specs.Laws.Searching.{stands_start, stands_short, stands_differs, stands_more}
use Rattle.alerts_patterns.specs.Laws.Searching.{stands_whole}
use Rattle.alerts_patterns.proofs.begins_at.Goals as goal

pub loop-j-init : goal.loop-j-init
loop-j-init c = stands_start _ _ _

pub returns-then-s-k : goal.returns-then-s-k
returns-then-s-k c = search (stands_short)

pub returns-then-s-k-2 : goal.returns-then-s-k-2
returns-then-s-k-2 c = search (stands_differs)

pub loop-j-preserved : goal.loop-j-preserved
loop-j-preserved c = search (stands_more)

pub returns : goal.returns
returns c = search (stands_whole)
