-- `alerts_patterns::pair_from` meets its contract. The invariant: nothing stands before k.
use Rattle.alerts_patterns.specs.Laws.Skipping.{to_start, to_more}
use Rattle.alerts_patterns.proofs.pair_from.Goals as goal

pub loop-k-init : goal.loop-k-init
loop-k-init c = search (to_start)

pub loop-k-preserved : goal.loop-k-preserved
loop-k-preserved c = search (to_more)
