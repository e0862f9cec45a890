-- `alerts_patterns::pair_far` meets its contract. The invariant: nothing stands before k.
use Rattle.alerts_patterns.specs.Laws.Skipping.{to_start, far_then, far_more, far_alike}
use borrow.Author.Rules.{rules}
use Rattle.alerts_patterns.proofs.pair_far.Goals as goal

pub loop-k-init : goal.loop-k-init
loop-k-init c = search (to_start)

pub pair_in-requires : goal.pair_in-requires
pair_in-requires c = search (rules, far_alike)

pub returns-then-pair_in : goal.returns-then-pair_in
returns-then-pair_in c = search (far_then)

pub loop-k-preserved : goal.loop-k-preserved
loop-k-preserved c = search (far_more)

pub returns : goal.returns
returns c = search (far_then)
