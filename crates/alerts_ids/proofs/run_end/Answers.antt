-- `alerts_ids::run_end` meets its contract. The invariant: from a up to e there are letters and digits.
use Rattle.alerts_ids.specs.Laws.Pieces.{lettered_start, lettered_more, run_broken, run_whole}
use Rattle.alerts_ids.proofs.run_end.Goals as goal

pub loop-e-init : goal.loop-e-init
loop-e-init c = search (lettered_start)

pub returns-then-not-is_alphanumeric : goal.returns-then-not-is_alphanumeric
returns-then-not-is_alphanumeric c = search (run_broken)

pub loop-e-preserved : goal.loop-e-preserved
loop-e-preserved c = search (lettered_more)

pub returns : goal.returns
returns c = search (run_whole)
