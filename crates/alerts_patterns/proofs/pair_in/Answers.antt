-- `alerts_patterns::pair_in` meets its contract. The invariant: the places from k on are still to be looked at.
use Rattle.alerts_patterns.specs.Laws.Skipping.{pairing_start, pairing_more, pairing_end}
use Rattle.alerts_patterns.proofs.pair_in.Goals as goal

pub loop-k-init : goal.loop-k-init
loop-k-init c = pairing_start _ _ _ _ _

pub loop-k-preserved : goal.loop-k-preserved
loop-k-preserved c = search (pairing_more)

pub returns : goal.returns
returns c = search (pairing_end)
