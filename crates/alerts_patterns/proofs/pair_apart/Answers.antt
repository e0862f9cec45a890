-- `alerts_patterns::pair_apart` meets its contract.
use Rattle.alerts_patterns.specs.Laws.Skipping.{pair_is}
use Rattle.alerts_patterns.proofs.pair_apart.Goals as goal

pub returns : goal.returns
returns c = search (pair_is)
