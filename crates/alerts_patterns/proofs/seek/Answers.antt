-- `alerts_patterns::seek` meets its contract.
use Rattle.alerts_patterns.specs.Laws.Skipping.{near_then}
use Rattle.alerts_patterns.proofs.seek.Goals as goal

pub returns : goal.returns
returns c = search (near_then)
