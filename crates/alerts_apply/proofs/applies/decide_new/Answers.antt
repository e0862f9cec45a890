-- `alerts_apply::applies::decide_new` meets its contract.
use Rattle.alerts_apply.specs.Laws.Hits.{decided_new}
use Rattle.alerts_apply.proofs.applies.decide_new.Goals as goal

pub returns : goal.returns
returns c = search (decided_new)
