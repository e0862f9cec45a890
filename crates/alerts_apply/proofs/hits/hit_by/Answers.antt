-- `alerts_apply::hits::hit_by` meets its contract.
use Rattle.alerts_apply.specs.Laws.Hits.{hit_by}
use Rattle.alerts_apply.proofs.hits.hit_by.Goals as goal

pub returns : goal.returns
returns c = search (hit_by)
