-- `alerts_apply::hits::unless_empty` meets its contract.
use Rattle.alerts_apply.specs.Laws.Hits.{empty_hit, plain_hit}
use Rattle.alerts_apply.proofs.hits.unless_empty.Goals as goal

pub returns-then-n-eq0 : goal.returns-then-n-eq0
returns-then-n-eq0 c = search (empty_hit)

pub returns : goal.returns
returns c = search (plain_hit)
