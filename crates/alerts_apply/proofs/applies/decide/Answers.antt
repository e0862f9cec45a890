-- `alerts_apply::applies::decide` meets its contract.
use Rattle.alerts_apply.specs.Laws.Hits.{decided_none, decided_road, decided_told}
use Rattle.alerts_apply.proofs.applies.decide.Goals as goal

pub returns-then-not-is_hit : goal.returns-then-not-is_hit
returns-then-not-is_hit c = search (decided_none)

pub returns-then-not-is_clear : goal.returns-then-not-is_clear
returns-then-not-is_clear c = search (decided_road)

pub returns : goal.returns
returns c = search (decided_told)
