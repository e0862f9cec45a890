-- `alerts_apply::texts::road_known` meets its contract.
use Rattle.alerts_apply.specs.Laws.Words.{road_not, road_is, road_found}
use Rattle.alerts_apply.proofs.texts.road_known.Goals as goal

pub returns-then-words-eq1 : goal.returns-then-words-eq1
returns-then-words-eq1 c = search (road_not)

pub returns-then-words-eq2 : goal.returns-then-words-eq2
returns-then-words-eq2 c = search (road_is)

pub returns : goal.returns
returns c = search (road_found)
