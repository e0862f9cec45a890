-- `alerts_text::lines::road_traffic` meets its contract.
use Rattle.alerts_text.proofs.Naming.{road_named, road_no_stop, road_unmoved, road_last}
use Rattle.alerts_text.proofs.lines.road_traffic.Goals as goal

pub returns-then-any_in : goal.returns-then-any_in
returns-then-any_in c = search (road_named)

pub returns-then-not-any_in : goal.returns-then-not-any_in
returns-then-not-any_in c = search (road_no_stop)

pub returns-then-not-any_in-2 : goal.returns-then-not-any_in-2
returns-then-not-any_in-2 c = search (road_unmoved)

pub returns : goal.returns
returns c = search (road_last)
