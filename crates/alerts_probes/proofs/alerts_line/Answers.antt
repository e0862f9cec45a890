-- `alerts_probes::alerts_line` meets its contract.
use Rattle.alerts_probes.specs.Laws.Line.{line_no_room, line_none, line_some}
use Rattle.alerts_probes.proofs.alerts_line.Goals as goal

pub returns-then-out-lt3 : goal.returns-then-out-lt3
returns-then-out-lt3 c = search line_no_room

pub returns-in_default : goal.returns-in_default
returns-in_default c = search line_none

pub returns : goal.returns
returns c = search line_some
