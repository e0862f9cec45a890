-- `alerts_lines::clear` meets its contract. The invariant: the lines up to k are unmarked.
use Rattle.alerts_lines.specs.Laws.Marking.{clearing_start, clearing_more, clearing_end}
use Rattle.alerts_lines.proofs.clear.Goals as goal

pub loop-k-init : goal.loop-k-init
loop-k-init c = search (clearing_start)

pub loop-k-preserved : goal.loop-k-preserved
loop-k-preserved c = search (clearing_more)

pub returns : goal.returns
returns c = search (clearing_end)
