-- `alerts_lines::add` meets its contract. The invariant: the lines up to k are added.
use Rattle.alerts_lines.specs.Laws.Marking.{marking_start, marking_end, marking_added}
use Rattle.alerts_lines.proofs.add.Goals as goal

pub loop-k-init : goal.loop-k-init
loop-k-init c = search (marking_start)

pub loop-k-preserved : goal.loop-k-preserved
loop-k-preserved c = search (marking_added)

pub returns : goal.returns
returns c = search (marking_end)
