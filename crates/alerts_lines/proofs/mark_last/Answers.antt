-- `alerts_lines::mark_last` meets its contract. The invariant: the numbers up to k are marked.
use Rattle.alerts_lines.specs.Laws.Marking.{marking_end, numbers_start, numbers_more}
use Rattle.alerts_lines.proofs.mark_last.Goals as goal

pub loop-k-init : goal.loop-k-init
loop-k-init c = search (numbers_start)

pub loop-k-preserved : goal.loop-k-preserved
loop-k-preserved c = search (numbers_more)

pub returns : goal.returns
returns c = search (marking_end)
