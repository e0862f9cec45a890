-- `alerts_lines::mark_row` meets its contract. The invariant: what stands before i is marked.
use Rattle.alerts_lines.specs.Laws.Marking.{scanned_end, scanned_first, scanned_next}
use Rattle.alerts_lines.proofs.mark_row.Goals as goal

pub loop-i-init : goal.loop-i-init
loop-i-init c = search (scanned_first)

pub loop-i-preserved : goal.loop-i-preserved
loop-i-preserved c = search (scanned_next)

pub returns : goal.returns
returns c = search (scanned_end)
