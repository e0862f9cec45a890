-- `alerts_lines::any_line` meets its contract. The invariant: the lines from k on are still to be asked.
use Rattle.alerts_lines.specs.Laws.Choosing.{unasked_start, unasked_end, asked_yes, asked_no}
use Rattle.alerts_lines.proofs.any_line.Goals as goal

pub loop-k-init : goal.loop-k-init
loop-k-init c = unasked_start _

pub returns-then-picked : goal.returns-then-picked
returns-then-picked c = search (asked_yes)

pub loop-k-preserved : goal.loop-k-preserved
loop-k-preserved c = search (asked_no)

pub returns : goal.returns
returns c = search (unasked_end)
