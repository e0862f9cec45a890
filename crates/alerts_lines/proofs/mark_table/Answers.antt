-- `alerts_lines::mark_table` meets its contract. The invariant: the families up to `at` are marked.
use Rattle.alerts_lines.specs.Laws.Marking.{tabled_start, tabled_more, tabled_end}
use Rattle.alerts_lines.proofs.mark_table.Goals as goal

pub loop-e-init : goal.loop-e-init
loop-e-init c = search (tabled_start)

pub loop-e-preserved : goal.loop-e-preserved
loop-e-preserved c = search (tabled_more)

pub returns : goal.returns
returns c = search (tabled_end)
