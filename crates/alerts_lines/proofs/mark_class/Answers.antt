-- `alerts_lines::mark_class` meets its contract.
use Rattle.alerts_lines.specs.Laws.Rows.{added}
use Rattle.alerts_lines.proofs.mark_class.Goals as goal

pub returns : goal.returns
returns c = search (added)
