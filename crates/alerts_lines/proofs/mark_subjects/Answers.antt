-- `alerts_lines::mark_subjects` meets its contract.
use Rattle.alerts_lines.specs.Laws.Rows.{subjects_marked}
use Rattle.alerts_lines.proofs.mark_subjects.Goals as goal

pub returns : goal.returns
returns c = search (subjects_marked)
