-- `alerts_lines::long_at` meets its contract.
use Rattle.alerts_lines.specs.Laws.Marking.{long_past}
use Rattle.alerts_lines.proofs.long_at.Goals as goal

pub returns-then-s-j-le2 : goal.returns-then-s-j-le2
returns-then-s-j-le2 c = search (long_past)
