-- `alerts_lines::either` meets its contract.
use Rattle.alerts_lines.specs.Laws.Marking.{either_yes, either_no}
use Rattle.alerts_lines.proofs.either.Goals as goal

pub returns-then-b : goal.returns-then-b
returns-then-b c = search (either_yes)

pub returns-else-b : goal.returns-else-b
returns-else-b c = search (either_no)
