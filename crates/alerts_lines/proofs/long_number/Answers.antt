-- `alerts_lines::long_number` meets its contract.
use Rattle.alerts_lines.specs.Laws.Kinds.{ten_1, ten_2, ten_3}
use Rattle.alerts_lines.proofs.long_number.Goals as goal

pub returns-then-c-lt48 : goal.returns-then-c-lt48
returns-then-c-lt48 c = search (ten_1)

pub returns-then-c-lt53 : goal.returns-then-c-lt53
returns-then-c-lt53 c = search (ten_2)

pub returns-else-c-lt53 : goal.returns-else-c-lt53
returns-else-c-lt53 c = search (ten_3)
