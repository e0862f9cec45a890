-- `alerts_lines::width` meets its contract.

use Rattle.alerts_lines.specs.Laws.Kinds.{width_1, width_2, width_3, width_4, width_5, width_6}
use Rattle.alerts_lines.proofs.width.Goals as goal

pub returns-then-k-lt6 : goal.returns-then-k-lt6
returns-then-k-lt6 c = search (width_1)

pub returns-then-k-lt11 : goal.returns-then-k-lt11
returns-then-k-lt11 c = search (width_2)

pub returns-then-k-lt19 : goal.returns-then-k-lt19
returns-then-k-lt19 c = search (width_3)

pub returns-then-k-lt20 : goal.returns-then-k-lt20
returns-then-k-lt20 c = search (width_4)

pub returns-then-k-lt24 : goal.returns-then-k-lt24
returns-then-k-lt24 c = search (width_5)

pub returns-else-k-lt24 : goal.returns-else-k-lt24
returns-else-k-lt24 c = search (width_6)
