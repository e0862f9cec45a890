-- `alerts_lines::long_line` meets its contract.
use Rattle.alerts_lines.specs.Laws.Kinds.{long_1, long_2, long_3, long_4, long_5, long_6}
use Rattle.alerts_lines.proofs.long_line.Goals as goal

pub returns-then-b-eq49 : goal.returns-then-b-eq49
returns-then-b-eq49 c = search (long_1)

pub returns-then-b-ne84 : goal.returns-then-b-ne84
returns-then-b-ne84 c = search (long_2)

pub returns-then-c-ne49 : goal.returns-then-c-ne49
returns-then-c-ne49 c = search (long_3)

pub returns-then-d-lt48 : goal.returns-then-d-lt48
returns-then-d-lt48 c = search (long_4)

pub returns-then-d-lt52 : goal.returns-then-d-lt52
returns-then-d-lt52 c = search (long_5)

pub returns-else-d-lt52 : goal.returns-else-d-lt52
returns-else-d-lt52 c = search (long_6)
