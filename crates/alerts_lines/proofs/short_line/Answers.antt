-- `alerts_lines::short_line` meets its contract.
use Rattle.alerts_lines.specs.Laws.Kinds.{short_1, short_2, short_3, short_4, short_5, short_6, short_7, short_8}
use Rattle.alerts_lines.specs.Laws.Kinds.{short_9, short_10}
use Rattle.alerts_lines.proofs.short_line.Goals as goal

pub returns-then-b-lt49 : goal.returns-then-b-lt49
returns-then-b-lt49 c = search (short_1)

pub returns-then-b-eq49 : goal.returns-then-b-eq49
returns-then-b-eq49 c = search (short_2)

pub returns-then-b-lt58 : goal.returns-then-b-lt58
returns-then-b-lt58 c = search (short_3)

pub returns-then-b-lt65 : goal.returns-then-b-lt65
returns-then-b-lt65 c = search (short_4)

pub returns-then-b-lt70 : goal.returns-then-b-lt70
returns-then-b-lt70 c = search (short_5)

pub returns-then-b-ne84 : goal.returns-then-b-ne84
returns-then-b-ne84 c = search (short_6)

pub returns-then-c-eq49 : goal.returns-then-c-eq49
returns-then-c-eq49 c = search (short_7)

pub returns-then-c-lt50 : goal.returns-then-c-lt50
returns-then-c-lt50 c = search (short_8)

pub returns-then-c-lt58 : goal.returns-then-c-lt58
returns-then-c-lt58 c = search (short_9)

pub returns-else-c-lt58 : goal.returns-else-c-lt58
returns-else-c-lt58 c = search (short_10)
