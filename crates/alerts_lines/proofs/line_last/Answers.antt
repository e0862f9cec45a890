-- `alerts_lines::line_last` meets its contract.
use Rattle.alerts_lines.specs.Laws.Rows.{last_short, last_other, last_name}
use Rattle.alerts_lines.proofs.line_last.Goals as goal

pub returns-then-s-w : goal.returns-then-s-w
returns-then-s-w c = search (last_short)

pub returns-then-s-i-ne32 : goal.returns-then-s-i-ne32
returns-then-s-i-ne32 c = search (last_other)

pub returns : goal.returns
returns c = search (last_name)
