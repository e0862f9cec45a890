-- `alerts_lines::line_of` meets its contract.
use Rattle.alerts_lines.specs.Laws.Rows.{no_name, one_named, no_short, no_long, no_line}
use Rattle.alerts_lines.proofs.line_of.Goals as goal

pub returns-then-name-eq0 : goal.returns-then-name-eq0
returns-then-name-eq0 c = search (no_name)

pub returns-then-short-ge32 : goal.returns-then-short-ge32
returns-then-short-ge32 c = search (no_short)

pub returns-then-line_is : goal.returns-then-line_is
returns-then-line_is c = search (one_named)

pub returns-then-long-ge32 : goal.returns-then-long-ge32
returns-then-long-ge32 c = search (no_long)

pub returns-then-line_is-2 : goal.returns-then-line_is-2
returns-then-line_is-2 c = search (one_named)

pub returns-else-line_is-2 : goal.returns-else-line_is-2
returns-else-line_is-2 c = search (no_line)
