-- `alerts_text::lines::ahead` meets its contract.
use Rattle.alerts_text.proofs.Naming.{ahead_end, ahead_on}
use Rattle.alerts_text.proofs.lines.ahead.Goals as goal

pub returns-then-end-i-lt24 : goal.returns-then-end-i-lt24
returns-then-end-i-lt24 c = search (ahead_end)

pub returns-else-end-i-lt24 : goal.returns-else-end-i-lt24
returns-else-end-i-lt24 c = search (ahead_on)
