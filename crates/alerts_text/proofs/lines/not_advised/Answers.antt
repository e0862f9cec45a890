-- `alerts_text::lines::not_advised` meets its contract.
use Rattle.alerts_text.proofs.Naming.{opened_first, opened_last}
use Rattle.alerts_text.proofs.lines.not_advised.Goals as goal

pub returns-then-not-secondary : goal.returns-then-not-secondary
returns-then-not-secondary c = search (opened_first)

pub returns : goal.returns
returns c = search (opened_last)
