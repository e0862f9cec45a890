-- `alerts_text::lines::settle` meets its contract.
use Rattle.alerts_text.proofs.Naming.{settle_none, settle_unnamed, settle_alone, settle_open}
use Rattle.alerts_text.proofs.lines.settle.Goals as goal

pub returns-then-not-any_line : goal.returns-then-not-any_line
returns-then-not-any_line c = search (settle_none)

pub returns-then-not-any_line-2 : goal.returns-then-not-any_line-2
returns-then-not-any_line-2 c = search (settle_unnamed)

pub returns-then-not-any_line-3 : goal.returns-then-not-any_line-3
returns-then-not-any_line-3 c = search (settle_alone)

pub returns : goal.returns
returns c = search (settle_open)
