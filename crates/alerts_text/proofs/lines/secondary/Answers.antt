-- `alerts_text::lines::secondary` meets its contract.
use Rattle.alerts_text.proofs.Naming.{secondary_near, secondary_not, secondary_all}
use Rattle.alerts_text.proofs.lines.secondary.Goals as goal

pub returns-then-any_near : goal.returns-then-any_near
returns-then-any_near c = search (secondary_near)

pub returns-then-not-any_in : goal.returns-then-not-any_in
returns-then-not-any_in c = search (secondary_not)

pub returns : goal.returns
returns c = search (secondary_all)
