-- `alerts_text::lines::marked_ok` meets its contract.
use Rattle.alerts_text.proofs.Naming.{ok_right, ok_wrong, ok_open}
use Rattle.alerts_text.proofs.lines.marked_ok.Goals as goal

pub returns-in-Right : goal.returns-in-Right
returns-in-Right c = search (ok_right)

pub returns-in-Wrong : goal.returns-in-Wrong
returns-in-Wrong c = search (ok_wrong)

pub returns-in-Open : goal.returns-in-Open
returns-in-Open c = search (ok_open)
