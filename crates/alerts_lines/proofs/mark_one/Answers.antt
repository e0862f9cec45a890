-- `alerts_lines::mark_one` meets its contract.
use Rattle.alerts_lines.specs.Laws.Marking.{one_none, one_marked, one_absent, one_more}
use Rattle.alerts_lines.proofs.mark_one.Goals as goal

pub returns-then-k-ge32 : goal.returns-then-k-ge32
returns-then-k-ge32 c = search (one_none)

pub returns-then-marks-k-eq1 : goal.returns-then-marks-k-eq1
returns-then-marks-k-eq1 c = search (one_marked)

pub returns-then-not-stands_at : goal.returns-then-not-stands_at
returns-then-not-stands_at c = search (one_absent)

pub returns : goal.returns
returns c = search (one_more)
