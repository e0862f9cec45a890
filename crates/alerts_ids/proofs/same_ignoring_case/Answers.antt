-- `alerts_ids::same_ignoring_case` meets its contract.
use Rattle.alerts_ids.specs.Laws.Ends.{other_length, alike_start, alike_more, alike_differs}
use Rattle.alerts_ids.specs.Laws.Ends.{alike_whole}
use Rattle.alerts_ids.proofs.same_ignoring_case.Goals as goal

pub returns-then-a-b : goal.returns-then-a-b
returns-then-a-b c = search (other_length)

pub loop-i-init : goal.loop-i-init
loop-i-init c = search (alike_start)

pub returns-then-capital : goal.returns-then-capital
returns-then-capital c = search (alike_differs)

pub loop-i-preserved : goal.loop-i-preserved
loop-i-preserved c =
    alike_more _ _ _ _ _ c.loop-i.invariant c.loop-i-test.true c.capital.ensures
    c.capital-in-loop-i.ensures c.if-capital.false

pub returns : goal.returns
returns c = search (alike_whole)
