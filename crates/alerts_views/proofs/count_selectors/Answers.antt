-- `alerts_views::count_selectors`: those so far and those that are left. Assumes nothing.
use native.Mathlib.Omega.{arith}
use Rattle.alerts_views.proofs.Counting.{counting, counts, fewer, selectors_counted, selectors_on}
use Rattle.alerts_views.proofs.Counting.{selectors_many}
use Rattle.alerts_views.proofs.count_selectors.Goals as goal

pub loop-n-init : goal.loop-n-init
loop-n-init c = search counting

pub part-requires : goal.part-requires
part-requires c = omega (arith, c.requires)

pub next_selector-requires : goal.next_selector-requires
next_selector-requires c = search counts

pub returns-in-Done : goal.returns-in-Done
returns-in-Done c = search selectors_counted

pub loop-n-smaller : goal.loop-n-smaller
loop-n-smaller c = search fewer

pub loop-n-preserved : goal.loop-n-preserved
loop-n-preserved c = search selectors_on

pub returns : goal.returns
returns c = search selectors_many
