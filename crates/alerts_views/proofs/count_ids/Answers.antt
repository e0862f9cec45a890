-- `alerts_views::count_ids`: those so far and those that are left. Assumes nothing.
use native.Mathlib.Omega.{arith}
use Rattle.alerts_views.proofs.Counting.{counting, counts, selector_inside, fewer}
use Rattle.alerts_views.proofs.Counting.{ids_counted, ids_more, ids_on, ids_many}
use Rattle.alerts_views.proofs.count_ids.Goals as goal

pub loop-n-init : goal.loop-n-init
loop-n-init c = search counting

pub part-requires : goal.part-requires
part-requires c = omega (arith, c.requires)

pub next_selector-requires : goal.next_selector-requires
next_selector-requires c = search counts

pub returns-in-Done : goal.returns-in-Done
returns-in-Done c = search ids_counted

pub id_of-id-requires : goal.id_of-id-requires
id_of-id-requires c = search selector_inside

pub loop-n-smaller-then-id-gt0 : goal.loop-n-smaller-then-id-gt0
loop-n-smaller-then-id-gt0 c = search fewer

pub loop-n-preserved-then-id-gt0 : goal.loop-n-preserved-then-id-gt0
loop-n-preserved-then-id-gt0 c = search ids_more

pub loop-n-smaller : goal.loop-n-smaller
loop-n-smaller c = search fewer

pub loop-n-preserved : goal.loop-n-preserved
loop-n-preserved c = search ids_on

pub returns : goal.returns
returns c = search ids_many
