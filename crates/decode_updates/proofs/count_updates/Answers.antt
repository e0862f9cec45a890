-- `decode_updates::count_updates`: those so far and those that are left. Assumes nothing.
use native.Mathlib.Omega.{arith}
use Rattle.realtime_views.specs.Laws.Turns.{walks}
use Rattle.decode_updates.proofs.Counting.{counting, counted, counts_on, counts_many}
use Rattle.decode_updates.proofs.count_updates.Goals as goal

pub loop-n-init : goal.loop-n-init
loop-n-init c = counting c.args.message.now c.args.start c.args.len c.requires c.merged_items-walk.ensures

pub part-requires : goal.part-requires
part-requires c = omega (arith, c.requires)

pub next_update-requires : goal.next_update-requires
next_update-requires c = walks c.loop-n.invariant.walked c.part.ensures

pub returns-in_default : goal.returns-in_default
returns-in_default c =
    counted c.loop-n.invariant c.part.ensures c.next_update.ensures
    c.in_default.is (omega (arith, c.loop-n-test.true))

pub loop-n-preserved : goal.loop-n-preserved
loop-n-preserved c =
    counts_on c.loop-n.invariant c.part.ensures c.next_update.ensures
    c.in-At.is (omega (arith, c.loop-n-test.true))

pub returns : goal.returns
returns c = counts_many c.loop-n.invariant (omega (arith, c.loop-n-test.false))
