-- `alerts_sheet::list_ids`: the ids so far and those of the selectors that are left. Assumes nothing.
use native.Mathlib.Omega.{arith}
use Rattle.realtime_views.specs.Laws.Turns.{walks, there, less}
use Rattle.alerts_sheet.proofs.Listing.{listing, lists_few, lists_length, listed, lists_past}
use Rattle.alerts_sheet.proofs.Listing.{lists_on}
use Rattle.alerts_sheet.proofs.list_ids.Goals as goal

pub loop-at-init : goal.loop-at-init
loop-at-init c =
    listing c.args.kind c.args.feed.now c.args.message.now c.args.start
    c.args.len c.requires.writable.inside c.merged_items-walk.ensures

pub part-requires : goal.part-requires
part-requires c = omega (arith, c.requires.writable.inside)

pub next_selector-requires : goal.next_selector-requires
next_selector-requires c = walks c.loop-at.invariant.walked c.part.ensures

pub shape_of-out-in-Done : goal.shape_of-out-in-Done
shape_of-out-in-Done c = lists_length c.loop-at.invariant c.requires.writable

pub returns-in-Done : goal.returns-in-Done
returns-in-Done c =
    listed c.loop-at.invariant c.part.ensures c.next_selector.ensures
    c.in-Done.is

pub id_of-id-requires : goal.id_of-id-requires
id_of-id-requires c =
    there c.loop-at.invariant.walked c.part.ensures c.next_selector.ensures
    c.in-At.is

pub write_id-next-requires-clause-short : goal.write_id-next-requires-clause-short
write_id-next-requires-clause-short c = c.requires.short

pub write_id-next-requires-clause-part_inside : goal.write_id-next-requires-clause-part_inside
write_id-next-requires-clause-part_inside c = c.id_of-id.ensures.inside

pub overflow_add-count : goal.overflow_add-count
overflow_add-count c = omega (arith, lists_few c.loop-at.invariant c.requires.writable)

pub loop-at-smaller-then-id-gt0 : goal.loop-at-smaller-then-id-gt0
loop-at-smaller-then-id-gt0 c =
    less c.loop-at.invariant.walked c.part.ensures c.next_selector.ensures
    c.in-At.is

pub loop-at-preserved-then-id-gt0 : goal.loop-at-preserved-then-id-gt0
loop-at-preserved-then-id-gt0 c =
    lists_on c.loop-at.invariant c.part.ensures c.next_selector.ensures
    c.in-At.is c.id_of-id.ensures c.if-id-gt0.true c.write_id-next.ensures

pub loop-at-smaller : goal.loop-at-smaller
loop-at-smaller c =
    less c.loop-at.invariant.walked c.part.ensures c.next_selector.ensures
    c.in-At.is

pub loop-at-preserved : goal.loop-at-preserved
loop-at-preserved c =
    lists_past c.loop-at.invariant c.part.ensures c.next_selector.ensures
    c.in-At.is c.id_of-id.ensures c.if-id-gt0.false
