-- `alerts_sheet::write_alerts`: the alerts so far and those of the entities that are left. Assumes nothing.
use Rattle.alerts_sheet.proofs.Keeping.{keeping, keeps_sound, keeps_length, kept_all, keeps_there}
use Rattle.alerts_sheet.proofs.Keeping.{keeps_less, keeps_writable, keeps_on, keeps_past}
use Rattle.alerts_sheet.proofs.write_alerts.Goals as goal

pub loop-next-init : goal.loop-next-init
loop-next-init c = keeping c.args.feed.now c.args.message.now c.entities-walk.ensures

pub next_entity-requires : goal.next_entity-requires
next_entity-requires c = keeps_sound c.loop-next.invariant

pub shape_of-out-in-Done : goal.shape_of-out-in-Done
shape_of-out-in-Done c = keeps_length c.loop-next.invariant c.requires.fair

pub returns-in-Done : goal.returns-in-Done
returns-in-Done c = kept_all c.loop-next.invariant c.next_entity.ensures c.in-Done.is

pub is_left-requires : goal.is_left-requires
is_left-requires c = keeps_there c.loop-next.invariant c.next_entity.ensures c.in-At.is

pub write_alert-next-requires-clause-short : goal.write_alert-next-requires-clause-short
write_alert-next-requires-clause-short c = c.requires.short

pub write_alert-next-requires-clause-writable : goal.write_alert-next-requires-clause-writable
write_alert-next-requires-clause-writable c =
    keeps_writable c.loop-next.invariant c.next_entity.ensures c.in-At.is
    c.is_left.ensures c.requires.fair c.if-is_left.true

pub loop-next-smaller-then-is_left : goal.loop-next-smaller-then-is_left
loop-next-smaller-then-is_left c = keeps_less c.loop-next.invariant c.next_entity.ensures c.in-At.is

pub loop-next-preserved-then-is_left : goal.loop-next-preserved-then-is_left
loop-next-preserved-then-is_left c =
    keeps_on c.loop-next.invariant c.next_entity.ensures c.in-At.is
    c.is_left.ensures c.if-is_left.true c.write_alert-next.ensures

pub loop-next-smaller : goal.loop-next-smaller
loop-next-smaller c = keeps_less c.loop-next.invariant c.next_entity.ensures c.in-At.is

pub loop-next-preserved : goal.loop-next-preserved
loop-next-preserved c =
    keeps_past c.loop-next.invariant c.next_entity.ensures c.in-At.is
    c.is_left.ensures c.if-is_left.false
