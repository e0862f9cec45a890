-- `alerts_views::is_left` meets its contract: not deleted, and a first alert. Assumes nothing.
use mathlib.Core.Path.{sym, ap}
use Rattle.alerts_views.proofs.Presence.{is_item, left_deleted, left_read}
use Rattle.alerts_views.proofs.is_left.Goals as goal

pub returns-then-is_deleted : goal.returns-then-is_deleted
returns-then-is_deleted c = left_deleted c.is_deleted.ensures c.if-is_deleted.true

pub returns-in-At : goal.returns-in-At
returns-in-At c =
    left_read c.is_deleted.ensures c.if-is_deleted.false
    c.first_item.ensures (ap is_item (sym c.in-At.is))

pub returns-in-Done : goal.returns-in-Done
returns-in-Done c =
    left_read c.is_deleted.ensures c.if-is_deleted.false
    c.first_item.ensures (ap is_item (sym c.in-Done.is))
