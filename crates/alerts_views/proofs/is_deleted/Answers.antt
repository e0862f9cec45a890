-- `alerts_views::is_deleted` meets its contract, by the kind of the scalar. Assumes nothing.
use mathlib.Core.Path.{sym, ap}
use Rattle.alerts_views.proofs.Presence.{marked, deleted_read}
use Rattle.alerts_views.proofs.is_deleted.Goals as goal

pub returns-in-Number : goal.returns-in-Number
returns-in-Number c = deleted_read c.scalar_at.ensures (ap marked (sym c.in-Number.is))

pub returns-in-Text : goal.returns-in-Text
returns-in-Text c = deleted_read c.scalar_at.ensures (ap marked (sym c.in-Text.is))

pub returns-in-Nothing : goal.returns-in-Nothing
returns-in-Nothing c = deleted_read c.scalar_at.ensures (ap marked (sym c.in-Nothing.is))
