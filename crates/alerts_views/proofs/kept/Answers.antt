-- `alerts_views::kept`: the alerts so far and the entities that are left. The measure: the bytes behind the walk.
-- Assumes nothing.
use Rattle.alerts_views.proofs.Keeping.{keeping, kept_many, kept_all, entity_inside, fewer, keeps_on}
use Rattle.alerts_views.proofs.kept.Goals as goal

pub loop-n-init : goal.loop-n-init
loop-n-init c = search keeping

pub returns-in-Done : goal.returns-in-Done
returns-in-Done c = search kept_all

pub with_alert-n-requires : goal.with_alert-n-requires
with_alert-n-requires c = search entity_inside

pub loop-n-smaller : goal.loop-n-smaller
loop-n-smaller c = search fewer

pub loop-n-preserved : goal.loop-n-preserved
loop-n-preserved c = search keeps_on

pub returns : goal.returns
returns c = search kept_many
