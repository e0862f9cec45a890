-- `realtime_views::next_update` meets its contract: a walk over the listed fields that it names. Assumes nothing.
use Rattle.realtime_views.proofs.Walking as walking
use Rattle.realtime_views.proofs.next_update.Goals as goal

pub returns : goal.returns
returns c = walking.next_update c.next_item.ensures
