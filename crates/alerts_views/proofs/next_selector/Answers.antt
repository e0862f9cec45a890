-- `alerts_views::next_selector` meets its contract: a walk over the listed fields that it names. Assumes nothing.
use Rattle.alerts_views.proofs.Walking as walking
use Rattle.alerts_views.proofs.next_selector.Goals as goal

pub returns : goal.returns
returns c = walking.next_selector c.next_item.ensures
