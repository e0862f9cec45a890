-- `alerts_views::next_entity` meets its contract: a walk over the listed fields that it names. Assumes nothing.
use Rattle.alerts_views.proofs.Walking as walking
use Rattle.alerts_views.proofs.next_entity.Goals as goal

pub returns : goal.returns
returns c = walking.next_entity c.next_item.ensures
